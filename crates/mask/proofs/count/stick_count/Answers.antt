-- `stick_count` meets its contract.
use mathlib.Core.Path.{◌≡◌, ap₂, sym, ◌∙◌}
use Prim.Native.Nat.{◌+◌}
use native.Mathlib.Omega.{arith}
use Rattle.arith.proofs.Ranges.{count-le}
use Rattle.grid.specs.Plain.{plain}
use Rattle.grid.specs.Edges.{edge_count, stick_at}
use Rattle.grid.proofs.Numbers.{edges-small}
use Rattle.mask.specs.Counts.{stick_count}
use Rattle.mask.proofs.Ones.{sticks-kinds}
use Rattle.mask.proofs.count.stick_count.Goals as goal
use Rattle.mask.proofs.count.stick_count.Goals.{After-sticks_of_kind-2}

total : (c : After-sticks_of_kind-2)
    → let a = c.args in
    c.sticks_of_kind.result + c.sticks_of_kind-2.result ≡ stick_count (plain a.layer)
total c =
    ap₂ ◌+◌ c.sticks_of_kind.ensures c.sticks_of_kind-2.ensures ∙ sym (sticks-kinds c.args.layer.sound)

pub overflow_add-result : goal.overflow_add-result
overflow_add-result c =
    let a = c.args in
    let most = count-le (stick_at (plain a.layer)) (edge_count a.layer.size) in
    omega (arith, total c, most, edges-small a.layer.size c.args.layer.sound.whole.sized)

pub returns : goal.returns
returns c = total c
