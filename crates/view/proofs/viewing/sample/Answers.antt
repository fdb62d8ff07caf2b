-- `sample` meets its contract: off the grid, and on it.
use mathlib.Core.Path.{◌≡◌}
use Prim.Native.Nat.{◌+◌, ◌*◌, ◌/◌}
use lib.ListN.{get_or}
use native.Mathlib.Omega.{arith}
use Rattle.std.proofs.lemmas.Grind.{common_steps}
use Rattle.std.proofs.lemmas.Option.{gets}
use Rattle.view.proofs.Views.{past-columns, past-rows, on-grid}
use Rattle.view.proofs.viewing.sample.Goals as goal
use Rattle.view.proofs.viewing.sample.Goals.{then-column-v-via-then-column-v, then-column-v-via-else-column-v+then-row-v}

pub returns-then-column-v : goal.returns-then-column-v
returns-then-column-v c = elim c.then-column-v.branch [
  | then-column-v-via-then-column-v w ↦ past-columns _ _ _ w.if-column-v.true
  | then-column-v-via-else-column-v+then-row-v w ↦ past-rows _ _ _ w.if-column-v.false w.if-row-v.true
]

pub returns : goal.returns
returns c =
    let a = c.args in
    let byte : c.unwrap_or-byte.result ≡ get_or a.v.bitmap.now (a.row * ((a.v.width + 7) / 8) + a.column / 8) 0 =
    grind (arith, common_steps, gets) in
    on-grid _ _ _ c.if-column-v.false c.if-row-v.false byte
