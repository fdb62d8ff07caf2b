-- `put_sums` meets its contract: the horizontal edges, then the vertical ones.
use mathlib.Core.Path.{◌∙◌}
use Rattle.arith.proofs.Bounds.{sized, exact, within}
use Rattle.shoelace.proofs.Running.{all_end}
use Rattle.shoelace.proofs.sums.put_sums.Goals as goal

pub returns : goal.returns
returns c =
    let all = all_end c.requires.accepted c.sums_of_kind.ensures c.sums_of_kind-2.ensures in
    let small = all.small in
    record { put = all.put; last = exact (search sized depth 9) tt ∙ all.last; small = within (search sized depth 9) tt }
