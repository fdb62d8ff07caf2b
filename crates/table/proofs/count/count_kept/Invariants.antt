use mathlib.Core.Path.{◌≡◌}
use Rattle.arith.specs.Ranges.{count}
use Rattle.table.specs.Kept.{kept_entry}
use Rattle.table.proofs.count.count_kept.Given as goal

abbrev pub invariant-loop-n : goal.invariant-loop-n
invariant-loop-n l = l.kept ≡ count (kept_entry l.table) l.n-index
