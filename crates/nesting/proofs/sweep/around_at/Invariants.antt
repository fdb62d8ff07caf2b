use mathlib.Core.Path.{◌≡◌}
use Prim.Native.Nat.{◌-◌}
use Rattle.grid.specs.Plain.{plain}
use Rattle.nesting.specs.Sweeps.{Swept}
use Rattle.nesting.proofs.sweep.around_at.Given as goal

abbrev pub invariant-loop-at : goal.invariant-loop-at
invariant-loop-at l = record {
  in_row : l.at.row ≡ l.fn.from.row;
  swept : Swept (plain l.nesting.contours.layer) l.at l.end;
}

abbrev pub decreases-loop-at : goal.decreases-loop-at
decreases-loop-at l = l.end - l.at.column
