use Prim.Native.Nat.{◌-◌}
use Rattle.grid.specs.Plain.{plain}
use Rattle.simplify.specs.Runs.{simplify_contour}
use Rattle.simplify.specs.Parts.{begun}
use Rattle.simplify.proofs.Pending.{Pending}
use Rattle.simplify.proofs.tries.try_runs.Given as goal

abbrev pub invariant-loop-top : goal.invariant-loop-top
invariant-loop-top l =
    Pending (plain l.layer) l.t l.initial.at l.n l.initial.table l.initial.runs l.table l.runs l.top l.at l.place l.removed l.tried

abbrev pub decreases-loop-top : goal.decreases-loop-top
decreases-loop-top l =
    (simplify_contour (plain l.layer) l.t (begun l.initial.table) l.initial.at).tried - l.tried
