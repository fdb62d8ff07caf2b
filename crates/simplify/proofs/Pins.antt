-- Simplify leaves every pinned entry as it is, on every layer and table: what is removed of a run that passes is not pinned (`run` Pins), so a run
-- that is tried leaves the pins, a contour's two runs do, and one contour after the other.
use Rattle.std.specs.Prelude.{Err}
use mathlib.Core.Path.{◌≡◌, refl, ◌∙◌}
use mathlib.Core.List.{List}
use Prim.Native.Nat.{ℕ, zero, suc, ◌-◌}
use lib.ListN.{length}
use Rattle.arith.proofs.Booleans.{both-sides}
use Rattle.grid.specs.Layer.{Layer}
use Rattle.grid.specs.declared.edge.Edge.{Edge}
use Rattle.grid.specs.Questions.{Answer, Yes, first_no}
use Rattle.contour.specs.Contours.{contour_of, first_sticks}
use Rattle.table.specs.Pins.{PinsStay}
use Rattle.table.proofs.Pins.{pins-same, pins-then, pins-fold}
use Rattle.held.specs.Questions.{kept_questions}
use Rattle.run.specs.Runs.{stick_after, passes}
use Rattle.run.proofs.Pins.{inner-pins}
use Rattle.simplify.specs.Runs.{Progress, half, one_tried, try_run, simplify_contour}
use Rattle.simplify.specs.Parts.{begun}
use Rattle.simplify.specs.Call.{simplify_of}
use Rattle.simplify.proofs.Trying.{inner-is, try-passes, try-splits, try-none, contour-runs}
use Rattle.simplify.proofs.Layers.{simplify-is}
use Rattle.simplify.proofs.Outcomes.{outcome-is}

module _ (L : Layer) (tolerance : ℕ) where
  try_run-pins : (depth : ℕ) (s : Progress) (e : Edge) (n : ℕ) → PinsStay s.table (try_run L tolerance depth s e n).table
  try_run-pins zero s e n = rw (try-none L tolerance s e n) pins-same
  try_run-pins (suc depth) s e n = both-sides (passes L s.table tolerance e n)
      (λ y. rw (try-passes L tolerance depth s e n y ∙ inner-is L (one_tried s) e n) (inner-pins L s.table tolerance e n y))
      (λ no.
      rw (try-splits L tolerance depth s e n no)
      (pins-then (try_run-pins depth (one_tried s) e (half n))
      (try_run-pins depth (try_run L tolerance depth (one_tried s) e (half n)) (stick_after L (half n) e) (n - half n))))

  contour-pins : (s : Progress) (f : Edge) → PinsStay s.table (simplify_contour L tolerance s f).table
  contour-pins s f =
      let n : ℕ = length (contour_of L f) in
      rw (contour-runs L tolerance s f)
      (pins-then (try_run-pins n s f (half n)) (try_run-pins n (try_run L tolerance n s f (half n)) (stick_after L (half n) f) (n - half n)))

  pub simplify-pins : (t : List ℕ) → PinsStay t (simplify_of L tolerance t).table
  simplify-pins t = by (first_no (kept_questions L t)) refl
    where
      by : (answer : Answer) → first_no (kept_questions L t) ≡ answer → PinsStay t (simplify_of L tolerance t).table
      by Yes e =
          rw (outcome-is L t tolerance Yes e, simplify-is L tolerance t)
          (pins-fold (λ s. s.table) (simplify_contour L tolerance) contour-pins (first_sticks L) (begun t))
      by (Err refused) e = rw (outcome-is L t tolerance (Err refused) e) pins-same
