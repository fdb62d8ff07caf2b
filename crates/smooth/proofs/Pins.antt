-- Smooth leaves every pinned entry as it is, on every layer and table: a step does (`visit-pins`), so a pass does, all passes over a contour, and
-- one contour after the other.
use Rattle.std.specs.Prelude.{Err}
use mathlib.Core.Path.{◌≡◌, refl}
use mathlib.Core.List.{List}
use Prim.Native.Nat.{ℕ}
use lib.ListN.{length}
use Rattle.grid.specs.Layer.{Layer}
use Rattle.grid.specs.declared.edge.Edge.{Edge}
use Rattle.grid.specs.Questions.{Answer, Yes, first_no}
use Rattle.contour.specs.Contours.{contour_of, first_sticks}
use Rattle.table.specs.Pins.{PinsStay}
use Rattle.table.proofs.Pins.{pins-same, pins-then, pins-fold}
use Rattle.held.specs.Questions.{kept_questions}
use Rattle.smooth.specs.Smooth.{Pass, passed, visit, pass_contour, contour_pass, unsmoothed, smooth_contour, no_contour}
use Rattle.smooth.specs.Call.{smooth_of}
use Rattle.smooth.proofs.Steps.{visit-pins}
use Rattle.smooth.proofs.Passes.{contour-is, smooth_next, smooth-is, further-is, until-keeps}
use Rattle.smooth.proofs.Held.{outcome-is}

module _ (L : Layer) where
  pass_contour-pins : (c : List Edge) (s : Pass) → PinsStay s.table (pass_contour L s c).table
  unfolding pass_contour
  pass_contour-pins = pins-fold (λ s. s.table) (visit L) (visit-pins L)

  module _ (limit : ℕ) where
    contour-pins : (t : List ℕ) (f : Edge) → PinsStay t (smooth_contour L limit t f).table
    contour-pins t f =
        let n : ℕ = length (contour_of L f) in
        rw (contour-is L limit t f)
        (until-keeps (contour_pass L f) n (λ s. PinsStay t s.table)
        (λ s h. rw (further-is (contour_pass L f) n s) (pins-then h (pass_contour-pins (contour_of L f) (passed s.table 0))))
        limit (unsmoothed (contour_pass L f) n t) pins-same)

    pub smooth-pins : (t : List ℕ) → PinsStay t (smooth_of L limit t).table
    smooth-pins t = by (first_no (kept_questions L t)) refl
      where
        by : (answer : Answer) → first_no (kept_questions L t) ≡ answer → PinsStay t (smooth_of L limit t).table
        by Yes e =
            rw (outcome-is L limit t Yes e, smooth-is L limit t)
            (pins-fold (λ s. s.table) (smooth_next L limit) (λ s f. contour-pins s.table f) (first_sticks L) (no_contour t))
        by (Err refused) e = rw (outcome-is L limit t (Err refused) e) pins-same
