-- Each contour is closed: that its drawn edges come back is a law of their list (drawn, DrawnEdges). Each stick stands on one contour, once,
-- and no other edge stands on any.
use mathlib.Core.Path.{◌≡◌, sym, ◌∙◌}
use mathlib.Core.Logic.{inl, inr}
use mathlib.Core.Bool.{true, false, true≢false}
use mathlib.Core.List.{List}
use Prim.Native.Nat.{ℕ}
use native.Mathlib.Nat.{eq-zero-or-pos}
use native.Mathlib.Omega.{arith}
use Rattle.grid.specs.Layer.{Layer}
use Rattle.grid.specs.Edges.{is_stick}
use Rattle.grid.specs.Questions.{Sound}
use Rattle.grid.specs.declared.edge.Edge.{Edge}
use Rattle.contour.specs.Walk.{first, occurrences, OnContour}
use Rattle.contour.specs.Contours.{walk_of, contour_of}
use Rattle.contour.proofs.Orbit.{round}
use Rattle.contour.proofs.Members.{on_one}
use Rattle.contour.proofs.First.{first_one}
use Rattle.contour.proofs.Sticks.{laws}
use Rattle.contour.proofs.Theorems.{on-one-contour, on-no-other}
use Rattle.drawn.proofs.Vertices.{Vertices}
use Rattle.drawn.proofs.DrawnEdges.{kept_from_here, closes}
use Rattle.held.proofs.HeldFacts.{HeldFacts}
use Rattle.faithful.specs.Faithful.{ContourClosed, OnOneContour}

pub contour-closed : (L : Layer) (t : List ℕ) (sound : Sound L) → Vertices L t → HeldFacts L t
    → (f : Edge) → first (walk_of L) f ≡ true → ContourClosed L t f
contour-closed L t sound vertices held f h =
    let law = laws L sound in
    let stick = first_one (walk_of L) law f h in
    let s = held.some_kept f stick in
    record {
      three = held.three f h;
      returns = round (walk_of L) law f stick;
      begin = kept_from_here L t f;
      comes_back = closes L t sound f stick vertices s.0 s.1 s.2;
    }

-- Which contour a stick lies on

module _ (L : Layer) (sound : Sound L) where
  -- what does not lie on a contour stands in it 0 times
  never : (e f : Edge) → (OnContour (walk_of L) f e → ⊥) → occurrences (walk_of L) e (contour_of L f) ≡ 0
  never e f n = elim (eq-zero-or-pos (occurrences (walk_of L) e (contour_of L f))) [ inl z ↦ z | inr o ↦ absurd (n o) ]

  pub stick-on-one : (e : Edge) → is_stick L e ≡ true → OnOneContour L e
  stick-on-one e stick =
      let c = on-one-contour L sound e stick in
      record {
        start_stick = c.0;
        is-first = c.1;
        once = c.2;
        elsewhere = λ f h differ. never e f (λ o. differ (on-no-other L sound e f c.0 h c.1 o (omega (arith, c.2))));
      }

  pub other-on-none : (e : Edge) → is_stick L e ≡ false → (f : Edge) → first (walk_of L) f ≡ true → occurrences (walk_of L) e (contour_of L f) ≡ 0
  other-on-none e none f h =
      let law = laws L sound in
      never e f (λ o. true≢false (sym (on_one (walk_of L) law f e (first_one (walk_of L) law f h) o) ∙ none))
