-- A run reads and changes the entries of its own contour alone: whether it passes depends on no other, and removing its inner vertices changes
-- no other.
use mathlib.Core.Path.{◌≡◌, refl, ◌∙◌, ap}
use mathlib.Core.Bool.{true}
use mathlib.Core.List.{List, foldl}
use Prim.Native.Nat.{ℕ, zero, suc, ◌-◌}
use lib.ListN.{get_or}
use lib.Seq.{get_or-set_other}
use Rattle.arith.specs.Lists.{each}
use Rattle.grid.specs.Layer.{Layer}
use Rattle.grid.specs.Edges.{number, is_stick}
use Rattle.grid.specs.Questions.{Sound}
use Rattle.grid.specs.declared.edge.Edge.{Edge}
use Rattle.step.specs.Walk.{next, following}
use Rattle.contour.specs.Walk.{OnContour, ahead}
use Rattle.contour.specs.Contours.{walk_of}
use Rattle.contour.proofs.Members.{on-next}
use Rattle.contour.proofs.Sticks.{laws}
use Rattle.chord.specs.Points.{Position, position}
use Rattle.table.specs.Entries.{encoded}
use Rattle.table.specs.Stores.{without}
use Rattle.table.specs.declared.entry.Entry.TheVariants.{Removed}
use Rattle.table.proofs.Local.{Agree, Off, same-offset, same-pin, stored-agree}
use Rattle.drawn.specs.Drawn.{vertex}
use Rattle.run.specs.Runs.{stick_after, between, chord_passes, passes}

module _ (L : Layer) (sound : Sound L) (f : Edge) (stick : is_stick L f ≡ true) where
  -- a walk along the contour stays on it
  pub on-steps : (n : ℕ) (e : Edge) → OnContour (walk_of L) f e → OnContour (walk_of L) f (stick_after L n e)
  unfolding ahead
  on-steps zero e on = on
  on-steps (suc n) e on = on-steps n (next L e) (on-next (walk_of L) (laws L sound) f e stick on)

  following-elsewhere : (n : ℕ) (e : Edge) (t : List ℕ) (k : ℕ) → OnContour (walk_of L) f e → Off L f k
      → get_or (foldl (without L) t (following L n e)) k 0 ≡ get_or t k 0
  following-elsewhere zero e t k on off = refl
  following-elsewhere (suc n) e t k on off =
      let on' = on-next (walk_of L) (laws L sound) f e stick on in
      following-elsewhere n (next L e) (without L t (next L e)) k on' off
      ∙ get_or-set_other t (number L.size (next L e)) k _ 0 (off (next L e) on')

  pub inner-elsewhere : (e : Edge) (n : ℕ) (t : List ℕ) (k : ℕ) → OnContour (walk_of L) f e → Off L f k
      → get_or (foldl (without L) t (between L e n)) k 0 ≡ get_or t k 0
  inner-elsewhere e n = following-elsewhere (n - 1) e

  module _ {t u : List ℕ} (a : Agree L f t u) where
    same-vertex : (e : Edge) → OnContour (walk_of L) f e → vertex L t e ≡ vertex L u e
    same-vertex e on = ap (position e) (same-offset L f a e on)

    same_tests : (tolerance : ℕ) (p q : Position) (n : ℕ) (e : Edge) → OnContour (walk_of L) f e
        → each (chord_passes L t tolerance p q) (following L n e) ≡ each (chord_passes L u tolerance p q) (following L n e)
    same_tests tolerance p q zero e on = refl
    same_tests tolerance p q (suc n) e on =
        let on' = on-next (walk_of L) (laws L sound) f e stick on in
        rw (same-offset L f a (next L e) on', same-pin L f a (next L e) on', same_tests tolerance p q n (next L e) on')

    pub same_passes : (tolerance : ℕ) (e : Edge) (n : ℕ) → OnContour (walk_of L) f e → passes L t tolerance e n ≡ passes L u tolerance e n
    unfolding passes
    same_passes tolerance e n on =
        same_tests tolerance (vertex L t e) (vertex L t (stick_after L n e)) (n - 1) e on
        ∙ (λ i. each (chord_passes L u tolerance (same-vertex e on i) (same-vertex (stick_after L n e) (on-steps n e on) i)) (between L e n))

  following-agree : (n : ℕ) (e : Edge) {t u : List ℕ} → OnContour (walk_of L) f e → Agree L f t u
      → Agree L f (foldl (without L) t (following L n e)) (foldl (without L) u (following L n e))
  following-agree zero e on a = a
  following-agree (suc n) e on a =
      let on' = on-next (walk_of L) (laws L sound) f e stick on in
      following-agree n (next L e) on' (stored-agree L sound f stick a (next L e) on' _ _ (ap (λ (o : ℕ). encoded (Removed o)) (same-offset L f a (next L e) on')))

  pub inner-agree : (e : Edge) (n : ℕ) {t u : List ℕ} → OnContour (walk_of L) f e → Agree L f t u
      → Agree L f (foldl (without L) t (between L e n)) (foldl (without L) u (between L e n))
  inner-agree e n = following-agree (n - 1) e
