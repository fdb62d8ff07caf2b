-- Which edges are on a contour, by the test `is_on`: only sticks are, a stick exactly if the next one is, and each stick is on the contour of one
-- first stick alone.
use mathlib.Core.Path.{◌≡◌, sym, ◌∙◌, ap}
use mathlib.Core.Bool.{true, false, false≢true}
use Prim.Native.Nat.{ℕ, ◌+◌, ◌≤◌, ◌<◌}
use native.Mathlib.Omega.{arith}
use borrow.Author.Tests.{ltb-true, ltb-false, lt-ltb, le-ltb}
use Rattle.arith.proofs.Booleans.{both-sides}
use Rattle.grid.specs.Layer.{Layer}
use Rattle.grid.specs.Edges.{is_stick, number, edge_at}
use Rattle.grid.specs.Questions.{Sound}
use Rattle.grid.specs.declared.edge.Edge.{Edge}
use Rattle.step.specs.Walk.{next}
use Rattle.step.proofs.Walks.{inner-row, inner-column}
use Rattle.contour.specs.Walk.{occurrences, OnContour, low, first}
use Rattle.contour.specs.Contours.{walk_of, contour_of}
use Rattle.contour.proofs.Members as Members
use Rattle.contour.proofs.First.{first_one, on_first, low-once, low_first}
use Rattle.contour.proofs.Sticks.{laws}
use Rattle.winding.specs.Turns.{is_on, east, north, first_of}

module _ (L : Layer) (f e : Edge) where
  pub on-is : is_on L f e ≡ true → OnContour (walk_of L) f e
  unfolding is_on
  on-is h = ltb-true 0 (occurrences (walk_of L) e (contour_of L f)) h

  pub is-on : OnContour (walk_of L) f e → is_on L f e ≡ true
  unfolding is_on
  is-on o = lt-ltb 0 (occurrences (walk_of L) e (contour_of L f)) o

  pub not_on : (is_on L f e ≡ true → ⊥) → is_on L f e ≡ false
  not_on h = both-sides (is_on L f e) (λ on. absurd (h on)) (λ n. n)

  pub off :
      (is_on L f e ≡ false → occurrences (walk_of L) e (contour_of L f) ≡ 0)
      × (occurrences (walk_of L) e (contour_of L f) ≡ 0 → is_on L f e ≡ false)
  unfolding is_on
  off = (
    λ h. omega (arith, ltb-false 0 (occurrences (walk_of L) e (contour_of L f)) h),
    λ z. le-ltb 0 (occurrences (walk_of L) e (contour_of L f)) (omega arith),
  )

module _ {L : Layer} (sound : Sound L) where
  module _ (f : Edge) (is-first : first (walk_of L) f ≡ true) where
    pub first-stick : is_stick L f ≡ true
    first-stick = first_one (walk_of L) (laws L sound) f is-first

    pub on-self : is_on L f f ≡ true
    on-self = is-on L f f (Members.on-self (walk_of L) (laws L sound) f first-stick)

    module _ (e : Edge) where
      pub on_stick : is_on L f e ≡ true → is_stick L e ≡ true
      on_stick h = Members.on_one (walk_of L) (laws L sound) f e first-stick (on-is L f e h)

      pub off-stick : is_stick L e ≡ false → is_on L f e ≡ false
      off-stick n = not_on L f e (λ h. false≢true (sym n ∙ on_stick h))

      pub on-low : is_on L f e ≡ true → low (walk_of L) e ≡ number L.size f
      on-low h = on_first (walk_of L) (laws L sound) f e is-first (on-is L f e h)

      pub on-only : is_on L f e ≡ true → first_of L e ≡ f
      unfolding first_of
      on-only h = ap (edge_at L.size) (on-low h) ∙ (laws L sound).at_number f first-stick

      pub on-next : is_stick L e ≡ true → is_on L f (next L e) ≡ is_on L f e
      on-next stick =
          let law = laws L sound in
          let back : (is_on L f (next L e) ≡ true → OnContour (walk_of L) f e) =
          λ h. rw (law.prev_next e stick) at (Members.on-prev (walk_of L) law f (next L e) first-stick (on-is L f (next L e) h)) in
          both-sides (is_on L f e)
          (λ h. is-on L f (next L e) (Members.on-next (walk_of L) law f e first-stick (on-is L f e h)) ∙ sym h)
          (λ n. not_on L f (next L e) (λ h. false≢true (sym n ∙ is-on L f e (back h))) ∙ sym n)

    -- no stick of it lies along the border
    pub on_row : (c r : ℕ) → is_on L f (east c r) ≡ true → (1 ≤ r) × (r + 1 < L.size.height)
    on_row c r h = inner-row L sound c r (on_stick (east c r) h)

    pub on-column : (c r : ℕ) → is_on L f (north c r) ≡ true → (1 ≤ c) × (c + 1 < L.size.width)
    on-column c r h = inner-column L sound c r (on_stick (north c r) h)

  module _ (e : Edge) (stick : is_stick L e ≡ true) where
    pub first_of-first : first (walk_of L) (first_of L e) ≡ true
    unfolding first_of
    first_of-first = low_first (walk_of L) (laws L sound) e stick

    pub on-first_of : is_on L (first_of L e) e ≡ true
    unfolding first_of
    on-first_of = is-on L (first_of L e) e (omega (arith, low-once (walk_of L) (laws L sound) e stick))
