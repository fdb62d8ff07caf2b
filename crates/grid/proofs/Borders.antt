-- Which samples are on the border, and the lowest of a row that is inside.
use mathlib.Core.Path.{◌≡◌, refl, sym, ◌∙◌}
use mathlib.Core.Bool.{true, false, ◌||◌, or-true}
use Prim.Native.Nat.{ℕ, ◌-◌}
use native.Mathlib.Decide.{ℕ_discrete}
use native.Mathlib.Omega.{arith}
use borrow.Author.Tests.{eq-eqb, ne_eqb}
use lib.Dec.{eqb}
use Rattle.std.specs.Prelude.{Some, None}
use Rattle.arith.specs.Ranges.{least_of}
use Rattle.arith.proofs.Ranges.{found-is, found-none, least_of-same}
use Rattle.grid.specs.Layer.{Layer, sample, sample_in}
use Rattle.grid.specs.Questions.{on_border, border_in, Sized}

module _ (L : Layer) where
  pub west : (c r : ℕ) → c ≡ 0 → on_border L c r ≡ true
  west c r e = rw (eq-eqb c 0 e)

  pub east : (c r : ℕ) → c ≡ L.size.width - 1 → on_border L c r ≡ true
  east c r e = rw (eq-eqb c (L.size.width - 1) e, or-true (eqb c 0))

  pub bottom : (c r : ℕ) → r ≡ 0 → on_border L c r ≡ true
  bottom c r e = rw (eq-eqb r 0 e, or-true (eqb c 0 || eqb c (L.size.width - 1)))

  pub top : (c r : ℕ) → r ≡ L.size.height - 1 → on_border L c r ≡ true
  top c r e = rw (eq-eqb r (L.size.height - 1) e, or-true (eqb c 0 || eqb c (L.size.width - 1) || eqb r 0))

  pub on-border : (c r : ℕ) → on_border L c r ≡ true → border_in L r c ≡ sample_in L r c
  on-border c r e = rw e

  off-border : (c r : ℕ) → (c ≡ 0 → ⊥) → (c ≡ L.size.width - 1 → ⊥) → (r ≡ 0 → ⊥) → (r ≡ L.size.height - 1 → ⊥) → border_in L r c ≡ false
  off-border c r w e b t =
      rw (ne_eqb c 0 w, ne_eqb c (L.size.width - 1) e, ne_eqb r 0 b, ne_eqb r (L.size.height - 1) t)

-- The lowest column of row r whose sample is on the border and inside

-- the row is neither the lowest nor the highest, and its first sample is outside: only its last can be on the border and inside
pub record Inner (L : Layer) (r : ℕ) : Type 0 where
  pub not_bottom : r ≡ 0 → ⊥
  pub not_top : r ≡ L.size.height - 1 → ⊥
  pub west_outside : sample L 0 r ≡ false

between : {L : Layer} {r : ℕ} → Inner L r → (c : ℕ) → (c ≡ L.size.width - 1 → sample L c r ≡ false) → border_in L r c ≡ false
between {L} {r} inner c end = elim (ℕ_discrete c 0) [
  | yes e ↦ on-border L c r (west L c r e) ∙ rw e inner.west_outside
  | no n ↦ elim (ℕ_discrete c (L.size.width - 1)) [
    | yes e ↦ on-border L c r (east L c r e) ∙ end e
    | no m ↦ off-border L c r n m inner.not_bottom inner.not_top
  ]
]

module _ (L : Layer) (r : ℕ) where
  outer : ((k : ℕ) → on_border L k r ≡ true) → least_of (sample_in L r) L.size.width ≡ least_of (border_in L r) L.size.width
  outer on = least_of-same (sample_in L r) (border_in L r) L.size.width (λ k. sym (on-border L k r (on k)))

  pub lowest-bottom : r ≡ 0 → least_of (sample_in L r) L.size.width ≡ least_of (border_in L r) L.size.width
  lowest-bottom e = outer (λ k. bottom L k r e)

  pub lowest-top : r ≡ L.size.height - 1 → least_of (sample_in L r) L.size.width ≡ least_of (border_in L r) L.size.width
  lowest-top e = outer (λ k. top L k r e)

  module _ (sized : Sized L.size) where
    pub lowest-west : sample L 0 r ≡ true → Some 0 ≡ least_of (border_in L r) L.size.width
    lowest-west h =
        found-is (border_in L r) L.size.width 0 (omega (arith, sized)) (on-border L 0 r (west L 0 r refl) ∙ h) (λ j l. absurd (omega arith))

    pub lowest-east : Inner L r → sample L (L.size.width - 1) r ≡ true → Some (L.size.width - 1) ≡ least_of (border_in L r) L.size.width
    lowest-east inner h =
        let e = L.size.width - 1 in
        found-is (border_in L r) L.size.width e (omega (arith, sized)) (on-border L e r (east L e r refl) ∙ h)
        (λ j l. between inner j (λ e. absurd (omega arith)))

  pub lowest-none : Inner L r → sample L (L.size.width - 1) r ≡ false → None ≡ least_of (border_in L r) L.size.width
  lowest-none inner h = found-none (border_in L r) L.size.width (λ j l. between inner j (λ e. rw e h))
