-- Where a chord whose ends lie on different sides of an edge's line meets that line: in the point that the weights of specs/Crossing.antt
-- give, and in no other. Worked out for an end below and an end above, and turned round.
use mathlib.Core.Path.{◌≡◌, refl, sym, ◌∙◌, ap}
use mathlib.Core.Logic.{◌⊎◌, inl, inr}
use mathlib.Core.Bool.{Bool, true, false, ◌&&◌, ◌||◌, or-true}
use Prim.Native.Nat.{ℕ, ◌+◌, ◌*◌, ◌<◌}
use native.Mathlib.Nat.{eq_of_mul-eq-mul_right}
use native.Mathlib.Omega.{arith}
use borrow.Author.Tests.{ltb-true, lt-ltb}
use lib.Dec.{ltb}
use Rattle.arith.proofs.Booleans.{and_split}
use Rattle.grid.specs.declared.edge.Edge.{Edge}
use Rattle.chord.specs.Points.{Position, Point, On}
use Rattle.chord.specs.Crossing.{across, line, off, parted, meeting, total}
use Rattle.chord.proofs.Homogeneous.{Homogeneous, weighted, Proportional, proportional-trans, same-weights, along_of, across_of, along-weighted, across-weighted, coordinates}
use Rattle.chord.proofs.Weights.{Weights, on→weights, across-mean}

-- with the weights α and β the mean of the numbers u and w is l, and with weights in another ratio it is not
pub record Balanced (u w l α β : ℕ) : Type 0 where
  pub α_some : 0 < α
  pub β_some : 0 < β
  pub on_line : α * u + β * w ≡ (α + β) * l
  pub only : (γ δ : ℕ) → γ * u + δ * w ≡ (γ + δ) * l → γ * β ≡ δ * α

upward : {u w l α β : ℕ} → u + β ≡ l → l + α ≡ w → 0 < α → 0 < β → Balanced u w l α β
upward {u} {w} {l} {α} {β} b a m n =
    record {
      α_some = m;
      β_some = n;
      on_line = omega (arith, ap (λ k. k * α) b, ap (λ k. k * β) a);
      only = λ γ δ e. omega (arith, ap (λ k. k * γ) b, ap (λ k. k * δ) a);
    }

turned : {u w l α β : ℕ} → Balanced w u l β α → Balanced u w l α β
turned m =
    record {
      α_some = m.β_some;
      β_some = m.α_some;
      on_line = omega arith;
      only = λ γ δ e. sym (m.only δ γ (omega arith));
    }

or_split : (a b : Bool) → (a || b) ≡ true → (a ≡ true) ⊎ (b ≡ true)
or_split true b e = inl refl
or_split false b e = inr e

-- the point where the chord from p to q meets the line of e
abbrev pub crossing : Position → Position → Edge → Homogeneous
crossing p q e = weighted (off e q) (off e p) p q

module _ (p q : Position) (e : Edge) where
  pub sides→parted : ((across e p < line e) × (line e < across e q)) ⊎ ((across e q < line e) × (line e < across e p))
      → parted p q e ≡ true
  unfolding parted
  sides→parted (inl s) = rw (lt-ltb (across e p) (line e) s.0, lt-ltb (line e) (across e q) s.1)
  sides→parted (inr s) = rw (lt-ltb (across e q) (line e) s.0, lt-ltb (line e) (across e p) s.1, or-true)

  parted→sides : parted p q e ≡ true
      → ((across e p < line e) × (line e < across e q)) ⊎ ((across e q < line e) × (line e < across e p))
  unfolding parted
  parted→sides t = elim (or_split (ltb (across e p) (line e) && ltb (line e) (across e q)) _ t) [
    | inl s ↦ inl (sides (across e p) (across e q) s)
    | inr s ↦ inr (sides (across e q) (across e p) s)
  ]
    where
      sides : (u w : ℕ) → (ltb u (line e) && ltb (line e) w) ≡ true → (u < line e) × (line e < w)
      sides u w s =
          let b = and_split (ltb u (line e)) (ltb (line e) w) s in
          (ltb-true u (line e) b.0, ltb-true (line e) w b.1)

  pub meets-line : parted p q e ≡ true → Balanced (across e p) (across e q) (line e) (off e q) (off e p)
  unfolding off
  meets-line t = elim (parted→sides t) [
    | inl s ↦ upward (omega arith) (omega arith) (omega arith) (omega arith)
    | inr s ↦ turned (upward (omega arith) (omega arith) (omega arith) (omega arith))
  ]

  -- it lies on the line, at meeting / total
  pub crossing-across : parted p q e ≡ true → across_of e (crossing p q e) ≡ line e * total p q e
  crossing-across t = across-weighted e (off e q) (off e p) p q ∙ omega (arith, (meets-line t).on_line)

  pub crossing-along : along_of e (crossing p q e) ≡ meeting p q e
  crossing-along = along-weighted e (off e q) (off e p) p q

  pub total-some : parted p q e ≡ true → 0 < total p q e
  total-some t = omega (arith, (meets-line t).α_some)

  -- the weights of a point of the chord on the line
  pub line-weights : {z : Point} (w : Weights z p q) → across_of e (coordinates z) ≡ line e * z.d
      → w.α * across e p + w.β * across e q ≡ (w.α + w.β) * line e
  line-weights {z} w c =
      eq_of_mul-eq-mul_right z.d z.above _ _ (omega (arith, across-mean e w, ap (λ n. n * (w.α + w.β)) c))

  -- every point of the chord on the line is this one
  pub crossing-only : parted p q e ≡ true → {z : Point} → On z p q → across_of e (coordinates z) ≡ line e * z.d
      → Proportional (coordinates z) (crossing p q e)
  crossing-only t o c =
      let w = on→weights o in
      let r = (meets-line t).only w.α w.β (line-weights w c) in
      proportional-trans w.some w.is_mean (same-weights w.α w.β (off e q) (off e p) p q r)
