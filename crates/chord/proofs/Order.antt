-- The order of the points of a chord, by their weights: a point of the chord between two others is the first of them, the second, or a
-- mean of the two with both weights above 0.
use mathlib.Core.Path.{◌≡◌, ap}
use Prim.Native.Nat.{ℕ, ◌+◌, ◌*◌, ◌-◌, ◌≤◌, ◌<◌}
use native.Mathlib.Nat.{lt_of_mul-lt-mul_left, mul-pos, pos_of_ne-zero}
use native.Mathlib.Decide.{ℕ_discrete}
use native.Mathlib.Omega.{arith}
use Rattle.chord.specs.Points.{Position, Point}
use Rattle.chord.proofs.Homogeneous.{Homogeneous, weighted, Proportional, proportional-trans, same-weights, coordinates}
use Rattle.chord.proofs.Weights.{Weights}

-- from p to q, the point with the weights α₁ and β₁ does not come after that with α₂ and β₂
abbrev pub NotAfter : ℕ → ℕ → ℕ → ℕ → Type 0
NotAfter α₁ β₁ α₂ β₂ = β₁ * α₂ ≤ β₂ * α₁

-- h is a mean of h₁ and h₂, with the weights l and m, both above 0
pub record Inner (h₁ h₂ h : Homogeneous) : Type 0 where
  pub k : ℕ
  pub l : ℕ
  pub m : ℕ
  pub l_some : 0 < l
  pub m_some : 0 < m
  pub x_is : k * h.x ≡ l * h₁.x + m * h₂.x
  pub y_is : k * h.y ≡ l * h₁.y + m * h₂.y
  pub d_is : k * h.d ≡ l * h₁.d + m * h₂.d

pub data Place (h₁ h₂ h : Homogeneous) : Type 0 where
  first : Proportional h h₁ → Place h₁ h₂ h
  second : Proportional h h₂ → Place h₁ h₂ h
  inner : Inner h₁ h₂ h → Place h₁ h₂ h

inner-proportional : {h₁ h₂ h k : Homogeneous} → 0 < k.d → Proportional k h → Inner h₁ h₂ h → Inner h₁ h₂ k
inner-proportional {h₁} {h₂} {h} {k} n s i =
    record {
      k = i.k * h.d;
      l = i.l * k.d;
      m = i.m * k.d;
      l_some = mul-pos i.l_some n;
      m_some = mul-pos i.m_some n;
      x_is = omega (arith, ap (λ j. i.k * j) s.x_is, ap (λ j. j * k.d) i.x_is);
      y_is = omega (arith, ap (λ j. i.k * j) s.y_is, ap (λ j. j * k.d) i.y_is);
      d_is = omega (arith, ap (λ j. j * k.d) i.d_is);
    }

-- a point between two others and neither of them: its weights are a mean of theirs
module _ (α₁ β₁ α₂ β₂ α β l m : ℕ) (el : l + β * α₂ ≡ β₂ * α) (em : m + β₁ * α ≡ β * α₁) (l_some : 0 < l) (m_some : 0 < m) where
  before : β₁ * α₂ < β₂ * α₁
  before =
      let n : 0 < α₁ = pos_of_ne-zero (λ e. omega (arith, ap (λ j. β * j) e)) in
      lt_of_mul-lt-mul_left (α + β)
      (omega (arith, ap (λ j. j * α₁) el, ap (λ j. j * α₂) em, ap (λ j. j * β₁) el, ap (λ j. j * β₂) em, mul-pos l_some n))

  weights-inner : (p q : Position) → Inner (weighted α₁ β₁ p q) (weighted α₂ β₂ p q) (weighted α β p q)
  weights-inner p q =
      record {
        k = k;
        l = l;
        m = m;
        l_some = l_some;
        m_some = m_some;
        x_is = omega (arith, ap (λ j. j * p.x) first-is, ap (λ j. j * q.x) second_is);
        y_is = omega (arith, ap (λ j. j * p.y) first-is, ap (λ j. j * q.y) second_is);
        d_is = omega (arith, first-is, second_is);
      }
    where
      k : ℕ
      k = β₂ * α₁ - β₁ * α₂

      ek : k + β₁ * α₂ ≡ β₂ * α₁
      ek = omega (arith, before)

      first-is : k * α ≡ l * α₁ + m * α₂
      first-is = omega (arith, ap (λ j. j * α₁) el, ap (λ j. j * α₂) em, ap (λ j. j * α) ek)

      second_is : k * β ≡ l * β₁ + m * β₂
      second_is = omega (arith, ap (λ j. j * β₁) el, ap (λ j. j * β₂) em, ap (λ j. j * β) ek)

pub place : (α₁ β₁ α₂ β₂ : ℕ) {z : Point} {p q : Position} (w : Weights z p q)
    → NotAfter α₁ β₁ w.α w.β → NotAfter w.α w.β α₂ β₂ → Place (weighted α₁ β₁ p q) (weighted α₂ β₂ p q) (coordinates z)
place α₁ β₁ α₂ β₂ {z} {p} {q} w from to = elim (ℕ_discrete (w.α * β₁) (w.β * α₁)) [
  | yes e ↦ first (proportional-trans w.some w.is_mean (same-weights w.α w.β α₁ β₁ p q e))
  | no n₁ ↦
      elim (ℕ_discrete (w.α * β₂) (w.β * α₂)) [
        | yes e ↦ second (proportional-trans w.some w.is_mean (same-weights w.α w.β α₂ β₂ p q e))
        | no n₂ ↦
            inner (inner-proportional z.above w.is_mean
            (weights-inner α₁ β₁ α₂ β₂ w.α w.β (β₂ * w.α - w.β * α₂) (w.β * α₁ - β₁ * w.α)
            (omega arith) (omega arith) (omega arith) (omega arith) p q))
      ]
]
