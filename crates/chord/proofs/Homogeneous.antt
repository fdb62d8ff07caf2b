-- Points over ℕ in homogeneous coordinates, vectors (x, y, d) that stand for x/d and y/d: points with no negative coordinate, and means
-- of two positions with natural weights. Proportional vectors are the same point.
use mathlib.Core.Path.{◌≡◌, refl, sym, ◌∙◌, ap}
use mathlib.Core.Bool.{Bool, true, false, cond}
use Prim.Native.Nat.{ℕ, zero, suc, ◌+◌, ◌*◌, ◌<◌}
use native.Mathlib.Nat.{eq_of_mul-eq-mul_right}
use native.Mathlib.Omega.{arith}
use lib.IntN.{ℤ, pos, negsuc, neg_ℤ, nat_abs, ◌*ℤ◌}
use Rattle.grid.specs.declared.edge.Edge.{Edge}
use Rattle.chord.specs.Points.{Position, Point, Same}
use Rattle.chord.specs.Crossing.{along, across}

pub record Homogeneous : Type 0 where
  pub x : ℕ
  pub y : ℕ
  pub d : ℕ

-- the mean of two positions with the weights α and β
abbrev pub weighted : ℕ → ℕ → Position → Position → Homogeneous
weighted α β p q = record { x = α * p.x + β * q.x; y = α * p.y + β * q.y; d = α + β }

pub record Proportional (h k : Homogeneous) : Type 0 where
  pub x_is : h.x * k.d ≡ k.x * h.d
  pub y_is : h.y * k.d ≡ k.y * h.d

pub proportional-sym : {h k : Homogeneous} → Proportional h k → Proportional k h
proportional-sym e = record { x_is = sym e.x_is; y_is = sym e.y_is }

pub proportional-trans : {h k l : Homogeneous} → 0 < k.d → Proportional h k → Proportional k l → Proportional h l
proportional-trans {h} {k} {l} n e f =
    record {
      x_is = through h.x k.x l.x e.x_is f.x_is;
      y_is = through h.y k.y l.y e.y_is f.y_is;
    }
  where
    through : (a b c : ℕ) → a * k.d ≡ b * h.d → b * l.d ≡ c * k.d → a * l.d ≡ c * h.d
    through a b c u v =
        eq_of_mul-eq-mul_right k.d n (a * l.d) (c * h.d) (omega (arith, ap (λ m. m * l.d) u, ap (λ m. m * h.d) v))

-- weights in one ratio give one point
pub same-weights : (γ δ α β : ℕ) (p q : Position) → γ * β ≡ δ * α → Proportional (weighted γ δ p q) (weighted α β p q)
same-weights γ δ α β p q e =
    record {
      x_is = omega (arith, ap (λ m. m * p.x) e, ap (λ m. m * q.x) e);
      y_is = omega (arith, ap (λ m. m * p.y) e, ap (λ m. m * q.y) e);
    }

-- ---- along an edge and across it

abbrev pub along_of : Edge → Homogeneous → ℕ
along_of e h = cond e.vertical h.y h.x

abbrev pub across_of : Edge → Homogeneous → ℕ
across_of e h = cond e.vertical h.x h.y

module _ (e : Edge) where
  pub along-is : {h k : Homogeneous} → Proportional h k → along_of e h * k.d ≡ along_of e k * h.d
  along-is {h} {k} s = by e.vertical
    where
      by : (v : Bool) → cond v h.y h.x * k.d ≡ cond v k.y k.x * h.d
      by true = s.y_is
      by false = s.x_is

  pub across-is : {h k : Homogeneous} → Proportional h k → across_of e h * k.d ≡ across_of e k * h.d
  across-is {h} {k} s = by e.vertical
    where
      by : (v : Bool) → cond v h.x h.y * k.d ≡ cond v k.x k.y * h.d
      by true = s.x_is
      by false = s.y_is

  pub proportional-by : (h k : Homogeneous) → along_of e h * k.d ≡ along_of e k * h.d → across_of e h * k.d ≡ across_of e k * h.d
      → Proportional h k
  proportional-by h k = by e.vertical
    where
      by : (v : Bool) → cond v h.y h.x * k.d ≡ cond v k.y k.x * h.d → cond v h.x h.y * k.d ≡ cond v k.x k.y * h.d
          → Proportional h k
      by true a c = record { x_is = c; y_is = a }
      by false a c = record { x_is = a; y_is = c }

  pub along-weighted : (α β : ℕ) (p q : Position) → along_of e (weighted α β p q) ≡ α * along e p + β * along e q
  along-weighted α β p q = by e.vertical
    where
      by : (v : Bool) → cond v (α * p.y + β * q.y) (α * p.x + β * q.x) ≡ α * cond v p.y p.x + β * cond v q.y q.x
      by true = refl
      by false = refl

  pub across-weighted : (α β : ℕ) (p q : Position) → across_of e (weighted α β p q) ≡ α * across e p + β * across e q
  across-weighted α β p q = by e.vertical
    where
      by : (v : Bool) → cond v (α * p.x + β * q.x) (α * p.y + β * q.y) ≡ α * cond v p.x p.y + β * cond v q.x q.y
      by true = refl
      by false = refl

-- ---- points with no negative coordinate

-- a point's coordinates over ℕ: those of the point itself if it is plain, that is has no negative coordinate
abbrev pub coordinates : Point → Homogeneous
coordinates z = record { x = nat_abs z.x; y = nat_abs z.y; d = z.d }

pub record Plain (z : Point) : Type 0 where
  pub x_plain : z.x ≡ pos (nat_abs z.x)
  pub y_plain : z.y ≡ pos (nat_abs z.y)

-- and back
abbrev pub point_at : (h : Homogeneous) → 0 < h.d → Point
point_at h n = record { x = pos h.x; y = pos h.y; d = h.d; above = n }

pub same→proportional : {z w : Point} → Same z w → Proportional (coordinates z) (coordinates w)
same→proportional {z} {w} s =
    record { x_is = abs z.x w.x s.same_x; y_is = abs z.y w.y s.same_y }
  where
    neg : (n : ℕ) → nat_abs (neg_ℤ (pos n)) ≡ n
    neg zero = refl
    neg (suc n) = refl

    times : (m : ℤ) (n : ℕ) → nat_abs (m *ℤ pos n) ≡ nat_abs m * n
    times (pos m) n = refl
    times (negsuc m) n = neg (suc m * n)

    abs : (m n : ℤ) → m *ℤ pos w.d ≡ n *ℤ pos z.d → nat_abs m * w.d ≡ nat_abs n * z.d
    abs m n e = sym (times m w.d) ∙ ap nat_abs e ∙ times n z.d

pub proportional→same : {z w : Point} → Plain z → Plain w → Proportional (coordinates z) (coordinates w) → Same z w
proportional→same {z} {w} f g s =
    record { same_x = rw (f.x_plain, g.x_plain) (ap pos s.x_is); same_y = rw (f.y_plain, g.y_plain) (ap pos s.y_is) }
