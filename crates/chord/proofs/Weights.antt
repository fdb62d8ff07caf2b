-- A point lies on a segment exactly if it is a mean of the two ends, with natural weights that are not both 0.
-- The ends are multiplied out by the point's D first; after this module no signed number appears but for the slide.
use mathlib.Core.Path.{◌≡◌, refl, ◌∙◌, ap}
use mathlib.Core.Logic.{◌≢◌}
use Prim.Native.Nat.{ℕ, ◌+◌, ◌*◌, ◌-◌, ◌≤◌, ◌<◌, min, max}
use native.Mathlib.Decide.{ℕ_discrete, dec_lt}
use native.Mathlib.Nat.{mul_comm, mul-le-mul_left, eq_of_mul-eq-mul_left, le_of_mul-le-mul_left}
use native.Mathlib.Omega.{arith}
use lib.IntN.{ℤ, pos, negsuc, nat_abs, ◌-ℤ◌, ◌*ℤ◌}
use Rattle.arith.proofs.Integers.{arithℤ, ints, toℕ, viaℕ}
use Rattle.grid.specs.declared.edge.Edge.{Edge}
use Rattle.chord.specs.Points.{Position, Point, point, Between, On}
use Rattle.chord.specs.Crossing.{along, across}
use Rattle.chord.proofs.Homogeneous.{weighted, Proportional, along_of, across_of, along-is, across-is, along-weighted, across-weighted, coordinates, Plain, point_at}

-- (x,y) lies on the segment from (px,py) to (qx,qy), all over ℕ
record Lies (px py qx qy x y : ℕ) : Type 0 where
  cross : px * qy + qx * y + py * x ≡ py * qx + qy * x + px * y
  x_least : min px qx ≤ x
  x_most : x ≤ max px qx
  y_least : min py qy ≤ y
  y_most : y ≤ max py qy

-- (x,y) is the mean of (px,py) and (qx,qy) with the weights α and β
record Mean (px py qx qy x y : ℕ) : Type 0 where
  α : ℕ
  β : ℕ
  some : 0 < α + β
  x_is : (α + β) * x ≡ α * px + β * qx
  y_is : (α + β) * y ≡ α * py + β * qy

-- ---- from the segment to the weights

-- the segment turned round, and x and y swapped
turn : {px py qx qy x y : ℕ} → Lies px py qx qy x y → Lies qx qy px py x y
turn {px} {py} {qx} {qy} {x} {y} l = omega (arith, mul_comm px qy, mul_comm py qx)

mean-turn : {px py qx qy x y : ℕ} → Mean px py qx qy x y → Mean qx qy px py x y
mean-turn m =
    record { α = m.β; β = m.α; some = omega arith; x_is = omega arith; y_is = omega arith }

swap : {px py qx qy x y : ℕ} → Lies px py qx qy x y → Lies py px qy qx y x
swap l = omega arith

mean-swap : {px py qx qy x y : ℕ} → Mean px py qx qy x y → Mean py px qy qx y x
mean-swap m = record { α = m.α; β = m.β; some = m.some; x_is = m.y_is; y_is = m.x_is }

-- a number between two others is their mean, each weighing as much as the other is far
pub by-distances : (a b px qx x : ℕ) → px + b ≡ x → x + a ≡ qx → (a + b) * x ≡ a * px + b * qx
by-distances a b px qx x hb ha = omega (arith, ap (λ k. k * a) hb, ap (λ k. k * b) ha)

cross-distances : (a b px py qx qy x y : ℕ) → px + b ≡ x → x + a ≡ qx → px * qy + qx * y + py * x ≡ py * qx + qy * x + px * y
    → (a + b) * y ≡ a * py + b * qy
cross-distances a b px py qx qy x y hb ha e =
    omega (arith, e, ap (λ k. k * y) hb, ap (λ k. k * y) ha, ap (λ k. k * qy) hb, ap (λ k. k * py) ha, ap (λ k. k * py) hb)

-- from left to right the weights are the distances along x
rightward : {px py qx qy x y : ℕ} → Lies px py qx qy x y → px < qx → Mean px py qx qy x y
rightward {px} {py} {qx} {qy} {x} {y} l h =
    record {
      α = qx - x;
      β = x - px;
      some = omega arith;
      x_is = by-distances (qx - x) (x - px) px qx x (omega arith) (omega arith);
      y_is = cross-distances (qx - x) (x - px) px py qx qy x y (omega arith) (omega arith) l.cross;
    }

sideways : {px py qx qy x y : ℕ} → Lies px py qx qy x y → px ≢ qx → Mean px py qx qy x y
sideways {px} {qx} l n = elim (dec_lt px qx) [
  | yes h ↦ rightward l h
  | no h ↦ mean-turn (rightward (turn l) (omega arith))
]

weights : {px py qx qy x y : ℕ} → Lies px py qx qy x y → Mean px py qx qy x y
weights {px} {py} {qx} {qy} {x} {y} l = elim (ℕ_discrete px qx) [
  | no n ↦ sideways l n
  | yes ex ↦
      elim (ℕ_discrete py qy) [
        | no n ↦ mean-swap (sideways (swap l) n)
        | yes ey ↦ record { α = 1; β = 0; some = omega arith; x_is = omega arith; y_is = omega arith }
      ]
]

-- ---- and back

lies : {px py qx qy x y : ℕ} → Mean px py qx qy x y → Lies px py qx qy x y
lies {px} {py} {qx} {qy} {x} {y} m =
    record {
      cross =
          eq_of_mul-eq-mul_left (m.α + m.β) m.some _ _
          (omega (arith, ap (λ k. k * qx) m.y_is, ap (λ k. k * py) m.x_is, ap (λ k. k * qy) m.x_is, ap (λ k. k * px) m.y_is));
      x_least = low m.α m.β px qx x m.some m.x_is;
      x_most = high m.α m.β px qx x m.some m.x_is;
      y_least = low m.α m.β py qy y m.some m.y_is;
      y_most = high m.α m.β py qy y m.some m.y_is;
    }
  where
    low : (a b p q z : ℕ) → 0 < a + b → (a + b) * z ≡ a * p + b * q → min p q ≤ z
    low a b p q z h e =
        le_of_mul-le-mul_left {k = a + b}
        (omega (arith, mul-le-mul_left {m = min p q} {n = p} a (omega arith), mul-le-mul_left {m = min p q} {n = q} b (omega arith))) h

    high : (a b p q z : ℕ) → 0 < a + b → (a + b) * z ≡ a * p + b * q → z ≤ max p q
    high a b p q z h e =
        le_of_mul-le-mul_left {k = a + b}
        (omega (arith, mul-le-mul_left {m = p} {n = max p q} a (omega arith), mul-le-mul_left {m = q} {n = max p q} b (omega arith))) h

-- ---- points and weights

-- the cross product of signed differences, with the products multiplied out
cross-ℕ : (px py qx qy x y : ℕ) → (pos x -ℤ pos px) *ℤ (pos y -ℤ pos qy) -ℤ (pos y -ℤ pos py) *ℤ (pos x -ℤ pos qx) ≡ pos 0
    → px * qy + qx * y + py * x ≡ py * qx + qy * x + px * y
cross-ℕ px py qx qy x y e = omega (arith, toℕ e (search ints depth 9))

cross-ℤ : (px py qx qy x y : ℕ) → px * qy + qx * y + py * x ≡ py * qx + qy * x + px * y
    → (pos x -ℤ pos px) *ℤ (pos y -ℤ pos qy) -ℤ (pos y -ℤ pos py) *ℤ (pos x -ℤ pos qx) ≡ pos 0
cross-ℤ px py qx qy x y e = viaℕ (search ints depth 9) (omega arith)

plain : {m n : ℕ} {z : ℤ} → Between m n z → z ≡ pos (nat_abs z)
plain {z = pos z} b = refl
plain {z = negsuc z} b = absurd b.least.le

-- z has the weights α and β on the segment from p to q
pub record Weights (z : Point) (p q : Position) : Type 0 where
  pub is_plain : Plain z
  pub α : ℕ
  pub β : ℕ
  pub some : 0 < α + β
  pub is_mean : Proportional (coordinates z) (weighted α β p q)

-- said of the ends multiplied out
abbrev Multiplied : (ℕ → ℕ → ℕ → ℕ → ℕ → ℕ → Type 0) → Point → Position → Position → Type 0
Multiplied R z p q = R (z.d * p.x) (z.d * p.y) (z.d * q.x) (z.d * q.y) (nat_abs z.x) (nat_abs z.y)

on→lies : {z : Point} {p q : Position} → On z p q → Multiplied Lies z p q
on→lies {z} {p} {q} o =
    let xp = plain o.x_between in
    let yp = plain o.y_between in
    let xb = rw xp at o.x_between in
    let yb = rw yp at o.y_between in
    record {
      cross = cross-ℕ (z.d * p.x) (z.d * p.y) (z.d * q.x) (z.d * q.y) _ _ (rw (xp, yp) at o.cross);
      x_least = omega arithℤ;
      x_most = omega arithℤ;
      y_least = omega arithℤ;
      y_most = omega arithℤ;
    }

lies→on : {z : Point} {p q : Position} → Plain z → Multiplied Lies z p q → On z p q
lies→on {z} {p} {q} f l =
    record {
      cross =
          rw (f.x_plain, f.y_plain)
          (cross-ℤ (z.d * p.x) (z.d * p.y) (z.d * q.x) (z.d * q.y) _ _ l.cross);
      x_between = rw f.x_plain (record { least = omega arithℤ; most = omega arithℤ });
      y_between = rw f.y_plain (record { least = omega arithℤ; most = omega arithℤ });
    }

pub on→weights : {z : Point} {p q : Position} → On z p q → Weights z p q
on→weights {z} {p} {q} o =
    let m = weights (on→lies o) in
    record {
      is_plain = record { x_plain = plain o.x_between; y_plain = plain o.y_between };
      α = m.α;
      β = m.β;
      some = m.some;
      is_mean = record { x_is = omega arith; y_is = omega arith };
    }

pub weights→on : {z : Point} {p q : Position} → Weights z p q → On z p q
weights→on {z} {p} {q} w =
    lies→on w.is_plain
    (lies (record { α = w.α; β = w.β; some = w.some; x_is = omega arith; y_is = omega arith }))

-- the two equations, along an edge and across it
module _ (e : Edge) {z : Point} {p q : Position} (w : Weights z p q) where
  pub along-mean : along_of e (coordinates z) * (w.α + w.β) ≡ (w.α * along e p + w.β * along e q) * z.d
  along-mean = along-is e w.is_mean ∙ ap (λ n. n * z.d) (along-weighted e w.α w.β p q)

  pub across-mean : across_of e (coordinates z) * (w.α + w.β) ≡ (w.α * across e p + w.β * across e q) * z.d
  across-mean = across-is e w.is_mean ∙ ap (λ n. n * z.d) (across-weighted e w.α w.β p q)

-- the mean itself, and the segment turned round
pub weighted→on : (α β : ℕ) (p q : Position) (n : 0 < α + β) → On (point_at (weighted α β p q) n) p q
weighted→on α β p q n =
    weights→on (record {
      is_plain = record { x_plain = refl; y_plain = refl };
      α = α;
      β = β;
      some = n;
      is_mean = record { x_is = refl; y_is = refl };
    })

abbrev pub weights-turn : {z : Point} {p q : Position} → Weights z p q → Weights z q p
weights-turn w =
    record {
      is_plain = w.is_plain;
      α = w.β;
      β = w.α;
      some = omega arith;
      is_mean = record { x_is = omega arith; y_is = omega arith };
    }

pub on-turn : {z : Point} {p q : Position} → On z p q → On z q p
on-turn o = weights→on (weights-turn (on→weights o))

-- with no weight at the second end it is the first
pub at-first-end : {z : Point} {p q : Position} (w : Weights z p q) → w.β ≡ 0 → Proportional (coordinates z) (coordinates (point p))
at-first-end {z} {p} {q} w n =
    record {
      x_is = alone (nat_abs z.x) p.x q.x w.is_mean.x_is;
      y_is = alone (nat_abs z.y) p.y q.y w.is_mean.y_is;
    }
  where
    alone : (x a b : ℕ) → x * (w.α + w.β) ≡ (w.α * a + w.β * b) * z.d → x * 1 ≡ a * z.d
    alone x a b e =
        eq_of_mul-eq-mul_left w.α (omega (arith, w.some)) _ _
        (omega (arith, ap (λ m. x * m) n, ap (λ m. m * (b * z.d)) n))
