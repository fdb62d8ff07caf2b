-- What v is: the one point that the segment between the neighbours and the closed stick share, on the 1/256 grid or off it, if the neighbours
-- lie on different sides of the stick's line.
use mathlib.Core.Path.{◌≡◌, refl, ◌∙◌, ap, ap₂}
use mathlib.Core.Logic.{inl, inr}
use mathlib.Core.Bool.{Bool, true, false}
use Prim.Native.Nat.{ℕ, suc, ◌+◌, ◌*◌, ◌-◌, ◌≤◌, ◌<◌}
use native.Mathlib.Nat.{mul-le-mul_left, mul_comm}
use native.Mathlib.Omega.{arith}
use lib.IntN.{ℤ, pos, negsuc, neg_ℤ, nat_abs, ◌+ℤ◌, ◌-ℤ◌, ◌*ℤ◌}
use Rattle.arith.proofs.Integers.{ints, at, viaℕ, toℕ}
use Rattle.grid.specs.declared.edge.Edge.{Edge}
use Rattle.chord.specs.Points.{Position, Point, Meets, slide}
use Rattle.chord.specs.Crossing.{along, across, base, line, off, meeting, total}
use Rattle.chord.proofs.Homogeneous.{along_of, along-is, coordinates, Plain, point_at}
use Rattle.chord.proofs.Weights.{on→weights, weighted→on}
use Rattle.chord.proofs.EdgePoints.{edge, on→closed, closed→on}
use Rattle.chord.proofs.Meetings.{crossing, sides→parted, crossing-across, crossing-along, crossing-only, total-some}
use Rattle.offset.specs.Offset.{spread, shift, signed_by, Astride, Around}

-- Spread and shift as natural numbers: the neighbours' coordinates are u and w along, a and b across; the line lies at l, the stick
-- begins at o, the old offset is k. With the neighbours β and α off the line, the size of the spread is α + β, and the shift over it is the
-- difference of the mean (α·u + β·w) / (α + β) from o + k
abbrev Means : (u w a b l o k α β : ℕ) → Type 0
Means u w a b l o k α β =
    (nat_abs (pos b -ℤ pos a) ≡ α + β)
    × (pos ((o + k) * (α + β)) +ℤ signed_by ((pos u -ℤ pos o -ℤ pos k) *ℤ (pos b -ℤ pos a) +ℤ (pos w -ℤ pos u) *ℤ (pos l -ℤ pos a)) (pos b -ℤ pos a)
    ≡ pos (α * u + β * w))

minus_pos : (a b c : ℕ) → b ≡ a + c → pos b -ℤ pos a ≡ pos c
minus_pos a b c e = viaℕ (search ints) (omega arith)

minus-neg : (a b c : ℕ) → a ≡ b + suc c → pos b -ℤ pos a ≡ negsuc c
minus-neg a b c e = viaℕ (search ints) (omega arith)

upon-pos : (n d : ℤ) (c : ℕ) → d ≡ pos c → signed_by n d ≡ n
upon-pos n d c e = ap (signed_by n) e

upon-neg : (n d : ℤ) (c : ℕ) → d ≡ negsuc c → signed_by n d ≡ neg_ℤ n
upon-neg n d c e = ap (signed_by n) e

rising : (u w a b l o k α β : ℕ) → l ≡ a + β → b ≡ a + β + α → Means u w a b l o k α β
rising u w a b l o k α β el eb =
    let d : pos b -ℤ pos a ≡ pos (α + β) = minus_pos a b (α + β) (omega arith) in
    (ap nat_abs d, rw (upon-pos _ _ (α + β) d) (rw (el, eb) (viaℕ (search ints depth 9) (omega arith))))

falling : (u w a b l o k α β : ℕ) → 0 < α → l ≡ b + α → a ≡ b + α + β → Means u w a b l o k α β
falling u w a b l o k α β n el ea =
    let d : pos b -ℤ pos a ≡ negsuc (α + β - 1) = minus-neg a b (α + β - 1) (omega arith) in
    let l·u = ap (λ m. m * u) el in
    let l·w = ap (λ m. m * w) el in
    let a·u = ap (λ m. m * u) ea in
    let a·w = ap (λ m. m * w) ea in
    let a·o = ap (λ m. m * o) ea in
    let a·k = ap (λ m. m * k) ea in
    (ap nat_abs d ∙ omega arith, rw (upon-neg _ _ (α + β - 1) d) (viaℕ (search ints depth 9) (omega arith)))

-- the signed difference of a point along an edge, from its coordinate there
slide_is : {z : Point} → Plain z → (e : Edge) (o : ℕ) → slide z e o ≡ pos (along_of e (coordinates z)) -ℤ pos ((base e + o) * z.d)
slide_is {z} f e o = by e.vertical
  where
    by : (v : Bool) → slide z (edge v e.column e.row) o ≡ pos (along_of (edge v e.column e.row) (coordinates z)) -ℤ pos ((base (edge v e.column e.row) + o) * z.d)
    by true = ap₂ (λ x m. x -ℤ pos m) f.y_plain (mul_comm z.d (256 * e.row + o))
    by false = ap₂ (λ x m. x -ℤ pos m) f.x_plain (mul_comm z.d (256 * e.column + o))

-- x / d is m / t, so x / d - b is n / t if m is b·t + n
fraction : (x b d t m : ℕ) (n : ℤ) → x * t ≡ m * d → pos (b * t) +ℤ n ≡ pos m → (pos x -ℤ pos (b * d)) *ℤ pos t ≡ n *ℤ pos d
fraction x b d t m n e f =
    viaℕ (search (ints, at n) depth 9) (omega (arith, ap (λ (k : ℕ). k * d) (toℕ f (search (ints, at n)))))

module _ (p q : Position) (e : Edge) (old : ℕ) where
  means : Astride p q e → Means (along e p) (along e q) (across e p) (across e q) (line e) (base e) old (off e q) (off e p)
  unfolding off
  means (inl s) = rising (along e p) (along e q) (across e p) (across e q) (line e) (base e) old (off e q) (off e p) (omega arith) (omega arith)
  means (inr s) = falling (along e p) (along e q) (across e p) (across e q) (line e) (base e) old (off e q) (off e p) (omega arith) (omega arith) (omega arith)

  -- the segment meets the line at meeting / total, so v - old is meeting / total - (base + old)
  pub spread-is : Astride p q e → nat_abs (spread p q e) ≡ total p q e
  spread-is s = (means s).0

  pub shift_is : Astride p q e → pos ((base e + old) * total p q e) +ℤ signed_by (shift p q e old) (spread p q e) ≡ pos (meeting p q e)
  shift_is s = (means s).1

  -- v lies in 0 to 256 if both neighbours lie within the stick's length along the line
  pub meeting-inside : Around p q e old → (base e * total p q e ≤ meeting p q e) × (meeting p q e ≤ (base e + 256) * total p q e)
  meeting-inside a = (
    omega (arith, mul-le-mul_left (off e q) a.p_from, mul-le-mul_left (off e p) a.q_from),
    omega (arith, mul-le-mul_left (off e q) a.p_to, mul-le-mul_left (off e p) a.q_to),
  )

  -- "The segment between the neighbours meets the closed stick at v": there is such a point,
  pub meets : Around p q e old → (z : Point) × Meets z p q e
  meets around =
      let t = sides→parted p q e around.apart in
      let inside = meeting-inside around in
      let n = total-some p q e t in
      let a = crossing-along p q e in
      let z : Point = point_at (crossing p q e) n in (
        z,
        record {
          on_first = weighted→on (off e q) (off e p) p q n;
          on_second =
              closed→on e (record { x_plain = refl; y_plain = refl })
              (record { on_line = crossing-across p q e t; from = omega arith; to = omega arith });
        },
      )

  -- and at every such point the difference along the stick from the old offset, v - old, is the fraction that is rounded
  pub meets_at : Astride p q e → (z : Point) → Meets z p q e
      → slide z e old *ℤ pos (nat_abs (spread p q e)) ≡ signed_by (shift p q e old) (spread p q e) *ℤ pos z.d
  meets_at s z m =
      let t = sides→parted p q e s in
      let c = on→closed e m.on_second in
      let x = along_of e (coordinates z) in
      let at-z : x * total p q e ≡ meeting p q e * z.d =
      along-is e (crossing-only p q e t m.on_first c.on_line) ∙ ap (λ n. n * z.d) (crossing-along p q e) in
      ap₂ (λ a b. a *ℤ pos b) (slide_is (on→weights m.on_first).is_plain e old) (spread-is s)
      ∙ fraction x (base e + old) z.d (total p q e) (meeting p q e) (signed_by (shift p q e old) (spread p q e)) at-z (shift_is s)
