-- The test `slides_within` says that the point where the chord meets the edge's line, with whichever X, Y and D, lies at most t from the
-- vertex at offset o.
use mathlib.Core.Path.{◌≡◌, sym, ◌∙◌, ap}
use mathlib.Core.Logic.{◌↔◌}
use mathlib.Core.Bool.{Bool, true, false}
use Prim.Native.Nat.{ℕ, ◌+◌, ◌*◌, ◌≤◌, ◌<◌}
use native.Mathlib.Nat.{mul_comm, le_of_mul-le-mul_right, mul-le-mul_right}
use native.Mathlib.Omega.{arith}
use borrow.Author.Tests.{leb-true, le-leb}
use lib.IntN.{ℤ, pos, neg_ℤ, nat_abs, ◌-ℤ◌}
use Rattle.arith.proofs.Integers.{add_parts, neg-parts, nat_abs-parts}
use Rattle.grid.specs.declared.edge.Edge.{Edge}
use Rattle.chord.specs.Points.{Position, Point, On, slide, SlidesWithin}
use Rattle.chord.specs.Crossing.{base, line, distance, parted, meeting, total, slides_within}
use Rattle.chord.proofs.Homogeneous.{along_of, across_of, along-is, coordinates, Plain}
use Rattle.chord.proofs.Weights.{on→weights}
use Rattle.chord.proofs.EdgePoints.{edge}
use Rattle.chord.proofs.Meetings.{crossing-along, crossing-only, total-some}

nat_abs-difference : (a b : ℕ) → nat_abs (pos a -ℤ pos b) ≡ distance a b
nat_abs-difference a b =
    omega (arith, nat_abs-parts (pos a -ℤ pos b), add_parts (pos a) (neg_ℤ (pos b)), neg-parts (pos b))

-- if the fraction n / s lies at most t from b, so does x / d, which is the same
rescaled : (n s x d b t : ℕ) → x * s ≡ n * d → 0 < s → distance n (b * s) ≤ t * s → distance x (b * d) ≤ t * d
rescaled n s x d b t e k h =
    let u : x ≤ (b + t) * d = le_of_mul-le-mul_right {k = s} (omega (arith, mul-le-mul_right {n = (b + t) * s} d most)) k in
    let v : b * d ≤ x + t * d = le_of_mul-le-mul_right {k = s} (omega (arith, mul-le-mul_right {m = b * s} d least)) k in
    omega arith
  where
    most : n ≤ (b + t) * s
    most = omega arith

    least : b * s ≤ n + t * s
    least = omega arith

slide_is : {z : Point} → Plain z → (e : Edge) (o : ℕ)
    → nat_abs (slide z e o) ≡ distance (along_of e (coordinates z)) ((base e + o) * z.d)
slide_is {z} f e o = by e.vertical
  where
    kind : Bool → Edge
    kind v = edge v e.column e.row

    from : (x : ℤ) (m : ℕ) → x ≡ pos (nat_abs x) → nat_abs (x -ℤ pos (z.d * m)) ≡ distance (nat_abs x) (m * z.d)
    from x m e =
        ap (λ (n : ℤ). nat_abs (n -ℤ pos (z.d * m))) e ∙ nat_abs-difference (nat_abs x) (z.d * m)
        ∙ ap (distance (nat_abs x)) (mul_comm z.d m)

    by : (v : Bool) → nat_abs (slide z (kind v) o) ≡ distance (along_of (kind v) (coordinates z)) ((base (kind v) + o) * z.d)
    by true = from z.y (256 * e.row + o) f.y_plain
    by false = from z.x (256 * e.column + o) f.x_plain

pub slides : (p q : Position) (e : Edge) → parted p q e ≡ true → {z : Point} → On z p q → across_of e (coordinates z) ≡ line e * z.d
    → (t o : ℕ) → (slides_within t p q e o ≡ true) ↔ SlidesWithin t z e o
unfolding slides_within
slides p q e apart {z} on c t o = (
  λ h. rw is (rescaled (meeting p q e) (total p q e) x z.d (base e + o) t at (total-some p q e apart) (leb-true _ _ h)),
  λ h. le-leb _ _ (rescaled x z.d (meeting p q e) (total p q e) (base e + o) t (sym at) z.above (rw is at h)),
)
  where
    x : ℕ
    x = along_of e (coordinates z)

    at : x * total p q e ≡ meeting p q e * z.d
    at = along-is e (crossing-only p q e apart on c) ∙ ap (λ n. n * z.d) (crossing-along p q e)

    is : nat_abs (slide z e o) ≡ distance x ((base e + o) * z.d)
    is = slide_is (on→weights on).is_plain e o
