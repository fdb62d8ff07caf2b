-- "whole 1/256ths divided by 256", without rounding loss: a number of at most 262,144 is a float, and so is its quotient by 256.
use mathlib.Core.Path.{◌≡◌, refl, sym, ap}
use mathlib.Core.Bool.{true, false, true≢false}
use Prim.Native.Nat.{ℕ, ◌+◌, ◌*◌, ◌^◌, ◌≤◌, ◌<◌}
use native.Mathlib.Nat.{mul-one, eq_of_mul-eq-mul_right, lt_of_lt_of_le}
use native.Mathlib.Omega.{arith}
use lib.Dec.{T, le→leb}
use lib.IntN.{ℤ, pos}
use lib.Pow.{shl_lt, pow_mono}
use lib.Ieee.{Float, nan, inf, fin, binary64, of_int, div, round, fits, in_float, up, down, of_bits}
use lib.Ieee.Exact.{HasValue, round_exact}
use lib.Ieee.Fits.{div-fits, down_pos}
use Rattle.item.specs.Items.{in_samples}

-- the cast loses nothing
pub in-float : (n : ℕ) → n ≤ 262144 → T (in_float binary64 (pos n))
unfolding in_float
in-float n h = le→leb n (2 ^ 53) (omega arith)

-- so few digits, moved up so far, stay below the infinities
below : (n j : ℕ) → n ≤ 262144 → 19 + j ≤ 2098 → n * 2 ^ j < 2 ^ 2098
below n j h l = lt_of_lt_of_le (shl_lt 19 j (omega arith)) (pow_mono l)

whole-exact : (n : ℕ) → n ≤ 262144 → HasValue (of_int binary64 (pos n)) false n 1
unfolding of_int
whole-exact n h =
    round_exact binary64 false n 1 n 1074 (omega arith) (omega arith) (below n 1074 h (omega arith)) (sym (mul-one (n * 2 ^ 1074)))

unit : of_int binary64 (pos 256) ≡ fin false 1 (pos 8)
unfolding of_int
unit = refl

-- 256.0 in the code is the number 256
pub unit-bits : of_bits binary64 0x4070_0000_0000_0000 ≡ of_int binary64 (pos 256)
unfolding of_int of_bits
unit-bits = refl

scaled : (a n d p q : ℕ) → a ≡ n * d → p ≡ q * 256 → a * p ≡ n * q * (256 * d)
scaled a n d p q e f = rw (e, f) (omega arith)

-- n × d / (256 × d) is n / 256
lowered : (x : Float) (a d n : ℕ) → 0 < d → a ≡ n * d → HasValue x false a (256 * d) → HasValue x false n 256
lowered nan a d n p e v = absurd v
lowered (inf t) a d n p e v = absurd v
lowered (fin t m k) a d n p e v = (
  v.0,
  eq_of_mul-eq-mul_right d p (m * up k * 256) (n * down k) (omega (arith, v.1, ap (λ (z : ℕ). z * down k) e)),
)

quotient-exact : (x : Float) (n : ℕ) → n ≤ 262144 → HasValue x false n 1 → HasValue (div binary64 x (fin false 1 (pos 8))) false n 256
quotient-exact nan n h v = absurd v
quotient-exact (inf s) n h v = absurd v
quotient-exact (fin true m e) n h v = absurd (true≢false v.0)
quotient-exact (fin false m e) n h v =
    let a : ℕ = m * up e * 1 in
    let d : ℕ = down e in
    unfold div in
    lowered (round binary64 false a (256 * d)) a d n (down_pos e) v.1
    (round_exact binary64 false a (256 * d) n 1066 (omega (arith, down_pos e)) (omega arith) (below n 1066 h (omega arith))
    (scaled a n d (2 ^ 1074) (2 ^ 1066) v.1 refl))

-- the quotient is the fraction n / 256 itself, and the format holds it
pub in-samples-exact : (n : ℕ) → n ≤ 262144
    → (m : ℕ) × (e : ℤ) × (in_samples n ≡ fin false m e) × (m * up e * 256 ≡ n * down e) × T (fits binary64 (in_samples n))
unfolding in_samples
in-samples-exact n h =
    go (in_samples n) refl
    (rw unit (quotient-exact (of_int binary64 (pos n)) n h (whole-exact n h)))
  where
    go : (x : Float) → in_samples n ≡ x → HasValue x false n 256
        → (m : ℕ) × (e : ℤ) × (in_samples n ≡ fin false m e) × (m * up e * 256 ≡ n * down e) × T (fits binary64 (in_samples n))
    go nan i v = absurd v
    go (inf s) i v = absurd v
    go (fin true m e) i v = absurd (true≢false v.0)
    go (fin false m e) i v = (m, e, i, v.1, div-fits binary64 (of_int binary64 (pos n)) (of_int binary64 (pos 256)))
