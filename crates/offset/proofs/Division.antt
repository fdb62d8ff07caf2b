-- The steps of the code's signed arithmetic, on integers: the quotient with a remainder that is not negative, and one rounded to the nearest;
-- a fraction with a denominator above 0; casts. What fits a machine integer is read off by `Rattle.arith.proofs.Bounds`.
use mathlib.Core.Path.{◌≡◌, refl, sym, ap₂, subst, ◌∙◌}
use mathlib.Core.Bool.{Bool, true, false}
use Prim.Native.Nat.{ℕ, suc, ◌*◌, ◌/◌, ◌^◌, ◌≤◌, ◌<◌, min}
use native.Mathlib.Nat.{div-le_self, mul-le-mul}
use native.Mathlib.Omega.{arith}
use lib.Dec.{T}
use lib.IntN.{ℤ, pos, negsuc, nat_abs, ◌+ℤ◌, ◌-ℤ◌, ◌*ℤ◌}
use lib.Signed.{mag, non_neg, lt_z, ◌<ℤ◌}
use mir.Syntax.{w8, w64}
use mir.Val.{Fits, to_z, of_z, bool_byte}
use mir.Facts.{to_z-of_z}
use Rattle.std.specs.Int.{int_div_euclid, int_signum}
use Rattle.arith.proofs.Integers.{ints, at, viaℕ, arithℤ, lt_z-true, lt_z-false}
use Rattle.arith.specs.Nearest.{floor_div, nearest_to}
use Rattle.arith.proofs.Nearest.{nearest-floor}
use Rattle.arith.proofs.Bounds.{Bounded, ok, pure, exact, nat_abs-neg}
use Rattle.offset.specs.Offset.{middle, rounded, signed_by}

-- the machine's quotient with a remainder that is not negative, by a number above 0, is rounded down
pub euclid-floor : (t m : ℤ) → pos 0 <ℤ m → int_div_euclid t m ≡ floor_div t (nat_abs m)
unfolding floor_div
euclid-floor (pos a) (pos b) h = refl
euclid-floor (negsuc a) (pos b) h = refl
euclid-floor t (negsuc b) h = absurd h.lt

-- it is no larger than what is divided
pub euclid-size : (t m : ℤ) → nat_abs (int_div_euclid t m) ≤ nat_abs t
euclid-size (pos a) (pos b) = div-le_self a b
euclid-size (pos a) (negsuc b) = omega (arith, nat_abs-neg (pos (a / suc b)), div-le_self a (suc b))
euclid-size (negsuc a) (pos b) = omega (arith, div-le_self a b)
euclid-size (negsuc a) (negsuc b) = omega (arith, div-le_self a (suc b))

-- a machine term that is above 0
pub above-exact : {z : ℤ} (s : Bounded z) → T (ok s) → pos 0 <ℤ pure s → pos 0 <ℤ z
above-exact s t h = subst (λ (x : ℤ). pos 0 <ℤ x) (sym (exact s t)) h

-- a test as a number
pub one-most : (b : Bool) → bool_byte b ≤ 1
one-most true = omega arith
one-most false = omega arith

-- 2·n + d over 2·d, rounded down, and 1 less above where n / d lies above the middle: the nearest number to n / d, a half toward the middle
toward : (n : ℤ) (d : ℕ) → 0 < d → (b : Bool) → lt_z (middle *ℤ pos d) n ≡ b
    → floor_div (pos 2 *ℤ n +ℤ pos d -ℤ pos (bool_byte b)) (2 * d) ≡ nearest_to middle n d
toward n d h true e = nearest-floor middle n 1 h (omega arith) (λ z. absurd (omega arith)) (λ o. let above = lt_z-true (middle *ℤ pos d) n e in omega arithℤ)
toward n d h false e = nearest-floor middle n 0 h (omega arith) (λ z. let up_to = lt_z-false (middle *ℤ pos d) n e in omega arithℤ) (λ o. absurd (omega arith))

pub nearest-of : {x y : ℤ} (n d : ℤ) → pos 0 <ℤ d → x ≡ pos 2 *ℤ n +ℤ d -ℤ pos (bool_byte (lt_z (middle *ℤ d) n)) → y ≡ pos 2 *ℤ d
    → int_div_euclid x y ≡ nearest_to middle n (nat_abs d)
nearest-of n (pos d) h ex ey =
    let some : 0 < d = omega arithℤ in
    ap₂ int_div_euclid ex ey ∙ euclid-floor _ (pos (2 * d)) (omega arithℤ) ∙ toward n d some _ refl
nearest-of n (negsuc d) h ex ey = absurd h.lt

mul-pos : (k d : ℕ) → 0 < k → 0 < d → 0 < k * d
mul-pos k d h l = omega (arith, mul-le-mul h l)

-- a multiple of a number above 0
pub above-times : (k : ℕ) → 0 < k → (d : ℤ) → pos 0 <ℤ d → pos 0 <ℤ (pos k *ℤ d)
above-times k l (pos d) h = let some = mul-pos k d l (omega arithℤ) in omega arithℤ
above-times k l (negsuc d) h = absurd h.lt

-- ---- the fraction that is rounded, its denominator above 0

-- the sign of the denominator, by which the numerator over its size is multiplied
pub sign-most : (d : ℤ) → nat_abs (int_signum d) ≤ 1
sign-most (pos d) = omega arith
sign-most (negsuc d) = omega arith

pub upon-sign : (n d : ℤ) → 0 < nat_abs d → n *ℤ int_signum d ≡ signed_by n d
upon-sign n (pos d) h = let one : min d 1 ≡ 1 = omega arith in rw one (viaℕ (search (ints, at n)) (omega arith))
upon-sign n (negsuc d) h = viaℕ (search (ints, at n)) (omega arith)

-- (5·d·old + 2·n) / (5·d)
pub rounded-of : {x y : ℤ} (old : ℕ) (n d : ℤ) → pos 0 <ℤ d → x ≡ pos 5 *ℤ d *ℤ pos old +ℤ pos 2 *ℤ n → y ≡ pos 5 *ℤ d
    → nearest_to middle x (nat_abs y) ≡ rounded old n (nat_abs d)
unfolding rounded
rounded-of old n (pos d) h ex ey = ap₂ (λ (t : ℤ) (m : ℤ). nearest_to middle t (nat_abs m)) ex ey
rounded-of old n (negsuc d) h ex ey = absurd h.lt

-- ---- what the machine returns, and a cast to a byte

pub read-back : (z : ℤ) → mag z < 2 ^ 63 → to_z w64 (of_z w64 z) ≡ z
read-back z h = to_z-of_z {w = w64} (record { sfits = h })

pub byte_fits : {z : ℤ} (n : ℕ) → z ≡ pos n → n ≤ 255 → T (non_neg z) × Fits w8 (nat_abs z)
byte_fits n e h = rw e (tt, record { fits = omega arith })
