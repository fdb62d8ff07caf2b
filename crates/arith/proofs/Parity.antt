-- Numbers of which an odd multiple is even: they are even themselves. So a multiple by 2·i + 1 can be halved together with the number, and both
-- laws here go down the powers of two.
use mathlib.Core.Path.{◌≡◌, ap}
use Prim.Native.Nat.{ℕ, zero, suc, ◌+◌, ◌*◌, ◌/◌, ◌^◌, ◌<◌}
use native.Mathlib.Nat.{two-pow-succ}
use native.Mathlib.Omega.{arith}

-- where an odd multiple of d is a multiple of a power of two, so is d
pub odd-divides : (k c d i : ℕ) → 2 ^ k * c ≡ d * (2 * i + 1) → (n : ℕ) × (d ≡ 2 ^ k * n)
odd-divides zero c d i e = (d, omega arith)
odd-divides (suc k) c d i e =
    let twice = ap (λ (p : ℕ). p * c) (two-pow-succ k) in
    let even : d ≡ 2 * (d / 2) = omega arith in
    let half = odd-divides k c (d / 2) i (omega (arith, ap (λ (n : ℕ). n * i) even)) in
    (half.0, omega (arith, half.1, ap (λ (p : ℕ). p * half.0) (two-pow-succ k)))

-- no odd multiple of 2^k + b, for a b above 0 and below 2^k, is four times b·x + 2^k·y
pub odd-never : (k b x y i : ℕ) → 0 < b → b < 2 ^ k → 4 * (b * x + 2 ^ k * y) ≡ (2 ^ k + b) * (2 * i + 1) → ⊥
odd-never zero b x y i l h e = omega arith
odd-never (suc k) b x y i l h e =
    let twice = two-pow-succ k in
    let twice-y = ap (λ (p : ℕ). p * y) twice in
    let twice-i = ap (λ (p : ℕ). p * i) twice in
    let even : b ≡ 2 * (b / 2) = omega arith in
    odd-never k (b / 2) x y i (omega arith) (omega arith)
    (omega (arith, ap (λ (n : ℕ). n * x) even, ap (λ (n : ℕ). n * i) even))
