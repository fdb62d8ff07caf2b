-- Words: a one moved up, and the lowest bit that is set.
use mathlib.Core.Path.{◌≡◌, refl, ap, sym, ◌∙◌}
use mathlib.Core.Logic.{◌≢◌}
use mathlib.Core.Bool.{Bool, true, false, true≢false, cond}
use Prim.Native.Nat.{ℕ, zero, suc, ◌+◌, ◌-◌, ◌*◌, ◌/◌, ◌%◌, ◌^◌, ◌≤◌, ◌<◌}
use native.Mathlib.Decide.{dec_lt, ℕ_discrete}
use native.Mathlib.Nat.{mod-lt, pow-suc, div-lt_iff_lt-mul, mul_assoc}
use native.Mathlib.Numerals.{add-one}
use native.Mathlib.Omega.{arith}
use lib.Count.{count_trailing_zeros, under}
use lib.Pow.{shl_exact, pow-add, pow_pos}
use Rattle.arith.proofs.Booleans.{both-sides}
use Rattle.arith.specs.Ranges.{least, least_from}
use Rattle.arith.proofs.Ranges.{least-is, least_from-is, least_from-none, least_from-holds, least_from-below, least_from-same}
use Rattle.grid.specs.Layer.{bit}
use Rattle.grid.proofs.Bits.{bit-shift, bit-zero, bit-first, bit-later, bit-end}

pub one_shifted : (s : ℕ) → s < 64 → 1 * 2 ^ s % 18446744073709551616 ≡ 2 ^ s
one_shifted s l = shl_exact 1 s 64 (omega arith) (omega arith) ∙ omega arith

-- the lowest bit that is set
least_from-shift : (f : ℕ → Bool) (i n : ℕ) → least_from f (suc i) n ≡ suc (least_from (λ k. f (suc k)) i n)
unfolding least_from
least_from-shift f i zero = refl
least_from-shift f i (suc n) = both-sides (f (suc i)) (λ t. rw t) (λ e. rw e (least_from-shift f (suc i) n))

pub trailing-least : (k x : ℕ) → count_trailing_zeros k x ≡ least (bit x) k
unfolding count_trailing_zeros least_from
trailing-least zero x = refl
trailing-least (suc k) x = go (x % 2) refl (mod-lt x (omega arith)) (trailing-least k (x / 2))
  where
    later : least_from (bit x) 1 k ≡ suc (least (bit (x / 2)) k)
    later = least_from-shift (bit x) 0 k ∙ ap suc (least_from-same (λ j. bit x (suc j)) (bit (x / 2)) 0 k (bit-later x))

    go : (m : ℕ) → x % 2 ≡ m → m < 2 → count_trailing_zeros k (x / 2) ≡ least (bit (x / 2)) k
        → under m (count_trailing_zeros k (x / 2)) ≡ cond (bit x 0) 0 (least_from (bit x) 1 k)
    go zero e l i = rw (bit-first x, e) (ap suc i ∙ sym later)
    go (suc zero) e l i = rw (bit-first x, e)
    go (suc (suc m)) e l i = absurd (omega arith)

-- a word that is not 0 has one
pub some-bit : (k x : ℕ) → x < 2 ^ k → x ≢ 0 → least (bit x) k < k
unfolding least_from
some-bit zero x l n = absurd (n (omega arith))
some-bit (suc k) x l n = both-sides (bit x 0)
    (λ t. rw t (omega arith))
    (λ e.
    rw e (let below = some-bit k (x / 2) (half l) (odd e) in
    omega (arith, least_from-shift (bit x) 0 k, least_from-same (λ j. bit x (suc j)) (bit (x / 2)) 0 k (bit-later x))))
  where
    half : x < 2 ^ suc k → x / 2 < 2 ^ k
    half l = let p = pow-suc 2 k in omega arith

    odd : bit x 0 ≡ false → x / 2 ≢ 0
    odd e z = elim (ℕ_discrete (x % 2) 1) [
      | yes o ↦ true≢false (sym (bit-first x ∙ rw o) ∙ e)
      | no o ↦ n (let r : x % 2 < 2 = mod-lt x (omega arith) in omega arith)
    ]

-- the lowest of a word of n bits is one of them, and what is above it has fewer
module _ (n x z : ℕ) (few : n ≤ 64) (l : x < 2 ^ n) (some : x ≢ 0) (e : z ≡ least (bit x) 64) where
  pub lowest-in : z < n
  lowest-in =
      let below = some-bit n x l some in
      let same = least-is (bit x) 64 (least (bit x) n) (omega (arith, below)) (least_from-holds (bit x) 0 n (omega (arith, below)))
      (λ j h. least_from-below (bit x) 0 n j (omega arith) h) in
      omega (arith, below, same)

  pub above-fewer : x / 2 ^ z / 2 < 2 ^ (n - (z + 1))
  above-fewer =
      let m : ℕ = n - (z + 1) in
      let parts : m + (z + 1) ≡ n = omega (arith, lowest-in) in
      let whole : 2 ^ n ≡ 2 ^ m * 2 ^ (z + 1) = sym (ap (λ (k : ℕ). 2 ^ k) parts) ∙ pow-add 2 m (z + 1) in
      let double : 2 * 2 ^ z ≡ 2 ^ (z + 1) = rw add-one (omega (arith, pow-suc 2 z)) in
      let all : 2 ^ m * 2 * 2 ^ z ≡ 2 ^ n = mul_assoc (2 ^ m) 2 (2 ^ z) ∙ ap (λ (k : ℕ). 2 ^ m * k) double ∙ sym whole in
      let q : x / 2 ^ z < 2 ^ m * 2 = (div-lt_iff_lt-mul (pow_pos z)).1 (rw all l) in
      omega (arith, q)

-- the lowest from bit s on, found in the word moved down by s
pub lowest-none : (x s : ℕ) → s < 64 → x / 2 ^ s ≡ 0 → 64 ≡ least_from (bit x) s (64 - s)
lowest-none x s l e =
    sym (least_from-none (bit x) s (64 - s) (λ j a b.
    let q : s + (j - s) ≡ j = omega arith in
    sym (ap (bit x) q) ∙ sym (bit-shift x s (j - s)) ∙ ap (λ (y : ℕ). bit y (j - s)) e ∙ bit-zero (j - s)) ∙ omega arith)

module _ (x s z : ℕ) (l : x < 2 ^ 64) (e : z ≡ least (bit (x / 2 ^ s)) 64) (h : z < 64) where
  lowest-set : bit x (s + z) ≡ true
  lowest-set = sym (bit-shift x s z) ∙ rw (sym e) at (least_from-holds (bit (x / 2 ^ s)) 0 64 (omega (arith, e)))

  pub lowest-within : s + z < 64
  lowest-within = elim (dec_lt (s + z) 64) [
    | yes y ↦ y
    | no g ↦ absurd (true≢false (sym lowest-set ∙ bit-end 64 x (s + z) l (omega arith)))
  ]

  pub lowest-some : s + z ≡ least_from (bit x) s (64 - s)
  lowest-some =
      sym (least_from-is (bit x) s (64 - s) (s + z) (omega arith) (omega (arith, lowest-within)) lowest-set (λ j a b.
      let q : s + (j - s) ≡ j = omega arith in
      sym (ap (bit x) q) ∙ sym (bit-shift x s (j - s))
      ∙ least_from-below (bit (x / 2 ^ s)) 0 64 (j - s) (omega arith) (omega (arith, e))))
