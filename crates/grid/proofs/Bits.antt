-- The bits of a number: of an exclusive or, of a union, of a power of two, of the number moved down; and how many are ones.
use mathlib.Core.Path.{◌≡◌, refl, ap, ap₂, sym, ◌∙◌}
use mathlib.Core.Logic.{◌≢◌}
use mathlib.Core.Bool.{true, false, xor, ◌||◌}
use Prim.Native.Nat.{ℕ, zero, suc, ◌+◌, ◌-◌, ◌*◌, ◌/◌, ◌%◌, ◌^◌, ◌≤◌, ◌<◌}
use native.Mathlib.Decide.{dec_lt}
use native.Mathlib.Nat.{add-zero, zero-add, add_assoc, div-one, mod-lt, div-eq_of_lt, pow-suc, zero-div}
use native.Mathlib.Numerals.{add-one}
use native.Mathlib.Omega.{arith}
use lib.Bits.{bit_or, bit_xor, or_shr, or_mod, xor_shr, xor_mod}
use lib.Count.{ones, ones_step}
use lib.Dec.{eqb}
use lib.Pow.{shr-shr, shl-shr, pow-add, pow-lt}
use Rattle.arith.specs.Booleans.{as_number}
use Rattle.arith.specs.Ranges.{count}
use Rattle.grid.specs.Layer.{bit}

-- one bit of an exclusive or
small-xor : (a b : ℕ) → a < 2 → b < 2 → eqb (bit_xor a b) 1 ≡ xor (eqb a 1) (eqb b 1)
unfolding xor
small-xor zero zero ha hb = refl
small-xor zero (suc zero) ha hb = refl
small-xor (suc zero) zero ha hb = refl
small-xor (suc zero) (suc zero) ha hb = refl
small-xor zero (suc (suc b)) ha hb = absurd (omega arith)
small-xor (suc zero) (suc (suc b)) ha hb = absurd (omega arith)
small-xor (suc (suc a)) b ha hb = absurd (omega arith)

pub bit-xor : (x y b : ℕ) → bit (bit_xor x y) b ≡ xor (bit x b) (bit y b)
unfolding bit
bit-xor x y b =
    ap (λ (n : ℕ). eqb (n % 2) 1) (xor_shr x y b)
    ∙ ap (λ (n : ℕ). eqb n 1) (xor_mod (x / 2 ^ b) (y / 2 ^ b) 1)
    ∙ small-xor (x / 2 ^ b % 2) (y / 2 ^ b % 2) (mod-lt (x / 2 ^ b) (omega arith)) (mod-lt (y / 2 ^ b) (omega arith))

-- the bits past a number's end are 0
pub bit_past : (x j b : ℕ) → x / 2 ^ j ≡ 0 → j ≤ b → bit x b ≡ false
unfolding bit
bit_past x j b e h =
    let zero : x / 2 ^ b ≡ 0 =
    ap (λ (n : ℕ). x / 2 ^ n) (sym (add_back h)) ∙ sym (shr-shr x j (b - j)) ∙ ap (λ (n : ℕ). n / 2 ^ (b - j)) e ∙ zero-div (2 ^ (b - j)) in
    rw zero
  where
    add_back : j ≤ b → j + (b - j) ≡ b
    add_back h = omega arith

-- one bit of a union
small-or : (a b : ℕ) → a < 2 → b < 2 → eqb (bit_or a b) 1 ≡ (eqb a 1 || eqb b 1)
small-or zero zero ha hb = refl
small-or zero (suc zero) ha hb = refl
small-or (suc zero) zero ha hb = refl
small-or (suc zero) (suc zero) ha hb = refl
small-or zero (suc (suc b)) ha hb = absurd (omega arith)
small-or (suc zero) (suc (suc b)) ha hb = absurd (omega arith)
small-or (suc (suc a)) b ha hb = absurd (omega arith)

pub bit-or : (x y b : ℕ) → bit (bit_or x y) b ≡ (bit x b || bit y b)
unfolding bit
bit-or x y b =
    ap (λ (n : ℕ). eqb (n % 2) 1) (or_shr x y b)
    ∙ ap (λ (n : ℕ). eqb n 1) (or_mod (x / 2 ^ b) (y / 2 ^ b) 1)
    ∙ small-or (x / 2 ^ b % 2) (y / 2 ^ b % 2) (mod-lt (x / 2 ^ b) (omega arith)) (mod-lt (y / 2 ^ b) (omega arith))

-- the one bit of a power of two
pub bit-power : (s : ℕ) → bit (2 ^ s) s ≡ true
unfolding bit
bit-power s =
    let one : 1 * 2 ^ s ≡ 2 ^ s = omega arith in
    let e : 2 ^ s / 2 ^ s ≡ 1 = sym (ap (λ (n : ℕ). n / 2 ^ s) one) ∙ shl-shr 1 s in
    rw e

pub bit-power-other : (s b : ℕ) → b ≢ s → bit (2 ^ s) b ≡ false
unfolding bit
bit-power-other s b n = elim (dec_lt b s) [
  | yes l ↦
      let d : ℕ = s - b - 1 in
      let sum : suc d + b ≡ s = omega arith in
      let e : 2 ^ s / 2 ^ b ≡ 2 ^ d * 2 =
      ap (λ (m : ℕ). m / 2 ^ b) (sym (ap (λ (m : ℕ). 2 ^ m) sum) ∙ pow-add 2 (suc d) b) ∙ shl-shr (2 ^ suc d) b ∙ pow-suc 2 d in
      let even : 2 ^ d * 2 % 2 ≡ 0 = omega arith in
      rw (e, even)
  | no g ↦ rw (div-eq_of_lt (pow-lt {i = s} {j = b} (omega arith)))
]

-- a word moved down
pub bit-shift : (x s b : ℕ) → bit (x / 2 ^ s) b ≡ bit x (s + b)
unfolding bit
bit-shift x s b = rw (shr-shr x s b)

pub bit-zero : (b : ℕ) → bit 0 b ≡ false
unfolding bit
bit-zero b = rw (zero-div (2 ^ b))

pub bit-first : (x : ℕ) → bit x 0 ≡ eqb (x % 2) 1
unfolding bit
bit-first x = let e : x / 1 ≡ x = omega arith in ap (λ (n : ℕ). eqb (n % 2) 1) e

pub bit-later : (x b : ℕ) → bit x (suc b) ≡ bit (x / 2) b
bit-later x b = let e : suc b ≡ 1 + b = omega arith in ap (bit x) e ∙ sym (bit-shift x 1 b)

-- the bits past a word's end are 0
pub bit-end : (k x b : ℕ) → x < 2 ^ k → k ≤ b → bit x b ≡ false
bit-end k x b l h = bit_past x k b (div-eq_of_lt l) h

-- how many of the first k are ones
digit : (n : ℕ) → n < 2 → as_number (eqb n 1) ≡ n
digit zero h = refl
digit (suc zero) h = refl
digit (suc (suc n)) h = absurd (omega arith)

ones-from : (x k : ℕ) → ones x ≡ count (bit x) k + ones (x / 2 ^ k)
unfolding count bit
ones-from x zero = rw (div-one x, zero-add)
ones-from x (suc k) =
    let y = x / 2 ^ k in
    let next : y / 2 ≡ x / 2 ^ suc k = shr-shr x k 1 ∙ ap (λ (n : ℕ). x / 2 ^ n) (add-one k) in
    ones-from x k
    ∙ ap (λ (n : ℕ). count (bit x) k + n) (ones_step y ∙ ap₂ ◌+◌ (sym (digit (y % 2) (mod-lt y (omega arith)))) (ap ones next))
    ∙ sym (add_assoc (count (bit x) k) (as_number (bit x k)) (ones (x / 2 ^ suc k)))

pub ones-count : (k x : ℕ) → x < 2 ^ k → ones x ≡ count (bit x) k
unfolding ones
ones-count k x h = ones-from x k ∙ rw (div-eq_of_lt {n = x} {m = 2 ^ k} h) (add-zero (count (bit x) k))
