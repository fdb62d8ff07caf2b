-- A set of edge numbers with one bit for each, in words of 64.
use Rattle.std.specs.Prelude.{◌≡◌, Bool, cond, ltb, Option, Some, None, List, ℕ, ◌-◌, ◌/◌, ◌%◌, ◌^◌, ◌<◌, length, get_or, set}
use Rattle.std.specs.Int.Bits.{bit_or, bit_xor}
use Rattle.arith.specs.Ranges.{count, least_from}
use Rattle.grid.specs.Layer.{bit}

-- how many words a set has, and bits: as many as a layer of 1,024 × 1,024 has horizontal edges
abbrev pub words : ℕ
words = 16368

abbrev pub set_bits : ℕ
set_bits = 1047552

-- whether n is in the set: bit n mod 64 of word n div 64
unfoldable pub has : List ℕ → ℕ → Bool
has t n = bit (get_or t (n / 64) 0) (n % 64)

-- no number is in the set
pub record Empty (t : List ℕ) : Type 0 where
  pub sized : length t ≡ words
  pub none : (k : ℕ) → k < words → get_or t k 0 ≡ 0

-- the least number of the set from n on and below `end`, or `end` if there is none
abbrev pub next_in : List ℕ → ℕ → ℕ → ℕ
next_in t n end = least_from (has t) n (end - n)

-- the same as an option: none if there is none
unfoldable pub next_of : List ℕ → ℕ → ℕ → Option ℕ
next_of t n end = cond (ltb (next_in t n end) end) (Some (next_in t n end)) None

-- how many numbers it has
abbrev pub member_count : List ℕ → ℕ
member_count t = count (has t) set_bits

-- the set with n in it, and, where n is in it, without
unfoldable pub with_number : List ℕ → ℕ → List ℕ
with_number t n = set t (n / 64) (bit_or (get_or t (n / 64) 0) (2 ^ (n % 64)))

unfoldable pub without_number : List ℕ → ℕ → List ℕ
without_number t n = set t (n / 64) (bit_xor (get_or t (n / 64) 0) (2 ^ (n % 64)))
