-- Sets of numbers, one bit each: what putting a number in or taking it out does to every number, and what counting and searching give.
use mathlib.Core.Path.{◌≡◌, refl, ap, sym, ◌∙◌}
use mathlib.Core.Logic.{◌≢◌}
use mathlib.Core.Bool.{Bool, true, false, cond, xor, or-true, or-false}
use mathlib.Core.List.{List}
use Prim.Native.Nat.{ℕ, ◌+◌, ◌-◌, ◌*◌, ◌/◌, ◌%◌, ◌^◌, ◌≤◌, ◌<◌, min}
use native.Mathlib.Decide.{ℕ_discrete, dec_lt}
use native.Mathlib.Omega.{arith}
use borrow.Author.Tests.{lt-ltb, le-ltb, ltb-true, ltb-false}
use lib.Bits.{bit_or, bit_xor}
use lib.Dec.{ltb}
use lib.ListN.{length, get_or, set, length-set, replicate, length-replicate, get_or-replicate, get_or-eq_default}
use lib.Seq.{get_or-set_same, get_or-set_other}
use Rattle.std.specs.Prelude.{Option, Some, None}
use Rattle.arith.specs.Ranges.{count, least, least_from}
use Rattle.arith.proofs.Ranges.{least_from-is, least_from-none, least_from-le, least_from-below, least_from-holds}
use Rattle.arith.specs.Finite.{Least}
use Rattle.arith.proofs.Booleans.{both-sides}
use Rattle.arith.proofs.Counting.{CountedTo, counted-turn}
use Rattle.arith.proofs.Finite.{least-from}
use Rattle.grid.specs.Layer.{bit}
use Rattle.grid.proofs.Bits.{bit-xor, bit-or, bit-power, bit-power-other, bit-zero}
use Rattle.bitset.specs.Sets.{words, set_bits, has, next_in, next_of, Empty, with_number, without_number}

-- a word stored: the numbers of that word are read from it, and no other changes
has-stored : (t : List ℕ) (n x : ℕ) → n / 64 < length t → has (set t (n / 64) x) n ≡ bit x (n % 64)
unfolding has
has-stored t n x l = rw (get_or-set_same t (n / 64) x 0 l)

has_kept : (t : List ℕ) (n x k : ℕ) → n / 64 < length t → k ≢ n
    → ((b : ℕ) → b ≢ n % 64 → bit x b ≡ bit (get_or t (n / 64) 0) b) → has (set t (n / 64) x) k ≡ has t k
unfolding has
has_kept t n x k l d same = elim (ℕ_discrete (k / 64) (n / 64)) [
  | yes e ↦ rw (e, get_or-set_same t (n / 64) x 0 l) (same (k % 64) (λ r. d (omega arith)))
  | no w ↦ rw (get_or-set_other t (n / 64) (k / 64) x 0 w)
]

xor-false : (a : Bool) → xor a false ≡ a
unfolding xor
xor-false true = refl
xor-false false = refl

xor-both : (a b : Bool) → a ≡ true → b ≡ true → xor a b ≡ false
unfolding xor
xor-both a b ea eb = rw (ea, eb)

module _ (t : List ℕ) (n : ℕ) (sized : length t ≡ words) (less : n < set_bits) where
  word_in : n / 64 < length t
  word_in = omega arith

  pub has-with : has (with_number t n) n ≡ true
  unfolding with_number
  has-with =
      has-stored t n (bit_or (get_or t (n / 64) 0) (2 ^ (n % 64))) word_in
      ∙ bit-or (get_or t (n / 64) 0) (2 ^ (n % 64)) (n % 64)
      ∙ rw (bit-power (n % 64)) (or-true (bit (get_or t (n / 64) 0) (n % 64)))

  pub has-with-other : (k : ℕ) → k ≢ n → has (with_number t n) k ≡ has t k
  unfolding with_number
  has-with-other k d =
      has_kept t n (bit_or (get_or t (n / 64) 0) (2 ^ (n % 64))) k word_in d
      (λ b e.
      bit-or (get_or t (n / 64) 0) (2 ^ (n % 64)) b
      ∙ rw (bit-power-other (n % 64) b e) (or-false (bit (get_or t (n / 64) 0) b)))

  pub has-without : has t n ≡ true → has (without_number t n) n ≡ false
  unfolding without_number has
  has-without h =
      has-stored t n (bit_xor (get_or t (n / 64) 0) (2 ^ (n % 64))) word_in
      ∙ bit-xor (get_or t (n / 64) 0) (2 ^ (n % 64)) (n % 64)
      ∙ xor-both (bit (get_or t (n / 64) 0) (n % 64)) (bit (2 ^ (n % 64)) (n % 64)) h (bit-power (n % 64))

  pub has-without-other : (k : ℕ) → k ≢ n → has (without_number t n) k ≡ has t k
  unfolding without_number
  has-without-other k d =
      has_kept t n (bit_xor (get_or t (n / 64) 0) (2 ^ (n % 64))) k word_in d
      (λ b e.
      bit-xor (get_or t (n / 64) 0) (2 ^ (n % 64)) b
      ∙ rw (bit-power-other (n % 64) b e) (xor-false (bit (get_or t (n / 64) 0) b)))

  pub length-with : length (with_number t n) ≡ words
  unfolding with_number
  length-with = length-set t (n / 64) (bit_or (get_or t (n / 64) 0) (2 ^ (n % 64))) ∙ sized

  pub length_without : length (without_number t n) ≡ words
  unfolding without_number
  length_without = length-set t (n / 64) (bit_xor (get_or t (n / 64) 0) (2 ^ (n % 64))) ∙ sized

-- an array of zeros is an empty set
pub empty-set : Empty (replicate words 0)
empty-set = record { sized = length-replicate {A = ℕ} words 0; none = λ k h. get_or-replicate {A = ℕ} words k 0 0 h }

-- no number past the end is in a set, and none at all in an empty one
pub has-past : (t : List ℕ) → length t ≡ words → (k : ℕ) → set_bits ≤ k → has t k ≡ false
unfolding has
has-past t sized k h = rw (get_or-eq_default t 0 {n = k / 64} (omega arith)) (bit-zero (k % 64))

pub has-none : (t : List ℕ) → Empty t → (k : ℕ) → has t k ≡ false
unfolding has
has-none t empty k = elim (dec_lt k set_bits) [
  | yes l ↦ rw (empty.none (k / 64) (omega arith)) (bit-zero (k % 64))
  | no g ↦ has-past t empty.sized k (omega arith)
]

-- the bits of a word are those of 64 numbers
has-bit : (t : List ℕ) (i b : ℕ) → b < 64 → has t (64 * i + b) ≡ bit (get_or t i 0) b
unfolding has
has-bit t i b h =
    let d : (64 * i + b) / 64 ≡ i = omega arith in
    let m : (64 * i + b) % 64 ≡ b = omega arith in
    rw (d, m)

pub count_word : (t : List ℕ) {m i total : ℕ} → CountedTo (has t) 64 m i total → i < m
    → {ones : ℕ} → ones ≡ count (bit (get_or t i 0)) 64 → CountedTo (has t) 64 m (i + 1) (total + ones)
count_word t {i = i} c less e =
    let from : i * 64 ≡ 64 * i = omega arith in
    counted-turn c less (bit (get_or t i 0)) e (λ k h. rw from (has-bit t i k h))

-- and the lowest bit of a word from bit s on is the least number of the set from there
word_none : (t : List ℕ) (i s low : ℕ) → low ≡ least_from (bit (get_or t i 0)) s (64 - s) → s < 64
    → (j : ℕ) → 64 * i + s ≤ j → j < 64 * i + low → has t j ≡ false
word_none t i s low e h j a b =
    let k : ℕ = j - 64 * i in
    let q : 64 * i + k ≡ j = omega arith in
    let x : ℕ = get_or t i 0 in
    let to = least_from-le (bit x) s (64 - s) in
    sym (ap (has t) q) ∙ has-bit t i k (omega (arith, e)) ∙ least_from-below (bit x) s (64 - s) k (omega arith) (omega (arith, e))

word-has : (t : List ℕ) (i s low : ℕ) → low ≡ least_from (bit (get_or t i 0)) s (64 - s) → s < 64 → low < 64
    → (s ≤ low) × (has t (64 * i + low) ≡ true)
word-has t i s low e h l =
    let x : ℕ = get_or t i 0 in (
      omega (arith, e, (least-from (bit x) s (64 - s)).from),
      has-bit t i low l ∙ rw (sym e) at (least_from-holds (bit x) s (64 - s) (omega (arith, e))),
    )

-- the least number from `from` on, found by itself, is the least below an end where it is below that, and else there is none below it
least-capped : (f : ℕ → Bool) (from end n : ℕ) → from ≤ end → from ≤ n → f n ≡ true → ((j : ℕ) → from ≤ j → j < n → f j ≡ false)
    → min n end ≡ least_from f from (end - from)
least-capped f from end n h l t none = elim (dec_lt n end) [
  | yes y ↦ omega (arith, least_from-is f from (end - from) n l (omega arith) t none)
  | no g ↦ omega (arith, least_from-none f from (end - from) (λ j a b. none j a (omega arith)))
]

-- and so as an option
next-some : (t : List ℕ) (from end n : ℕ) → min n end ≡ next_in t from end → cond (ltb n end) (Some n) None ≡ next_of t from end
unfolding next_of
next-some t from end n e = elim (dec_lt n end) [
  | yes y ↦ let same : next_in t from end ≡ n = omega (arith, e) in rw (same, lt-ltb n end y)
  | no g ↦
      let same : next_in t from end ≡ end = omega (arith, e) in
      rw (same, le-ltb n end (omega arith), le-ltb end end (omega arith))
]

next-none : (t : List ℕ) (from end : ℕ) → end ≡ next_in t from end → None ≡ next_of t from end
unfolding next_of
next-none t from end e = rw (sym e, le-ltb end end (omega arith))

pub search-none : (t : List ℕ) {from end : ℕ} → from ≡ end → None ≡ next_of t from end
search-none t {from} {end} e =
    next-none t from end (sym (least_from-none (has t) from (end - from) (λ j l u. absurd (omega arith)) ∙ omega arith))

-- what the option says: the least number from `from` on, or that there is none
module _ (t : List ℕ) (from end : ℕ) {x : Option ℕ} (e : x ≡ next_of t from end) where
  pub next-found : {n : ℕ} → x ≡ Some n → (n < end) × Least (has t) from (end - from) n
  unfolding next_of
  next-found {n} s = both-sides (ltb (next_in t from end) end)
      (λ y.
      let found : Some n ≡ Some (next_in t from end) = sym s ∙ e ∙ rw y in
      let same : n ≡ next_in t from end = cc in
      (omega (arith, same, ltb-true (next_in t from end) end y), rw same (least-from (has t) from (end - from))))
      (λ y. let none : ◌≡◌ {A = Option ℕ} (Some n) None = sym s ∙ e ∙ rw y in absurd cc)

  pub next-missing : x ≡ None → (j : ℕ) → from ≤ j → j < end → has t j ≡ false
  unfolding next_of
  next-missing s j l u = both-sides (ltb (next_in t from end) end)
      (λ y. let some : ◌≡◌ {A = Option ℕ} None (Some (next_in t from end)) = sym s ∙ e ∙ rw y in absurd cc)
      (λ y. least_from-below (has t) from (end - from) j l (omega (arith, ltb-false (next_in t from end) end y)))

-- A search word by word: no number from `from` on and before the word is in the set

pub record Searched (t : List ℕ) (from word : ℕ) : Type 0 where
  pub after : from ≤ 64 * word
  pub within : word ≤ words
  pub none : (j : ℕ) → from ≤ j → j < 64 * word → has t j ≡ false

-- the first word is searched from the bit of `from` on
module _ (t : List ℕ) {from end : ℕ} (range : from < end) {low : ℕ}
    (lowest : low ≡ least_from (bit (get_or t (from / 64) 0)) (from % 64) (64 - from % 64)) where
  below : (j : ℕ) → from ≤ j → j < 64 * (from / 64) + low → has t j ≡ false
  below j l u = word_none t (from / 64) (from % 64) low lowest (omega arith) j (omega arith) u

  pub search-first : {n : ℕ} → n ≡ 64 * (from / 64) + low → low < 64 → cond (ltb n end) (Some n) None ≡ next_of t from end
  search-first {n} e some =
      let found = word-has t (from / 64) (from % 64) low lowest (omega arith) some in
      next-some t from end n (rw e (least-capped (has t) from end (64 * (from / 64) + low) (omega arith) (omega arith) found.1 below))

  pub search-start : end ≤ set_bits → 64 ≤ low → Searched t from (from / 64 + 1)
  search-start fits none = record { after = omega arith; within = omega arith; none = λ j l u. below j l (omega arith) }

module _ {t : List ℕ} {from word : ℕ} (s : Searched t from word) {end : ℕ} where
  pub search-here : from ≤ end → {z : ℕ} → (z ≡ least (bit (get_or t word 0)) 64) × (z < 64)
      → cond (ltb (64 * word + z) end) (Some (64 * word + z)) None ≡ next_of t from end
  search-here range {z} lowest =
      next-some t from end (64 * word + z) (least-capped (has t) from end (64 * word + z) range (omega (arith, s.after)) (word-has t word 0 z lowest.0 (omega arith) lowest.1).1
      (λ j l u. elim (dec_lt j (64 * word)) [
        | yes b ↦ s.none j l b
        | no g ↦ word_none t word 0 z lowest.0 (omega arith) j (omega arith) u
      ]))

  pub search-turn : end ≤ set_bits → 64 * word < end → get_or t word 0 ≡ 0 → Searched t from (word + 1)
  search-turn fits less empty =
      record {
        after = omega (arith, s.after);
        within = omega arith;
        none =
            λ j l u. elim (dec_lt j (64 * word)) [
              | yes b ↦ s.none j l b
              | no g ↦
                  let k : ℕ = j - 64 * word in
                  let q : 64 * word + k ≡ j = omega arith in
                  sym (ap (has t) q) ∙ has-bit t word k (omega arith) ∙ ap (λ (x : ℕ). bit x k) empty ∙ bit-zero k
            ];
      }

  pub search-last : from ≤ end → end ≤ 64 * word → None ≡ next_of t from end
  search-last range all = next-none t from end (sym (least_from-none (has t) from (end - from) (λ j l u. s.none j l (omega arith)) ∙ omega arith))
