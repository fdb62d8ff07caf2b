-- The laws of `Rattle.arith.specs.Finite`, and the pigeonhole principle, all over native numbers.
use mathlib.Core.Path.{◌≡◌, refl, ap}
use mathlib.Core.Logic.{◌≢◌}
use mathlib.Core.Bool.{Bool, true, false}
use Prim.Native.Nat.{ℕ, zero, suc, ◌+◌, ◌-◌, ◌≤◌, ◌<◌}
use native.Mathlib.Decide.{dec_lt, ℕ_discrete}
use native.Mathlib.Numerals.{add-one}
use native.Mathlib.Omega.{arith}
use Rattle.arith.specs.Booleans.{as_number}
use Rattle.arith.proofs.Booleans.{both-sides}
use Rattle.arith.specs.Ranges.{count, least_from}
use Rattle.arith.proofs.Ranges.{least_from-le, least_from-below, least_from-holds}
use Rattle.arith.specs.Finite.{Least, sum}

pub as_number-inj : (a b : Bool) → as_number a ≡ as_number b → a ≡ b
as_number-inj true true e = refl
as_number-inj true false e = absurd (omega arith)
as_number-inj false true e = absurd (omega arith)
as_number-inj false false e = refl

pub as_number-above : (b : Bool) → 0 < as_number b → b ≡ true
as_number-above true h = refl
as_number-above false h = absurd (omega arith)

least_from-from : (f : ℕ → Bool) (i n : ℕ) → i ≤ least_from f i n
unfolding least_from
least_from-from f i zero = omega arith
least_from-from f i (suc n) = both-sides (f i)
    (λ t. rw t (omega arith))
    (λ e. rw e (omega (arith, least_from-from f (suc i) n)))

pub least-from : (f : ℕ → Bool) (i n : ℕ) → Least f i n (least_from f i n)
least-from f i n = record {
  from = least_from-from f i n;
  to = least_from-le f i n;
  before = least_from-below f i n;
  here = least_from-holds f i n;
}

pub sum_same : (f g : ℕ → ℕ) (n : ℕ) → ((k : ℕ) → k < n → f k ≡ g k) → sum f n ≡ sum g n
unfolding sum
sum_same f g zero h = refl
sum_same f g (suc n) h = omega (arith, sum_same f g n (λ k l. h k (omega arith)), h n (omega arith))

pub sum-add : (f g : ℕ → ℕ) (n : ℕ) → sum (λ k. f k + g k) n ≡ sum f n + sum g n
unfolding sum
sum-add f g zero = refl
sum-add f g (suc n) = omega (arith, sum-add f g n)

pub sum_more : (f : ℕ → ℕ) (n : ℕ) → sum f (n + 1) ≡ sum f n + f n
unfolding sum
sum_more f n = rw add-one

pub sum_mono : (f : ℕ → ℕ) (m n : ℕ) → m ≤ n → sum f m ≤ sum f n
unfolding sum
sum_mono f m zero h = let e : m ≡ 0 = omega arith in rw e (omega arith)
sum_mono f m (suc n) h = elim (ℕ_discrete m (suc n)) [
  | yes e ↦ rw e (omega arith)
  | no d ↦ omega (arith, sum_mono f m n (omega arith))
]

pub sum-none : (f : ℕ → ℕ) (n : ℕ) → ((k : ℕ) → k < n → f k ≡ 0) → sum f n ≡ 0
unfolding sum
sum-none f zero h = refl
sum-none f (suc n) h = omega (arith, sum-none f n (λ k l. h k (omega arith)), h n (omega arith))

-- one value alone is not 0
pub sum-single : (f : ℕ → ℕ) (n m : ℕ) → m < n → ((k : ℕ) → k < n → k ≢ m → f k ≡ 0) → sum f n ≡ f m
unfolding sum
sum-single f zero m l h = absurd (omega arith)
sum-single f (suc n) m l h = go (λ b. sum-single f n m b (λ k c. h k (omega arith))) (ℕ_discrete m n)
  where
    go : (m < n → sum f n ≡ f m) → Dec (m ≡ n) → sum f n + f n ≡ f m
    go before (yes e) = omega (arith, ap f e, sum-none f n (λ k b. h k (omega arith) (omega arith)))
    go before (no e) = omega (arith, before (omega arith), h n (omega arith) (omega arith))

pub count-more : (f : ℕ → Bool) (n : ℕ) → count f (n + 1) ≡ count f n + as_number (f n)
unfolding count
count-more f n = rw add-one

pub count-sum : (f : ℕ → Bool) (n : ℕ) → count f n ≡ sum (λ k. as_number (f k)) n
unfolding count sum
count-sum f zero = refl
count-sum f (suc n) = ap (λ (m : ℕ). m + as_number (f n)) (count-sum f n)

-- The pigeonhole principle

-- a with the gap at v closed: the numbers above v move down by one
abbrev closed : (v a : ℕ) → Dec (v < a) → ℕ
closed v a (yes h) = a - 1
closed v a (no h) = a

closed-less : (v a n : ℕ) (d : Dec (v < a)) → a ≢ v → a ≤ n → v ≤ n → closed v a d < n
closed-less v a n (yes h) e l m = omega arith
closed-less v a n (no h) e l m = omega arith

closed-apart : (v a b : ℕ) (d : Dec (v < a)) (c : Dec (v < b)) → a ≢ v → b ≢ v → a ≢ b → closed v a d ≢ closed v b c
closed-apart v a b (yes h) (yes l) e f n = omega arith
closed-apart v a b (yes h) (no l) e f n = omega arith
closed-apart v a b (no h) (yes l) e f n = omega arith
closed-apart v a b (no h) (no l) e f n = n

-- there is no injection from the numbers up to n into those below n
pub pigeonhole : (n : ℕ) (f : ℕ → ℕ) → ((i : ℕ) → i ≤ n → f i < n) → ((i j : ℕ) → i < j → j ≤ n → f i ≢ f j) → ⊥
pigeonhole zero f below apart = omega (arith, below 0 (omega arith))
pigeonhole (suc n) f below apart =
    let v : ℕ = f (suc n) in
    let side : (i : ℕ) → Dec (v < f i) = λ i. dec_lt v (f i) in
    let other : (i : ℕ) → i ≤ n → f i ≢ v = λ i h. apart i (suc n) (omega arith) (omega arith) in
    pigeonhole n (λ i. closed v (f i) (side i))
    (λ i h. closed-less v (f i) n (side i) (other i h) (omega (arith, below i (omega arith))) (omega (arith, below (suc n) (omega arith))))
    (λ i j h l. closed-apart v (f i) (f j) (side i) (side j) (other i (omega arith)) (other j l) (apart i j h (omega arith)))
