-- Sums one place further on, and sums over the places of a grid of m columns and n rows.
use mathlib.Core.Path.{◌≡◌, ◌∙◌, ap}
use Prim.Native.Nat.{ℕ, zero, suc, ◌+◌, ◌*◌, ◌<◌}
use native.Mathlib.Numerals.{add-one}
use native.Mathlib.Omega.{arith}
use Rattle.arith.specs.Finite.{sum, sum_over}
use Rattle.arith.proofs.Finite.{sum_same, sum-add, sum_more, sum-none, sum-single}

-- one place further on: the first value is left out, and the one after the last comes in
sum-next : (f : ℕ → ℕ) (n : ℕ) → f 0 + sum (λ k. f (k + 1)) n ≡ sum f n + f n
unfolding sum
sum-next f zero = omega arith
sum-next f (suc n) = omega (arith, sum-next f n, ap f (add-one n))

-- where both are 0 nothing changes
pub sum_moved : (f : ℕ → ℕ) (n : ℕ) → f 0 ≡ 0 → f n ≡ 0 → sum (λ k. f (k + 1)) n ≡ sum f n
sum_moved f n a b = omega (arith, sum-next f n)

-- and each value between stands in two neighbouring pairs
pub sum-pairs : (f : ℕ → ℕ) (n : ℕ) → f 0 ≡ 0 → f n ≡ 0 → sum (λ k. f k + f (k + 1)) n ≡ sum f (n + 1) + sum f (n + 1)
sum-pairs f n a b = sum-add f (λ k. f (k + 1)) n ∙ omega (arith, sum_moved f n a b, sum_more f n)

pub over-same : (F E : ℕ → ℕ → ℕ) (m n : ℕ) → ((c r : ℕ) → c < m → r < n → F c r ≡ E c r) → sum_over F m n ≡ sum_over E m n
over-same F E m n h =
    sum_same (λ r. sum (λ c. F c r) m) (λ r. sum (λ c. E c r) m) n
    (λ r b. sum_same (λ c. F c r) (λ c. E c r) m (λ c a. h c r a b))

pub over_add : (F E : ℕ → ℕ → ℕ) (m n : ℕ) → sum_over (λ c r. F c r + E c r) m n ≡ sum_over F m n + sum_over E m n
over_add F E m n =
    sum_same (λ r. sum (λ c. F c r + E c r) m) (λ r. sum (λ c. F c r) m + sum (λ c. E c r) m) n
    (λ r b. sum-add (λ c. F c r) (λ c. E c r) m)
    ∙ sum-add (λ r. sum (λ c. F c r) m) (λ r. sum (λ c. E c r) m) n

pub over_none : (F : ℕ → ℕ → ℕ) (m n : ℕ) → ((c r : ℕ) → c < m → r < n → F c r ≡ 0) → sum_over F m n ≡ 0
over_none F m n h = sum-none (λ r. sum (λ c. F c r) m) n (λ r b. sum-none (λ c. F c r) m (λ c a. h c r a b))

-- one value alone is not 0
pub over-single : (F : ℕ → ℕ → ℕ) (m n c r : ℕ) → c < m → r < n → ((d q : ℕ) → (d ≡ c → q ≡ r → ⊥) → F d q ≡ 0) → sum_over F m n ≡ F c r
over-single F m n c r a b h =
    sum-single (λ q. sum (λ d. F d q) m) n r b (λ q l e. sum-none (λ d. F d q) m (λ d k. h d q (λ x y. e y)))
    ∙ sum-single (λ d. F d r) m c a (λ d k e. h d r (λ x y. e x))

-- each value k times as large
pub sum-times : (k : ℕ) (f : ℕ → ℕ) (n : ℕ) → sum (λ i. k * f i) n ≡ k * sum f n
unfolding sum
sum-times k f zero = omega arith
sum-times k f (suc n) = omega (arith, sum-times k f n)

pub over-times : (k : ℕ) (F : ℕ → ℕ → ℕ) (m n : ℕ) → sum_over (λ c r. k * F c r) m n ≡ k * sum_over F m n
over-times k F m n =
    sum_same (λ r. sum (λ c. k * F c r) m) (λ r. k * sum (λ c. F c r) m) n (λ r h. sum-times k (λ c. F c r) m)
    ∙ sum-times k (λ r. sum (λ c. F c r) m) n
