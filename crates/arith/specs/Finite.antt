-- Functions on finitely many numbers: what the least that passes a test is, and sums.
use Rattle.std.specs.Prelude.{◌≡◌, Bool, true, false, ℕ, zero, suc, ◌+◌, ◌≤◌, ◌<◌}

-- r is the least of the n numbers from i on that passes the test, or i + n if none does
pub record Least (f : ℕ → Bool) (i n r : ℕ) : Type 0 where
  pub from : i ≤ r
  pub to : r ≤ i + n
  pub before : (j : ℕ) → i ≤ j → j < r → f j ≡ false
  pub here : r < i + n → f r ≡ true

-- the sum of f at the numbers below n
unfoldable pub sum : (ℕ → ℕ) → ℕ → ℕ
sum f zero = 0
sum f (suc n) = sum f n + f n

-- the sum of F at the columns below m of the rows below n
abbrev pub sum_over : (ℕ → ℕ → ℕ) → ℕ → ℕ → ℕ
sum_over F m n = sum (λ r. sum (λ c. F c r) m) n
