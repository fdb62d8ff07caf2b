-- Functions on the numbers below a bound: the list of their values, how many pass a test, the least that does, and a list in which a
-- range of entries is replaced.
use Rattle.std.specs.Prelude.{Bool, cond, ltb, Option, Some, None, List, [], ◌∷◌, ℕ, zero, suc, ◌+◌, set}
use Rattle.arith.specs.Booleans.{as_number}

-- n values of f, the first at i
unfoldable pub tabulate_from : (ℕ → ℕ) → ℕ → ℕ → List ℕ
tabulate_from f i zero = []
tabulate_from f i (suc n) = f i ∷ tabulate_from f (suc i) n

-- the values of f at the numbers below n
abbrev pub tabulate : (ℕ → ℕ) → ℕ → List ℕ
tabulate f n = tabulate_from f 0 n

-- how many numbers below n pass the test
unfoldable pub count : (ℕ → Bool) → ℕ → ℕ
count f zero = 0
count f (suc n) = count f n + as_number (f n)

-- the least of the n numbers from i on that passes the test, or i + n if none does
unfoldable pub least_from : (ℕ → Bool) → ℕ → ℕ → ℕ
least_from f i zero = i
least_from f i (suc n) = cond (f i) i (least_from f (suc i) n)

-- the least number below n that passes the test, or n if none does
abbrev pub least : (ℕ → Bool) → ℕ → ℕ
least f n = least_from f 0 n

-- the same as an option: none if none does
unfoldable pub least_of : (ℕ → Bool) → ℕ → Option ℕ
least_of f n = cond (ltb (least f n) n) (Some (least f n)) None

-- the list t with the values of f at the n places from a on, as far as t reaches
unfoldable pub fill : (ℕ → ℕ) → ℕ → ℕ → List ℕ → List ℕ
fill f a zero t = t
fill f a (suc n) t = set (fill f a n t) (a + n) (f (a + n))
