-- A loop that counts a range in parts of n numbers each.
use mathlib.Core.Path.{◌≡◌, ap, ◌∙◌}
use mathlib.Core.Bool.{Bool}
use Prim.Native.Nat.{ℕ, ◌+◌, ◌*◌, ◌≤◌, ◌<◌}
use native.Mathlib.Nat.{zero-mul, mul-le-mul}
use native.Mathlib.Omega.{arith}
use Rattle.arith.specs.Ranges.{count}
use Rattle.arith.proofs.Ranges.{count-zero, count_add, count_same, count-le}

-- of m parts i are counted
pub record CountedTo (f : ℕ → Bool) (n m i total : ℕ) : Type 0 where
  pub within : i ≤ m
  pub so_far : total ≡ count f (i * n)

module _ {f : ℕ → Bool} {n m : ℕ} where
  pub counted_none : CountedTo f n m 0 0
  counted_none = record { within = omega arith; so_far = rw zero-mul (count-zero f) }

  module _ {i total : ℕ} (c : CountedTo f n m i total) where
    module _ (less : i < m) (g : ℕ → Bool) {more : ℕ} (e : more ≡ count g n) where
      -- there is room for the next part
      pub counted-room : total + more ≤ m * n
      counted-room =
          let reached = mul-le-mul {n₁ = i + 1} {m₁ = n} {n₂ = m} {m₂ = n} (omega arith) (omega arith) in
          omega (arith, c.so_far, e, count-le f (i * n), count-le g n)

      pub counted-turn : ((k : ℕ) → k < n → f (i * n + k) ≡ g k) → CountedTo f n m (i + 1) (total + more)
      counted-turn part =
          let next : (i + 1) * n ≡ i * n + n = omega arith in
          let both = ap (count f) next ∙ count_add f (i * n) n in
          record { within = omega arith; so_far = omega (arith, c.so_far, e, both, count_same (λ k. f (i * n + k)) g n part) }

    pub counted-all : m ≤ i → total ≡ count f (m * n)
    counted-all all =
        let whole : i ≡ m = omega (arith, c.within) in
        c.so_far ∙ ap (λ (k : ℕ). count f (k * n)) whole
