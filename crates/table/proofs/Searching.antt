-- A search from below: where it answers a question, and a stretch of numbers searched by another test that agrees with it there.
use mathlib.Core.Path.{◌≡◌, sym, ◌∙◌}
use mathlib.Core.Bool.{Bool, true, false}
use Prim.Native.Nat.{ℕ, ◌+◌, ◌≤◌, ◌<◌}
use native.Mathlib.Omega.{arith}
use Rattle.std.specs.Prelude.{Option, Some, None}
use Rattle.arith.specs.Ranges.{least_of}
use Rattle.arith.proofs.Ranges.{Found, found-is, found, none-found, below-add}
use Rattle.grid.specs.Questions.{Yes, No, ask_each}
use Rattle.grid.specs.declared.refusal.Refusal.{Refusal}
use Rattle.grid.proofs.Answers.{each-no, each-yes}

-- none of the numbers below k passes the test
pub record NoneBelow (f : ℕ → Bool) (k : ℕ) : Type 0 where
  pub none : (j : ℕ) → j < k → f j ≡ false

pub none-start : {f : ℕ → Bool} → NoneBelow f 0
none-start = record { none = λ j h. absurd (omega arith) }

module _ {f : ℕ → Bool} {k : ℕ} (p : NoneBelow f k) where
  pub none-no : (q : Refusal) {n : ℕ} → k < n → f k ≡ true → No q k ≡ ask_each q f n
  none-no q {n} h e = each-no q f n k h e p.none

  pub none-yes : (q : Refusal) {n : ℕ} → n ≤ k → Yes ≡ ask_each q f n
  none-yes q {n} h = each-yes q f n (λ j l. p.none j (omega arith))

-- the m numbers from k on, by a test g on what they are above k, of which x is the least
module _ {f : ℕ → Bool} {k : ℕ} (p : NoneBelow f k) (g : ℕ → Bool) {m : ℕ} (same : (j : ℕ) → j < m → g j ≡ f (k + j)) {x : Option ℕ}
    (e : x ≡ least_of g m) where
  up_to : (b : ℕ) → b ≤ m → ((j : ℕ) → j < b → g j ≡ false) → NoneBelow f (k + b)
  up_to b h low =
      record { none = below-add (λ (j : ℕ). f j ≡ false) k b p.none (λ j i. sym (same j (omega arith)) ∙ low j i) }

  pub part-passed : x ≡ None → NoneBelow f (k + m)
  part-passed none = up_to m (omega arith) (none-found g m e none)

  module _ {b : ℕ} (some : x ≡ Some b) {n : ℕ} (within : k + m ≤ n) where
    here : Found g m b
    here = found g m e some

    holds : f (k + b) ≡ true
    holds = sym (same b here.within) ∙ here.passes

    before : NoneBelow f (k + b)
    before = up_to b (omega (arith, here.within)) here.before

    pub part-found : Some (k + b) ≡ least_of f n
    part-found = found-is f n (k + b) (omega (arith, here.within)) holds before.none

    pub part_no : (q : Refusal) → No q (k + b) ≡ ask_each q f n
    part_no q = none-no before q (omega (arith, here.within)) holds
