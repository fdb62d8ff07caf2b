-- Tests of the elements of a list.
use Rattle.std.specs.Prelude.{Bool, true, ◌&&◌, List, [], ◌∷◌, ℕ, ◌+◌}
use Rattle.arith.specs.Booleans.{as_number}

-- a test of each element of a list, and how many pass it
abbrev pub each {ℓ} : {A : Type ℓ} → (A → Bool) → List A → Bool
each f [] = true
each f (x ∷ l) = f x && each f l

abbrev pub among {ℓ} : {A : Type ℓ} → (A → Bool) → List A → ℕ
among f [] = 0
among f (x ∷ l) = as_number (f x) + among f l
