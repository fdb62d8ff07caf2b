-- Laws of tests of a list's elements.
use mathlib.Core.Bool.{Bool}
use mathlib.Core.List.{List, [], ◌∷◌}
use Prim.Native.Nat.{◌≤◌}
use native.Mathlib.Omega.{arith}
use lib.ListN.{length}
use Rattle.arith.specs.Lists.{among}
use Rattle.arith.proofs.Booleans.{one-le}

pub among-most : {A : Type 0} (f : A → Bool) (l : List A) → among f l ≤ length l
among-most f [] = omega arith
among-most f (x ∷ l) = omega (arith, one-le (f x), among-most f l)
