-- Booleans by cases and taken apart: the laws of `Rattle.arith.specs.Booleans`, and what a test that came out true or false gives.
use mathlib.Core.Path.{◌≡◌, refl, sym, subst}
use mathlib.Core.Bool.{Bool, true, false, false≢true, not, xor, ◌&&◌, ◌||◌, beq}
use Prim.Native.Nat.{◌≤◌}
use native.Mathlib.Omega.{arith}
use lib.Dec.{T}
use Rattle.arith.specs.Booleans.{as_number, all}

pub one-le : (b : Bool) → as_number b ≤ 1
one-le true = omega arith
one-le false = omega arith

-- by cases on a test, with its answer at hand
pub both-sides : (b : Bool) {P : Type 0} → (b ≡ true → P) → (b ≡ false → P) → P
both-sides true t f = t refl
both-sides false t f = f refl

pub and_split : (a b : Bool) → (a && b) ≡ true → (a ≡ true) × (b ≡ true)
and_split true b e = (refl, e)
and_split false b e = absurd (false≢true e)

pub and-short : (a b : Bool) → b ≡ false → (a && b) ≡ false
and-short true b e = e
and-short false b e = refl

pub and_T : (a b : Bool) → T (a && b) → T a × T b
and_T true b t = (tt, t)
and_T false b t = absurd t

pub beq→eq : (a b : Bool) → T (beq a b) → a ≡ b
beq→eq true true t = refl
beq→eq true false t = absurd t
beq→eq false true t = absurd t
beq→eq false false t = refl

pub beq-self : (b : Bool) → beq b b ≡ true
beq-self true = refl
beq-self false = refl

pub xor_self : (b : Bool) → xor b b ≡ false
unfolding xor
xor_self true = refl
xor_self false = refl

pub beq-yes : (a b : Bool) → beq a b ≡ true → a ≡ b
beq-yes a b e = beq→eq a b (subst T (sym e) tt)

pub beq-no : (a b : Bool) → beq a b ≡ false → not a ≡ b
beq-no true true e = absurd (false≢true (sym e))
beq-no true false e = refl
beq-no false true e = refl
beq-no false false e = absurd (false≢true (sym e))

pub implied : (a b : Bool) → T (not a || b) → a ≡ true → T b
implied true b t e = t
implied false b t e = absurd (false≢true e)

pub at_all : (f : Bool → Bool) → T (all f) → (b : Bool) → T (f b)
at_all f t b = go (f true) (f false) refl refl t b
  where
    go : (x y : Bool) → f true ≡ x → f false ≡ y → T (x && y) → (b : Bool) → T (f b)
    go true true ex ey t true = rw ex tt
    go true true ex ey t false = rw ey tt
    go true false ex ey t b = absurd t
    go false y ex ey t b = absurd t

pub T_true : (b : Bool) → T b → b ≡ true
T_true true t = refl
T_true false t = absurd t
