-- Signed machine integers that stay in range. `Bounded m` reads a machine term m, where `to_z w (of_z w ..)` stands round each result, as an expression on
-- integers with a bound on its size; whether each result fits its width computes at literal bounds. So a need of the code is one line:
-- `in-range (search sized depth 9) tt`, `exact (search sized depth 9) tt`, `within (search sized depth 9) tt`.
use mathlib.Core.Path.{◌≡◌, refl, sym, ap, ap₂, ◌∙◌, subst}
use mathlib.Core.Bool.{Bool, true, ◌&&◌}
use Prim.Native.Nat.{ℕ, suc, ◌+◌, ◌*◌, ◌/◌, ◌^◌, ◌≤◌}
use native.Mathlib.Nat.{mul-le-mul, div-le_self}
use native.Mathlib.Omega.{arith}
use lib.Dec.{T, leb, ltb, leb→le, ltb→lt}
use lib.IntN.{ℤ, pos, negsuc, neg_ℤ, nat_abs, ◌+ℤ◌, ◌*ℤ◌}
use lib.Signed.{mag, quot_z}
use mir.Syntax.{Width}
use mir.Val.{SFits, to_z, of_z, hbits}
use mir.Facts.{and_yes, to_z-of_z, to_z_pos}
use Rattle.arith.proofs.Integers.{add_parts, neg-parts, nat_abs-parts}

pub nat_abs-add : (x y : ℤ) → nat_abs (x +ℤ y) ≤ nat_abs x + nat_abs y
nat_abs-add x y = omega (arith, add_parts x y, nat_abs-parts x, nat_abs-parts y, nat_abs-parts (x +ℤ y))

pub nat_abs-neg : (x : ℤ) → nat_abs (neg_ℤ x) ≡ nat_abs x
nat_abs-neg x = omega (arith, neg-parts x, nat_abs-parts x, nat_abs-parts (neg_ℤ x))

pub nat_abs_mul : (x y : ℤ) → nat_abs (x *ℤ y) ≡ nat_abs x * nat_abs y
nat_abs_mul (pos a) (pos b) = refl
nat_abs_mul (pos a) (negsuc b) = nat_abs-neg (pos (a * suc b))
nat_abs_mul (negsuc a) (pos b) = nat_abs-neg (pos (suc a * b))
nat_abs_mul (negsuc a) (negsuc b) = refl

nat_abs-quot : (x y : ℤ) → nat_abs (quot_z x y) ≤ nat_abs x
nat_abs-quot (pos a) (pos b) = div-le_self a b
nat_abs-quot (pos a) (negsuc b) = omega (arith, nat_abs-neg (pos (a / suc b)), div-le_self a (suc b))
nat_abs-quot (negsuc a) (pos b) = omega (arith, nat_abs-neg (pos (suc a / b)), div-le_self (suc a) b)
nat_abs-quot (negsuc a) (negsuc b) = div-le_self (suc a) (suc b)

mag-le : (z : ℤ) → mag z ≤ nat_abs z
mag-le (pos n) = omega arith
mag-le (negsuc n) = omega arith

-- a number z with a hypothesis nat_abs z ≤ B, also the bare bits of a local, `to_z w s`; a literal; an operation; a result that is written and read back; an
-- unsigned number with a hypothesis n ≤ B that is cast. The search takes hypotheses that a `let` binds first, and then the fields of `c`
pub data Bounded : ℤ → Type 0 where
  s_arg : (z : ℤ) (B : ℕ) → nat_abs z ≤ B → Bounded z
  s_pos : (n : ℕ) → Bounded (pos n)
  s_negsuc : (n : ℕ) → Bounded (negsuc n)
  s_neg : {x : ℤ} → Bounded x → Bounded (neg_ℤ x)
  s_add : {x y : ℤ} → Bounded x → Bounded y → Bounded (x +ℤ y)
  s_mul : {x y : ℤ} → Bounded x → Bounded y → Bounded (x *ℤ y)
  s_quot : {x y : ℤ} → Bounded x → Bounded y → Bounded (quot_z x y)
  s_back : (w : Width) {x : ℤ} → Bounded x → Bounded (to_z w (of_z w x))
  s_cast : (w : Width) (n B : ℕ) → n ≤ B → Bounded (to_z w n)

abbrev pub bound : {z : ℤ} → Bounded z → ℕ
bound (s_arg z B h) = B
bound (s_pos n) = n
bound (s_negsuc n) = suc n
bound (s_neg s) = bound s
bound (s_add s t) = bound s + bound t
bound (s_mul s t) = bound s * bound t
bound (s_quot s t) = bound s
bound (s_back w s) = bound s
bound (s_cast w n B h) = B

-- the expression: m, with nothing written or read back
abbrev pub pure : {z : ℤ} → Bounded z → ℤ
pure (s_arg z B h) = z
pure (s_pos n) = pos n
pure (s_negsuc n) = negsuc n
pure (s_neg s) = neg_ℤ (pure s)
pure (s_add s t) = pure s +ℤ pure t
pure (s_mul s t) = pure s *ℤ pure t
pure (s_quot s t) = quot_z (pure s) (pure t)
pure (s_back w s) = pure s
pure (s_cast w n B h) = pos n

-- whether each number that was written fits
abbrev pub ok : {z : ℤ} → Bounded z → Bool
ok (s_arg z B h) = true
ok (s_pos n) = true
ok (s_negsuc n) = true
ok (s_neg s) = ok s
ok (s_add s t) = ok s && ok t
ok (s_mul s t) = ok s && ok t
ok (s_quot s t) = ok s && ok t
ok (s_back w s) = ok s && ltb (bound s) (2 ^ hbits w)
ok (s_cast w n B h) = ltb B (2 ^ hbits w)

small : {z : ℤ} (s : Bounded z) → nat_abs (pure s) ≤ bound s
small (s_arg z B h) = h
small (s_pos n) = omega arith
small (s_negsuc n) = omega arith
small (s_neg s) = omega (arith, nat_abs-neg (pure s), small s)
small (s_add s t) = omega (arith, nat_abs-add (pure s) (pure t), small s, small t)
small (s_mul s t) = omega (arith, nat_abs_mul (pure s) (pure t), mul-le-mul (small s) (small t))
small (s_quot s t) = omega (arith, nat_abs-quot (pure s) (pure t), small s)
small (s_back w s) = small s
small (s_cast w n B h) = h

pure_fits : {z : ℤ} (w : Width) (s : Bounded z) → T (ltb (bound s) (2 ^ hbits w)) → SFits w (pure s)
pure_fits w s t = record { sfits = omega (arith, mag-le (pure s), small s, ltb→lt (bound s) (2 ^ hbits w) t) }

-- m is the expression
pub exact : {z : ℤ} (s : Bounded z) → T (ok s) → z ≡ pure s
exact (s_arg z B h) t = refl
exact (s_pos n) t = refl
exact (s_negsuc n) t = refl
exact (s_neg s) t = ap neg_ℤ (exact s t)
exact (s_add s r) t = let e = and_yes (ok s) (ok r) t in ap₂ ◌+ℤ◌ (exact s e.0) (exact r e.1)
exact (s_mul s r) t = let e = and_yes (ok s) (ok r) t in ap₂ ◌*ℤ◌ (exact s e.0) (exact r e.1)
exact (s_quot s r) t = let e = and_yes (ok s) (ok r) t in ap₂ quot_z (exact s e.0) (exact r e.1)
exact (s_back w s) t =
    let e = and_yes (ok s) (ltb (bound s) (2 ^ hbits w)) t in ap (λ z. to_z w (of_z w z)) (exact s e.0) ∙ to_z-of_z (pure_fits w s e.1)
exact (s_cast w n B h) t = to_z_pos w (omega (arith, ltb→lt B (2 ^ hbits w) t))

-- a result with its size
pub with_size : {r : ℤ} {B : ℕ} (z : ℤ) → r ≡ z → nat_abs z ≤ B → (r ≡ z) × (nat_abs r ≤ B)
with_size z e h = (e, rw e h)

-- m fits the width
pub in-range : {w : Width} {z : ℤ} (s : Bounded z) → T (ok s && ltb (bound s) (2 ^ hbits w)) → SFits w z
in-range {w} s t = let e = and_yes (ok s) (ltb (bound s) (2 ^ hbits w)) t in subst (SFits w) (sym (exact s e.0)) (pure_fits w s e.1)

-- a bound nat_abs m ≤ C, as a callee asks for it
pub data Within : Type 0 → Type 1 where
  s_size : (z : ℤ) (C : ℕ) → Bounded z → Within (nat_abs z ≤ C)

abbrev pub holds : {P : Type 0} → Within P → Bool
holds (s_size z C s) = ok s && leb (bound s) C

pub within : {P : Type 0} (k : Within P) → T (holds k) → P
within (s_size z C s) t =
    let e = and_yes (ok s) (leb (bound s) C) t in omega (arith, ap nat_abs (exact s e.0), small s, leb→le (bound s) C e.1)

pub ruleset sized = (s_size, s_back, s_add, s_mul, s_neg, s_quot, s_pos, s_negsuc, s_arg, s_cast)
