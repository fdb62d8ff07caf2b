-- The integers of `lib.IntN`, opened up for `omega`, which reads naturals alone: z is positive_part z − negative_part z, `Diff z` writes z as any
-- difference of two naturals, along sums and products, and `Reads P` says a statement on integers as one on naturals. `omega arithℤ` proves what
-- is linear in integers as they stand, `viaℕ (search (ints, at x, at y)) (omega arith)` what has sums and products. Then the laws that `lib.IntN`
-- and `lib.Signed` lack.
use mathlib.Core.Path.{◌≡◌, refl, sym, ap, subst}
use mathlib.Core.Logic.{◌⊎◌, inl, inr}
use mathlib.Core.Bool.{Bool, true, false, not, cond}
use Prim.Native.Nat.{ℕ, zero, suc, ◌+◌, ◌*◌, ◌-◌, ◌≤◌, ◌<◌, min}
use native.Mathlib.Omega.{arith}
use lib.Dec.{T, ltb, leb→le, le→leb, nleb→lt, ltb→lt, lt→ltb, nltb→le}
use lib.IntN.{ℤ, pos, negsuc, neg_ℤ, nat_abs, sub_ℕ, ◌+ℤ◌, ◌-ℤ◌, ◌*ℤ◌}
use lib.Signed.{le_z, lt_z, le_z_yes, lt_z_yes, lt_z_no, clash_ℤ, ◌≤ℤ◌, ◌<ℤ◌}
use Rattle.arith.specs.Integers.{positive_part, negative_part}

-- ---- the operations and the orders, on these two parts

cond_ind : (c : Bool) (x y : ℤ) (P : ℤ → Type 0) → (T c → P x) → (T (not c) → P y) → P (cond c x y)
cond_ind true x y P f g = f tt
cond_ind false x y P f g = g tt

sub_parts : (a b : ℕ) → positive_part (sub_ℕ a b) + b ≡ a + negative_part (sub_ℕ a b)
sub_parts a b = cond_ind (ltb a b) (negsuc (b - suc a)) (pos (a - b)) (λ z. positive_part z + b ≡ a + negative_part z) (λ t. less (ltb→lt a b t)) (λ t. more (nltb→le a b t))
  where
    less : a < b → 0 + b ≡ a + suc (b - suc a)
    less h = omega arith

    more : b ≤ a → a - b + b ≡ a + 0
    more h = omega arith

pub add_parts : (x y : ℤ) → positive_part (x +ℤ y) + (negative_part x + negative_part y) ≡ positive_part x + positive_part y + negative_part (x +ℤ y)
add_parts (pos a) (pos b) = omega arith
add_parts (pos a) (negsuc b) = omega (arith, sub_parts a (suc b))
add_parts (negsuc a) (pos b) = omega (arith, sub_parts b (suc a))
add_parts (negsuc a) (negsuc b) = omega arith

pub neg-parts : (z : ℤ) → (positive_part (neg_ℤ z) ≡ negative_part z) × (negative_part (neg_ℤ z) ≡ positive_part z)
neg-parts (pos zero) = (refl, refl)
neg-parts (pos (suc n)) = (refl, refl)
neg-parts (negsuc n) = (refl, refl)

pub mul-parts : (x y : ℤ) → positive_part (x *ℤ y) + (positive_part x * negative_part y + negative_part x * positive_part y) ≡ positive_part x * positive_part y + negative_part x * negative_part y + negative_part (x *ℤ y)
mul-parts (pos a) (pos b) = omega arith
mul-parts (pos a) (negsuc b) = omega (arith, neg-parts (pos (a * suc b)))
mul-parts (negsuc a) (pos b) = omega (arith, neg-parts (pos (suc a * b)))
mul-parts (negsuc a) (negsuc b) = omega arith

pub nat_abs-parts : (z : ℤ) → (nat_abs z ≡ positive_part z + negative_part z) × (min (positive_part z) (negative_part z) ≡ 0)
nat_abs-parts (pos n) = omega arith
nat_abs-parts (negsuc n) = omega arith

pub le_parts : {x y : ℤ} → x ≤ℤ y → positive_part x + negative_part y ≤ positive_part y + negative_part x
le_parts {x = pos a} {y = pos b} h = omega (arith, leb→le a b h.le)
le_parts {x = pos a} {y = negsuc b} h = absurd h.le
le_parts {x = negsuc a} {y = pos b} h = omega arith
le_parts {x = negsuc a} {y = negsuc b} h = omega (arith, leb→le b a h.le)

pub parts-le : (x y : ℤ) → positive_part x + negative_part y ≤ positive_part y + negative_part x → x ≤ℤ y
parts-le (pos a) (pos b) h = record { le = le→leb a b (omega arith) }
parts-le (pos a) (negsuc b) h = absurd (omega arith)
parts-le (negsuc a) (pos b) h = record { le = tt }
parts-le (negsuc a) (negsuc b) h = record { le = le→leb b a (omega arith) }

pub lt-parts : {x y : ℤ} → x <ℤ y → positive_part x + negative_part y < positive_part y + negative_part x
lt-parts {x = pos a} {y = pos b} h = omega (arith, ltb→lt a b h.lt)
lt-parts {x = pos a} {y = negsuc b} h = absurd h.lt
lt-parts {x = negsuc a} {y = pos b} h = omega arith
lt-parts {x = negsuc a} {y = negsuc b} h = omega (arith, ltb→lt b a h.lt)

pub parts-lt : (x y : ℤ) → positive_part x + negative_part y < positive_part y + negative_part x → x <ℤ y
parts-lt (pos a) (pos b) h = record { lt = lt→ltb a b (omega arith) }
parts-lt (pos a) (negsuc b) h = absurd (omega arith)
parts-lt (negsuc a) (pos b) h = record { lt = tt }
parts-lt (negsuc a) (negsuc b) h = record { lt = lt→ltb b a (omega arith) }

pub eq-parts : {x y : ℤ} → x ≡ y → positive_part x + negative_part y ≡ positive_part y + negative_part x
eq-parts {x} {y} e = omega (arith, ap positive_part e, ap negative_part e)

pub parts-eq : (x y : ℤ) → positive_part x + negative_part y ≡ positive_part y + negative_part x → x ≡ y
parts-eq (pos a) (pos b) e = ap pos (omega arith)
parts-eq (pos a) (negsuc b) e = absurd (omega arith)
parts-eq (negsuc a) (pos b) e = absurd (omega arith)
parts-eq (negsuc a) (negsuc b) e = ap negsuc (omega arith)

-- a test failed, beside the three cases of `lib.Signed`
pub le_z-no : {x y : ℤ} → T (not (le_z x y)) → y <ℤ x
le_z-no {x = pos a} {y = pos b} t = record { lt = lt→ltb b a (nleb→lt a b t) }
le_z-no {x = pos a} {y = negsuc b} t = record { lt = tt }
le_z-no {x = negsuc a} {y = pos b} t = absurd t
le_z-no {x = negsuc a} {y = negsuc b} t = record { lt = lt→ltb a b (nleb→lt b a t) }

-- the four for a test as a branch of the code leaves it
module _ (x y : ℤ) where
  pub le_z-true : le_z x y ≡ true → positive_part x + negative_part y ≤ positive_part y + negative_part x
  le_z-true e = le_parts (le_z_yes {a = x} {b = y} (subst T (sym e) tt))

  pub le_z-false : le_z x y ≡ false → positive_part y + negative_part x < positive_part x + negative_part y
  le_z-false e = lt-parts (le_z-no {x = x} {y = y} (subst (λ b. T (not b)) (sym e) tt))

  pub lt_z-true : lt_z x y ≡ true → positive_part x + negative_part y < positive_part y + negative_part x
  lt_z-true e = lt-parts (lt_z_yes {a = x} {b = y} (subst T (sym e) tt))

  pub lt_z-false : lt_z x y ≡ false → positive_part y + negative_part x ≤ positive_part x + negative_part y
  lt_z-false e = le_parts (lt_z_no {a = x} {b = y} (subst (λ b. T (not b)) (sym e) tt))

-- for `omega`: orders, equations and tests between integers that are taken as they stand. With a sum in them: `omega (arithℤ, add_parts x y)`
pub ruleset arithℤ = (arith, le_parts, lt-parts, eq-parts, le_z-true, le_z-false, lt_z-true, lt_z-false, parts-le, parts-lt, parts-eq)

-- ---- z as a difference of two naturals

-- z is p − n
abbrev pub IsDiff : ℤ → ℕ → ℕ → Type 0
IsDiff z p n = positive_part z + n ≡ p + negative_part z

pub data Diff (z : ℤ) : Type 0 where
  diff : (p n : ℕ) → IsDiff z p n → Diff z

abbrev pub plus : {z : ℤ} → Diff z → ℕ
plus (diff p n e) = p

abbrev pub minus : {z : ℤ} → Diff z → ℕ
minus (diff p n e) = n

diff_is : {z : ℤ} (d : Diff z) → IsDiff z (plus d) (minus d)
diff_is (diff p n e) = e

-- any integer, and the two literals
abbrev pub at : (z : ℤ) → Diff z
at z = diff (positive_part z) (negative_part z) refl

abbrev pub d-pos : (n : ℕ) → Diff (pos n)
d-pos n = at (pos n)

abbrev pub d-negsuc : (n : ℕ) → Diff (negsuc n)
d-negsuc n = at (negsuc n)

module _ {x y : ℤ} (d : Diff x) (e : Diff y) where
  pub d-add-is : positive_part (x +ℤ y) + (minus d + minus e) ≡ plus d + plus e + negative_part (x +ℤ y)
  d-add-is = omega (arith, add_parts x y, diff_is d, diff_is e)

  pub d-mul-is : positive_part (x *ℤ y) + (plus d * minus e + minus d * plus e) ≡ plus d * plus e + minus d * minus e + negative_part (x *ℤ y)
  d-mul-is = omega (arith, mul-parts x y, ap (λ k. k * positive_part y) (diff_is d), ap (λ k. k * negative_part y) (diff_is d), ap (λ k. k * plus d) (diff_is e), ap (λ k. k * minus d) (diff_is e))

  abbrev pub d-add : Diff (x +ℤ y)
  d-add = diff (plus d + plus e) (minus d + minus e) d-add-is

  abbrev pub d-mul : Diff (x *ℤ y)
  d-mul = diff (plus d * plus e + minus d * minus e) (plus d * minus e + minus d * plus e) d-mul-is

pub d-neg-is : {z : ℤ} (d : Diff z) → positive_part (neg_ℤ z) + plus d ≡ minus d + negative_part (neg_ℤ z)
d-neg-is {z} d = omega (arith, neg-parts z, diff_is d)

abbrev pub d-neg : {z : ℤ} → Diff z → Diff (neg_ℤ z)
d-neg d = diff (minus d) (plus d) (d-neg-is d)

-- ---- a statement on integers, said on naturals

pub data Reads (P : Type 0) : Type 1 where
  reads : (S : Type 0) → (P → S) → (S → P) → Reads P

abbrev pub says : {P : Type 0} → Reads P → Type 0
says (reads S f g) = S

pub viaℕ : {P : Type 0} (r : Reads P) → says r → P
viaℕ (reads S f g) = g

pub toℕ : {P : Type 0} → P → (r : Reads P) → says r
toℕ h (reads S f g) = f h

module _ {x y : ℤ} (d : Diff x) (e : Diff y) where
  pub le-both : (x ≤ℤ y → plus d + minus e ≤ plus e + minus d) × (plus d + minus e ≤ plus e + minus d → x ≤ℤ y)
  le-both = (λ h. omega (arithℤ, diff_is d, diff_is e), λ h. omega (arithℤ, diff_is d, diff_is e))

  pub lt_both : (x <ℤ y → plus d + minus e < plus e + minus d) × (plus d + minus e < plus e + minus d → x <ℤ y)
  lt_both = (λ h. omega (arithℤ, diff_is d, diff_is e), λ h. omega (arithℤ, diff_is d, diff_is e))

  pub eq-both : (x ≡ y → plus d + minus e ≡ plus e + minus d) × (plus d + minus e ≡ plus e + minus d → x ≡ y)
  eq-both = (λ h. omega (arithℤ, diff_is d, diff_is e), λ h. omega (arithℤ, diff_is d, diff_is e))

  abbrev pub r-le : Reads (x ≤ℤ y)
  r-le = reads (plus d + minus e ≤ plus e + minus d) le-both.0 le-both.1

  abbrev pub r-lt : Reads (x <ℤ y)
  r-lt = reads (plus d + minus e < plus e + minus d) lt_both.0 lt_both.1

  abbrev pub r-eq : Reads (x ≡ y)
  r-eq = reads (plus d + minus e ≡ plus e + minus d) eq-both.0 eq-both.1

abbrev pub r-to : {P Q : Type 0} → Reads P → Reads Q → Reads (P → Q)
r-to r s = reads (says r → says s) (λ f h. toℕ (f (viaℕ r h)) s) (λ f h. viaℕ s (f (toℕ h r)))

-- `viaℕ (search (ints, at x, at y)) (omega arith)`, with `at` for each integer that is no sum, product, negative or literal, and `depth 9` where the terms are deep.
-- `toℕ h (search (ints, at x, at y))` is a hypothesis h, for omega's list
pub ruleset ints = (r-to, r-le, r-lt, r-eq, d-add, d-mul, d-neg, d-pos, d-negsuc)

-- ---- the ring

pub *ℤ-assoc : (x y z : ℤ) → x *ℤ y *ℤ z ≡ x *ℤ (y *ℤ z)
*ℤ-assoc x y z = viaℕ (search (ints, at x, at y, at z)) (omega arith)

pub *ℤ-+ℤ : (x y z : ℤ) → x *ℤ (y +ℤ z) ≡ x *ℤ y +ℤ x *ℤ z
*ℤ-+ℤ x y z = viaℕ (search (ints, at x, at y, at z)) (omega arith)

pub +ℤ-*ℤ : (x y z : ℤ) → (x +ℤ y) *ℤ z ≡ x *ℤ z +ℤ y *ℤ z
+ℤ-*ℤ x y z = viaℕ (search (ints, at x, at y, at z)) (omega arith)

-- ---- the order. It is reflexive by `≤ℤ_refl` of `lib.Signed`

pub ≤ℤ-trans : {x y z : ℤ} → x ≤ℤ y → y ≤ℤ z → x ≤ℤ z
≤ℤ-trans {x} {y} {z} h k = omega arithℤ

pub ≤ℤ-antisymm : {x y : ℤ} → x ≤ℤ y → y ≤ℤ x → x ≡ y
≤ℤ-antisymm {x} {y} h k = omega arithℤ

pub +ℤ-mono : {x y u v : ℤ} → x ≤ℤ y → u ≤ℤ v → (x +ℤ u) ≤ℤ (y +ℤ v)
+ℤ-mono {x} {y} {u} {v} h k = omega (arithℤ, add_parts x u, add_parts y v)

pub ≤ℤ-or-> : (x y : ℤ) → (x ≤ℤ y) ⊎ (y <ℤ x)
≤ℤ-or-> x y = by (le_z x y) refl
  where
    by : (b : Bool) → le_z x y ≡ b → (x ≤ℤ y) ⊎ (y <ℤ x)
    by true e = inl (omega arithℤ)
    by false e = inr (omega arithℤ)

pub *ℤ-nonneg : {x y : ℤ} → pos 0 ≤ℤ x → pos 0 ≤ℤ y → pos 0 ≤ℤ (x *ℤ y)
*ℤ-nonneg {x = pos a} {y = pos b} h k = omega arithℤ
*ℤ-nonneg {x = pos a} {y = negsuc b} h k = absurd k.le
*ℤ-nonneg {x = negsuc a} {y} h k = absurd h.le

pub *ℤ-mono : (c : ℤ) {x y : ℤ} → pos 0 ≤ℤ c → x ≤ℤ y → (c *ℤ x) ≤ℤ (c *ℤ y)
*ℤ-mono c {x} {y} h k =
    let d : pos 0 ≤ℤ (y -ℤ x) = viaℕ (search (ints, at x, at y)) (omega arithℤ) in
    viaℕ (search (ints, at c, at x, at y)) (omega (arith, toℕ (*ℤ-nonneg h d) (search (ints, at c, at x, at y) depth 6)))

pub *ℤ-cancel-< : (c : ℤ) {x y : ℤ} → pos 0 ≤ℤ c → (c *ℤ x) <ℤ (c *ℤ y) → x <ℤ y
*ℤ-cancel-< c {x} {y} h k = by (≤ℤ-or-> y x)
  where
    by : (y ≤ℤ x) ⊎ (x <ℤ y) → x <ℤ y
    by (inl l) = clash_ℤ k (*ℤ-mono c h l)
    by (inr l) = l

pub *ℤ-cancel-≤ : (c : ℤ) {x y : ℤ} → pos 0 <ℤ c → (c *ℤ x) ≤ℤ (c *ℤ y) → x ≤ℤ y
*ℤ-cancel-≤ c {x} {y} h k = by (≤ℤ-or-> x y)
  where
    by : (x ≤ℤ y) ⊎ (y <ℤ x) → x ≤ℤ y
    by (inl l) = l
    by (inr l) =
        let c≥0 : pos 0 ≤ℤ c = omega arithℤ in
        let y+1 : (y +ℤ pos 1) ≤ℤ x = omega (arithℤ, add_parts y (pos 1)) in
        viaℕ (search (ints, at x, at y)) (omega (arithℤ, toℕ k (search (ints, at c, at x, at y)), toℕ (*ℤ-mono c c≥0 y+1) (search (ints, at c, at x, at y))))
