-- The laws of `Rattle.arith.specs.Ranges`, by which a loop grows a range and joins two.
use mathlib.Core.Path.{◌≡◌, refl, ap, sym, subst, ◌∙◌}
use mathlib.Core.Bool.{Bool, true, false}
use mathlib.Core.List.{List}
use Prim.Native.Nat.{ℕ, zero, suc, ◌+◌, ◌-◌, ◌≤◌, ◌<◌}
use native.Mathlib.Nat.{add-zero, add-suc, zero-add, add_assoc}
use native.Mathlib.Numerals.{add-one}
use native.Mathlib.Decide.{ℕ_discrete, dec_lt}
use native.Mathlib.Omega.{arith}
use borrow.Author.Tests.{lt-ltb, le-ltb, ltb-true, ltb-false}
use lib.Dec.{ltb}
use lib.ListN.{length, get_or, set, length-set}
use lib.Seq.{get_or-set_same, get_or-set_other, ext_get_or}
use Rattle.arith.proofs.Booleans.{one-le, both-sides}
use Rattle.std.specs.Prelude.{Option, Some, None}
use Rattle.arith.specs.Ranges.{tabulate_from, tabulate, count, least_from, least, least_of, fill}

-- Two ranges joined

pub below-add : (P : ℕ → Type 0) (n m : ℕ) → ((k : ℕ) → k < n → P k) → ((j : ℕ) → j < m → P (n + j)) → (k : ℕ) → k < n + m → P k
below-add P n m low high k h = elim (dec_lt k n) [
  | yes l ↦ low k l
  | no g ↦ subst P (add_back g) (high (k - n) (omega arith))
]
  where
    add_back : ¬ (k < n) → n + (k - n) ≡ k
    add_back g = omega arith

-- Lists of values

pub length-tabulate_from : (f : ℕ → ℕ) (i n : ℕ) → length (tabulate_from f i n) ≡ n
unfolding tabulate_from
length-tabulate_from f i zero = refl
length-tabulate_from f i (suc n) = ap suc (length-tabulate_from f (suc i) n)

pub get_d-tabulate_from : (f : ℕ → ℕ) (i n k d : ℕ) → k < n → get_or (tabulate_from f i n) k d ≡ f (i + k)
unfolding tabulate_from
get_d-tabulate_from f i zero k d h = absurd (omega arith)
get_d-tabulate_from f i (suc n) zero d h = rw add-zero
get_d-tabulate_from f i (suc n) (suc k) d h =
    get_d-tabulate_from f (suc i) n k d (omega arith) ∙ ap f (omega arith)

pub get_d_tabulate : (f : ℕ → ℕ) (n k d : ℕ) → k < n → get_or (tabulate f n) k d ≡ f k
get_d_tabulate f n k d h = get_d-tabulate_from f 0 n k d h ∙ ap f (zero-add k)

-- Counting

pub count-zero : (f : ℕ → Bool) → 0 ≡ count f 0
unfolding count
count-zero f = refl

pub count_add : (f : ℕ → Bool) (n m : ℕ) → count f (n + m) ≡ count f n + count (λ k. f (n + k)) m
unfolding count
count_add f n zero = rw (add-zero, add-zero)
count_add f n (suc m) = rw add-suc (omega (arith, count_add f n m))

pub count_same : (f g : ℕ → Bool) (n : ℕ) → ((k : ℕ) → k < n → f k ≡ g k) → count f n ≡ count g n
unfolding count
count_same f g zero h = refl
count_same f g (suc n) h =
    rw (count_same f g n (λ k l. h k (omega arith)), h n (omega arith))

pub count_none : (f : ℕ → Bool) (n : ℕ) → ((k : ℕ) → k < n → f k ≡ false) → count f n ≡ 0
unfolding count
count_none f zero h = refl
count_none f (suc n) h = rw (count_none f n (λ k l. h k (omega arith)), h n (omega arith))

-- where none from k on passes the test, counting may stop there
pub count_past : (f : ℕ → Bool) (k n : ℕ) → k ≤ n → ((j : ℕ) → k ≤ j → j < n → f j ≡ false) → count f n ≡ count f k
count_past f k n l none =
    let e : k + (n - k) ≡ n = omega arith in
    let rest = count_none (λ j. f (k + j)) (n - k) (λ j h. none (k + j) (omega arith) (omega arith)) in
    sym (ap (count f) e) ∙ count_add f k (n - k) ∙ omega (arith, rest)

pub count-le : (f : ℕ → Bool) (n : ℕ) → count f n ≤ n
unfolding count
count-le f zero = omega arith
count-le f (suc n) = omega (arith, count-le f n, one-le (f n))

-- The least

pub least_from-is : (f : ℕ → Bool) (i n k : ℕ) → i ≤ k → k < i + n → f k ≡ true → ((j : ℕ) → i ≤ j → j < k → f j ≡ false) → least_from f i n ≡ k
unfolding least_from
least_from-is f i zero k l u t b = absurd (omega arith)
least_from-is f i (suc n) k l u t b = elim (ℕ_discrete i k) [
  | yes e ↦ rw (e, t)
  | no d ↦
      rw (b i (omega arith) (omega arith))
      (least_from-is f (suc i) n k (omega arith) (omega arith) t (λ j lj uj. b j (omega arith) uj))
]

pub least_from-none : (f : ℕ → Bool) (i n : ℕ) → ((j : ℕ) → i ≤ j → j < i + n → f j ≡ false) → least_from f i n ≡ i + n
unfolding least_from
least_from-none f i zero b = sym (add-zero i)
least_from-none f i (suc n) b =
    rw (b i (omega arith) (omega arith))
    (least_from-none f (suc i) n (λ j l u. b j (omega arith) (omega arith)) ∙ (omega arith))

-- a number that passes, none below it passing, is the least
pub least-is : (f : ℕ → Bool) (n k : ℕ) → k < n → f k ≡ true → ((j : ℕ) → j < k → f j ≡ false) → least f n ≡ k
least-is f n k u t b = least_from-is f 0 n k (omega arith) (omega arith) t (λ j l. b j)

pub least-none : (f : ℕ → Bool) (n : ℕ) → ((j : ℕ) → j < n → f j ≡ false) → least f n ≡ n
least-none f n b = least_from-none f 0 n (λ j l u. b j (omega arith)) ∙ zero-add n

pub least_from-holds : (f : ℕ → Bool) (i n : ℕ) → least_from f i n < i + n → f (least_from f i n) ≡ true
unfolding least_from
least_from-holds f i zero h = absurd (omega arith)
least_from-holds f i (suc n) h = both-sides (f i)
    (λ t. rw t t)
    (λ e. rw e (least_from-holds f (suc i) n (let g = rw e at h in omega arith)))

pub least_from-below : (f : ℕ → Bool) (i n j : ℕ) → i ≤ j → j < least_from f i n → f j ≡ false
unfolding least_from
least_from-below f i zero j l h = absurd (omega arith)
least_from-below f i (suc n) j l h = both-sides (f i)
    (λ t. let g = rw t at h in absurd (omega arith))
    (λ e. elim (ℕ_discrete i j) [
      | yes q ↦ rw (← q) e
      | no d ↦ least_from-below f (suc i) n j (omega arith) (rw e at h)
    ])

pub least_from-le : (f : ℕ → Bool) (i n : ℕ) → least_from f i n ≤ i + n
unfolding least_from
least_from-le f i zero = omega arith
least_from-le f i (suc n) = both-sides (f i)
    (λ t. rw t (omega arith))
    (λ e. rw e (omega (arith, least_from-le f (suc i) n)))

pub least_from-same : (f g : ℕ → Bool) (i n : ℕ) → ((k : ℕ) → f k ≡ g k) → least_from f i n ≡ least_from g i n
unfolding least_from
least_from-same f g i zero h = refl
least_from-same f g i (suc n) h = rw (h i, least_from-same f g (suc i) n h)

pub least_of-same : (f g : ℕ → Bool) (n : ℕ) → ((k : ℕ) → f k ≡ g k) → least_of f n ≡ least_of g n
unfolding least_of
least_of-same f g n h = rw (least_from-same f g 0 n h)

-- a number that passes, none below it passing, is found; where none passes, none is
module _ (f : ℕ → Bool) (n : ℕ) where
  pub found-is : (k : ℕ) → k < n → f k ≡ true → ((j : ℕ) → j < k → f j ≡ false) → Some k ≡ least_of f n
  unfolding least_of
  found-is k u t b = rw (least-is f n k u t b, lt-ltb k n u)

  pub found-none : ((j : ℕ) → j < n → f j ≡ false) → None ≡ least_of f n
  unfolding least_of
  found-none b = rw (least-none f n b, le-ltb n n (omega arith))

  -- what is found passes, and none below it does; where none is found, none passes
  pub record Found (k : ℕ) : Type 0 where
    pub within : k < n
    pub passes : f k ≡ true
    pub before : (j : ℕ) → j < k → f j ≡ false

  some-is : {x : Option ℕ} (k : ℕ) → x ≡ least_of f n → x ≡ Some k → (k ≡ least f n) × (k < n)
  unfolding least_of
  some-is k e s = both-sides (ltb (least f n) n)
      (λ t. let found : Some k ≡ Some (least f n) = sym s ∙ e ∙ rw t in
      let same : k ≡ least f n = cc in
      (same, omega (arith, same, ltb-true (least f n) n t)))
      (λ t. let none : ◌≡◌ {A = Option ℕ} (Some k) None = sym s ∙ e ∙ rw t in absurd cc)

  pub found : {x : Option ℕ} {k : ℕ} → x ≡ least_of f n → x ≡ Some k → Found k
  found {x} {k} e s =
      let is = some-is k e s in
      record {
        within = is.1;
        passes = rw is.0 (least_from-holds f 0 n (omega (arith, is.0, is.1)));
        before = λ j l. least_from-below f 0 n j (omega arith) (omega (arith, is.0));
      }

  pub none-found : {x : Option ℕ} → x ≡ least_of f n → x ≡ None → (j : ℕ) → j < n → f j ≡ false
  unfolding least_of
  none-found e s j l = both-sides (ltb (least f n) n)
      (λ t. let some : ◌≡◌ {A = Option ℕ} None (Some (least f n)) = sym s ∙ e ∙ rw t in absurd cc)
      (λ t. least_from-below f 0 n j (omega arith) (omega (arith, ltb-false (least f n) n t)))

-- Replacing a range

pub length-fill : (f : ℕ → ℕ) (a n : ℕ) (t : List ℕ) → length (fill f a n t) ≡ length t
unfolding fill
length-fill f a zero t = refl
length-fill f a (suc n) t = length-set (fill f a n t) (a + n) (f (a + n)) ∙ length-fill f a n t

pub fill_none : (f : ℕ → ℕ) (a : ℕ) (t : List ℕ) → t ≡ fill f a 0 t
unfolding fill
fill_none f a t = refl

pub fill_more : (f : ℕ → ℕ) (a n : ℕ) (t : List ℕ) → set (fill f a n t) (a + n) (f (a + n)) ≡ fill f a (n + 1) t
unfolding fill
fill_more f a n t = rw add-one

pub fill-add : (f : ℕ → ℕ) (a n m : ℕ) (t : List ℕ) → fill f (a + n) m (fill f a n t) ≡ fill f a (n + m) t
unfolding fill
fill-add f a n zero t = rw add-zero
fill-add f a n (suc m) t = rw (add-suc, fill-add f a n m t, add_assoc a n m)

pub fill-same : (f g : ℕ → ℕ) (a n : ℕ) (t : List ℕ) → ((k : ℕ) → k < n → f (a + k) ≡ g (a + k)) → fill f a n t ≡ fill g a n t
unfolding fill
fill-same f g a zero t h = refl
fill-same f g a (suc n) t h = rw (fill-same f g a n t (λ k l. h k (omega arith)), h n (omega arith))

pub fill-at : (f : ℕ → ℕ) (a n k d : ℕ) (t : List ℕ) → k < n → a + n ≤ length t → get_or (fill f a n t) (a + k) d ≡ f (a + k)
unfolding fill
fill-at f a zero k d t h l = absurd (omega arith)
fill-at f a (suc n) k d t h l = elim (ℕ_discrete k n) [
  | yes e ↦ rw e (get_or-set_same (fill f a n t) (a + n) (f (a + n)) d (omega (arith, length-fill f a n t)))
  | no ne ↦
      get_or-set_other (fill f a n t) (a + n) (a + k) (f (a + n)) d (λ e. ne (omega arith))
      ∙ fill-at f a n k d t (omega arith) (omega arith)
]

-- a list replaced whole is the list of the values
pub fill-all : (f : ℕ → ℕ) (n : ℕ) (t : List ℕ) → length t ≡ n → fill f 0 n t ≡ tabulate f n
fill-all f n t e =
    ext_get_or 0 (fill f 0 n t) (tabulate f n) (length-fill f 0 n t ∙ e ∙ sym (length-tabulate_from f 0 n))
    λ k h.
    let l : k < n = omega (arith, length-fill f 0 n t) in
    rw zero-add at (fill-at f 0 n k 0 t l (omega arith)) ∙ sym (get_d_tabulate f n k 0 l)
