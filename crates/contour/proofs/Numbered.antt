-- The elements of a walk that pass a test, ascending by number: one and those after it, the same where none is passed, none at the end; how many
-- they are; and, where only elements that count pass, that each which passes stands once in the list of all, and nothing else does.
use mathlib.Core.Path.{◌≡◌, refl, sym, ◌∙◌, ap}
use mathlib.Core.Logic.{inl, inr}
use mathlib.Core.Bool.{Bool, true, false, true≢false}
use mathlib.Core.List.{List, [], ◌∷◌}
use Prim.Native.Nat.{ℕ, zero, suc, ◌+◌, ◌-◌, ◌≤◌, ◌<◌}
use native.Mathlib.Nat.{add-zero, eq-zero-or-pos}
use native.Mathlib.Decide.{ℕ_discrete, dec_lt}
use native.Mathlib.Omega.{arith}
use lib.ListN.{length, get_or}
use Rattle.arith.specs.Booleans.{as_number}
use Rattle.arith.proofs.Booleans.{both-sides, one-le}
use Rattle.arith.proofs.Finite.{count-more}
use Rattle.arith.specs.Ranges.{count}
use Rattle.contour.specs.Walk.{Walk, Laws, occurrences, numbered, numbered_from, cons_if}
use Rattle.contour.proofs.Orbit.{same_true, same_false}

module _ (w : Walk) (test : w.Element → Bool) where
  open w use {Element as A, at, many}

  pub numbered-none : (k : ℕ) → numbered w test k 0 ≡ []
  unfolding numbered
  numbered-none k = refl

  pub numbered-here : (k n : ℕ) → test (at k) ≡ true → numbered w test k (suc n) ≡ at k ∷ numbered w test (k + 1) n
  unfolding numbered
  numbered-here k n f = ap (λ b. cons_if b (at k) (numbered w test (k + 1) n)) f

  pub numbered-other : (k n : ℕ) → test (at k) ≡ false → numbered w test k (suc n) ≡ numbered w test (k + 1) n
  unfolding numbered
  numbered-other k n f = ap (λ b. cons_if b (at k) (numbered w test (k + 1) n)) f

  -- as many as numbers of elements that pass
  pub length-numbered : (k n : ℕ) → length (numbered w test k n) + count (λ j. test (at j)) k ≡ count (λ j. test (at j)) (k + n)
  length-numbered k zero = rw (add-zero, numbered-none) (omega arith)
  length-numbered k (suc n) =
      let further = length-numbered (k + 1) n in
      let e : k + 1 + n ≡ k + suc n = omega arith in
      let s = ap (count (λ j. test (at j))) e in
      let m = count-more (λ j. test (at j)) k in
      both-sides (test (at k)) (λ f. rw (numbered-here k n f) (omega (arith, ap as_number f)))
      (λ f. rw (numbered-other k n f) (omega (arith, ap as_number f)))

  -- Those from number p on

  pub from_end : (p : ℕ) → many ≤ p → numbered_from w test p ≡ []
  from_end p l = let e : many - p ≡ 0 = omega arith in ap (numbered w test p) e ∙ numbered-none p

  pub from-here : (p : ℕ) → p < many → test (at p) ≡ true → numbered_from w test p ≡ at p ∷ numbered_from w test (p + 1)
  from-here p l f =
      let e : many - p ≡ suc (many - (p + 1)) = omega arith in
      ap (numbered w test p) e ∙ numbered-here p (many - (p + 1)) f

  from-other : (p : ℕ) → test (at p) ≡ false → numbered_from w test p ≡ numbered_from w test (p + 1)
  from-other p f = go (dec_lt p many)
    where
      go : Dec (p < many) → numbered_from w test p ≡ numbered_from w test (p + 1)
      go (yes l) =
          let e : many - p ≡ suc (many - (p + 1)) = omega arith in
          ap (numbered w test p) e ∙ numbered-other p (many - (p + 1)) f
      go (no l) = from_end p (omega arith) ∙ sym (from_end (p + 1) (omega arith))

  pub from-skip : (d p : ℕ) → ((j : ℕ) → p ≤ j → j < p + d → test (at j) ≡ false) → numbered_from w test p ≡ numbered_from w test (p + d)
  from-skip zero p none = rw add-zero
  from-skip (suc d) p none =
      let e : p + 1 + d ≡ p + suc d = omega arith in
      from-other p (none p (omega arith) (omega arith))
      ∙ from-skip d (p + 1) (λ j h l. none j (omega arith) (omega arith))
      ∙ ap (numbered_from w test) e

-- Numbers that ascend

module _ (w : Walk) where
  open w use {Element as A, number}

  -- the numbers of a list's elements are at least k, and each is above the one before
  abbrev pub Rising : ℕ → List A → Type 0
  Rising k [] = Unit {0}
  Rising k (x ∷ l) = (k ≤ number x) × Rising (number x + 1) l

  rise-from : (l : List A) (k m : ℕ) → k ≤ m → Rising m l → Rising k l
  rise-from [] k m h r = tt
  rise-from (x ∷ l) k m h r = (omega arith, r.1)

  rise-at : (l : List A) (k i : ℕ) (d : A) → Rising k l → i < length l → k ≤ number (get_or l i d)
  rise-at [] k i d r h = absurd (omega arith)
  rise-at (x ∷ l) k zero d r h = r.0
  rise-at (x ∷ l) k (suc i) d r h = omega (arith, r.0, rise-at l (number x + 1) i d r.1 (omega arith))

  pub rise-less : (l : List A) (k i j : ℕ) (d : A) → Rising k l → i < j → j < length l → number (get_or l i d) < number (get_or l j d)
  rise-less [] k i j d r h b = absurd (omega arith)
  rise-less (x ∷ l) k i zero d r h b = absurd (omega arith)
  rise-less (x ∷ l) k zero (suc j) d r h b = omega (arith, rise-at l (number x + 1) j d r.1 (omega arith))
  rise-less (x ∷ l) k (suc i) (suc j) d r h b = rise-less l (number x + 1) i j d r.1 (omega arith) (omega arith)

module _ (w : Walk) (law : Laws w) where
  open w use {Element as A, same, number, at, many, is_one}

  rise-none : (l : List A) (k : ℕ) (y : A) → Rising w k l → number y < k → occurrences w y l ≡ 0
  unfolding occurrences
  rise-none [] k y r h = refl
  rise-none (x ∷ l) k y r h =
      let other = same_false w law {x = y} {y = x} (λ e. omega (arith, r.0, ap number e)) in
      omega (arith, ap as_number other, rise-none l (number x + 1) y r.1 (omega (arith, r.0)))

  rise-once : (l : List A) (k : ℕ) (y : A) → Rising w k l → occurrences w y l ≤ 1
  unfolding occurrences
  rise-once [] k y r = omega arith
  rise-once (x ∷ l) k y r =
      both-sides (same y x)
      (λ t. omega (arith, one-le (same y x), rise-none l (number x + 1) y r.1 (omega (arith, ap number (law.same_eq y x t)))))
      (λ u. omega (arith, ap as_number u, rise-once l (number x + 1) y r.1))

  -- Only elements that count pass

  module _ (test : A → Bool) (one : (x : A) → test x ≡ true → is_one x ≡ true) where
    rise-numbered : (k n : ℕ) → k + n ≤ many → Rising w k (numbered w test k n)
    rise-numbered k zero l = rw (numbered-none w test) tt
    rise-numbered k (suc n) l =
        let further = rise-numbered (k + 1) n (omega arith) in
        both-sides (test (at k)) (λ f. rw (numbered-here w test k n f) (now f further))
        (λ f. rw (numbered-other w test k n f) (rise-from w (numbered w test (k + 1) n) k (k + 1) (omega arith) further))
      where
        now : test (at k) ≡ true → Rising w (k + 1) (numbered w test (k + 1) n) → Rising w k (at k ∷ numbered w test (k + 1) n)
        now f further =
            let e = law.number_at k (omega arith) (one (at k) f) in
            rw e (omega arith, further)

    pub all-rise : Rising w 0 (numbered w test 0 many)
    all-rise = rise-numbered 0 many (omega arith)

    numbered-only : (k n : ℕ) (y : A) → 0 < occurrences w y (numbered w test k n) → test y ≡ true
    unfolding occurrences
    numbered-only k zero y h = absurd (omega (arith, ap (occurrences w y) (numbered-none w test k)))
    numbered-only k (suc n) y h =
        let later = numbered-only (k + 1) n y in
        both-sides (test (at k))
        (λ f.
        let at-k : 0 < as_number (same y (at k)) + occurrences w y (numbered w test (k + 1) n) = rw (numbered-here w test k n f) at h in
        both-sides (same y (at k)) (λ t. rw (law.same_eq y (at k) t) f) (λ u. later (omega (arith, ap as_number u))))
        (λ f. later (rw (numbered-other w test k n f) at h))

    numbered-all : (k n : ℕ) (y : A) → test y ≡ true → k ≤ number y → number y < k + n → 0 < occurrences w y (numbered w test k n)
    unfolding occurrences
    numbered-all k zero y f h l = absurd (omega arith)
    numbered-all k (suc n) y f h l = go (numbered-all (k + 1) n y f) (ℕ_discrete (number y) k)
      where
        go : (k + 1 ≤ number y → number y < k + 1 + n → 0 < occurrences w y (numbered w test (k + 1) n)) → Dec (number y ≡ k)
            → 0 < occurrences w y (numbered w test k (suc n))
        go later (yes q) =
            let e : y ≡ at k = sym (law.at_number y (one y f)) ∙ ap at q in
            rw (numbered-here w test k n (rw e at f)) (omega (arith, ap as_number (same_true w law e)))
        go later (no q) =
            let there = later (omega arith) (omega arith) in
            both-sides (test (at k)) (λ g. rw (numbered-here w test k n g) (omega arith)) (λ g. rw (numbered-other w test k n g) there)

    pub all-only : (y : A) → 0 < occurrences w y (numbered w test 0 many) → test y ≡ true
    all-only y h = numbered-only 0 many y h

    pub all_in : (y : A) → test y ≡ true → 0 < occurrences w y (numbered w test 0 many)
    all_in y f = numbered-all 0 many y f (omega arith) (omega (arith, law.number_less y (one y f)))

    -- each that passes stands once in the list of all, and nothing else does
    pub all_once : (y : A) → occurrences w y (numbered w test 0 many) ≡ as_number (test y)
    all_once y =
        both-sides (test y)
        (λ f. omega (arith, ap as_number f, all_in y f, rise-once (numbered w test 0 many) 0 y all-rise))
        (λ n. elim (eq-zero-or-pos (occurrences w y (numbered w test 0 many))) [
          | inl z ↦ omega (arith, ap as_number n)
          | inr o ↦ absurd (true≢false (sym (all-only y o) ∙ n))
        ])
