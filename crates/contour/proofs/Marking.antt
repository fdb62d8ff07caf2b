-- The scan that finds the first elements with one bit for each number. Bits are functions of numbers here, so that a loop over an array can
-- cite the laws. Only the bits of elements that carry one are looked at; a first element carries one.
use mathlib.Core.Path.{◌≡◌, refl, sym, ◌∙◌, ap, subst}
use mathlib.Core.Logic.{◌≢◌, ◌⊎◌, inl, inr}
use mathlib.Core.Bool.{Bool, true, false, ◌&&◌, true≢false}
use mathlib.Core.List.{List, [], ◌∷◌, foldl}
use Prim.Native.Nat.{ℕ, zero, suc, ◌+◌, ◌-◌, ◌≤◌, ◌<◌}
use native.Mathlib.Nat.{add-zero, eq-zero-or-pos}
use native.Mathlib.Decide.{dec_lt, ℕ_discrete}
use native.Mathlib.Omega.{arith}
use Rattle.arith.specs.Booleans.{as_number}
use Rattle.arith.proofs.Booleans.{both-sides}
use Rattle.arith.proofs.Finite.{as_number-inj, as_number-above}
use Rattle.contour.specs.Walk.{Walk, Laws, contour, occurrences, OnContour, low, first, seen}
use Rattle.contour.specs.Marking.{Marked}
use Rattle.contour.proofs.Orbit.{same_true}
use Rattle.contour.proofs.Members.{on-self, on_one}
use Rattle.contour.proofs.First.{low-self, first_one, first-low, on_first, is-first, not_first, seen_none, seen_below, seen-above, seen_first, seen_other}

-- `Ok` is what a table of bits has to keep, `bit_of` reads it, and `work` sets the bit of an element if it carries one, and no other.
pub record Marks
    (w : Walk)
    (carries : w.Element → Bool)
    {B : Type 0}
    (Ok : B → Type 0)
    (bit_of : B → ℕ → Bool)
    (work : B → w.Element → B)
    : Type 0 where
  pub stays : (t : B) (x : w.Element) → Ok t → w.is_one x ≡ true → Ok (work t x)
  pub own : (t : B) (x : w.Element) → Ok t → w.is_one x ≡ true → carries x ≡ true → bit_of (work t x) (w.number x) ≡ true
  pub other : (t : B) (x : w.Element) (k : ℕ) → Ok t → w.is_one x ≡ true → k ≢ w.number x → bit_of (work t x) k ≡ bit_of t k

up_to : (P : ℕ → Type 0) (p k : ℕ) → k < p + 1 → P p → (k < p → P k) → P k
up_to P p k l here before = elim (ℕ_discrete k p) [ yes e ↦ subst P (sym e) here | no n ↦ before (omega arith) ]

module _ (w : Walk) (law : Laws w) (carries : w.Element → Bool) where
  open w use {Element as A, same, number, at, many, is_one}

  -- no bit is set at the start
  pub mark-start : (bit : ℕ → Bool) → ((k : ℕ) → k < many → carries (at k) ≡ true → bit k ≡ false) → Marked w carries 0 bit
  mark-start bit clear = record {
    below = λ k h b c. absurd (omega arith);
    from = λ k h b c. clear k b c ∙ sym (seen-above w law 0 (at k) (omega arith));
  }

  module _ (p : ℕ) (bit : ℕ → Bool) (less : p < many) (marked : Marked w carries p bit) where
    -- What the bit of p says

    -- it is clear: p is first
    pub mark-clear : carries (at p) ≡ true → is_one (at p) ≡ true → bit p ≡ false → first w (at p) ≡ true
    mark-clear c h z = go (dec_lt (low w (at p)) p)
      where
        go : Dec (low w (at p) < p) → first w (at p) ≡ true
        go (yes l) = absurd (true≢false (sym (seen_below w law p (at p) h l) ∙ sym (marked.from p (omega arith) less c) ∙ z))
        go (no l) = is-first w law (at p) h (omega (arith, low-self w law (at p), law.number_at p less h))

    -- it is set: p is not
    pub mark_set : carries (at p) ≡ true → bit p ≡ true → first w (at p) ≡ false
    mark_set c t =
        both-sides (first w (at p)) (λ f. absurd (true≢false (sym t ∙ marked.from p (omega arith) less c ∙ unseen f))) (λ f. f)
      where
        unseen : first w (at p) ≡ true → seen w p (at p) ≡ false
        unseen f =
            seen-above w law p (at p) (omega (arith, first-low w law (at p) f, law.number_at p less (first_one w law (at p) f)))

    -- One step of the scan

    module _ (bit' : ℕ → Bool) where
      -- p is first, and the bits of its contour have been set
      pub mark-walked : first w (at p) ≡ true
          → ((k : ℕ) → k < many → carries (at k) ≡ true → OnContour w (at p) (at k) → bit' k ≡ true)
          → ((k : ℕ) → k < many → carries (at k) ≡ true → occurrences w (at k) (contour w (at p)) ≡ 0 → bit' k ≡ bit k)
          → Marked w carries (p + 1) bit'
      mark-walked f set kept = record { below = below; from = from }
        where
          h : is_one (at p) ≡ true
          h = first_one w law (at p) f

          below : (k : ℕ) → k < p + 1 → k < many → carries (at k) ≡ true → bit' k ≡ first w (at k)
          below k l b =
              up_to (λ j. carries (at j) ≡ true → bit' j ≡ first w (at j)) p k l
              (λ c. set p less c (on-self w law (at p) h) ∙ sym f)
              (λ m c.
              elim (eq-zero-or-pos (occurrences w (at k) (contour w (at p)))) [
                | inl z ↦ kept k b c z ∙ marked.below k m b c
                | inr o ↦
                    let e = law.number_at k b (on_one w law (at p) (at k) h o) in
                    absurd (omega (arith, on_first w law (at p) (at k) f o, law.number_at p less h, low-self w law (at k)))
              ])

          from : (k : ℕ) → p + 1 ≤ k → k < many → carries (at k) ≡ true → bit' k ≡ seen w (p + 1) (at k)
          from k l b c =
              let s = seen_first w law p (at k) less f in
              elim (eq-zero-or-pos (occurrences w (at k) (contour w (at p)))) [
                | inl z ↦
                    kept k b c z ∙ marked.from k (omega arith) b c
                    ∙ sym (as_number-inj (seen w (p + 1) (at k)) (seen w p (at k)) (omega arith))
                | inr o ↦ set k b c o ∙ sym (as_number-above (seen w (p + 1) (at k)) (omega arith))
              ]

      -- p is not first, and its bit is clear
      pub mark-passed : first w (at p) ≡ false → (carries (at p) ≡ true → bit' p ≡ false)
          → ((k : ℕ) → k < many → carries (at k) ≡ true → k ≢ p → bit' k ≡ bit k) → Marked w carries (p + 1) bit'
      mark-passed f clear kept = record { below = below; from = from }
        where
          below : (k : ℕ) → k < p + 1 → k < many → carries (at k) ≡ true → bit' k ≡ first w (at k)
          below k l b =
              up_to (λ j. carries (at j) ≡ true → bit' j ≡ first w (at j)) p k l (λ c. clear c ∙ sym f) (λ m c.
              kept k b c (omega arith) ∙ marked.below k m b c)

          from : (k : ℕ) → p + 1 ≤ k → k < many → carries (at k) ≡ true → bit' k ≡ seen w (p + 1) (at k)
          from k l b c = kept k b c (omega arith) ∙ marked.from k (omega arith) b c ∙ sym (seen_other w law p (at k) f)

    -- p does not count
    pub mark-none : is_one (at p) ≡ false → Marked w carries (p + 1) bit
    mark-none h =
        mark-passed bit (not_first w law (at p) h)
        (λ c. marked.from p (omega arith) less c ∙ seen_none w law p (at p) h)
        (λ k b c n. refl)

  -- nothing from p up to q counts
  skip : (d p : ℕ) (bit : ℕ → Bool) → p + d ≤ many → ((j : ℕ) → p ≤ j → j < p + d → is_one (at j) ≡ false)
      → Marked w carries p bit → Marked w carries (p + d) bit
  skip zero p bit l none m = rw add-zero m
  skip (suc d) p bit l none m =
      let e : p + 1 + d ≡ p + suc d = omega arith in
      rw e at (skip d (p + 1) bit (omega arith) (λ j a b. none j (omega arith) (omega arith))
      (mark-none p bit (omega arith) m (none p (omega arith) (omega arith))))

  pub mark-skip : (p q : ℕ) (bit : ℕ → Bool) → p ≤ q → q ≤ many → ((j : ℕ) → p ≤ j → j < q → is_one (at j) ≡ false)
      → Marked w carries p bit → Marked w carries q bit
  mark-skip p q bit h l none m =
      let e : p + (q - p) ≡ q = omega arith in
      rw e at (skip (q - p) p bit (omega arith) (λ j a b. none j a (omega arith)) m)

  -- the scan is past all that carry a bit: the bits say what is first
  pub mark-end : (p : ℕ) (bit : ℕ → Bool) → Marked w carries p bit → ((x : A) → first w x ≡ true → carries x ≡ true)
      → ((k : ℕ) → k < many → carries (at k) ≡ true → k < p) → (k : ℕ) → k < many → first w (at k) ≡ (carries (at k) && bit k)
  mark-end p bit m only past k b =
      both-sides (carries (at k)) (λ c. rw c (sym (m.below k (past k b c) b c))) (λ c. rw c (unfirst c))
    where
      unfirst : carries (at k) ≡ false → first w (at k) ≡ false
      unfirst c = both-sides (first w (at k)) (λ f. absurd (true≢false (sym (only (at k) f) ∙ c))) (λ f. f)

  -- Setting bits along a list

  module _ {B : Type 0} {Ok : B → Type 0} {bit_of : B → ℕ → Bool} {work : B → A → B} (marks : Marks w carries Ok bit_of work) where
    head-one : (x : A) (l : List A) → ((y : A) → 0 < occurrences w y (x ∷ l) → is_one y ≡ true) → is_one x ≡ true
    unfolding occurrences
    head-one x l ones = ones x (omega (arith, ap as_number (law.same_self x)))

    pub bits-ok : (l : List A) (t : B) → ((y : A) → 0 < occurrences w y l → is_one y ≡ true) → Ok t → Ok (foldl work t l)
    unfolding occurrences
    bits-ok [] t ones ok = ok
    bits-ok (x ∷ l) t ones ok = bits-ok l (work t x) (λ y h. ones y (omega arith)) (marks.stays t x ok (head-one x l ones))

    pub bits-kept : (l : List A) (t : B) → ((y : A) → 0 < occurrences w y l → is_one y ≡ true) → Ok t
        → (k : ℕ) → k < many → occurrences w (at k) l ≡ 0 → bit_of (foldl work t l) k ≡ bit_of t k
    unfolding occurrences
    bits-kept [] t ones ok k b z = refl
    bits-kept (x ∷ l) t ones ok k b z =
        let h = head-one x l ones in
        bits-kept l (work t x) (λ y o. ones y (omega arith)) (marks.stays t x ok h) k b (omega arith)
        ∙ marks.other t x k ok h (λ e. absurd (omega (arith, ap as_number (same_true w law (ap at e ∙ law.at_number x h)))))

    pub bits-set : (l : List A) (t : B) → ((y : A) → 0 < occurrences w y l → is_one y ≡ true) → Ok t
        → (k : ℕ) → k < many → carries (at k) ≡ true → 0 < occurrences w (at k) l → bit_of (foldl work t l) k ≡ true
    unfolding occurrences
    bits-set [] t ones ok k b c o = absurd (omega arith)
    bits-set (x ∷ l) t ones ok k b c o =
        go (λ r. bits-set l (work t x) (λ y u. ones y (omega arith)) (marks.stays t x ok h) k b c r) (eq-zero-or-pos (occurrences w (at k) l))
      where
        h : is_one x ≡ true
        h = head-one x l ones

        go : (0 < occurrences w (at k) l → bit_of (foldl work (work t x) l) k ≡ true) → (occurrences w (at k) l ≡ 0) ⊎ (0 < occurrences w (at k) l)
            → bit_of (foldl work (work t x) l) k ≡ true
        go later (inr r) = later r
        go later (inl z) =
            let e : at k ≡ x = law.same_eq (at k) x (as_number-above (same (at k) x) (omega arith)) in
            let n : number x ≡ k = ap number (sym e) ∙ law.number_at k b (rw e h) in
            bits-kept l (work t x) (λ y u. ones y (omega arith)) (marks.stays t x ok h) k b z
            ∙ subst (λ (j : ℕ). bit_of (work t x) j ≡ true) n (marks.own t x ok h (rw e at c))

    -- so marking the contour of a first element is one step of the scan
    pub mark-contour : (p : ℕ) (t : B) → p < many → Ok t → first w (at p) ≡ true → Marked w carries p (bit_of t)
        → Marked w carries (p + 1) (bit_of (foldl work t (contour w (at p))))
    mark-contour p t less ok f m =
        let ones : (y : A) → OnContour w (at p) y → is_one y ≡ true = λ y o. on_one w law (at p) y (first_one w law (at p) f) o in
        mark-walked p (bit_of t) less m (bit_of (foldl work t (contour w (at p)))) f
        (λ k b c o. bits-set (contour w (at p)) t ones ok k b c o)
        (λ k b c z. bits-kept (contour w (at p)) t ones ok k b z)
