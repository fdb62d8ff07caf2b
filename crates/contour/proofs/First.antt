-- The lowest number on an orbit, and first elements. The lowest number is the same all along an orbit; the element that has it is first, and
-- the only first one there. `seen_first` and `seen_other` say whose contours begin below p + 1 but not below p: all else rests on them.
use mathlib.Core.Path.{◌≡◌, refl, sym, ◌∙◌, ap, subst}
use mathlib.Core.Logic.{◌≢◌, ◌⊎◌, inl, inr}
use mathlib.Core.Bool.{true, false, true≢false, and-false, and-eq-true_iff}
use mathlib.Core.List.{List, [], ◌∷◌}
use Prim.Native.Nat.{ℕ, ◌+◌, ◌≤◌, ◌<◌, min}
use native.Mathlib.Nat.{eq-zero-or-pos}
use native.Mathlib.Decide.{dec_le, dec_lt}
use native.Mathlib.Omega.{arith}
use borrow.Author.Tests.{eqb-true, eq-eqb, lt-ltb, le-ltb}
use lib.Dec.{eqb}
use Rattle.arith.specs.Booleans.{as_number}
use Rattle.arith.proofs.Booleans.{both-sides}
use Rattle.contour.specs.Walk.{Walk, Laws, contour, occurrences, OnContour, lowest, low, first, seen}
use Rattle.contour.proofs.Members.{once, on-self, on_one, on-swap, on-trans}

module _ (w : Walk) (law : Laws w) where
  open w use {Element as A, same, number, at, many, is_one}

  -- The lowest number

  lowest_start : (m : ℕ) (l : List A) → lowest w m l ≤ m
  unfolding lowest
  lowest_start m [] = omega arith
  lowest_start m (x ∷ l) = omega (arith, lowest_start m l)

  lowest-le : (m : ℕ) (l : List A) (y : A) → 0 < occurrences w y l → lowest w m l ≤ number y
  unfolding lowest occurrences
  lowest-le m [] y h = absurd (omega arith)
  lowest-le m (x ∷ l) y h =
      both-sides (same y x) (λ t. omega (arith, ap number (law.same_eq y x t)))
      (λ f. omega (arith, lowest-le m l y (omega (arith, ap as_number f))))

  lowest-is : (m : ℕ) (l : List A) → (lowest w m l ≡ m) ⊎ ((z : A) × (0 < occurrences w z l) × (lowest w m l ≡ number z))
  unfolding lowest occurrences
  lowest-is m [] = inl refl
  lowest-is m (x ∷ l) = go (dec_le (number x) (lowest w m l)) (lowest-is m l)
    where
      go : Dec (number x ≤ lowest w m l) → (lowest w m l ≡ m) ⊎ ((z : A) × (0 < occurrences w z l) × (lowest w m l ≡ number z))
          → (min (number x) (lowest w m l) ≡ m) ⊎ ((z : A) × (0 < as_number (same z x) + occurrences w z l) × (min (number x) (lowest w m l) ≡ number z))
      go (yes h) i = inr (x, omega (arith, ap as_number (law.same_self x)), omega arith)
      go (no h) (inl e) = inl (omega arith)
      go (no h) (inr p) = inr (p.0, omega arith, omega arith)

  -- some element of the contour has it
  bottom : (x : A) → is_one x ≡ true → (z : A) × OnContour w x z × (low w x ≡ number z)
  unfolding low
  bottom x h = elim (lowest-is (number x) (contour w x)) [ inl e ↦ (x, on-self w law x h, e) | inr p ↦ p ]

  pub low-self : (x : A) → low w x ≤ number x
  unfolding low
  low-self x = lowest_start (number x) (contour w x)

  pub low-le : (x y : A) → OnContour w x y → low w x ≤ number y
  unfolding low
  low-le x y o = lowest-le (number x) (contour w x) y o

  pub low_same : (x y : A) → is_one x ≡ true → OnContour w x y → low w x ≡ low w y
  low_same x y h o =
      let l = on_one w law x y h o in
      let a = bottom x h in
      let b = bottom y l in
      omega (
        arith,
        low-le x b.0 (on-trans w law x y b.0 h o b.1),
        low-le y a.0 (on-trans w law y x a.0 l (on-swap w law x y h o) a.1),
      )

  -- the element of that number
  pub low-on : (x : A) → is_one x ≡ true → OnContour w x (at (low w x))
  low-on x h =
      let z = bottom x h in
      subst (OnContour w x) (sym (law.at_number z.0 (on_one w law x z.0 h z.1)) ∙ ap at (sym z.2)) z.1

  pub low-less : (x : A) → is_one x ≡ true → low w x < many
  low-less x h = omega (arith, low-self x, law.number_less x h)

  -- First elements

  pub first_one : (x : A) → first w x ≡ true → is_one x ≡ true
  unfolding first
  first_one x f = ((and-eq-true_iff (is_one x) (eqb (low w x) (number x))).0 f).0

  pub first-low : (x : A) → first w x ≡ true → low w x ≡ number x
  unfolding first
  first-low x f = eqb-true (low w x) (number x) ((and-eq-true_iff (is_one x) (eqb (low w x) (number x))).0 f).1

  pub is-first : (x : A) → is_one x ≡ true → low w x ≡ number x → first w x ≡ true
  unfolding first
  is-first x h e = (and-eq-true_iff (is_one x) (eqb (low w x) (number x))).1 (h, eq-eqb (low w x) (number x) e)

  pub not_first : (x : A) → is_one x ≡ false → first w x ≡ false
  unfolding first
  not_first x h = rw h

  -- the lowest element is first
  pub low_first : (x : A) → is_one x ≡ true → first w (at (low w x)) ≡ true
  low_first x h =
      let z : A = at (low w x) in
      let o = low-on x h in
      let l = on_one w law x z h o in
      is-first z l (sym (low_same x z h o) ∙ sym (law.number_at (low w x) (low-less x h) l))

  -- the elements on the contour of a first one are those with its number as their lowest
  pub first_on : (x y : A) → first w x ≡ true → is_one y ≡ true → low w y ≡ number x → OnContour w x y
  first_on x y f h e =
      let l = first_one x f in
      on-swap w law y x h (subst (OnContour w y) (ap at e ∙ law.at_number x l) (low-on y h))

  pub on_first : (x y : A) → first w x ≡ true → OnContour w x y → low w y ≡ number x
  on_first x y f o = sym (low_same x y (first_one x f) o) ∙ first-low x f

  -- so each element is on the contour of one first element alone
  pub first-unique : (x y z : A) → first w x ≡ true → first w y ≡ true → OnContour w x z → OnContour w y z → x ≡ y
  first-unique x y z f g o u =
      sym (law.at_number x (first_one x f)) ∙ ap at (sym (on_first x z f o) ∙ on_first y z g u) ∙ law.at_number y (first_one y g)

  first-once : (x y : A) → first w x ≡ true → is_one y ≡ true → low w y ≡ number x → occurrences w y (contour w x) ≡ 1
  first-once x y f h e = omega (arith, once w law x y (first_one x f), first_on x y f h e)

  first-none : (x y : A) → first w x ≡ true → (is_one y ≡ true → low w y ≢ number x) → occurrences w y (contour w x) ≡ 0
  first-none x y f n =
      elim (eq-zero-or-pos (occurrences w y (contour w x))) [
        | inl z ↦ z
        | inr o ↦ absurd (n (on_one w law x y (first_one x f) o) (on_first x y f o))
      ]

  -- each element that counts is on the contour of its lowest element, at one place
  pub low-once : (y : A) → is_one y ≡ true → occurrences w y (contour w (at (low w y))) ≡ 1
  low-once y h =
      let f = low_first y h in
      first-once (at (low w y)) y f h (sym (law.number_at (low w y) (low-less y h) (first_one (at (low w y)) f)))

  -- Contours that begin below a number

  pub seen_none : (p : ℕ) (y : A) → is_one y ≡ false → seen w p y ≡ false
  unfolding seen
  seen_none p y h = rw h

  pub seen_below : (p : ℕ) (y : A) → is_one y ≡ true → low w y < p → seen w p y ≡ true
  unfolding seen
  seen_below p y h l = rw h (lt-ltb (low w y) p l)

  pub seen-above : (p : ℕ) (y : A) → p ≤ low w y → seen w p y ≡ false
  unfolding seen
  seen-above p y l = rw (le-ltb (low w y) p l) (and-false (is_one y))

  pub seen_all : (p : ℕ) (y : A) → many ≤ p → seen w p y ≡ is_one y
  seen_all p y l =
      both-sides (is_one y) (λ h. seen_below p y h (omega (arith, low-less y h)) ∙ sym h) (λ h. seen_none p y h ∙ sym h)

  -- the contours that begin below p + 1 are those that begin below p, and that of p if it is first
  pub seen_first : (p : ℕ) (y : A) → p < many → first w (at p) ≡ true
      → as_number (seen w (p + 1) y) ≡ occurrences w y (contour w (at p)) + as_number (seen w p y)
  seen_first p y b f = both-sides (is_one y) (λ h. counts h (dec_lt (low w y) p) (dec_lt p (low w y))) none
    where
      x : A
      x = at p

      e : number x ≡ p
      e = law.number_at p b (first_one x f)

      none : is_one y ≡ false → as_number (seen w (p + 1) y) ≡ occurrences w y (contour w x) + as_number (seen w p y)
      none h =
          omega
          (arith, first-none x y f (λ l. absurd (true≢false (sym l ∙ h))), ap as_number (seen_none p y h), ap as_number (seen_none (p + 1) y h))

      counts : is_one y ≡ true → Dec (low w y < p) → Dec (p < low w y) → as_number (seen w (p + 1) y) ≡ occurrences w y (contour w x) + as_number (seen w p y)
      counts h (yes l) c =
          let before = ap as_number (seen_below p y h l) in
          let after = ap as_number (seen_below (p + 1) y h (omega arith)) in
          omega (arith, first-none x y f (λ q. omega (arith, e)))
      counts h (no n) (yes l) =
          let before = ap as_number (seen-above p y (omega arith)) in
          let after = ap as_number (seen-above (p + 1) y (omega arith)) in
          omega (arith, first-none x y f (λ q. omega (arith, e)))
      counts h (no n) (no m) =
          let before = ap as_number (seen-above p y (omega arith)) in
          let after = ap as_number (seen_below (p + 1) y h (omega arith)) in
          omega (arith, first-once x y f h (omega (arith, e)))

  pub seen_other : (p : ℕ) (y : A) → first w (at p) ≡ false → seen w (p + 1) y ≡ seen w p y
  seen_other p y f =
      both-sides (is_one y) (λ h. counts h (dec_lt (low w y) p) (dec_lt p (low w y)))
      (λ h. seen_none (p + 1) y h ∙ sym (seen_none p y h))
    where
      counts : is_one y ≡ true → Dec (low w y < p) → Dec (p < low w y) → seen w (p + 1) y ≡ seen w p y
      counts h (yes l) c = seen_below (p + 1) y h (omega arith) ∙ sym (seen_below p y h l)
      counts h (no n) (yes l) = seen-above (p + 1) y (omega arith) ∙ sym (seen-above p y (omega arith))
      counts h (no n) (no m) =
          let e : low w y ≡ p = omega arith in
          absurd (true≢false (sym (low_first y h) ∙ ap (λ (k : ℕ). first w (at k)) e ∙ f))
