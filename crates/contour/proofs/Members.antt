-- Which elements stand on a contour, as facts on counts: each at most once, all of them counting, being on one contour is an equivalence, and
-- the contours of two elements of one orbit are permutations of each other.
use mathlib.Core.Path.{◌≡◌, refl, sym, ◌∙◌, ap, subst}
use mathlib.Core.Logic.{◌≢◌, inl, inr}
use mathlib.Core.Bool.{true}
use mathlib.Core.List.{List, [], ◌∷◌, ◌++◌}
use Prim.Native.Nat.{ℕ, zero, suc, ◌+◌, ◌-◌, ◌≤◌, ◌<◌}
use native.Mathlib.Nat.{eq-or-lt_of_le, eq-zero-or-pos}
use native.Mathlib.Omega.{arith}
use lib.ListN.{length, get_or}
use Rattle.arith.specs.Booleans.{as_number}
use Rattle.arith.proofs.Booleans.{both-sides}
use Rattle.arith.specs.Finite.{sum}
use Rattle.arith.proofs.Finite.{sum_same, sum-add, sum-none, sum-single}
use Rattle.contour.specs.Walk.{Walk, Laws, contour, occurrences, OnContour, ahead}
use Rattle.contour.proofs.Orbit.{run, ahead-next, ahead-add, same_true, same_false, ahead-one, round, contour-run}

equal-counts : (a b : ℕ) → a ≤ 1 → b ≤ 1 → (0 < a → 0 < b) → (0 < b → 0 < a) → a ≡ b
equal-counts zero zero h l f g = refl
equal-counts zero (suc b) h l f g = absurd (omega (arith, g (omega arith)))
equal-counts (suc a) zero h l f g = absurd (omega (arith, f (omega arith)))
equal-counts (suc a) (suc b) h l f g = omega arith

pub occurrences-append : (w : Walk) (y : w.Element) (l m : List w.Element) → occurrences w y (l ++ m) ≡ occurrences w y l + occurrences w y m
unfolding occurrences
occurrences-append w y [] m = omega arith
occurrences-append w y (x ∷ l) m = omega (arith, occurrences-append w y l m)

module _ (w : Walk) (law : Laws w) where
  open w use {Element as A, same, number, at, many, next, prev, is_one}

  -- what a list has at a place occurs in it
  pub in_list : (l : List A) (k : ℕ) (d : A) → k < length l → 0 < occurrences w (get_or l k d) l
  unfolding occurrences
  in_list [] k d h = absurd (omega arith)
  in_list (x ∷ l) zero d h = rw (law.same_self x) (omega arith)
  in_list (x ∷ l) (suc k) d h = omega (arith, in_list l k d (omega arith))

  -- Counts in a run

  in-run : (n k : ℕ) (x : A) → k < n → 0 < occurrences w (ahead w k x) (run w n x)
  unfolding occurrences run ahead
  in-run zero k x h = absurd (omega arith)
  in-run (suc n) zero x h = rw (law.same_self x) (omega arith)
  in-run (suc n) (suc k) x h = omega (arith, in-run n k (next x) (omega arith))

  pub run-place : (n : ℕ) (x y : A) → 0 < occurrences w y (run w n x) → (k : ℕ) × (k < n) × (ahead w k x ≡ y)
  unfolding occurrences run ahead
  run-place zero x y h = absurd (omega arith)
  run-place (suc n) x y h =
      both-sides (same y x) (λ t. (0, omega arith, sym (law.same_eq y x t)))
      (λ f. go (run-place n (next x) y (omega (arith, ap as_number f))))
    where
      go : (k : ℕ) × (k < n) × (ahead w k (next x) ≡ y) → (k : ℕ) × (k < suc n) × (ahead w k x ≡ y)
      go p = (suc p.0, omega arith, p.2)

  pub run-once : (n : ℕ) (x y : A) → ((i j : ℕ) → i < j → j < n → ahead w i x ≢ ahead w j x) → occurrences w y (run w n x) ≤ 1
  unfolding occurrences run ahead
  run-once zero x y apart = omega arith
  run-once (suc n) x y apart =
      both-sides (same y x) head
      (λ f. omega (arith, ap as_number f, run-once n (next x) y (λ i j h l. apart (suc i) (suc j) (omega arith) (omega arith))))
    where
      head : same y x ≡ true → as_number (same y x) + occurrences w y (run w n (next x)) ≤ 1
      head t =
          elim (eq-zero-or-pos (occurrences w y (run w n (next x)))) [
            | inl z ↦ omega (arith, ap as_number t)
            | inr h ↦
                let p = run-place n (next x) y h in
                absurd (apart 0 (suc p.0) (omega arith) (omega arith) (sym (law.same_eq y x t) ∙ sym p.2))
          ]

  -- The contour of x

  pub once : (x y : A) → is_one x ≡ true → occurrences w y (contour w x) ≤ 1
  once x y h = rw (contour-run w law x h) (run-once (length (contour w x)) x y (round w law x h).apart)

  pub place : (x y : A) → is_one x ≡ true → OnContour w x y → (k : ℕ) × (k < length (contour w x)) × (ahead w k x ≡ y)
  place x y h o = run-place (length (contour w x)) x y (rw (contour-run w law x h) at o)

  on-place : (x : A) (k : ℕ) → is_one x ≡ true → k < length (contour w x) → OnContour w x (ahead w k x)
  on-place x k h l = rw (contour-run w law x h) (in-run (length (contour w x)) k x l)

  pub on-self : (x : A) → is_one x ≡ true → OnContour w x x
  unfolding ahead
  on-self x h = on-place x 0 h (round w law x h).some

  pub on-next : (x y : A) → is_one x ≡ true → OnContour w x y → OnContour w x (next y)
  unfolding ahead
  on-next x y h o =
      let p = place x y h o in
      let e : ahead w (suc p.0) x ≡ next y = ahead-next w p.0 x ∙ ap next p.2 in
      elim (eq-or-lt_of_le p.1) [
        | inl q ↦ subst (OnContour w x) (sym (round w law x h).back ∙ ap (λ (n : ℕ). ahead w n x) (sym q) ∙ e) (on-self x h)
        | inr l ↦ subst (OnContour w x) e (on-place x (suc p.0) h l)
      ]

  pub on-ahead : (x : A) (k : ℕ) → is_one x ≡ true → OnContour w x (ahead w k x)
  unfolding ahead
  on-ahead x zero h = on-self x h
  on-ahead x (suc k) h = subst (OnContour w x) (sym (ahead-next w k x)) (on-next x (ahead w k x) h (on-ahead x k h))

  pub on_one : (x y : A) → is_one x ≡ true → OnContour w x y → is_one y ≡ true
  on_one x y h o = let p = place x y h o in subst (λ z. is_one z ≡ true) p.2 (ahead-one w law p.0 x h)

  pub on-swap : (x y : A) → is_one x ≡ true → OnContour w x y → OnContour w y x
  on-swap x y h o =
      let p = place x y h o in
      let d : ℕ = length (contour w x) - p.0 in
      let e : p.0 + d ≡ length (contour w x) = omega arith in
      subst (OnContour w y)
      (ap (ahead w d) (sym p.2) ∙ sym (ahead-add w p.0 d x) ∙ ap (λ (n : ℕ). ahead w n x) e ∙ (round w law x h).back)
      (on-ahead y d (on_one x y h o))

  pub on-trans : (x y z : A) → is_one x ≡ true → OnContour w x y → OnContour w y z → OnContour w x z
  on-trans x y z h o u =
      let p = place x y h o in
      let q = place y z (on_one x y h o) u in
      subst (OnContour w x) (ahead-add w p.0 q.0 x ∙ ap (ahead w q.0) p.2 ∙ q.2) (on-ahead x (p.0 + q.0) h)

  pub on-prev : (x y : A) → is_one x ≡ true → OnContour w x y → OnContour w x (prev y)
  on-prev x y h o =
      let l = on_one x y h o in
      let b = law.one_prev y l in
      let forth : OnContour w (prev y) y = rw (law.next_prev y l) at (on-next (prev y) (prev y) b (on-self (prev y) b)) in
      on-trans x y (prev y) h o (on-swap (prev y) y b forth)

  -- two contours share an element only if they are of one orbit
  pub on-share : (x y z : A) → is_one x ≡ true → is_one y ≡ true → OnContour w x z → OnContour w y z → OnContour w x y
  on-share x y z h l o u = on-trans x z y h o (on-swap y z l u)

  -- the contours of two elements of one orbit are permutations of each other
  pub permuted : (x y : A) → is_one x ≡ true → OnContour w x y → (z : A) → occurrences w z (contour w x) ≡ occurrences w z (contour w y)
  permuted x y h o z =
      let l = on_one x y h o in
      equal-counts (occurrences w z (contour w x)) (occurrences w z (contour w y)) (once x z h) (once y z l)
      (λ u. on-trans y x z l (on-swap x y h o) u)
      (λ u. on-trans x y z h o u)

  -- Lengths

  -- a list of elements that count is as long as their occurrences together
  pub length-counts : (l : List A) → ((y : A) → 0 < occurrences w y l → is_one y ≡ true) → sum (λ k. occurrences w (at k) l) many ≡ length l
  unfolding occurrences
  length-counts [] ones = sum-none (λ k. 0) many (λ k h. refl)
  length-counts (x ∷ l) ones =
      sum-add (λ k. as_number (same (at k) x)) (λ k. occurrences w (at k) l) many
      ∙ omega (arith, single, length-counts l (λ y h. ones y (omega arith)))
    where
      h : is_one x ≡ true
      h = ones x (omega (arith, ap as_number (law.same_self x)))

      other : (k : ℕ) → k < many → k ≢ number x → as_number (same (at k) x) ≡ 0
      other k b n =
          ap as_number (same_false w law (λ e. n (sym (law.number_at k b (subst (λ z. is_one z ≡ true) (sym e) h)) ∙ ap number e)))

      single : sum (λ k. as_number (same (at k) x)) many ≡ 1
      single =
          sum-single (λ k. as_number (same (at k) x)) many (number x) (law.number_less x h) other
          ∙ ap as_number (same_true w law (law.at_number x h))

  pub permuted-length : (x y : A) → is_one x ≡ true → OnContour w x y → length (contour w x) ≡ length (contour w y)
  permuted-length x y h o =
      sym (length-counts (contour w x) (λ z u. on_one x z h u))
      ∙ sum_same (λ k. occurrences w (at k) (contour w x)) (λ k. occurrences w (at k) (contour w y)) many (λ k b. permuted x y h o (at k))
      ∙ length-counts (contour w y) (λ z u. on_one y z (on_one x y h o) u)
