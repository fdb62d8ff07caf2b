-- The walk from an element that counts comes back to it within `many` steps and meets nothing twice before. So a contour is one round of the
-- walk: its length is the least number of steps above 0 that lead back, and more fuel changes nothing.
use mathlib.Core.Path.{◌≡◌, refl, sym, ◌∙◌, ap}
use mathlib.Core.Logic.{◌≢◌}
use mathlib.Core.Bool.{true, false, false≢true}
use mathlib.Core.List.{List, [], ◌∷◌}
use Prim.Native.Nat.{ℕ, zero, suc, ◌+◌, ◌-◌, ◌≤◌, ◌<◌}
use native.Mathlib.Nat.{zero-add, suc-add}
use native.Mathlib.Decide.{dec_le}
use native.Mathlib.Omega.{arith}
use lib.ListN.{length, get_or}
use Rattle.arith.proofs.Booleans.{both-sides}
use Rattle.arith.proofs.Finite.{pigeonhole, least-from}
use Rattle.arith.specs.Finite.{Least}
use Rattle.arith.specs.Ranges.{least_from}
use Rattle.contour.specs.Walk.{Walk, Laws, path, rest, contour, ahead, Round}

module _ (w : Walk) where
  open w use {Element as A, next}

  -- the n elements from x on
  unfoldable pub run : ℕ → A → List A
  run zero x = []
  run (suc n) x = x ∷ run n (next x)

  pub ahead-next : (n : ℕ) (x : A) → ahead w n (next x) ≡ next (ahead w n x)
  unfolding ahead
  ahead-next zero x = refl
  ahead-next (suc n) x = ahead-next n (next x)

  pub ahead-add : (m n : ℕ) (x : A) → ahead w (m + n) x ≡ ahead w n (ahead w m x)
  unfolding ahead
  ahead-add zero n x = rw zero-add
  ahead-add (suc m) n x = rw suc-add (ahead-add m n (next x))

  pub length_run : (n : ℕ) (x : A) → length (run n x) ≡ n
  unfolding run
  length_run zero x = refl
  length_run (suc n) x = ap suc (length_run n (next x))

  pub get_d-run : (n k : ℕ) (x d : A) → k < n → get_or (run n x) k d ≡ ahead w k x
  unfolding run ahead
  get_d-run zero k x d h = absurd (omega arith)
  get_d-run (suc n) zero x d h = refl
  get_d-run (suc n) (suc k) x d h = get_d-run n k (next x) d (omega arith)

module _ (w : Walk) (law : Laws w) where
  open w use {Element as A, same, number, at, many, next, prev, is_one}

  -- The test of sameness

  pub same_true : {x y : A} → x ≡ y → same x y ≡ true
  same_true {x} {y} e = rw e (law.same_self y)

  pub same_false : {x y : A} → x ≢ y → same x y ≡ false
  same_false {x} {y} n = both-sides (same x y) (λ t. absurd (n (law.same_eq x y t))) (λ f. f)

  pub unlike : (x y : A) → same x y ≡ false → x ≢ y
  unlike x y f e = false≢true (sym f ∙ same_true e)

  -- Steps

  pub ahead-one : (n : ℕ) (x : A) → is_one x ≡ true → is_one (ahead w n x) ≡ true
  unfolding ahead
  ahead-one zero x h = h
  ahead-one (suc n) x h = ahead-one n (next x) (law.one_next x h)

  next-inj : (x y : A) → is_one x ≡ true → is_one y ≡ true → next x ≡ next y → x ≡ y
  next-inj x y h l e = sym (law.prev_next x h) ∙ ap prev e ∙ law.prev_next y l

  pub ahead-inj : (n : ℕ) (x y : A) → is_one x ≡ true → is_one y ≡ true → ahead w n x ≡ ahead w n y → x ≡ y
  unfolding ahead
  ahead-inj zero x y h l e = e
  ahead-inj (suc n) x y h l e = next-inj x y h l (ahead-inj n (next x) (next y) (law.one_next x h) (law.one_next y l) e)

  pub number-inj : (x y : A) → is_one x ≡ true → is_one y ≡ true → number x ≡ number y → x ≡ y
  number-inj x y h l e = sym (law.at_number x h) ∙ ap at e ∙ law.at_number y l

  -- two places of the walk that are the same are as far apart as x and some return to it
  again : (x : A) (i j : ℕ) → is_one x ≡ true → i < j → ahead w i x ≡ ahead w j x → x ≡ ahead w (j - i) x
  again x i j h l e =
      let d : j - i + i ≡ j = omega arith in
      ahead-inj i x (ahead w (j - i) x) h (ahead-one (j - i) x h)
      (e ∙ sym (ap (λ (n : ℕ). ahead w n x) d) ∙ ahead-add w (j - i) i x)

  -- The return

  -- the least number of steps above 0 that lead back
  period : A → ℕ
  period x = least_from (λ k. same (ahead w k x) x) 1 many

  round-period : (x : A) → is_one x ≡ true → Round w x (period x)
  unfolding period
  round-period x h =
      record { some = l.from; within = within; back = law.same_eq _ _ (l.here (omega (arith, within))); apart = apart }
    where
      l : Least (λ k. same (ahead w k x) x) 1 many (period x)
      l = least-from (λ k. same (ahead w k x) x) 1 many

      apart : (i j : ℕ) → i < j → j < period x → ahead w i x ≢ ahead w j x
      apart i j a b e = unlike (ahead w (j - i) x) x (l.before (j - i) (omega arith) (omega arith)) (sym (again x i j h a e))

      one_at : (i : ℕ) → is_one (ahead w i x) ≡ true
      one_at i = ahead-one i x h

      -- else the numbers of the first `many` + 1 elements would all differ
      too_many : many < period x → ⊥
      too_many b =
          pigeonhole many (λ i. number (ahead w i x)) (λ i l. law.number_less _ (one_at i))
          (λ i j a l e. apart i j a (omega arith) (number-inj _ _ (one_at i) (one_at j) e))

      within : period x ≤ many
      within = elim (dec_le (period x) many) [ yes y ↦ y | no n ↦ absurd (too_many (omega arith)) ]

  -- a path to what is met after k steps, and not before, is the run of k elements, whatever more fuel there is
  pub path-run : (fuel k : ℕ) (e stop : A) → k ≤ fuel → ahead w k e ≡ stop → ((j : ℕ) → j < k → ahead w j e ≢ stop)
      → path w fuel e stop ≡ run w k e
  unfolding path run ahead
  path-run zero zero e stop l met first = refl
  path-run zero (suc k) e stop l met first = absurd (omega arith)
  path-run (suc fuel) zero e stop l met first = rw (same_true met, path)
  path-run (suc fuel) (suc k) e stop l met first =
      rw (same_false (first 0 (omega arith)), path)
      (ap (λ (t : List A). e ∷ t) (path-run fuel k (next e) stop (omega arith) met (λ j h. first (suc j) (omega arith))))

  -- k steps on in a round of k + 1 + m, what is left of the walk is the run of 1 + m elements; also with more fuel
  pub rest-fuel : (x : A) {p : ℕ} → Round w x p → (fuel k m : ℕ) → many ≤ fuel → k + suc m ≡ p
      → ahead w k x ∷ path w fuel (next (ahead w k x)) x ≡ run w (suc m) (ahead w k x)
  unfolding run ahead
  rest-fuel x {p} r fuel k m l e =
      ap (λ (t : List A). ahead w k x ∷ t) (path-run fuel m (next (ahead w k x)) x (omega (arith, r.within)) met unmet)
    where
      met : ahead w m (next (ahead w k x)) ≡ x
      met = sym (ahead-add w k (suc m) x) ∙ ap (λ (n : ℕ). ahead w n x) e ∙ r.back

      unmet : (j : ℕ) → j < m → ahead w j (next (ahead w k x)) ≢ x
      unmet j h q = r.apart 0 (k + suc j) (omega arith) (omega arith) (sym q ∙ sym (ahead-add w k (suc j) x))

  pub rest-run : (x : A) {p : ℕ} → Round w x p → (k m : ℕ) → k + suc m ≡ p → rest w (ahead w k x) x ≡ run w (suc m) (ahead w k x)
  unfolding rest
  rest-run x r k m e = rest-fuel x r many k m (omega arith) e

  contour-period : (x : A) → is_one x ≡ true → contour w x ≡ run w (period x) x
  unfolding ahead
  contour-period x h =
      let r = round-period x h in
      let e : suc (period x - 1) ≡ period x = omega (arith, r.some) in
      rest-run x r 0 (period x - 1) (omega (arith, r.some)) ∙ ap (λ (n : ℕ). run w n x) e

  length-period : (x : A) → is_one x ≡ true → length (contour w x) ≡ period x
  length-period x h = ap length (contour-period x h) ∙ length_run w (period x) x

  -- The contour of x is one round

  pub round : (x : A) → is_one x ≡ true → Round w x (length (contour w x))
  round x h = rw (length-period x h) (round-period x h)

  -- and no fewer steps lead back
  pub not-before : (x : A) (k : ℕ) → is_one x ≡ true → 0 < k → k < length (contour w x) → ahead w k x ≢ x
  unfolding ahead
  not-before x k h a b e = (round x h).apart 0 k a b (sym e)

  pub contour-run : (x : A) → is_one x ≡ true → contour w x ≡ run w (length (contour w x)) x
  contour-run x h = contour-period x h ∙ ap (λ (n : ℕ). run w n x) (sym (length-period x h))

  pub contour-at : (x d : A) (k : ℕ) → is_one x ≡ true → k < length (contour w x) → get_or (contour w x) k d ≡ ahead w k x
  contour-at x d k h l = ap (λ (t : List A). get_or t k d) (contour-run x h) ∙ get_d-run w (length (contour w x)) k x d l

  pub contour-fuel : (x : A) (fuel : ℕ) → is_one x ≡ true → many ≤ fuel → x ∷ path w fuel (next x) x ≡ contour w x
  unfolding ahead
  contour-fuel x fuel h l =
      let r = round x h in
      let m : ℕ = length (contour w x) - 1 in
      let e : 0 + suc m ≡ length (contour w x) = omega (arith, r.some) in
      rest-fuel x r fuel 0 m l e ∙ sym (rest-run x r 0 m e)
