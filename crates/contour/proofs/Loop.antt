-- What a loop over the contour of f cites. It has the shape `loop { work on cur; cur = next(cur); if same(cur, f) { break; } }`.
-- Its invariant: `Due f cur`, and that folding over what is left, `rest cur f`, from here gives the whole fold. Its measure: the length of
-- what is left. The laws take the new current as x', with x' ≡ next x: `start`; `due-next`, `turn` and `shorter` where the loop goes on;
-- `last` where it ends; `differ` and `still` where the work reads what it changes; `rest_more` and `rest-last` for what is no fold.
use mathlib.Core.Path.{◌≡◌, sym, ◌∙◌, ap, subst}
use mathlib.Core.Logic.{◌≢◌, inl, inr}
use mathlib.Core.Bool.{true, false}
use mathlib.Core.List.{List, [], ◌∷◌, foldl}
use Prim.Native.Nat.{ℕ, suc, ◌+◌, ◌-◌, ◌≤◌, ◌<◌}
use native.Mathlib.Nat.{eq-or-lt_of_le}
use native.Mathlib.Omega.{arith}
use lib.ListN.{length}
use Rattle.arith.specs.Booleans.{as_number}
use Rattle.contour.specs.Walk.{Walk, Laws, rest, contour, occurrences, OnContour, ahead, Round}
use Rattle.contour.proofs.Orbit.{run, ahead-next, ahead-add, unlike, number-inj, rest-run, round}
use Rattle.contour.proofs.Members.{run-place, run-once, place, on-self, on-next, on-ahead, on_one}

-- x is on the contour of f, still to be worked on
pub record Due (w : Walk) (f x : w.Element) : Type 0 where
  pub start_one : w.is_one f ≡ true
  pub on : OnContour w f x

module _ (w : Walk) (law : Laws w) where
  open w use {Element as A, same, number, next, is_one}

  -- What is left

  -- at the place k of a round that goes on
  more-at : (f : A) {p : ℕ} → Round w f p → (k : ℕ) → suc k < p → rest w (ahead w k f) f ≡ ahead w k f ∷ rest w (next (ahead w k f)) f
  unfolding run ahead
  more-at f {p} r k l =
      let m : ℕ = p - suc (suc k) in
      let after = rw (ahead-next w k f) at (rest-run w law f r (suc k) m (omega arith)) in
      rest-run w law f r k (suc m) (omega arith) ∙ ap (λ (t : List A). ahead w k f ∷ t) (sym after)

  -- and at its last place
  last-at : (f : A) {p : ℕ} → Round w f p → (k : ℕ) → suc k ≡ p → rest w (ahead w k f) f ≡ ahead w k f ∷ []
  unfolding run
  last-at f r k e = rest-run w law f r k 0 (omega arith)

  -- all that is left there is on the contour, each element once
  on-at : (f : A) → is_one f ≡ true → (k : ℕ) → k < length (contour w f) → (y : A) → 0 < occurrences w y (rest w (ahead w k f) f) → OnContour w f y
  on-at f h k l y o =
      let m : ℕ = length (contour w f) - suc k in
      let q = run-place w law (suc m) (ahead w k f) y (rw (rest-run w law f (round w law f h) k m (omega arith)) at o) in
      subst (OnContour w f) (ahead-add w k q.0 f ∙ q.2) (on-ahead w law f (k + q.0) h)

  once-at : (f : A) → is_one f ≡ true → (k : ℕ) → k < length (contour w f) → (y : A) → occurrences w y (rest w (ahead w k f) f) ≤ 1
  once-at f h k l y =
      let m : ℕ = length (contour w f) - suc k in
      let r = round w law f h in
      rw (rest-run w law f r k m (omega arith))
      (run-once w law (suc m) (ahead w k f) y (λ i j a b q.
      r.apart (k + i) (k + j) (omega arith) (omega arith) (ahead-add w k i f ∙ q ∙ sym (ahead-add w k j f))))

  -- x itself is left
  pub rest-self : (f x : A) → 0 < occurrences w x (rest w x f)
  unfolding rest occurrences
  rest-self f x = rw (law.same_self x) (omega arith)

  -- the loop starts: what is left is the contour itself, by definition
  pub start : (f : A) → is_one f ≡ true → Due w f f
  start f h = record { start_one = h; on = on-self w law f h }

  module _ (f x : A) (due : Due w f x) where
    place_of : (k : ℕ) × (k < length (contour w f)) × (ahead w k f ≡ x)
    place_of = place w law f x due.start_one due.on

    pub due-one : is_one x ≡ true
    due-one = on_one w law f x due.start_one due.on

    pub rest-on : (y : A) → 0 < occurrences w y (rest w x f) → OnContour w f y
    rest-on y = let p = place_of in rw p.2 at (on-at f due.start_one p.0 p.1 y)

    pub rest-once : (y : A) → occurrences w y (rest w x f) ≤ 1
    rest-once y = let p = place_of in rw p.2 at (once-at f due.start_one p.0 p.1 y)

  module _ (f x x' : A) (due : Due w f x) (step : x' ≡ next x) where
    moved : (k : ℕ) → ahead w k f ≡ x → ahead w (suc k) f ≡ x'
    unfolding ahead
    moved k e = ahead-next w k f ∙ ap next e ∙ sym step

    -- the next one is due too
    pub due-next : Due w f x'
    due-next = record { start_one = due.start_one; on = rw step (on-next w law f x due.start_one due.on) }

    -- what is left, if the next one is not the start again, and if it is
    pub rest_more : same x' f ≡ false → rest w x f ≡ x ∷ rest w x' f
    rest_more s =
        let p = place_of f x due in
        let r = round w law f due.start_one in
        elim (eq-or-lt_of_le p.1) [
          | inl q ↦ absurd (unlike w law x' f s (sym (moved p.0 p.2) ∙ ap (λ (n : ℕ). ahead w n f) q ∙ r.back))
          | inr l ↦ rw step (rw p.2 at (more-at f r p.0 l))
        ]

    pub rest-last : same x' f ≡ true → rest w x f ≡ x ∷ []
    unfolding ahead
    rest-last s =
        let p = place_of f x due in
        let r = round w law f due.start_one in
        elim (eq-or-lt_of_le p.1) [
          | inl q ↦ rw p.2 at (last-at f r p.0 q)
          | inr l ↦ absurd (r.apart 0 (suc p.0) (omega arith) l (sym (moved p.0 p.2 ∙ law.same_eq x' f s)))
        ]

    -- the loop goes on: the work on x is one step of the fold, and less is left
    pub turn : same x' f ≡ false → {B : Type 0} (work : B → A → B) (t whole : B) → foldl work t (rest w x f) ≡ whole
        → foldl work (work t x) (rest w x' f) ≡ whole
    turn s work t whole inv = sym (ap (foldl work t) (rest_more s)) ∙ inv

    pub shorter : same x' f ≡ false → length (rest w x' f) < length (rest w x f)
    shorter s = omega (arith, ap length (rest_more s))

    -- the loop ends: the work on x was the last step
    pub last : same x' f ≡ true → {B : Type 0} (work : B → A → B) (t whole : B) → foldl work t (rest w x f) ≡ whole → work t x ≡ whole
    last s work t whole inv = sym (ap (foldl work t) (rest-last s)) ∙ inv

    -- what is left after x differs from x, and so do the numbers
    pub differ : same x' f ≡ false → (y : A) → 0 < occurrences w y (rest w x' f) → number y ≢ number x
    unfolding occurrences
    differ s y o e =
        let h = on_one w law f y due.start_one (rest-on f x' due-next y o) in
        let q : y ≡ x = number-inj w law y x h (due-one f x due) e in
        omega
        (arith, rest-once f x due x, ap (occurrences w x) (rest_more s), ap as_number (law.same_self x), subst (λ z. 0 < occurrences w z (rest w x' f)) q o)

    -- so what holds of all that is left, and is changed by the work on x for x alone, holds of what is left after it
    pub still : same x' f ≡ false → (P P' : A → Type 0) → ((y : A) → 0 < occurrences w y (rest w x f) → P y)
        → ((y : A) → number y ≢ number x → P y → P' y) → (y : A) → 0 < occurrences w y (rest w x' f) → P' y
    unfolding occurrences
    still s P P' before kept y o = kept y (differ s y o) (before y (rw (rest_more s) (omega arith)))
