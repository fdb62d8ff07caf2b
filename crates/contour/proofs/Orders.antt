-- Orders of a walk's elements: a fold gives the same over two lists that have each element equally often, if any two different ones commute; and the
-- list of first elements has each of them once. So work that is done contour by contour may be done in any order of the contours, where two commute.
use mathlib.Core.Path.{◌≡◌, refl, sym, ◌∙◌, ap}
use mathlib.Core.Logic.{◌≢◌}
use mathlib.Core.List.{List, [], ◌∷◌, ◌++◌, foldl}
use Prim.Native.Nat.{◌+◌, ◌<◌}
use native.Mathlib.Omega.{arith}
use Rattle.arith.specs.Booleans.{as_number}
use Rattle.arith.proofs.Booleans.{both-sides}
use Rattle.grid.specs.Layer.{Layer}
use Rattle.grid.specs.Questions.{Sound}
use Rattle.contour.specs.Walk.{Walk, Laws, occurrences}
use Rattle.contour.specs.Contours.{walk_of, first_sticks, EachFirstOnce}
use Rattle.contour.proofs.Orbit.{unlike}
use Rattle.contour.proofs.Members.{occurrences-append}
use Rattle.contour.proofs.Contours.{firsts-once}
use Rattle.contour.proofs.Sticks.{laws}

module _ (w : Walk) (law : Laws w) where
  open w use {Element as A, same, number}

  -- A list with x in it, taken apart there

  record Around (x : A) (l : List A) : Type 0 where
    before : List A
    after : List A
    whole : l ≡ before ++ x ∷ after

  around : (x : A) (l : List A) → 0 < occurrences w x l → Around x l
  unfolding occurrences
  around x [] h = absurd (omega arith)
  around x (y ∷ l) h = both-sides (same x y)
      (λ t. record { before = []; after = l; whole = ap (λ z. z ∷ l) (sym (law.same_eq x y t)) })
      (λ u. behind (around x l (omega (arith, ap as_number u))))
    where
      behind : Around x l → Around x (y ∷ l)
      behind p = record { before = y ∷ p.before; after = p.after; whole = ap (λ (m : List A). y ∷ m) p.whole }

  -- Folds over the same elements in another order. Two different elements have to commute only where the state is `Ok`, and only if both are `In`, as all
  -- in the lists are.

  module _ {S : Type 0} (step : S → A → S) (Ok : S → Type 0) (In : A → Type 0)
      (keeps : (s : S) (x : A) → Ok s → In x → Ok (step s x))
      (commute : (s : S) (x y : A) → Ok s → In x → In y → x ≢ y → step (step s x) y ≡ step (step s y) x) where
    abbrev AllIn : List A → Type 0
    AllIn l = (x : A) → 0 < occurrences w x l → In x

    -- an element may be taken first
    to_front : (x : A) → In x → (a b : List A) → AllIn a → (s : S) → Ok s → foldl step s (a ++ x ∷ b) ≡ foldl step s (x ∷ (a ++ b))
    unfolding occurrences
    to_front x in-x [] b h s ok = refl
    to_front x in-x (y ∷ a) b h s ok =
        let in-y = h y (omega (arith, ap as_number (law.same_self y))) in
        to_front x in-x a b (λ z o. h z (omega arith)) (step s y) (keeps s y ok in-y)
        ∙ ap (λ (r : S). foldl step r (a ++ b)) (swapped in-y)
      where
        swapped : In y → step (step s y) x ≡ step (step s x) y
        swapped in-y =
            both-sides (same y x) (λ t. rw (law.same_eq y x t) refl) (λ u. commute s y x ok in-y in-x (unlike w law y x u))

    pub reordered : (l m : List A) → AllIn l → ((y : A) → occurrences w y l ≡ occurrences w y m) → (s : S) → Ok s
        → foldl step s l ≡ foldl step s m
    unfolding occurrences
    reordered [] [] h counts s ok = refl
    reordered [] (y ∷ m) h counts s ok = absurd (omega (arith, counts y, ap as_number (law.same_self y)))
    reordered (x ∷ l) m h counts s ok =
        let self = ap as_number (law.same_self x) in
        let p = around x m (omega (arith, counts x, self)) in
        let in-x = h x (omega (arith, self)) in
        let parts : (y : A) → occurrences w y m ≡ occurrences w y p.before + (as_number (same y x) + occurrences w y p.after) =
        λ y. ap (occurrences w y) p.whole ∙ occurrences-append w y p.before (x ∷ p.after) in
        reordered l (p.before ++ p.after) (λ y o. h y (omega arith))
        (λ y. omega (arith, counts y, parts y, occurrences-append w y p.before p.after)) (step s x) (keeps s x ok in-x)
        ∙ sym (ap (foldl step s) p.whole
        ∙ to_front x in-x p.before p.after (λ y o. h y (omega (arith, counts y, parts y))) s ok)

-- the order that the paper gives is such an order
pub first-sticks-once : (L : Layer) → Sound L → EachFirstOnce L (first_sticks L)
first-sticks-once L sound = firsts-once (walk_of L) (laws L sound)
