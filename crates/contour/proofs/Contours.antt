-- All contours. Together they hold each element that counts once and nothing else, so they are as long as there are such elements; the first
-- elements ascend by number.
use mathlib.Core.Path.{◌≡◌, sym, ◌∙◌, ap}
use mathlib.Core.Bool.{true, false}
use mathlib.Core.List.{[], ◌∷◌, map, flatten}
use Prim.Native.Nat.{ℕ, zero, suc, ◌+◌, ◌≤◌, ◌<◌}
use native.Mathlib.Nat.{add-zero}
use native.Mathlib.Omega.{arith}
use lib.ListN.{length, get_or, length-map}
use Rattle.arith.specs.Booleans.{as_number}
use Rattle.arith.proofs.Booleans.{both-sides}
use Rattle.arith.proofs.Finite.{sum_same, count-sum}
use Rattle.arith.specs.Ranges.{count}
use Rattle.contour.specs.Walk.{Walk, Laws, contour, occurrences, seen, first, firsts_among, firsts, contours, walked}
use Rattle.contour.proofs.Members.{occurrences-append, length-counts}
use Rattle.contour.proofs.Numbered.{numbered-none, numbered-here, numbered-other, length-numbered, rise-less, all-rise, all-only, all_in, all_once}
use Rattle.contour.proofs.First.{first_one, seen-above, seen_all, seen_first, seen_other}

module _ (w : Walk) where
  open w use {Element as A, number, at, many}

  pub among_none : (k : ℕ) → firsts_among w k 0 ≡ []
  unfolding firsts_among
  among_none k = numbered-none w (first w) k

  pub among_first : (k n : ℕ) → first w (at k) ≡ true → firsts_among w k (suc n) ≡ at k ∷ firsts_among w (k + 1) n
  unfolding firsts_among
  among_first k n f = numbered-here w (first w) k n f

  pub among-other : (k n : ℕ) → first w (at k) ≡ false → firsts_among w k (suc n) ≡ firsts_among w (k + 1) n
  unfolding firsts_among
  among-other k n f = numbered-other w (first w) k n f

  -- as many contours as numbers of first elements
  pub length-contours : length (contours w) ≡ count (λ k. first w (at k)) many
  unfolding count firsts_among
  length-contours =
      let e : 0 + many ≡ many = omega arith in
      omega (arith, length-map (firsts w) (contour w), length-numbered w (first w) 0 many, ap (count (λ j. first w (at j))) e)

module _ (w : Walk) (law : Laws w) where
  open w use {Element as A, same, number, at, many, is_one}

  -- The contours together

  -- the contours that begin at the n numbers from k on hold what those below k + n hold and those below k do not
  together : (k n : ℕ) (y : A) → k + n ≤ many
      → occurrences w y (flatten (map (contour w) (firsts_among w k n))) + as_number (seen w k y) ≡ as_number (seen w (k + n) y)
  unfolding flatten occurrences
  together k zero y l = rw (add-zero, among_none w) (omega arith)
  together k (suc n) y l =
      let further = together (k + 1) n y (omega arith) in
      let e : k + 1 + n ≡ k + suc n = omega arith in
      let s = ap (λ (p : ℕ). as_number (seen w p y)) e in
      let parts = occurrences-append w y (contour w (at k)) (flatten (map (contour w) (firsts_among w (k + 1) n))) in
      both-sides (first w (at k)) (λ f. rw (among_first w k n f) (omega (arith, seen_first w law k y (omega arith) f)))
      (λ f. rw (among-other w k n f) (omega (arith, ap as_number (seen_other w law k y f))))

  -- each element that counts stands once in all of them, and no other does
  pub count-walked : (y : A) → occurrences w y (walked w) ≡ as_number (is_one y)
  count-walked y =
      omega
      (arith, together 0 many y (omega arith), ap as_number (seen-above w law 0 y (omega arith)), ap as_number (seen_all w law (0 + many) y (omega arith)))

  pub walked_one : (y : A) → 0 < occurrences w y (walked w) → is_one y ≡ true
  walked_one y h = both-sides (is_one y) (λ o. o) (λ o. absurd (omega (arith, count-walked y, ap as_number o)))

  -- so together they are as long as there are numbers of elements that count
  pub length-walked : length (walked w) ≡ count (λ k. is_one (at k)) many
  length-walked =
      sym (length-counts w law (walked w) walked_one)
      ∙ sum_same (λ k. occurrences w (at k) (walked w)) (λ k. as_number (is_one (at k))) many (λ k h. count-walked (at k))
      ∙ sym (count-sum (λ k. is_one (at k)) many)

  -- The first elements ascend

  pub firsts-ascend : (i j : ℕ) (d : A) → i < j → j < length (firsts w) → number (get_or (firsts w) i d) < number (get_or (firsts w) j d)
  unfolding firsts_among
  firsts-ascend i j d h l = rise-less w (firsts w) 0 i j d (all-rise w law (first w) (first_one w law)) h l

  -- They are all that are first, each once, and nothing else

  pub firsts-only : (y : A) → 0 < occurrences w y (firsts w) → first w y ≡ true
  unfolding firsts_among
  firsts-only y h = all-only w law (first w) (first_one w law) y h

  pub firsts-all : (y : A) → first w y ≡ true → 0 < occurrences w y (firsts w)
  unfolding firsts_among
  firsts-all y f = all_in w law (first w) (first_one w law) y f

  pub firsts-once : (y : A) → occurrences w y (firsts w) ≡ as_number (first w y)
  unfolding firsts_among
  firsts-once y = all_once w law (first w) (first_one w law) y
