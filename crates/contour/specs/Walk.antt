-- A walk over numbered elements, the contours that it makes, and the first element of each. Nothing here knows of grids: the elements are
-- edges in the end, and those that count are sticks. The laws that a walk has to keep are the record `Laws`.
-- Every definition computes: a test that runs `contours` says `unfolding firsts_among`, which opens all that it is made of.
use Rattle.std.specs.Prelude.{◌≡◌, ◌≢◌, Bool, true, false, ◌&&◌, ℕ, zero, suc, ◌+◌, ◌-◌, ◌≤◌, ◌<◌, min}
use mathlib.Core.List.{List, [], ◌∷◌, map, flatten}
use Rattle.std.proofs.Math.Dec.{eqb, ltb}
use Rattle.arith.specs.Booleans.{as_number}

-- What walks.
pub record Walk : Type 1 where
  -- the elements, and whether two are the same
  pub Element : Type 0
  pub same : Element → Element → Bool
  -- the number of an element, the element of a number, and what the numbers are below
  pub number : Element → ℕ
  pub at : ℕ → Element
  pub many : ℕ
  -- the next element of the walk, and the previous one
  pub next : Element → Element
  pub prev : Element → Element
  -- whether an element counts: only such ones are walked over
  pub is_one : Element → Bool

-- x in front of a list, if a test passes
abbrev pub cons_if {ℓ} : {A : Type ℓ} → Bool → A → List A → List A
cons_if true x l = x ∷ l
cons_if false x l = l

module _ (w : Walk) where
  open w use {Element as A, same, number, next, is_one, at, many}

  -- the elements from e up to, without, stop: at most as many as there is fuel
  unfoldable pub path : ℕ → A → A → List A
  path zero e stop = []
  path (suc fuel) e stop = elim (same e stop) [ true ↦ [] | false ↦ e ∷ path fuel (next e) stop ]

  -- what is left of a walk that ends before stop and stands at x: x itself, then the path from the next one
  unfoldable pub rest : A → A → List A
  unfolding path
  rest x stop = x ∷ path many (next x) stop

  -- the contour of f: all that is passed until f comes again
  abbrev pub contour : A → List A
  contour f = rest f f

  -- how often y stands in a list
  unfoldable pub occurrences : A → List A → ℕ
  occurrences y [] = 0
  occurrences y (x ∷ l) = as_number (same y x) + occurrences y l

  -- y is on the contour of x
  abbrev pub OnContour : A → A → Type 0
  OnContour x y = 0 < occurrences y (contour x)

  -- the lowest of m and the numbers of a list's elements
  unfoldable pub lowest : ℕ → List A → ℕ
  lowest m [] = m
  lowest m (x ∷ l) = min (number x) (lowest m l)

  -- the lowest number on the contour of x
  unfoldable pub low : A → ℕ
  unfolding rest lowest
  low x = lowest (number x) (contour x)

  -- x is the first of its contour: it counts, and no element of the contour has a lower number
  unfoldable pub first : A → Bool
  unfolding low
  first x = is_one x && eqb (low x) (number x)

  -- y counts, and the first element of its contour has a number below p
  unfoldable pub seen : ℕ → A → Bool
  unfolding low
  seen p y = is_one y && ltb (low y) p

  -- the elements that pass a test among the n numbers from k on, ascending
  unfoldable pub numbered : (A → Bool) → ℕ → ℕ → List A
  numbered test k zero = []
  numbered test k (suc n) = cons_if (test (at k)) (at k) (numbered test (k + 1) n)

  -- those with numbers from p on
  abbrev pub numbered_from : (A → Bool) → ℕ → List A
  numbered_from test p = numbered test p (many - p)

  -- all that count, ascending
  abbrev pub by_number : List A
  by_number = numbered is_one 0 many

  -- the first elements among the n numbers from k on, ascending
  unfoldable pub firsts_among : ℕ → ℕ → List A
  unfolding first numbered
  firsts_among k n = numbered first k n

  -- the first elements with numbers from p on
  abbrev pub firsts_from : ℕ → List A
  firsts_from p = firsts_among p (many - p)

  -- all first elements, ascending, and all contours, in that order
  abbrev pub firsts : List A
  firsts = firsts_among 0 many

  abbrev pub contours : List (List A)
  contours = map contour firsts

  -- all contours, one after the other
  abbrev pub walked : List A
  walked = flatten contours

  -- the element n steps ahead of x
  unfoldable pub ahead : ℕ → A → A
  ahead zero x = x
  ahead (suc n) x = ahead n (next x)

  -- the walk from x is back after p steps, and meets nothing twice before
  pub record Round (x : A) (p : ℕ) : Type 0 where
    pub some : 0 < p
    pub within : p ≤ many
    pub back : ahead p x ≡ x
    pub apart : (i j : ℕ) → i < j → j < p → ahead i x ≢ ahead j x

-- What a walk has to keep: `same` is equality, numbers and elements belong together, and next and previous undo each other. Each law but
-- those of `same` speaks of elements that count.
pub record Laws (w : Walk) : Type 0 where
  pub same_eq : (x y : w.Element) → w.same x y ≡ true → x ≡ y
  pub same_self : (x : w.Element) → w.same x x ≡ true
  pub number_less : (x : w.Element) → w.is_one x ≡ true → w.number x < w.many
  pub at_number : (x : w.Element) → w.is_one x ≡ true → w.at (w.number x) ≡ x
  pub number_at : (k : ℕ) → k < w.many → w.is_one (w.at k) ≡ true → w.number (w.at k) ≡ k
  pub one_next : (x : w.Element) → w.is_one x ≡ true → w.is_one (w.next x) ≡ true
  pub one_prev : (x : w.Element) → w.is_one x ≡ true → w.is_one (w.prev x) ≡ true
  pub prev_next : (x : w.Element) → w.is_one x ≡ true → w.prev (w.next x) ≡ x
  pub next_prev : (x : w.Element) → w.is_one x ≡ true → w.next (w.prev x) ≡ x
