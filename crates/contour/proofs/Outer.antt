-- The first elements from a number on, ascending: one and those after it, the same where none is passed, none at the end; and a fold over
-- lists as one over their elements.
use mathlib.Core.Path.{◌≡◌, refl, sym, ◌∙◌}
use mathlib.Core.Bool.{true, false}
use mathlib.Core.List.{List, [], ◌∷◌, flatten, foldl, foldl-append}
use Prim.Native.Nat.{ℕ, ◌+◌, ◌≤◌, ◌<◌}
use Rattle.contour.specs.Walk.{Walk, first, firsts_among, firsts_from}
use Rattle.contour.proofs.Numbered as Numbered

-- a fold over lists, each folded, is the fold over them one after the other
pub foldl-flatten : {A B : Type 0} (step : B → A → B) (t : B) (l : List (List A)) → foldl (foldl step) t l ≡ foldl step t (flatten l)
unfolding flatten
foldl-flatten step t [] = refl
foldl-flatten step t (c ∷ l) = foldl-flatten step (foldl step t c) l ∙ sym (foldl-append step t c (flatten l))

module _ (w : Walk) where
  open w use {Element as A, at, many}

  -- The first elements from p on

  pub from_end : (p : ℕ) → many ≤ p → firsts_from w p ≡ []
  unfolding firsts_among
  from_end p l = Numbered.from_end w (first w) p l

  pub from_first : (p : ℕ) → p < many → first w (at p) ≡ true → firsts_from w p ≡ at p ∷ firsts_from w (p + 1)
  unfolding firsts_among
  from_first p l f = Numbered.from-here w (first w) p l f

  pub from-skip : (d p : ℕ) → ((j : ℕ) → p ≤ j → j < p + d → first w (at j) ≡ false) → firsts_from w p ≡ firsts_from w (p + d)
  unfolding firsts_among
  from-skip d p none = Numbered.from-skip w (first w) d p none
