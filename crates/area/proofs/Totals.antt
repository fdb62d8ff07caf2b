-- The total by number is the sum over contours: both are over the same drawn edges, since the sticks by number and the contours, one after the other, have each
-- stick once.
use mathlib.Core.Path.{◌≡◌, refl, sym, ◌∙◌, ap}
use mathlib.Core.Bool.{cond}
use mathlib.Core.List.{List, [], ◌∷◌, ◌++◌, map, flatten, foldl}
use Prim.Native.Nat.{ℕ}
use lib.IntN.{ℤ, pos, ◌+ℤ◌, +ℤ_assoc, +ℤ_comm, +ℤ_idl, +ℤ_idr}
use Rattle.arith.proofs.Booleans.{both-sides}
use Rattle.grid.specs.Layer.{Layer}
use Rattle.grid.specs.Questions.{Sound}
use Rattle.grid.specs.declared.edge.Edge.{Edge}
use Rattle.contour.specs.Walk.{walked}
use Rattle.contour.specs.Contours.{walk_of, sticks_by_number, contour_of, first_sticks}
use Rattle.contour.proofs.Orders.{reordered}
use Rattle.contour.proofs.Sticks.{laws}
use Rattle.contour.proofs.Theorems.{permutation, sticks-once}
use Rattle.table.specs.Vertices.{kept_at}
use Rattle.drawn.specs.Drawn.{drawn_from, drawn_by_number}
use Rattle.shoelace.specs.Adds.{edge_adds}
use Rattle.shoelace.specs.Sums.{sums_after, last_of, total_of}
use Rattle.area.specs.Areas.{sum_of, twice_area, areas_of}
use Rattle.area.proofs.Summing.{sum_among}

-- the last sum is the sum
last_sum : (s : ℤ) (l : List ℤ) → last_of s (sums_after s l) ≡ s +ℤ sum_of l
last_sum s [] = sym (+ℤ_idr s)
last_sum s (z ∷ l) = last_sum (s +ℤ z) l ∙ +ℤ_assoc s z (sum_of l)

module _ (L : Layer) (t : List ℕ) where
  -- what a stick adds
  abbrev adds : Edge → ℤ
  adds e = cond (kept_at L t e) (edge_adds L t (drawn_from L t e)) (pos 0)

  among-more : (e : Edge) (l : List Edge) → sum_among L t (e ∷ l) ≡ adds e +ℤ sum_among L t l
  among-more e l = both-sides (kept_at L t e) (λ k. rw k refl) (λ k. rw k (sym (+ℤ_idl (sum_among L t l))))

  among-append : (l m : List Edge) → sum_among L t (l ++ m) ≡ sum_among L t l +ℤ sum_among L t m
  among-append [] m = sym (+ℤ_idl (sum_among L t m))
  among-append (e ∷ l) m =
      among-more e (l ++ m)
      ∙ ap (λ (z : ℤ). adds e +ℤ z) (among-append l m)
      ∙ sym (+ℤ_assoc (adds e) (sum_among L t l) (sum_among L t m))
      ∙ ap (λ (z : ℤ). z +ℤ sum_among L t m) (sym (among-more e l))

  -- contour by contour
  along : (order : List Edge) → sum_among L t (flatten (map (contour_of L) order)) ≡ sum_of (map (twice_area L t) order)
  unfolding flatten twice_area
  along [] = refl
  along (f ∷ order) =
      among-append (contour_of L f) (flatten (map (contour_of L) order)) ∙ ap (λ (z : ℤ). sum_among L t (contour_of L f) +ℤ z) (along order)

  -- stick by stick
  abbrev add : ℤ → Edge → ℤ
  add z e = z +ℤ adds e

  folded : (z : ℤ) (l : List Edge) → foldl add z l ≡ z +ℤ sum_among L t l
  folded z [] = sym (+ℤ_idr z)
  folded z (e ∷ l) =
      folded (z +ℤ adds e) l ∙ +ℤ_assoc z (adds e) (sum_among L t l) ∙ ap (λ (y : ℤ). z +ℤ y) (sym (among-more e l))

  add-commute : (z : ℤ) (x y : Edge) → add (add z x) y ≡ add (add z y) x
  add-commute z x y = +ℤ_assoc z (adds x) (adds y) ∙ ap (λ (s : ℤ). z +ℤ s) (+ℤ_comm (adds x) (adds y)) ∙ sym (+ℤ_assoc z (adds y) (adds x))

  -- in another order
  module _ (sound : Sound L) where
    same_sum : sum_among L t (sticks_by_number L) ≡ sum_among L t (walked (walk_of L))
    same_sum =
        sym (+ℤ_idl (sum_among L t (sticks_by_number L)))
        ∙ sym (folded (pos 0) (sticks_by_number L))
        ∙ reordered (walk_of L) (laws L sound) add (λ z. Unit {0}) (λ e. Unit {0}) (λ z e h i. tt) (λ z x y h i j d. add-commute z x y)
        (sticks_by_number L) (walked (walk_of L)) (λ e o. tt) (λ e. sticks-once L sound e ∙ sym (permutation L sound e)) (pos 0) tt
        ∙ folded (pos 0) (walked (walk_of L))
        ∙ +ℤ_idl (sum_among L t (walked (walk_of L)))

    -- "The total must come out equal on every held layer": it does on every sound one
    pub total_same : total_of L t ≡ sum_of (areas_of L t)
    unfolding total_of
    total_same = last_sum (pos 0) (map (edge_adds L t) (drawn_by_number L t)) ∙ +ℤ_idl (sum_among L t (sticks_by_number L)) ∙ same_sum ∙ along (first_sticks L)
