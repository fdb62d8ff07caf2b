-- "Single-contour cases are unchanged, and a layer without contours answers as before" (Note 3): there the whole layer is one contour, or nothing,
-- so the paper's rule, with pins skipped (specs/Former), and Smooth are the same, the table and the answer, whatever is lent.
use mathlib.Core.Path.{◌≡◌, refl, sym, ◌∙◌, ap}
use mathlib.Core.List.{List, [], ◌∷◌, ◌++◌, map, foldl, flatten, append-nil}
use Prim.Native.Nat.{ℕ, ◌≤◌, max, ◌+◌}
use native.Mathlib.Omega.{arith}
use lib.ListN.{length}
use Rattle.grid.specs.Layer.{Layer}
use Rattle.grid.specs.Questions.{Sound}
use Rattle.grid.specs.declared.edge.Edge.{Edge}
use Rattle.contour.specs.Walk.{walked}
use Rattle.contour.specs.Contours.{walk_of, contour_of, first_sticks, contour_count}
use Rattle.contour.proofs.Theorems.{total-length}
use Rattle.table.proofs.AllKept.{AllKept}
use Rattle.smooth.specs.Smooth.{passed, pass_contour, Smoothed, settle, smooth_contour, no_contour, smooth}
use Rattle.smooth.specs.Call.{smooth_of}
use Rattle.smooth.specs.Former.{former, former_of}
use Rattle.smooth.proofs.Passes.{standing, contour-is, smooth_next, smooth-is, until-settled}
use Rattle.smooth.proofs.Held.{same-call}
use Rattle.smooth.proofs.Halves.{layer_pass, former-layer}

module _ {L : Layer} (sound : Sound L) (limit : ℕ) {t : List ℕ} (kept : AllKept L t) where
  -- passes over the sticks of a list, settled by their number
  abbrev over : List Edge → Smoothed
  over c = settle (λ u. pass_contour L (passed u 0) c) (length c) limit t

  -- the paper's rule takes the sticks of all contours for one list
  former-over : former L limit t ≡ over (walked (walk_of L))
  former-over = former-layer sound limit kept ∙ ap (λ (n : ℕ). settle (layer_pass L) n limit t) (sym (total-length L sound))

  -- no contour: there is nothing to pass over
  over_none : over [] ≡ no_contour t
  over_none = until-settled (λ u. pass_contour L (passed u 0) []) 0 limit (no_contour t) refl

  -- one contour, on top of nothing
  over-one : (f : Edge) → over (contour_of L f ++ []) ≡ smooth_next L limit (no_contour t) f
  over-one f =
      ap over (append-nil (contour_of L f)) ∙ sym (contour-is L limit t f)
      ∙ (λ i. standing r.table (passes i) (total i) r.settled)
    where
      r : Smoothed
      r = smooth_contour L limit t f

      passes : r.passes ≡ max 0 r.passes
      passes = omega arith

      total : r.total ≡ 0 + r.total
      total = omega arith

  over-few : (l : List Edge) → length (map (contour_of L) l) ≤ 1 → over (flatten (map (contour_of L) l)) ≡ foldl (smooth_next L limit) (no_contour t) l
  unfolding flatten
  over-few [] most = over_none
  over-few (f ∷ []) most = over-one f
  over-few (f ∷ g ∷ l) most = absurd (omega (arith, most))

  former-single : contour_count L ≤ 1 → former L limit t ≡ smooth L limit t
  former-single few = former-over ∙ over-few (first_sticks L) few ∙ sym (smooth-is L limit t)

-- one contour, or none
pub single_contour : (L : Layer) (limit : ℕ) (t : List ℕ) → contour_count L ≤ 1 → smooth_of L limit t ≡ former_of L limit t
unfolding smooth_of former_of
single_contour L limit t few =
    same-call L t (smooth L limit t) (former L limit t) λ sound kept. sym (former-single sound limit kept few)

-- a layer without contours: 0 passes, total 0, settled, and the table as it was, whatever it is
pub no-contour : (L : Layer) (limit : ℕ) (t : List ℕ) → contour_count L ≡ 0 → smooth L limit t ≡ no_contour t
no-contour L limit t none = smooth-is L limit t ∙ by (first_sticks L) none
  where
    by : (l : List Edge) → length (map (contour_of L) l) ≡ 0 → foldl (smooth_next L limit) (no_contour t) l ≡ no_contour t
    by [] e = refl
    by (f ∷ l) e = absurd (omega (arith, e))
