-- How much there is to write: what the contours write, one after the other, in the order of the list, and so as much as in any other order.
use mathlib.Core.Path.{◌≡◌, refl, sym, ap, ◌∙◌}
use mathlib.Core.List.{List, [], ◌∷◌, ◌++◌, flatten, append_assoc, map-append}
use Prim.Native.Nat.{ℕ, ◌+◌, ◌*◌, ◌≤◌}
use native.Mathlib.Omega.{arith}
use lib.ListN.{length, length-map}
use lib.Ieee.{Float}
use Rattle.arith.specs.Levels.{total, parts_of, parts_below}
use Rattle.arith.specs.Ranges.{count}
use Rattle.arith.proofs.Levels.{parts-total}
use Rattle.arith.proofs.Ranges.{count-le}
use Rattle.grid.specs.Layer.{Layer}
use Rattle.grid.specs.Edges.{edge_at, edge_count}
use Rattle.grid.specs.Questions.{Sound}
use Rattle.grid.specs.declared.edge.Edge.{Edge}
use Rattle.grid.proofs.Numbers.{edges-small}
use Rattle.contour.specs.Walk.{first}
use Rattle.contour.specs.Contours.{walk_of, contour_of, first_sticks, contour_count}
use Rattle.contour.proofs.Theorems.{contour-count}
use Rattle.winding.specs.Turns.{depth}
use Rattle.drawn.specs.Drawn.{drawn_of, drawn_edges}
use Rattle.table.specs.Kept.{kept_entry}
use Rattle.drawn.proofs.DrawnEdges.{drawn-many}
use Rattle.held.specs.Questions.{Accepted}
use Rattle.item.specs.Items.{byte_of, bytes_of, floats_in, floats_of}
use Rattle.item.specs.declared.item.Item.{Item}
use Rattle.polyline.specs.Items.{contour_items, contour_bytes, contour_floats}
use Rattle.planner.specs.Items.{items_of, list_order, listed_items}
use Rattle.planner.specs.Writing.{depths, most}
use Rattle.polyline.proofs.Lengths.{contour-bytes, contour-floats}
use Rattle.planner.proofs.Order.{order-total, order-depths}

module _ (L : Layer) (t : List ℕ) where
  -- Several, one after the other

  floats-join : (l m : List Item) → floats_of (l ++ m) ≡ floats_of l ++ floats_of m
  unfolding flatten
  floats-join [] m = refl
  floats-join (item ∷ l) m = ap (λ (x : List Float). floats_in item ++ x) (floats-join l m) ∙ sym (append_assoc (floats_in item) (floats_of l) (floats_of m))

  bytes-parts : (order : List Edge) → bytes_of (items_of L t order) ≡ parts_of (contour_bytes L t) order
  unfolding flatten
  bytes-parts [] = refl
  bytes-parts (f ∷ order) =
      map-append byte_of (contour_items L t f) (items_of L t order) ∙ ap (λ (x : List ℕ). contour_bytes L t f ++ x) (bytes-parts order)

  floats-parts : (order : List Edge) → floats_of (items_of L t order) ≡ parts_of (contour_floats L t) order
  unfolding flatten
  floats-parts [] = refl
  floats-parts (f ∷ order) =
      floats-join (contour_items L t f) (items_of L t order) ∙ ap (λ (x : List Float). contour_floats L t f ++ x) (floats-parts order)

  -- All of them: as many as in the order of first sticks

  totals : (l : List Edge)
      → (total (λ f. length (contour_bytes L t f)) l ≡ total (λ f. length (drawn_of L t f)) l + length l)
      × (total (λ f. length (contour_floats L t f)) l ≡ 2 * total (λ f. length (drawn_of L t f)) l)
  totals [] = (refl, refl)
  totals (f ∷ l) =
      let later = totals l in
      (omega (arith, later, contour-bytes L t f), omega (arith, later, contour-floats L t f))

  drawn-total : length (drawn_edges L t) ≡ total (λ f. length (drawn_of L t f)) (first_sticks L)
  drawn-total = parts-total (drawn_of L t) (first_sticks L)

  bytes-length : Sound L → length (bytes_of (listed_items L t)) ≡ length (drawn_edges L t) + contour_count L
  bytes-length sound =
      ap length (bytes-parts (list_order L))
      ∙ parts-total (contour_bytes L t) (list_order L)
      ∙ order-total sound (λ f. length (contour_bytes L t f))
      ∙ omega (arith, totals (first_sticks L), drawn-total, length-map (first_sticks L) (contour_of L))

  floats-length : Sound L → length (floats_of (listed_items L t)) ≡ 2 * length (drawn_edges L t)
  floats-length sound =
      ap length (floats-parts (list_order L))
      ∙ parts-total (contour_floats L t) (list_order L)
      ∙ order-total sound (λ f. length (contour_floats L t f))
      ∙ omega (arith, totals (first_sticks L), drawn-total)

  -- by the depths that the code counts
  pub bytes-depths : Sound L → bytes_of (listed_items L t) ≡ parts_below (depth L) (contour_bytes L t) depths (first_sticks L)
  bytes-depths sound = bytes-parts (list_order L) ∙ ap (parts_of (contour_bytes L t)) (order-depths sound)

  pub floats-depths : Sound L → floats_of (listed_items L t) ≡ parts_below (depth L) (contour_floats L t) depths (first_sticks L)
  floats-depths sound = floats-parts (list_order L) ∙ ap (parts_of (contour_floats L t)) (order-depths sound)

-- by the kept entries of an accepted table, which are as many as the drawn edges (drawn, DrawnEdges)
module _ {L : Layer} {t : List ℕ} (accepted : Accepted L t) where
  kept-all : length (drawn_edges L t) ≡ count (kept_entry t) (length t)
  kept-all = drawn-many L t accepted.sound accepted.entries ∙ ap (count (kept_entry t)) (sym accepted.exact)

  pub bytes-all : length (bytes_of (listed_items L t)) ≡ count (kept_entry t) (length t) + contour_count L
  bytes-all = omega (arith, bytes-length L t accepted.sound, kept-all)

  pub floats-all : length (floats_of (listed_items L t)) ≡ 2 * count (kept_entry t) (length t)
  floats-all = omega (arith, floats-length L t accepted.sound, kept-all)

  -- so no output is longer than a layer allows
  pub bytes_most : length (bytes_of (listed_items L t)) ≤ most
  bytes_most =
      omega (arith, bytes-all, count-le (kept_entry t) (length t), accepted.exact, few, contour-count L, count-le (λ k. first (walk_of L) (edge_at L.size k)) (edge_count L.size))
    where
      few : edge_count L.size ≤ 2095104
      few = edges-small L.size accepted.sound.whole.sized

  pub floats-most : length (floats_of (listed_items L t)) ≤ most
  floats-most =
      omega (arith, floats-all, count-le (kept_entry t) (length t), accepted.exact, edges-small L.size accepted.sound.whole.sized)
