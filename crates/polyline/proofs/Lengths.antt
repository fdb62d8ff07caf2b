-- How much a contour writes: an item for each drawn edge and one more, and two floats for each drawn edge.
use mathlib.Core.Path.{◌≡◌, refl, ◌∙◌}
use mathlib.Core.Bool.{Bool, true, false}
use mathlib.Core.List.{List, [], ◌∷◌, flatten}
use Prim.Native.Nat.{ℕ, ◌+◌, ◌*◌}
use native.Mathlib.Omega.{arith}
use lib.ListN.{length, length-map}
use Rattle.grid.specs.Layer.{Layer}
use Rattle.grid.specs.declared.edge.Edge.{Edge}
use Rattle.drawn.specs.Drawn.{Ends, drawn_of}
use Rattle.item.specs.Items.{byte_of, floats_of}
use Rattle.polyline.specs.Items.{items_to, contour_items, contour_bytes, contour_floats}

module _ (L : Layer) (t : List ℕ) where
  items-many : (due : Bool) (l : List Ends) → length (items_to L t due l) ≡ length l + 1
  items-many due [] = refl
  items-many due (d ∷ l) = omega (arith, items-many false l)

  floats-many : (due : Bool) (l : List Ends) → length (floats_of (items_to L t due l)) ≡ 2 * length l
  unfolding flatten
  floats-many due [] = refl
  floats-many true (d ∷ l) = omega (arith, floats-many false l)
  floats-many false (d ∷ l) = omega (arith, floats-many false l)

  pub contour-bytes : (f : Edge) → length (contour_bytes L t f) ≡ length (drawn_of L t f) + 1
  contour-bytes f = length-map (contour_items L t f) byte_of ∙ items-many true (drawn_of L t f)

  pub contour-floats : (f : Edge) → length (contour_floats L t f) ≡ 2 * length (drawn_of L t f)
  contour-floats f = floats-many true (drawn_of L t f)

  -- by the number of its kept vertices
  module _ (f : Edge) {n : ℕ} (tallied : n ≡ length (drawn_of L t f)) where
    pub tallied-bytes : n + 1 ≡ length (contour_bytes L t f)
    tallied-bytes = omega (arith, tallied, contour-bytes f)

    pub tallied-floats : 2 * n ≡ length (contour_floats L t f)
    tallied-floats = omega (arith, tallied, contour-floats f)
