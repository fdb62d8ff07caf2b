-- The items of a contour.
use Rattle.std.specs.Prelude.{Bool, true, false, List, [], ◌∷◌, ℕ, Float}
use Rattle.grid.specs.Layer.{Layer}
use Rattle.grid.specs.declared.edge.Edge.{Edge}
use Rattle.drawn.specs.Drawn.{vertex, Ends, drawn_of}
use Rattle.item.specs.Items.{point_in_samples, item_to, bytes_of, floats_of}
use Rattle.item.specs.declared.item.Item.{Item}
use Rattle.item.specs.declared.item.Item.TheVariants.{Close}

-- "per contour a move to the first kept vertex, a line to each further one, a close": to where each drawn edge that is left starts, by
-- whether the move is still due; and the items of the contour that starts at f
abbrev pub items_to : Layer → List ℕ → Bool → List Ends → List Item
items_to L t due [] = Close ∷ []
items_to L t due (d ∷ l) = item_to due (point_in_samples (vertex L t d.from)) ∷ items_to L t false l

abbrev pub contour_items : Layer → List ℕ → Edge → List Item
contour_items L t f = items_to L t true (drawn_of L t f)

-- what a contour writes in each output
abbrev pub contour_bytes : Layer → List ℕ → Edge → List ℕ
contour_bytes L t f = bytes_of (contour_items L t f)

abbrev pub contour_floats : Layer → List ℕ → Edge → List Float
contour_floats L t f = floats_of (contour_items L t f)
