-- Document 01's cases on contours, by running the definitions.
use mathlib.Core.Path.{◌≡◌, refl}
use mathlib.Core.Bool.{xor}
use mathlib.Core.List.{List, [], ◌∷◌, map}
use Prim.Native.Nat.{ℕ}
use lib.ListN.{length}
use Rattle.grid.specs.Layer.{Layer, layer_of, sample, bit}
use Rattle.grid.specs.Edges.{number, edge_count, edge_at, is_stick}
use Rattle.step.specs.Walk.{next, prev}
use Rattle.grid.specs.declared.layer.Size.{Size}
use Rattle.grid.specs.declared.edge.Edge.{Edge}
use Rattle.contour.specs.Walk.{firsts_among}
use Rattle.contour.specs.Contours.{contours_of}

abbrev pub square : ℕ → Size
square n = record { width = n; height = n }

-- the numbers of the sticks, contour by contour
abbrev pub numbers : Layer → List (List ℕ)
numbers L = map (λ (c : List Edge). map (number L.size) c) (contours_of L)

-- "W 3, H 3, inside (1,1): entries 2, 7, 3, 10 in contour order, 12 entries in all."
pub single : numbers (layer_of (square 3) (0 ∷ 2 ∷ 0 ∷ [])) ≡ (2 ∷ 7 ∷ 3 ∷ 10 ∷ []) ∷ []
unfolding firsts_among number edge_count edge_at is_stick sample bit next prev xor
single = refl

pub single-edges : edge_count (square 3) ≡ 12
unfolding edge_count
single-edges = refl

-- "W 4, H 4, inside (1,1), (2,2): two contours of 4. The other diagonal: two also."
pub diagonal : map length (contours_of (layer_of (square 4) (0 ∷ 2 ∷ 4 ∷ 0 ∷ []))) ≡ 4 ∷ 4 ∷ []
unfolding firsts_among number edge_count edge_at is_stick sample bit next prev xor
diagonal = refl

pub other-diagonal : map length (contours_of (layer_of (square 4) (0 ∷ 4 ∷ 2 ∷ 0 ∷ []))) ≡ 4 ∷ 4 ∷ []
unfolding firsts_among number edge_count edge_at is_stick sample bit next prev xor
other-diagonal = refl
