-- Sums by running the definitions: the paper's single sample as traced, and a layer without contours.
use mathlib.Core.Path.{◌≡◌, refl}
use mathlib.Core.Bool.{xor}
use mathlib.Core.List.{List, [], ◌∷◌, flatten}
use Prim.Native.Nat.{ℕ}
use lib.IntN.{pos, negsuc}
use Rattle.grid.specs.Layer.{Layer, layer_of, size_of, sample, bit}
use Rattle.grid.specs.Edges.{number, edge_count, edge_at, is_stick}
use Rattle.step.specs.Walk.{next, prev}
use Rattle.contour.specs.Walk.{firsts_among}
use Rattle.table.specs.Entries.{entry_of}
use Rattle.table.specs.Vertices.{kept_at, removed_at, offset_at}
use Rattle.drawn.specs.Neighbours.{removed_from, kept_from}
use Rattle.shoelace.specs.Sums.{sums_of, total_of}

-- "W 3, H 3, inside (1,1)", every stick kept at 128. By number the drawn edges start at sticks 2 and 3, on the row through the sample, 7 below it and
-- 10 above, with vertices at (128, 256), (384, 256), (256, 128) and (256, 384); the contour goes from 2 to 7 to 3 to 10. They add
-- 128 · 128 − 256 · 256 = −49,152, then 384 · 384 − 256 · 256 = 81,920, then 256 · 256 − 384 · 128 = 16,384, then 256 · 256 − 128 · 384 = 16,384.
abbrev single : Layer
single = layer_of (size_of 3 3) (0 ∷ 2 ∷ 0 ∷ [])

abbrev traced : List ℕ
traced = 0 ∷ 0 ∷ 128 ∷ 128 ∷ 0 ∷ 0 ∷ 0 ∷ 128 ∷ 0 ∷ 0 ∷ 128 ∷ 0 ∷ []

pub single-sums : sums_of single traced ≡ negsuc 49151 ∷ pos 32768 ∷ pos 49152 ∷ pos 65536 ∷ []
unfolding flatten firsts_among number edge_count edge_at is_stick sample bit next prev xor kept_at removed_at offset_at removed_from kept_from entry_of
single-sums = refl

pub single-total : total_of single traced ≡ pos 65536
unfolding total_of firsts_among number edge_count edge_at is_stick sample bit next prev xor kept_at removed_at offset_at removed_from kept_from entry_of
single-total = refl

pub no-contour : total_of (layer_of (size_of 3 3) (0 ∷ 0 ∷ 0 ∷ [])) (0 ∷ 0 ∷ 0 ∷ 0 ∷ 0 ∷ 0 ∷ 0 ∷ 0 ∷ 0 ∷ 0 ∷ 0 ∷ 0 ∷ []) ≡ pos 0
unfolding total_of firsts_among number edge_count edge_at is_stick sample bit next prev xor kept_at removed_at offset_at removed_from kept_from entry_of
no-contour = refl
