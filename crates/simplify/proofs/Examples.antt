-- The paper's cases on simplifying, and cases with pins, by running the definitions.
use mathlib.Core.Path.{◌≡◌, refl}
use mathlib.Core.Bool.{xor}
use mathlib.Core.List.{List, [], ◌∷◌}
use Prim.Native.Nat.{ℕ}
use lib.ListN.{set}
use Rattle.grid.specs.Layer.{Layer, layer_of, size_of, sample, bit}
use Rattle.grid.specs.Edges.{number, edge_count, edge_at, is_stick}
use Rattle.step.specs.Walk.{next, prev}
use Rattle.contour.specs.Walk.{firsts_among, ahead}
use Rattle.table.specs.Entries.{entry_of}
use Rattle.table.specs.Vertices.{pinned_at, offset_at}
use Rattle.chord.specs.Crossing.{off, parted, crosses, slides_within}
use Rattle.simplify.specs.Runs.{simplify}
use Rattle.simplify.specs.Waiting.{waits_of_run, waits_of, waits_in_turn, waits}

-- "W 3, H 3, inside (1,1)", traced
abbrev pub single : Layer
single = layer_of (size_of 3 3) (0 ∷ 2 ∷ 0 ∷ [])

abbrev pub single_traced : List ℕ
single_traced = 0 ∷ 0 ∷ 128 ∷ 128 ∷ 0 ∷ 0 ∷ 0 ∷ 128 ∷ 0 ∷ 0 ∷ 128 ∷ 0 ∷ []

-- "Simplify it at T 255: 6 runs tried, none removed; the chord touches the sample."
pub single-sample : simplify single 255 single_traced ≡ record { table = single_traced; removed = 0; tried = 6 }
unfolding simplify firsts_among ahead number edge_count edge_at is_stick sample bit next prev xor entry_of pinned_at offset_at crosses slides_within parted off
single-sample = refl

-- "W 5, H 3, inside (1,1), (2,1), (3,1)": its first contour starts at entry 4 and goes by 13, 14, 15, 7, 20, 19, 18
abbrev pub bar : Layer
bar = layer_of (size_of 5 3) (0 ∷ 14 ∷ 0 ∷ [])

-- the table with these four entries at 13, 15, 18 and 20, and at 14 and 19; 4 and 7 are kept at 128
abbrev pub bar_table : ℕ → ℕ → List ℕ
bar_table corner middle =
    0 ∷ 0 ∷ 0 ∷ 0 ∷ 128 ∷ 0 ∷ 0 ∷ 128 ∷ 0 ∷ 0 ∷ 0 ∷ 0 ∷
    0 ∷ corner ∷ middle ∷ corner ∷ 0 ∷ 0 ∷ corner ∷ middle ∷ corner ∷ 0 ∷ []

-- "traced, T 86: 4 removed, 6 tried."
pub bar-removed : simplify bar 86 (bar_table 128 128) ≡ record { table = bar_table 384 128; removed = 4; tried = 6 }
unfolding simplify firsts_among ahead number edge_count edge_at is_stick sample bit next prev xor entry_of pinned_at offset_at crosses slides_within parted off
bar-removed = refl

-- "T 85: 0 removed, 14 tried. (The slide is 256/3.)"
pub bar-kept : simplify bar 85 (bar_table 128 128) ≡ record { table = bar_table 128 128; removed = 0; tried = 14 }
unfolding simplify firsts_among ahead number edge_count edge_at is_stick sample bit next prev xor entry_of pinned_at offset_at crosses slides_within parted off
bar-kept = refl

-- "Simplify lets no run pass that has one strictly inside", a pinned vertex (Note 5): entry 13 lies inside the run from 4 to 14, which is split
pub pinned-inside : simplify bar 86 (set (bar_table 128 128) 13 640) ≡ record { table = set (bar_table 384 128) 13 640; removed = 3; tried = 8 }
unfolding simplify firsts_among ahead number edge_count edge_at is_stick sample bit next prev xor entry_of pinned_at offset_at crosses slides_within parted off
pinned-inside = refl

-- and 14 is that run's end, which lets it pass
pub pinned-end : simplify bar 86 (set (bar_table 128 128) 14 640) ≡ record { table = set (bar_table 384 128) 14 640; removed = 4; tried = 6 }
unfolding simplify firsts_among ahead number edge_count edge_at is_stick sample bit next prev xor entry_of pinned_at offset_at crosses slides_within parted off
pinned-end = refl

-- How many runs wait before each is taken. On the single sample: two runs of two edges, each split into single edges.
pub single-waits : waits single 255 single_traced ≡ 2 ∷ 3 ∷ 2 ∷ 1 ∷ 2 ∷ 1 ∷ []
unfolding waits_in_turn waits_of waits_of_run simplify firsts_among ahead number edge_count edge_at is_stick sample bit next prev xor entry_of pinned_at offset_at crosses slides_within parted off
single-waits = refl

-- On two samples side by side: two runs of three edges, each split into one edge and two.
abbrev pair : Layer
pair = layer_of (size_of 4 3) (0 ∷ 6 ∷ 0 ∷ [])

abbrev pair_traced : List ℕ
pair_traced = 0 ∷ 0 ∷ 0 ∷ 128 ∷ 0 ∷ 128 ∷ 0 ∷ 0 ∷ 0 ∷ 0 ∷ 128 ∷ 128 ∷ 0 ∷ 0 ∷ 128 ∷ 128 ∷ 0 ∷ []

pub pair-waits : waits pair 0 pair_traced ≡ 2 ∷ 3 ∷ 2 ∷ 3 ∷ 2 ∷ 1 ∷ 2 ∷ 1 ∷ 2 ∷ 1 ∷ []
unfolding waits_in_turn waits_of waits_of_run simplify firsts_among ahead number edge_count edge_at is_stick sample bit next prev xor entry_of pinned_at offset_at crosses slides_within parted off
pair-waits = refl
