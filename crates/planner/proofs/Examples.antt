-- The planner's list of the paper's single sample as traced, by running the definitions: in samples, and with room enough and too little; and
-- the order where a bore's first stick comes between those of two outlines.
use mathlib.Core.Path.{◌≡◌, refl}
use mathlib.Core.Bool.{false, xor}
use mathlib.Core.List.{List, [], ◌∷◌, flatten}
use Prim.Native.Nat.{ℕ}
use lib.IntN.{pos, negsuc}
use lib.Ieee.{Float, fin, nan, of_int, div}
use Rattle.arith.specs.Ranges.{least_from}
use Rattle.arith.specs.Levels.{at_level, by_level}
use Rattle.grid.specs.Layer.{Layer, layer_of, size_of, sample, bit}
use Rattle.grid.specs.Edges.{number, edge_count, edge_at, is_stick}
use Rattle.grid.specs.Questions.{sides_answer, length_answer, spare_answer, border_answer}
use Rattle.step.specs.Walk.{next, prev}
use Rattle.contour.specs.Walk.{firsts_among, occurrences}
use Rattle.contour.specs.Contours.{first_sticks}
use Rattle.winding.specs.Turns.{is_on, east, turns_among, turns, depth}
use Rattle.table.specs.Entries.{entry_of, entries_answer, table_length_answer}
use Rattle.table.specs.Vertices.{kept_at, removed_at, offset_at}
use Rattle.drawn.specs.Neighbours.{removed_from, kept_from}
use Rattle.drawn.specs.Drawn.{edge_crosses}
use Rattle.held.specs.Held.{held_contour, held_answer}
use Rattle.item.specs.Items.{in_samples}
use Rattle.planner.specs.Items.{list_order}
use Rattle.planner.specs.Plan.{room_answer, answered, plan_of}

-- "W 3, H 3, inside (1,1)", every stick kept at 128
abbrev single : Layer
single = layer_of (size_of 3 3) (0 ∷ 2 ∷ 0 ∷ [])

abbrev traced : List ℕ
traced = 0 ∷ 0 ∷ 128 ∷ 128 ∷ 0 ∷ 0 ∷ 0 ∷ 128 ∷ 0 ∷ 0 ∷ 128 ∷ 0 ∷ []

-- 0.5, 1 and 1.5
abbrev half : Float
half = fin false 1 (negsuc 0)

abbrev one : Float
one = fin false 1 (pos 0)

abbrev three_halves : Float
three_halves = fin false 3 (negsuc 0)

-- a move to the vertex on the left, lines to those below, on the right and above, a close; what lies past the answer stays
pub single-list : plan_of single traced (7 ∷ 7 ∷ 7 ∷ 7 ∷ 7 ∷ 7 ∷ []) (nan ∷ nan ∷ nan ∷ nan ∷ nan ∷ nan ∷ nan ∷ nan ∷ [])
    ≡ record {
      refusal = 0;
      place = 0;
      items = 5;
      floats = 8;
      item_buffer = 0x4D ∷ 0x6C ∷ 0x6C ∷ 0x6C ∷ 0x5A ∷ 7 ∷ [];
      point_buffer = half ∷ one ∷ one ∷ half ∷ three_halves ∷ one ∷ one ∷ three_halves ∷ [];
    }
unfolding sides_answer length_answer spare_answer border_answer table_length_answer entries_answer held_answer held_contour edge_crosses
    firsts_among number edge_count edge_at is_stick sample bit next prev xor least_from kept_at removed_at offset_at removed_from kept_from entry_of
    room_answer answered in_samples div of_int flatten list_order by_level at_level depth turns turns_among is_on occurrences
single-list = refl

-- one float too few: 14, and nothing is written
pub single-short : plan_of single traced (7 ∷ 7 ∷ 7 ∷ 7 ∷ 7 ∷ []) (nan ∷ nan ∷ nan ∷ nan ∷ nan ∷ nan ∷ nan ∷ [])
    ≡ record {
      refusal = 14;
      place = 0;
      items = 0;
      floats = 0;
      item_buffer = 7 ∷ 7 ∷ 7 ∷ 7 ∷ 7 ∷ [];
      point_buffer = nan ∷ nan ∷ nan ∷ nan ∷ nan ∷ nan ∷ nan ∷ [];
    }
unfolding sides_answer length_answer spare_answer border_answer table_length_answer entries_answer held_answer held_contour edge_crosses
    firsts_among number edge_count edge_at is_stick sample bit next prev xor least_from kept_at removed_at offset_at removed_from kept_from entry_of
    room_answer answered in_samples div of_int flatten list_order by_level at_level depth turns turns_among is_on occurrences
single-short = refl

-- a ring around (2,2), and the sample (5,3)
abbrev ring : Layer
ring = layer_of (size_of 7 5) (0 ∷ 0b0001110 ∷ 0b0001010 ∷ 0b0101110 ∷ 0 ∷ [])

-- by first stick the bore is second, by depth it is last
pub ring-firsts : first_sticks ring ≡ east 0 1 ∷ east 1 2 ∷ east 4 3 ∷ []
unfolding firsts_among number edge_count edge_at is_stick sample bit next prev xor least_from
ring-firsts = refl

pub ring-order : list_order ring ≡ east 0 1 ∷ east 4 3 ∷ east 1 2 ∷ []
unfolding list_order by_level at_level depth turns turns_among is_on occurrences firsts_among number edge_count edge_at is_stick sample bit next prev xor
    least_from flatten
ring-order = refl
