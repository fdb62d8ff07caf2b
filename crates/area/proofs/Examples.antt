-- Areas by running the definitions: the paper's single sample as traced, with room and without; a block with its first vertex removed, where the
-- closing edge passes the first stick; and a ring, which has a bore.
use mathlib.Core.Path.{◌≡◌, refl}
use mathlib.Core.Bool.{xor}
use mathlib.Core.List.{List, [], ◌∷◌}
use Prim.Native.Nat.{ℕ}
use lib.IntN.{pos, negsuc}
use Rattle.std.specs.Prelude.{Ok, Err}
use Rattle.arith.specs.Ranges.{least_from}
use Rattle.grid.specs.Layer.{Layer, layer_of, size_of, sample, bit}
use Rattle.grid.specs.Edges.{number, edge_count, edge_at, is_stick}
use Rattle.grid.specs.Questions.{Yes, first_no, sides_answer, length_answer, spare_answer, border_answer}
use Rattle.grid.specs.declared.refusal.Refusal.TheVariants.{ShortOutput}
use Rattle.step.specs.Walk.{next, prev}
use Rattle.contour.specs.Walk.{firsts_among}
use Rattle.chord.specs.Crossing.{off, parted, crosses}
use Rattle.table.specs.Entries.{entry_of, entries_answer, table_length_answer}
use Rattle.table.specs.Vertices.{kept_at, removed_at, offset_at}
use Rattle.drawn.specs.Neighbours.{removed_from, kept_from}
use Rattle.drawn.specs.Drawn.{edge_crosses}
use Rattle.held.specs.Held.{held_contour, held_answer}
use Rattle.held.specs.Questions.{held_questions}
use Rattle.shoelace.specs.Sums.{total_of}
use Rattle.area.specs.Areas.{twice_area, areas_of}
use Rattle.area.specs.Call.{outcome, measure_of}

-- "W 3, H 3, inside (1,1)", every stick kept at 128: a square on its corner, of half a square pitch
abbrev single : Layer
single = layer_of (size_of 3 3) (0 ∷ 2 ∷ 0 ∷ [])

abbrev traced : List ℕ
traced = 0 ∷ 0 ∷ 128 ∷ 128 ∷ 0 ∷ 0 ∷ 0 ∷ 128 ∷ 0 ∷ 0 ∷ 128 ∷ 0 ∷ []

-- its area, and the sums, which are worked out in `shoelace` proofs/Examples.antt
pub single-area : measure_of single traced (pos 7 ∷ pos 7 ∷ []) (pos 7 ∷ pos 7 ∷ pos 7 ∷ pos 7 ∷ pos 7 ∷ [])
    ≡ outcome (Ok (record { contours = 1; edges = 4; total = pos 65536 })) (pos 65536 ∷ pos 7 ∷ []) (negsuc 49151 ∷ pos 32768 ∷ pos 49152 ∷ pos 65536 ∷ pos 7 ∷ [])
unfolding measure_of total_of twice_area sides_answer length_answer spare_answer border_answer table_length_answer entries_answer held_answer held_contour edge_crosses
    firsts_among number edge_count edge_at is_stick sample bit next prev xor least_from kept_at removed_at offset_at removed_from kept_from entry_of
single-area = refl

-- no room for its number, or for the sum after its last edge: 14, and nothing is written
pub no-room-for-areas : measure_of single traced [] (pos 7 ∷ pos 7 ∷ pos 7 ∷ pos 7 ∷ [])
    ≡ outcome (Err (record { question = ShortOutput; place = 0 })) [] (pos 7 ∷ pos 7 ∷ pos 7 ∷ pos 7 ∷ [])
unfolding measure_of total_of twice_area sides_answer length_answer spare_answer border_answer table_length_answer entries_answer held_answer held_contour edge_crosses
    firsts_among number edge_count edge_at is_stick sample bit next prev xor least_from kept_at removed_at offset_at removed_from kept_from entry_of
no-room-for-areas = refl

pub no-room-for-sums : measure_of single traced (pos 7 ∷ []) (pos 7 ∷ pos 7 ∷ pos 7 ∷ []) ≡ outcome (Err (record { question = ShortOutput; place = 0 })) (pos 7 ∷ []) (pos 7 ∷ pos 7 ∷ pos 7 ∷ [])
unfolding measure_of total_of twice_area sides_answer length_answer spare_answer border_answer table_length_answer entries_answer held_answer held_contour edge_crosses
    firsts_among number edge_count edge_at is_stick sample bit next prev xor least_from kept_at removed_at offset_at removed_from kept_from entry_of
no-room-for-sums = refl

-- Four samples in a square: four square pitches, less an eighth at each corner. With the vertex of the first stick removed it is less by the triangle
-- there, of 128 and 256 in 1/256 of the pitch.
abbrev block : Layer
block = layer_of (size_of 4 4) (0 ∷ 6 ∷ 6 ∷ 0 ∷ [])

abbrev without-first : List ℕ
without-first =
    0 ∷ 0 ∷ 0 ∷ 384 ∷ 0 ∷ 128 ∷ 128 ∷ 0 ∷ 128 ∷ 0 ∷ 0 ∷ 0 ∷ 0 ∷ 128 ∷ 128 ∷ 0 ∷ 0 ∷ 0 ∷ 0 ∷ 0 ∷ 0 ∷ 128 ∷ 128 ∷ 0 ∷ []

pub block-area : areas_of block without-first ≡ pos 425984 ∷ []
unfolding twice_area firsts_among number edge_count edge_at is_stick sample bit next prev xor least_from kept_at removed_at offset_at removed_from kept_from entry_of
block-area = refl

pub block_held : first_no (held_questions block without-first) ≡ Yes
unfolding sides_answer length_answer spare_answer border_answer table_length_answer entries_answer held_answer held_contour edge_crosses
    firsts_among number edge_count edge_at is_stick sample bit next prev xor least_from kept_at removed_at offset_at removed_from kept_from entry_of crosses parted off
block_held = refl

-- Eight samples around one that is outside, as traced: nine square pitches less half of one, and a bore of half a square pitch.
abbrev ring : Layer
ring = layer_of (size_of 5 5) (0 ∷ 0b01110 ∷ 0b01010 ∷ 0b01110 ∷ 0 ∷ [])

abbrev ring-traced : List ℕ
ring-traced =
    0 ∷ 0 ∷ 0 ∷ 0 ∷ 128 ∷ 0 ∷ 0 ∷ 128 ∷ 128 ∷ 128 ∷ 128 ∷ 128 ∷ 128 ∷ 0 ∷ 0 ∷ 128 ∷ 0 ∷ 0 ∷ 0 ∷ 0 ∷
    0 ∷ 128 ∷ 128 ∷ 128 ∷ 0 ∷ 0 ∷ 0 ∷ 128 ∷ 0 ∷ 0 ∷ 0 ∷ 0 ∷ 128 ∷ 0 ∷ 0 ∷ 0 ∷ 128 ∷ 128 ∷ 128 ∷ 0 ∷ []

pub ring-areas : areas_of ring ring-traced ≡ pos 1114112 ∷ negsuc 65535 ∷ []
unfolding twice_area firsts_among number edge_count edge_at is_stick sample bit next prev xor least_from kept_at removed_at offset_at removed_from kept_from entry_of
ring-areas = refl
