-- The paper's example of the layer program and its refusals, by running the definitions.
use mathlib.Core.Path.{◌≡◌, refl}
use mathlib.Core.Bool.{xor}
use mathlib.Core.List.{[], ◌∷◌}
use Rattle.arith.specs.Ranges.{tabulate_from, least_from, count}
use Rattle.grid.specs.Layer.{sample, bit}
use Rattle.grid.specs.Edges.{number, edge_count, edge_at, is_stick}
use Rattle.grid.specs.Questions.{sides_answer, length_answer, spare_answer, border_answer}
use Rattle.step.specs.Walk.{next, prev}
use Rattle.contour.specs.Walk.{firsts_among, ahead}
use Rattle.chord.specs.Crossing.{off, parted, crosses, slides_within}
use Rattle.table.specs.Entries.{entry_of, entries_answer, table_length_answer}
use Rattle.table.specs.Vertices.{kept_at, removed_at, pinned_at, offset_at}
use Rattle.table.specs.Kept.{all_kept_answer}
use Rattle.drawn.specs.Neighbours.{removed_from, kept_from}
use Rattle.drawn.specs.Drawn.{edge_crosses}
use Rattle.held.specs.Held.{held_contour, held_answer}
use Rattle.slicing.specs.Slice.{slice_of}

-- "For input hex `4C 03 00 03 00 00 02 00` it writes `4C 03 00 03 00 43 00 00 00 01 00 4B FF 4B FF 4B 01 4B 01 45`: size, first stick, four kept
-- offsets, end."
pub single-sample : slice_of (0x4C ∷ 0x03 ∷ 0x00 ∷ 0x03 ∷ 0x00 ∷ 0x00 ∷ 0x02 ∷ 0x00 ∷ [])
    ≡ 0x4C ∷ 0x03 ∷ 0x00 ∷ 0x03 ∷ 0x00 ∷ 0x43 ∷ 0x00 ∷ 0x00 ∷ 0x00 ∷ 0x01 ∷ 0x00
    ∷ 0x4B ∷ 0xFF ∷ 0x4B ∷ 0xFF ∷ 0x4B ∷ 0x01 ∷ 0x4B ∷ 0x01 ∷ 0x45 ∷ []
unfolding slice_of sides_answer length_answer spare_answer border_answer table_length_answer entries_answer all_kept_answer held_answer held_contour edge_crosses
    firsts_among ahead number edge_count edge_at is_stick sample bit next prev xor tabulate_from least_from count kept_at removed_at pinned_at offset_at removed_from kept_from entry_of
    crosses slides_within parted off
single-sample = refl

-- "an input without a whole L command" gives 2
pub cut_short : slice_of (0x4C ∷ 0x03 ∷ 0x00 ∷ 0x03 ∷ []) ≡ 0x3F ∷ 0x02 ∷ []
unfolding slice_of
cut_short = refl

-- "Its sides are at most 64, else 1", and this before the length: 65 columns, and no bitmap
pub too_wide : slice_of (0x4C ∷ 0x41 ∷ 0x00 ∷ 0x03 ∷ 0x00 ∷ []) ≡ 0x3F ∷ 0x01 ∷ []
unfolding slice_of
too_wide = refl

-- "a wrong length gives 2"
pub wrong-length : slice_of (0x4C ∷ 0x03 ∷ 0x00 ∷ 0x03 ∷ 0x00 ∷ 0x00 ∷ 0x02 ∷ []) ≡ 0x3F ∷ 0x02 ∷ []
unfolding slice_of sides_answer length_answer
wrong-length = refl
