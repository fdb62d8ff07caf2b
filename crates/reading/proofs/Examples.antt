-- Document 01's sheet read against its layer, by running the definitions, and what is said of sheets that differ from it a little.
use mathlib.Core.Path.{◌≡◌, refl}
use mathlib.Core.Bool.{xor}
use mathlib.Core.List.{List, [], ◌∷◌, ◌++◌, map, flatten}
use Prim.Native.Nat.{ℕ}
use lib.ListN.{replicate, set, take}
use Rattle.arith.specs.Ranges.{least_from, tabulate_from}
use Rattle.grid.specs.Layer.{sample, bit}
use Rattle.grid.specs.Edges.{number, edge_count, edge_at, is_stick}
use Rattle.grid.specs.Questions.{sides_answer, length_answer, spare_answer, border_answer}
use Rattle.step.specs.Walk.{next, prev}
use Rattle.contour.specs.Walk.{firsts_among}
use Rattle.chord.specs.Crossing.{crosses, parted, off}
use Rattle.table.specs.Entries.{entry_of, encoded, table_length_answer}
use Rattle.table.specs.declared.entry.Entry.TheVariants.{Pinned}
use Rattle.table.specs.Vertices.{kept_at, removed_at, offset_at}
use Rattle.drawn.specs.Neighbours.{removed_from, kept_from}
use Rattle.drawn.specs.Drawn.{edge_crosses}
use Rattle.held.specs.Held.{held_contour, held_answer}
use Rattle.sheet.proofs.Examples.{single, entries, bytes}
use Rattle.reading.specs.Reading.{read_of}

-- a table of twelve entries that is lent
abbrev lent : List ℕ
lent = replicate 12 7

pub single-read : read_of single lent bytes ≡ record { refusal = 0; place = 0; table = entries 255 1 255 1 }
unfolding read_of sides_answer length_answer spare_answer border_answer table_length_answer held_answer held_contour edge_crosses
    firsts_among number edge_count edge_at is_stick sample bit next prev xor least_from tabulate_from kept_at removed_at offset_at removed_from kept_from entry_of
    flatten crosses parted off
single-read = refl

-- its second vertex pinned
pub pinned-read : read_of single lent (set bytes 13 0x4E) ≡ record { refusal = 0; place = 0; table = entries 255 1 (encoded (Pinned 255)) 1 }
unfolding read_of sides_answer length_answer spare_answer border_answer table_length_answer held_answer held_contour edge_crosses
    firsts_among number edge_count edge_at is_stick sample bit next prev xor least_from tabulate_from kept_at removed_at offset_at removed_from kept_from entry_of
    flatten crosses parted off
pinned-read = refl

-- the number and the place of a refusal
abbrev refused : List ℕ → List ℕ
refused s = (read_of single lent s).refusal ∷ (read_of single lent s).place ∷ []

-- no byte; another W; a vertical first stick; an offset of 0; that of a pinned vertex; another letter; cut within a vertex; no E; a byte after E;
-- and, well formed, one vertex removed, whose drawn edge does not cross
pub single-refused :
    map refused (
    [] ∷ set bytes 1 4 ∷ set bytes 6 1 ∷ set bytes 16 0 ∷ set (set bytes 13 0x4E) 14 0 ∷ set bytes 15 0x58 ∷ take 18 bytes ∷ take 19 bytes ∷ (bytes ++ (0x45 ∷ []))
    ∷ set bytes 13 0x52 ∷ [])
    ≡ (8 ∷ 0 ∷ []) ∷ (8 ∷ 0 ∷ []) ∷ (8 ∷ 5 ∷ []) ∷ (8 ∷ 15 ∷ []) ∷ (8 ∷ 13 ∷ []) ∷ (8 ∷ 15 ∷ []) ∷ (8 ∷ 17 ∷ []) ∷ (8 ∷ 19 ∷ []) ∷ (8 ∷ 20 ∷ [])
    ∷ (7 ∷ 2 ∷ []) ∷ []
unfolding read_of sides_answer length_answer spare_answer border_answer table_length_answer held_answer held_contour edge_crosses
    firsts_among number edge_count edge_at is_stick sample bit next prev xor least_from tabulate_from kept_at removed_at offset_at removed_from kept_from entry_of
    flatten crosses parted off
single-refused = refl
