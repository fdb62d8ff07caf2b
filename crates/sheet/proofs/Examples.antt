-- Document 01's sheet, by running the definitions: "W 3, H 3, inside (1,1)" with its vertices kept at 255, 255, 1, 1 in contour order; one
-- of them removed, or pinned; and an output that is too short for it.
use mathlib.Core.Path.{◌≡◌, refl}
use mathlib.Core.Bool.{xor}
use mathlib.Core.List.{List, [], ◌∷◌, ◌++◌}
use Prim.Native.Nat.{ℕ}
use lib.ListN.{replicate, set}
use Rattle.arith.specs.Ranges.{least_from}
use Rattle.grid.specs.Layer.{Layer, layer_of, size_of, sample, bit}
use Rattle.grid.specs.Edges.{number, edge_count, edge_at, is_stick}
use Rattle.grid.specs.Questions.{sides_answer, length_answer, spare_answer, border_answer}
use Rattle.step.specs.Walk.{next, prev}
use Rattle.contour.specs.Walk.{firsts_among}
use Rattle.table.specs.Entries.{entry_of, encoded, entries_answer, table_length_answer}
use Rattle.table.specs.declared.entry.Entry.TheVariants.{Removed, Pinned}
use Rattle.table.specs.Vertices.{kept_at, removed_at, offset_at}
use Rattle.drawn.specs.Neighbours.{removed_from, kept_from}
use Rattle.drawn.specs.Drawn.{edge_crosses}
use Rattle.held.specs.Held.{held_contour, held_answer}
use Rattle.sheet.specs.Written.{sheet_of, write_of}

-- "W 3, H 3, inside (1,1)", with the four entries of its sticks, by number: 2, 3, 7 and 10
abbrev pub single : Layer
single = layer_of (size_of 3 3) (0 ∷ 2 ∷ 0 ∷ [])

abbrev pub entries : ℕ → ℕ → ℕ → ℕ → List ℕ
entries a b c d = 0 ∷ 0 ∷ a ∷ b ∷ 0 ∷ 0 ∷ 0 ∷ c ∷ 0 ∷ 0 ∷ d ∷ 0 ∷ []

abbrev settled : List ℕ
settled = entries 255 1 255 1

-- "`4C 03 00 03 00 43 00 00 00 01 00 4B FF 4B FF 4B 01 4B 01 45`: size, first stick, four kept offsets, end"
abbrev pub bytes : List ℕ
bytes =
    0x4C ∷ 0x03 ∷ 0x00 ∷ 0x03 ∷ 0x00 ∷ 0x43 ∷ 0x00 ∷ 0x00 ∷ 0x00 ∷ 0x01 ∷ 0x00 ∷ 0x4B ∷ 0xFF ∷ 0x4B ∷ 0xFF ∷ 0x4B ∷ 0x01 ∷ 0x4B ∷ 0x01 ∷ 0x45 ∷ []

pub single-sheet : sheet_of single settled ≡ bytes
unfolding sheet_of firsts_among number edge_count edge_at is_stick sample bit next prev xor entry_of
single-sheet = refl

-- with its second vertex removed, R in place of K
pub removed-sheet : sheet_of single (entries 255 1 (encoded (Removed 255)) 1) ≡ set bytes 13 0x52
unfolding sheet_of firsts_among number edge_count edge_at is_stick sample bit next prev xor entry_of
removed-sheet = refl

-- with it pinned, N
pub pinned-sheet : sheet_of single (entries 255 1 (encoded (Pinned 255)) 1) ≡ set bytes 13 0x4E
unfolding sheet_of firsts_among number edge_count edge_at is_stick sample bit next prev xor entry_of
pinned-sheet = refl

-- an output of twenty bytes and one more, and one of nineteen
abbrev sevens : ℕ → List ℕ
sevens n = replicate n 7

pub single-written : write_of single settled (sevens 21) ≡ record { refusal = 0; place = 0; written = 20; output = bytes ++ (7 ∷ []) }
unfolding write_of sides_answer length_answer spare_answer border_answer table_length_answer entries_answer held_answer held_contour edge_crosses
    firsts_among number edge_count edge_at is_stick sample bit next prev xor least_from kept_at removed_at offset_at removed_from kept_from entry_of
single-written = refl

pub single-short : write_of single settled (sevens 19) ≡ record { refusal = 14; place = 0; written = 0; output = sevens 19 }
unfolding write_of sides_answer length_answer spare_answer border_answer table_length_answer entries_answer held_answer held_contour edge_crosses
    firsts_among number edge_count edge_at is_stick sample bit next prev xor least_from kept_at removed_at offset_at removed_from kept_from entry_of
single-short = refl
