-- The hold table: "one 16-bit number per grid edge". An entry taken apart, and questions 5 and 6.
use Rattle.std.specs.Prelude.{Bool, false, cond, not, ◌&&◌, List, [], ◌∷◌, ◌++◌, ℕ, ◌+◌, ◌-◌, eqb, leb, get_or}
use Rattle.grid.specs.Layer.{Layer, bit}
use Rattle.grid.specs.Edges.{kind_start, row_start, edge_count, stick_in, stick_of, stick_at}
use Rattle.grid.specs.Questions.{ask, ask_each, layer_questions}
use Rattle.grid.specs.declared.layer.Size.{Size}
use Rattle.grid.specs.declared.refusal.Refusal.TheVariants as Refusal
use Rattle.grid.specs.Questions.{Answer}
use Rattle.table.specs.declared.entry.Entry.{Entry}
use Rattle.table.specs.declared.entry.Entry.TheVariants.{Nothing, Kept, Removed, Pinned, Wrong}

-- "0 for no stick, 1 to 255 for a kept vertex at that offset, 256 plus the offset for a removed vertex with the offset it last had", and
-- "512 plus offset is a kept and pinned vertex" (Note 5)
unfoldable pub entry_of : ℕ → Entry
entry_of n =
    cond (eqb n 0) Nothing
    (cond (leb n 255) (Kept n)
    (cond (leb 257 n && leb n 511) (Removed (n - 256))
    (cond (leb 513 n && leb n 767) (Pinned (n - 512))
    Wrong)))

-- the number of an entry, the other way round; that of a wrong one is 256, which no entry may have. A vertex has an offset of 1 to 255.
abbrev pub encoded : Entry → ℕ
encoded Nothing = 0
encoded (Kept offset) = offset
encoded (Removed offset) = 256 + offset
encoded (Pinned offset) = 512 + offset
encoded Wrong = 256

-- "0 off sticks, and 1 to 255 or 257 to 511 on them"; it "admits 513 to 767 too" (Note 5)
abbrev pub suits : Bool → Entry → Bool
suits stick Nothing = not stick
suits stick (Kept offset) = stick
suits stick (Removed offset) = stick
suits stick (Pinned offset) = stick
suits stick Wrong = false

-- "5. Is the table's length (W-1)×H + W×(H-1)? (0)", of a table of n entries
unfoldable pub table_length_answer : Size → ℕ → Answer
table_length_answer size n = ask Refusal.TableLength (eqb n (edge_count size))

-- questions 1 to 5, which every call with a table puts first
abbrev pub length_questions : Layer → ℕ → List Answer
length_questions L n = layer_questions L ++ (table_length_answer L.size n ∷ [])

-- "6. Is each entry 0 off sticks, and 1 to 255 or 257 to 511 on them? (lowest entry)", and with Note 5 "513 to 767 too"
abbrev pub wrong : Bool → ℕ → Bool
wrong stick n = not (suits stick (entry_of n))

abbrev pub wrong_at : Layer → List ℕ → ℕ → Bool
wrong_at L t k = wrong (stick_at L k) (get_or t k 0)

unfoldable pub entries_answer : Layer → List ℕ → Answer
entries_answer L t = ask_each Refusal.WrongEntry (wrong_at L t) (edge_count L.size)

-- the same test by kind, and in one row
abbrev pub wrong_of : Layer → List ℕ → Bool → ℕ → Bool
wrong_of L t vertical k = wrong (stick_of L vertical k) (get_or t (kind_start L.size vertical + k) 0)

abbrev pub wrong_in : Layer → List ℕ → Bool → ℕ → ℕ → Bool
wrong_in L t vertical r c = wrong (stick_in L vertical r c) (get_or t (row_start L.size vertical r + c) 0)

-- and among the entries of a run of edges, where bit b of `marks` says whether the b-th of them is on a stick
abbrev pub wrong_from : List ℕ → ℕ → ℕ → Bool
wrong_from run marks b = wrong (bit marks b) (get_or run b 0)
