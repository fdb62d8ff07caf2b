-- The commands of a sheet as bytes: "L (hex 4C), W, H (16 bits, low byte first); for each contour C (hex 43) and its first stick; for each
-- vertex K (hex 4B, kept) or R (hex 52, removed) and its offset byte; at last E.", and "the sheet writes N (hex 4E) and the offset for a pinned
-- one" (Note 5).
use Rattle.std.specs.Prelude.{Bool, cond, List, [], ◌∷◌, ◌++◌, ℕ, ◌/◌, ◌%◌}
use Rattle.grid.specs.declared.layer.Size.{Size}
use Rattle.grid.specs.declared.edge.Edge.{Edge}
use Rattle.table.specs.declared.entry.Entry.{Entry}
use Rattle.table.specs.declared.entry.Entry.TheVariants.{Nothing, Kept, Removed, Pinned, Wrong}

-- "16 bits each, low byte first"
abbrev pub two_bytes : ℕ → List ℕ
two_bytes n = n % 256 ∷ n / 256 % 256 ∷ []

-- "A stick is kind (1 byte), column, row": "kind 0" is horizontal, "kind 1" vertical
abbrev pub kind_of : Bool → ℕ
kind_of vertical = cond vertical 1 0

abbrev pub stick_bytes : Edge → List ℕ
stick_bytes e = kind_of e.vertical ∷ (two_bytes e.column ++ two_bytes e.row)

abbrev pub size_command : Size → List ℕ
size_command size = 0x4C ∷ (two_bytes size.width ++ two_bytes size.height)

abbrev pub contour_command : Edge → List ℕ
contour_command f = 0x43 ∷ stick_bytes f

abbrev pub vertex_command : Entry → List ℕ
vertex_command Nothing = []
vertex_command (Kept offset) = 0x4B ∷ offset ∷ []
vertex_command (Removed offset) = 0x52 ∷ offset ∷ []
vertex_command (Pinned offset) = 0x4E ∷ offset ∷ []
vertex_command Wrong = []

abbrev pub end_command : List ℕ
end_command = 0x45 ∷ []
