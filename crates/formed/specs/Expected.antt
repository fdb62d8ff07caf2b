-- "A sheet is read against a bitmap and nothing but the expected commands is accepted": the commands that are expected, and the first that is
-- not there.
use Rattle.std.specs.Prelude.{Bool, true, cond, ◌&&◌, ◌||◌, ℕ, ◌+◌, eqb, ltb, length, get_or}
use mathlib.Core.List.{List, [], ◌∷◌, ◌++◌, map, flatten}
use Rattle.grid.specs.Layer.{Layer}
use Rattle.grid.specs.declared.edge.Edge.{Edge}
use Rattle.grid.specs.declared.refusal.Refusal.TheVariants.{Malformed}
use Rattle.grid.specs.Questions.{Answer, Yes, No}
use Rattle.contour.specs.Contours.{contour_of, first_sticks}
use Rattle.sheet.specs.Commands.{size_command, contour_command, end_command}

-- an expected command: these bytes, or the vertex of a stick, K, R or N and an offset
pub data Expected : Type 0 where
  these : List ℕ → Expected
  vertex_of : Edge → Expected

-- how many bytes it has
abbrev pub width : Expected → ℕ
width (these bytes) = length bytes
width (vertex_of e) = 2

-- the bytes stand in the sheet from place i on; 256 is no byte
abbrev pub stands_at : List ℕ → ℕ → List ℕ → Bool
stands_at s i [] = true
stands_at s i (b ∷ l) = eqb (get_or s i 256) b && stands_at s (i + 1) l

-- "K (hex 4B, kept) or R (hex 52, removed)", or "N (hex 4E)" (Note 5)
abbrev pub vertex_letter : ℕ → Bool
vertex_letter b = eqb b 0x4B || eqb b 0x52 || eqb b 0x4E

-- a vertex command stands at i, whole: its letter and an offset. "Reading a sheet .. treats an offset of 0 as 8", and past the end every byte
-- reads as 0.
abbrev pub vertex_at : List ℕ → ℕ → Bool
vertex_at s i = vertex_letter (get_or s i 0) && ltb 0 (get_or s (i + 1) 0)

-- the expected command stands at i, whole
abbrev pub is_at : List ℕ → ℕ → Expected → Bool
is_at s i (these bytes) = stands_at s i bytes
is_at s i (vertex_of e) = vertex_at s i

-- the commands that are expected for a contour, and for the whole sheet, in order
abbrev pub expected_contour : Layer → Edge → List Expected
expected_contour L f = these (contour_command f) ∷ map vertex_of (contour_of L f)

abbrev pub expected_sheet : Layer → List Expected
expected_sheet L = these (size_command L.size) ∷ (flatten (map (expected_contour L) (first_sticks L)) ++ (these end_command ∷ []))

-- "8. Is the roll or sheet well formed to its last byte? (start of the first command that is wrong, cut short, missing or extra)"
abbrev pub commands_from : List ℕ → ℕ → List Expected → Answer
commands_from s i [] = cond (eqb i (length s)) Yes (No Malformed i)
commands_from s i (x ∷ later) = cond (is_at s i x) (commands_from s (i + width x) later) (No Malformed i)

unfoldable pub sheet_answer : Layer → List ℕ → Answer
sheet_answer L s = commands_from s 0 (expected_sheet L)
