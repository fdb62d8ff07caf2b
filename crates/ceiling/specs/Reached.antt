-- Layers that reach the ceiling: "Show also, for each even n from 4 to 12, one held layer with a single contour of n vertices, all kept and slid where
-- needed, that reaches the ceiling at T 0." proofs/Reached.antt has the theorem, by running the calls' definitions.
use Rattle.std.specs.Prelude.{◌≡◌, List, [], ◌∷◌, ◌++◌, map, ℕ, ◌+◌, ◌-◌, ◌*◌, ◌/◌, ◌^◌, length, drop, replicate}
use Rattle.grid.specs.Layer.{Layer, layer_of, size_of}
use Rattle.grid.specs.Questions.{Yes, first_no}
use Rattle.mask.specs.Counts.{stick_count}
use Rattle.contour.specs.Contours.{contours_of, contour_count}
use Rattle.held.specs.Questions.{kept_questions}
use Rattle.trace.specs.Counts.{counts_of}
use Rattle.trace.specs.Trace.{trace_of}
use Rattle.roll.specs.Roll.{roll_of}
use Rattle.simplify.specs.Call.{simplify_of}
use Rattle.ceiling.specs.Ceiling.{contour_ceiling, layer_ceiling}
use Rattle.ceiling.specs.declared.Line.{Line}

-- the byte of a row with so many inside samples, at most six, from column 1 on
abbrev pub samples_byte : ℕ → ℕ
samples_byte samples = 2 * 2 ^ samples - 2

-- A row of inside samples, at most six, from (1,1) on, in a layer of three rows. Its contour goes along below the samples, around the last one, back
-- above them and around the first: two vertices for each sample, and one at each end.
abbrev pub row : ℕ → Layer
row samples = layer_of (size_of (samples + 2) 3) (0 ∷ samples_byte samples ∷ 0 ∷ [])

-- how many vertices it has, and how many entries its table
abbrev pub row_vertices : ℕ → ℕ
row_vertices samples = 2 * samples + 2

abbrev pub row_entries : ℕ → ℕ
row_entries samples = 5 * samples + 7

-- "slid where needed". As traced, rows of up to four samples reach the ceiling too; in the row of five two runs of two edges lie in a line and pass. One
-- rule serves all five: the vertices below and above every second sample are slid, to this offset. Then no three consecutive vertices are in a line,
-- and at T 0 only single edges pass.
abbrev pub slid_offset : ℕ
slid_offset = 100

-- the command that slides the vertex on the vertical stick at a column and a row
abbrev pub slide_at : ℕ → ℕ → List ℕ
slide_at column r = 0x53 ∷ 1 ∷ column ∷ 0 ∷ r ∷ 0 ∷ slid_offset ∷ []

-- the roll for a row of five samples. That for a shorter row is the end of it: for every second sample two slides of seven bytes, and E.
abbrev pub longest_roll : List ℕ
longest_roll = slide_at 4 0 ++ slide_at 4 1 ++ slide_at 2 0 ++ slide_at 2 1 ++ (0x45 ∷ [])

abbrev pub slide_roll : ℕ → List ℕ
slide_roll samples = drop (28 - samples / 2 * 14) longest_roll

-- The layer L, traced and slid by the roll, has the table t, a single contour of n vertices, all kept, and reaches the ceiling at T 0.
pub record ReachesCeiling (n : ℕ) (L : Layer) (roll t : List ℕ) : Type 0 where
  -- traced in a table of zeros; no slide is refused, and each has seven bytes
  pub table-after : roll_of L 0 roll (trace_of L (replicate (length t) 0)).table
      ≡ record { refusal = 0; place = 0; done = length roll / 7; table = t }
  -- held, and every vertex kept: questions 1 to 7 and 15
  pub held : first_no (kept_questions L t) ≡ Yes
  pub one_contour : map length (contours_of L) ≡ n ∷ []
  pub counted : (counts_of L (length t)).sticks ≡ n
  pub answer : simplify_of L 0 t ≡ record { refusal = 0; place = 0; removed = 0; tried = contour_ceiling n; table = t }
  -- of one contour the layer's ceiling is the contour's
  pub layer-ceiling : layer_ceiling (stick_count L) (contour_count L) ≡ contour_ceiling n

-- two inside samples on a diagonal
abbrev pub two_samples : Layer
two_samples = layer_of (size_of 4 4) (0 ∷ 2 ∷ 4 ∷ 0 ∷ [])

-- Tables have the horizontal edges first, row by row, then the vertical ones.
pub record CeilingReached : Type 0 where
  pub four : ReachesCeiling 4 (row 1) (slide_roll 1) (
      0 ∷ 0 ∷ 128 ∷ 128 ∷ 0 ∷ 0 ∷
      0 ∷ 128 ∷ 0 ∷ 0 ∷ 128 ∷ 0 ∷ [])
  pub six : ReachesCeiling 6 (row 2) (slide_roll 2) (
      0 ∷ 0 ∷ 0 ∷ 128 ∷ 0 ∷ 128 ∷ 0 ∷ 0 ∷ 0 ∷
      0 ∷ 128 ∷ slid_offset ∷ 0 ∷ 0 ∷ 128 ∷ slid_offset ∷ 0 ∷ [])
  pub eight : ReachesCeiling 8 (row 3) (slide_roll 3) (
      0 ∷ 0 ∷ 0 ∷ 0 ∷ 128 ∷ 0 ∷ 0 ∷ 128 ∷ 0 ∷ 0 ∷ 0 ∷ 0 ∷
      0 ∷ 128 ∷ slid_offset ∷ 128 ∷ 0 ∷ 0 ∷ 128 ∷ slid_offset ∷ 128 ∷ 0 ∷ [])
  pub ten : ReachesCeiling 10 (row 4) (slide_roll 4) (
      0 ∷ 0 ∷ 0 ∷ 0 ∷ 0 ∷ 128 ∷ 0 ∷ 0 ∷ 0 ∷ 128 ∷ 0 ∷ 0 ∷ 0 ∷ 0 ∷ 0 ∷
      0 ∷ 128 ∷ slid_offset ∷ 128 ∷ slid_offset ∷ 0 ∷ 0 ∷ 128 ∷ slid_offset ∷ 128 ∷ slid_offset ∷ 0 ∷ [])
  pub twelve : ReachesCeiling 12 (row 5) (slide_roll 5) (
      0 ∷ 0 ∷ 0 ∷ 0 ∷ 0 ∷ 0 ∷ 128 ∷ 0 ∷ 0 ∷ 0 ∷ 0 ∷ 128 ∷ 0 ∷ 0 ∷ 0 ∷ 0 ∷ 0 ∷ 0 ∷
      0 ∷ 128 ∷ slid_offset ∷ 128 ∷ slid_offset ∷ 128 ∷ 0 ∷ 0 ∷ 128 ∷ slid_offset ∷ 128 ∷ slid_offset ∷ 128 ∷ 0 ∷ [])
  -- the ceiling of a layer with two contours is reached, too
  pub two_contours : map length (contours_of two_samples) ≡ 4 ∷ 4 ∷ []
  pub two_answer : (simplify_of two_samples 0 (trace_of two_samples (replicate 24 0)).table).tried ≡ layer_ceiling (stick_count two_samples) (contour_count two_samples)

-- "A program prints n, a space and the count, a line each." The line of the layer L, traced in the table t that is lent and then slid by a roll: the
-- vertices that Counts answers, and the runs that Simplify tries at T 0
abbrev pub line_after : Layer → List ℕ → List ℕ → Line
line_after L roll t =
    record { vertices = (counts_of L (length t)).sticks; tried = (simplify_of L 0 (roll_of L 0 roll (trace_of L t).table).table).tried }

-- that of a row of so many samples, and the same in numbers
abbrev pub row_line : ℕ → Line
row_line samples = line_after (row samples) (slide_roll samples) (replicate (row_entries samples) 0)

abbrev pub ceiling_line : ℕ → Line
ceiling_line samples = record { vertices = row_vertices samples; tried = contour_ceiling (row_vertices samples) }
