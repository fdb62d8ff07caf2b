-- What the contracts of the asking code say: the places of commands, each of which is the sum of the widths of all that is expected before
-- it, and how far the asking came.
use Rattle.std.specs.Prelude.{◌≡◌, true, ℕ, ◌+◌, ◌≤◌, length, Result, Ok, Err}
use mathlib.Core.List.{List, [], ◌∷◌, ◌++◌, map, flatten}
use Rattle.grid.specs.Layer.{Layer}
use Rattle.grid.specs.Edges.{is_stick}
use Rattle.grid.specs.declared.edge.Edge.{Edge}
use Rattle.grid.specs.declared.refusal.Refused.{Refused}
use Rattle.grid.specs.Questions.{Answer}
use Rattle.sheet.specs.Commands.{end_command}
use Rattle.formed.specs.Expected.{Expected, these, width, expected_contour, expected_sheet, commands_from}

-- how many bytes the expected commands of a list have
abbrev pub widths : List Expected → ℕ
widths [] = 0
widths (x ∷ later) = width x + widths later

-- what is expected for the contours of these first sticks, and the end
abbrev pub expected_from : Layer → List Edge → List Expected
expected_from L fs = flatten (map (expected_contour L) fs) ++ (these end_command ∷ [])

-- what code that asks for the commands of a contour is given: its first stick f, and a place within the sheet
pub record ContourAsked (L : Layer) (s : List ℕ) (f : Edge) (i : ℕ) : Type 0 where
  pub stick : is_stick L f ≡ true
  pub within : i ≤ length s

-- the place that the asking came to: after commands that stand, or that of the first that does not
abbrev pub came_to : Result ℕ Refused → ℕ
came_to (Ok after) = after
came_to (Err wrong) = wrong.place

-- the answer for what is expected later, once the asking came so far
abbrev pub answer_after : List ℕ → List Expected → Result ℕ Refused → Answer
answer_after s later (Ok after) = commands_from s after later
answer_after s later (Err wrong) = Err wrong

-- the expected commands xs, asked for from place i on: all of them stand, and the next is expected at `Ok`; or not all of them do, and `Err`
-- is the no at the first that does not
pub record CommandsAsked (s : List ℕ) (i : ℕ) (xs : List Expected) (came : Result ℕ Refused) : Type 0 where
  pub within : came_to came ≤ length s
  pub says : (later : List Expected) → commands_from s i (xs ++ later) ≡ answer_after s later came

-- the contours of the first sticks fs, which are the last ones of the layer, are expected from place i on
pub record ContoursExpected (L : Layer) (fs : List Edge) (i : ℕ) : Type 0 where
  pub before : List Expected
  pub joined : before ++ expected_from L fs ≡ expected_sheet L
  pub wide : widths before ≡ i
