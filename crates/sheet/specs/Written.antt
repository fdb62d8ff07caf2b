-- A sheet as written: size, contours in order, end; and the call that writes it.
use mathlib.Core.List.{List, [], ◌∷◌, ◌++◌, map, flatten}
use Rattle.std.specs.Prelude.{Result, Ok, Err, ℕ, leb, length}
use Rattle.std.proofs.lemmas.List.Edits.{sets}
use Rattle.grid.specs.Layer.{Layer}
use Rattle.grid.specs.Questions.{Answer, ask, first_no, if_all_yes, number_of}
use Rattle.grid.specs.declared.edge.Edge.{Edge}
use Rattle.grid.specs.declared.refusal.Refusal.TheVariants.{ShortOutput}
use Rattle.grid.specs.declared.refusal.Refused.{Refused}
use Rattle.contour.specs.Contours.{contour_of, first_sticks}
use Rattle.table.specs.Vertices.{entry_at}
use Rattle.held.specs.Questions.{held_questions}
use Rattle.sheet.specs.Commands.{size_command, contour_command, vertex_command, end_command}

-- "for each contour C (hex 43) and its first stick; for each vertex K (hex 4B, kept) or R (hex 52, removed) and its offset byte", or "N (hex 4E)
-- and the offset for a pinned one" (Note 5)
unfoldable pub vertices_of : Layer → List ℕ → List Edge → List ℕ
unfolding flatten
vertices_of L t sticks = flatten (map (λ e. vertex_command (entry_at L t e)) sticks)

abbrev pub contour_vertices : Layer → List ℕ → Edge → List ℕ
contour_vertices L t f = vertices_of L t (contour_of L f)

unfoldable pub contour_bytes : Layer → List ℕ → Edge → List ℕ
unfolding vertices_of
contour_bytes L t f = contour_command f ++ contour_vertices L t f

-- the contours that start at these sticks, one after the other
unfoldable pub contours_bytes : Layer → List ℕ → List Edge → List ℕ
unfolding flatten contour_bytes
contours_bytes L t firsts = flatten (map (contour_bytes L t) firsts)

abbrev pub all_contours : Layer → List ℕ → List ℕ
all_contours L t = contours_bytes L t (first_sticks L)

-- "Sheet: L (hex 4C), W, H ..; for each contour ..; at last E."
unfoldable pub sheet_of : Layer → List ℕ → List ℕ
unfolding contours_bytes
sheet_of L t = size_command L.size ++ (all_contours L t ++ end_command)

-- "14. Does each output hold the whole answer? (0)"
abbrev pub room_answer : Layer → List ℕ → List ℕ → Answer
room_answer L t out = ask ShortOutput (leb (length (sheet_of L t)) (length out))

-- the number of a refusal and its place, both 0 where the call is done; the sheet's length, and the output at exit
pub record Outcome : Type 0 where
  pub refusal : ℕ
  pub place : ℕ
  pub written : ℕ
  pub output : List ℕ

-- Writing the sheet of a layer and its table to an output: "Outputs past the answer's end stay untouched."
unfoldable pub write_of : Layer → List ℕ → List ℕ → Outcome
unfolding sheet_of
write_of L t out =
    if_all_yes (first_no (held_questions L t ++ (room_answer L t out ∷ [])))
    (λ q place. record { refusal = number_of q; place = place; written = 0; output = out })
    (record { refusal = 0; place = 0; written = length (sheet_of L t); output = sets out 0 (sheet_of L t) })

-- the outcome that an answer and the output at exit stand for: "All other figures of a refused call are 0."
abbrev pub outcome : Result ℕ Refused → List ℕ → Outcome
outcome (Ok written) out = record { refusal = 0; place = 0; written = written; output = out }
outcome (Err e) out = record { refusal = number_of e.question; place = e.place; written = 0; output = out }
