-- The call that measures: what it answers and leaves in its outputs.
use Rattle.std.specs.Prelude.{Result, Ok, Err, Bool, ◌&&◌, List, [], ◌∷◌, ◌++◌, ℕ, leb, ℤ, pos, length}
use Rattle.std.proofs.lemmas.List.Edits.{sets}
use Rattle.grid.specs.Layer.{Layer}
use Rattle.grid.specs.Questions.{Answer, ask, first_no, if_all_yes, number_of}
use Rattle.grid.specs.declared.refusal.Refusal.TheVariants.{ShortOutput}
use Rattle.grid.specs.declared.refusal.Refused.{Refused}
use Rattle.contour.specs.Contours.{contour_count}
use Rattle.held.specs.Questions.{held_questions}
use Rattle.shoelace.specs.Sums.{sums_of, total_of, drawn_count}
use Rattle.area.specs.Areas.{areas_of}
use Rattle.area.specs.declared.measure.Measures.{Measures}

-- the number of a refusal and its place, both 0 where the call is done; how many contours and drawn edges were measured and what they add up to; and
-- the two outputs at exit
pub record Outcome : Type 0 where
  pub refusal : ℕ
  pub place : ℕ
  pub contours : ℕ
  pub edges : ℕ
  pub total : ℤ
  pub areas : List ℤ
  pub sums : List ℤ

-- what an answer and the outputs at exit say: "All other figures of a refused call are 0."
abbrev pub outcome : Result Measures Refused → List ℤ → List ℤ → Outcome
outcome (Ok m) areas sums =
    record { refusal = 0; place = 0; contours = m.contours; edges = m.edges; total = m.total; areas = areas; sums = sums }
outcome (Err e) areas sums =
    record { refusal = number_of e.question; place = e.place; contours = 0; edges = 0; total = pos 0; areas = areas; sums = sums }

-- "14. Does each output hold the whole answer? (0)": a number for each contour, and one for each drawn edge
abbrev pub has_room : Layer → List ℕ → List ℤ → List ℤ → Bool
has_room L t areas sums = leb (contour_count L) (length areas) && leb (drawn_count L t) (length sums)

abbrev pub room_answer : Layer → List ℕ → List ℤ → List ℤ → Answer
room_answer L t areas sums = ask ShortOutput (has_room L t areas sums)

-- what a call that is done gives
abbrev pub measures_of : Layer → List ℕ → Measures
measures_of L t = record { contours = contour_count L; edges = drawn_count L t; total = total_of L t }

-- "These figures belong to held layers only, so questions 1 to 7 stand before them"; then 14. "A refusal leaves all buffers as found .. Outputs
-- past the answer's end stay untouched."
unfoldable pub measure_of : Layer → List ℕ → List ℤ → List ℤ → Outcome
measure_of L t areas sums =
    if_all_yes (first_no (held_questions L t ++ (room_answer L t areas sums ∷ [])))
    (λ q place. outcome (Err (record { question = q; place = place })) areas sums)
    (outcome (Ok (measures_of L t)) (sets areas 0 (areas_of L t)) (sets sums 0 (sums_of L t)))
