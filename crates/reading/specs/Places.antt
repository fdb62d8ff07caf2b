-- Where the vertices of a contour stand, for the contracts of the reading code, and what is stored and answered on the way.
use Rattle.std.specs.Prelude.{◌≡◌, true, ℕ, ◌+◌, ◌*◌, ◌≤◌, ◌<◌, length, get_or, Option, IfSome}
use Rattle.std.specs.Option.{is_some}
use mathlib.Core.List.{List, [], ◌∷◌, foldl}
use Rattle.grid.specs.Layer.{Layer}
use Rattle.grid.specs.Edges.{number, is_stick}
use Rattle.grid.specs.Questions.{Answer, first_no, if_all_yes, number_of, Sound}
use Rattle.grid.specs.declared.edge.Edge.{Edge}
use Rattle.step.specs.Walk.{next}
use Rattle.contour.specs.Walk.{ahead}
use Rattle.contour.specs.Contours.{walk_of, contour_of}
use Rattle.table.specs.Entries.{encoded}
use Rattle.drawn.specs.Neighbours.{gap_after, next_kept}
use Rattle.held.specs.Held.{held_contour, held_answer}
use Rattle.formed.specs.Expected.{vertex_of, is_at, sheet_answer}
use Rattle.reading.specs.Reading.{entry_from, Reading, take_command, described, Outcome}
use Rattle.reading.specs.declared.holding.Vertex.{Vertex}
use Rattle.reading.specs.declared.holding.EdgeEnd.{EdgeEnd}

-- the vertices of a contour are expected from that of its first stick on, and v is among them
pub record VertexExpected (L : Layer) (first v : Vertex) : Type 0 where
  pub start_stick : is_stick L first.stick ≡ true
  pub index : ℕ
  pub within : index < length (contour_of L first.stick)
  pub met : ahead (walk_of L) index first.stick ≡ v.stick
  pub place : v.place ≡ first.place + 2 * index

-- w is the one after v
pub record VertexAfter (L : Layer) (first v w : Vertex) : Type 0 where
  pub stick : w.stick ≡ next L v.stick
  pub expected : VertexExpected L first w

-- the vertices of a contour stand in the sheet from that of its first stick on, and the described table has their entries
pub record VerticesStand (L : Layer) (s : List ℕ) (first : Vertex) : Type 0 where
  pub sound : Sound L
  pub start_stick : is_stick L first.stick ≡ true
  pub room : first.place + 2 * length (contour_of L first.stick) ≤ length s
  pub whole : (v : Vertex) → VertexExpected L first v → is_at s v.place (vertex_of v.stick) ≡ true
  pub entry : (v : Vertex) → VertexExpected L first v
      → get_or (described L s) (number L.size v.stick) 0 ≡ encoded (entry_from s v.place)

-- the end of the drawn edge that starts at the kept vertex v
pub record EndsAt (L : Layer) (s : List ℕ) (first v : Vertex) (end : EdgeEnd) : Type 0 where
  pub kept : end.vertex.stick ≡ next_kept L (described L s) v.stick
  pub gap : end.gap ≡ length (gap_after L (described L s) v.stick)
  pub expected : VertexExpected L first end.vertex

-- whether the contour is held, and if it is the place after its vertices
pub record ContourChecked (L : Layer) (s : List ℕ) (first : Vertex) (end : Option ℕ) : Type 0 where
  pub held : is_some end ≡ held_contour L (described L s) first.stick
  pub after : IfSome end (λ place. place ≡ first.place + 2 * length (contour_of L first.stick))

-- reading partway, at place i with the table t so far
abbrev pub reading_at : ℕ → List ℕ → Reading
reading_at i t = record { at = i; table = t }

-- the entry of stick e stored, as its vertex command gives it
abbrev pub store_vertex : Layer → List ℕ → Reading → Edge → Reading
store_vertex L s r e = take_command L s r (vertex_of e)

-- and the entries of the contour of f, one after the other
abbrev pub store_contour : Layer → List ℕ → Edge → Reading → Reading
store_contour L s f r = foldl (store_vertex L s) r (contour_of L f)

-- questions 8 and 7, the last two of reading a sheet
abbrev pub sheet_questions : Layer → List ℕ → List Answer
sheet_questions L s = sheet_answer L s ∷ held_answer L (described L s) ∷ []

-- the outcome, by the answer to all questions, where the table t is lent; and the outcome where 1 to 5 are answered yes
abbrev pub answered_by : Layer → List ℕ → List ℕ → Answer → Outcome
answered_by L t s answer =
    if_all_yes answer
    (λ q place. record { refusal = number_of q; place = place; table = t })
    (record { refusal = 0; place = 0; table = described L s })

abbrev pub answered : Layer → List ℕ → List ℕ → Outcome
answered L t s = answered_by L t s (first_no (sheet_questions L s))
