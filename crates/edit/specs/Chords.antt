-- What the contracts of the code cite besides: a drawn edge as the code holds it, and its chord against the sticks that it passes.
use Rattle.std.specs.Prelude.{◌≡◌, Bool, true, not, ◌&&◌, List, [], ◌∷◌, ℕ, leb, length, get_or}
use Rattle.arith.specs.Lists.{each}
use Rattle.grid.specs.Layer.{Layer}
use Rattle.grid.specs.Edges.{in_grid, number, edge_count}
use Rattle.grid.specs.Questions.{first_no, if_all_yes, Sized, Answer}
use Rattle.grid.specs.declared.layer.Size.{Size}
use Rattle.grid.specs.declared.edge.Edge.{Edge}
use Rattle.grid.specs.declared.refusal.Refusal.TheVariants.{NoCrossing, BeyondTolerance}
use Rattle.step.specs.Walk.{following}
use Rattle.contour.specs.Contours.{same_edge}
use Rattle.chord.specs.Points.{Position}
use Rattle.chord.specs.Crossing.{slides_within}
use Rattle.chord.specs.Runs.{crosses_run, ChordAt}
use Rattle.table.specs.Entries.{entry_of}
use Rattle.table.specs.Vertices.{is_kept, is_pinned, offset_at}
use Rattle.table.specs.Stores.{slid, without}
use Rattle.drawn.specs.Neighbours.{gap_after, next_kept, previous_kept}
use Rattle.drawn.specs.Drawn.{vertex, Ends, drawn_from, Drawn}
use Rattle.held.specs.Questions.{Accepted}
use Rattle.edit.specs.Edits.{Named, ask_at, edge_named, carries_kept, good_offset}
use Rattle.edit.specs.declared.redraw.Chord.{Chord}

-- the vertex of u would slide at most T to the chord from p to q, from its stored offset; and the vertices of the n sticks that follow e on its
-- contour
abbrev pub slides_at : Layer → List ℕ → ℕ → Position → Position → Edge → Bool
slides_at L t tolerance p q u = slides_within tolerance p q u (offset_at L t u)

unfoldable pub within_run : Layer → List ℕ → ℕ → Position → Position → Edge → ℕ → Bool
within_run L t tolerance p q e n = each (slides_at L t tolerance p q) (following L n e)

-- the drawn edge that starts at the kept vertex of e: its ends, and how many removed sticks it passes after e
abbrev pub chord_of : Layer → List ℕ → Edge → Chord
chord_of L t e =
    let d : Ends = drawn_from L t e in
    record { from = vertex L t d.from; to = vertex L t d.to; stick = d.from; gap = length (gap_after L t d.from) }

-- the edges that an edit redraws, as they are after it: the two at the vertex of e once it is slid, and the one that joins its neighbours
-- once it is removed
abbrev pub slid_into : Layer → List ℕ → Edge → ℕ → Chord
slid_into L t e o = chord_of L (slid L t e o) (previous_kept L t e)

abbrev pub slid_out : Layer → List ℕ → Edge → ℕ → Chord
slid_out L t e o = chord_of L (slid L t e o) e

abbrev pub joined_over : Layer → List ℕ → Edge → Chord
joined_over L t e = chord_of L (without L t e) (previous_kept L t e)

-- questions 11 and 12 of a chord
abbrev pub crosses_chord : Layer → Chord → Bool
crosses_chord L c = crosses_run L c.from c.to c.stick c.gap

abbrev pub within_chord : Layer → List ℕ → ℕ → Chord → Bool
within_chord L t tolerance c = within_run L t tolerance c.from c.to c.stick c.gap

-- and of both edges that a slide redraws
abbrev pub chords_answer : Layer → List ℕ → ℕ → ℕ → Chord → Chord → Answer
chords_answer L t tolerance place a b =
    first_no (
    ask_at place NoCrossing (crosses_chord L a && crosses_chord L b)
    ∷ ask_at place BeyondTolerance (within_chord L t tolerance a && within_chord L t tolerance b)
    ∷ []
    )

-- question 9 of a table alone: carries_kept (Edits.antt) asks no bitmap
abbrev pub names_kept : Size → List ℕ → Named → Bool
names_kept size t s = leb s.kind 1 && in_grid size (edge_named s) && is_kept (entry_of (get_or t (number size (edge_named s)) 0))

-- and what question 16 asks: the vertex is pinned
abbrev pub names_pinned : Size → List ℕ → Named → Bool
names_pinned size t s = is_pinned (entry_of (get_or t (number size (edge_named s)) 0))

-- question 13 by a walk of two gaps: the kept vertex after e and the one after that are not the kept one before e
abbrev pub third_left : Layer → List ℕ → Edge → Edge → Bool
third_left L t e before = not (same_edge (next_kept L t e) before) && not (same_edge (next_kept L t (next_kept L t e)) before)

-- the table t, and after a yes the table t'
abbrev pub stored_if : Answer → List ℕ → List ℕ → List ℕ
stored_if answer t t' = if_all_yes answer (λ q place. t) t'

-- What the functions of this crate are given

-- a chord on a sound layer
abbrev pub ChordOn : Layer → Chord → Type 0
ChordOn L c = ChordAt L c.from c.to c.stick

-- it, or the two of a slide, with a table of the layer's length
pub record Measurable (L : Layer) (t : List ℕ) (c : Chord) : Type 0 where
  pub exact : length t ≡ edge_count L.size
  pub laid : ChordOn L c

pub record BothMeasurable (L : Layer) (t : List ℕ) (a b : Chord) : Type 0 where
  pub exact : length t ≡ edge_count L.size
  pub first : ChordOn L a
  pub second : ChordOn L b

-- a kept vertex of a layer that passes questions 1 to 7, and an offset to slide it to
pub record Editable (L : Layer) (t : List ℕ) (e : Edge) : Type 0 where
  pub accepted : Accepted L t
  pub drawn : Drawn L t e

pub record Slidable (L : Layer) (t : List ℕ) (e : Edge) (o : ℕ) : Type 0 where
  pub at : Editable L t e
  pub offset : good_offset o ≡ true

-- such a layer, and a stick that is answered yes by question 9
pub record NamedKept (L : Layer) (t : List ℕ) (s : Named) : Type 0 where
  pub accepted : Accepted L t
  pub kept : carries_kept L t s ≡ true

-- what question 9 reads: a table of the grid's length
pub record Exact (size : Size) (t : List ℕ) : Type 0 where
  pub sized : Sized size
  pub exact : length t ≡ edge_count size
