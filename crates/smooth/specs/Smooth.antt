-- The rule of Smooth: the step at one vertex, a pass over one contour, passes over it until it is settled or the limit is reached, and so for
-- each contour of the layer in turn.
-- Every definition computes: a test that runs `smooth` says `unfolding smooth`, which opens all of this crate's that it is made of.
use Rattle.std.specs.Prelude.{◌≡◌, Bool, cond, ◌&&◌, eqb, ltb, length}
use Rattle.std.proofs.Math.Bool.{true, false}
use mathlib.Core.List.{List, foldl}
use Prim.Native.Nat.{ℕ, zero, suc, ◌+◌, ◌*◌, max}
use Rattle.grid.specs.Layer.{Layer}
use Rattle.grid.specs.Edges.{edge_count, is_stick}
use Rattle.grid.specs.Questions.{Sound}
use Rattle.grid.specs.declared.edge.Edge.{Edge}
use Rattle.grid.specs.Questions.{Yes}
use Rattle.step.specs.Walk.{next, prev}
use Rattle.contour.specs.Contours.{contour_of, first_sticks}
use Rattle.chord.specs.Crossing.{distance}
use Rattle.table.specs.Entries.{entries_answer}
use Rattle.table.specs.Kept.{all_kept_answer}
use Rattle.table.specs.Vertices.{pinned_at, offset_at}
use Rattle.table.specs.Stores.{slid}
use Rattle.drawn.specs.Drawn.{vertex}
use Rattle.offset.specs.Offset.{new_offset}

-- the new offset of the vertex of a stick, if it is not pinned, in a table whose vertices are all kept, from "its neighbours as they then are"
abbrev pub smoothed_at : Layer → List ℕ → Edge → ℕ
smoothed_at L t e = new_offset (vertex L t (prev L e)) (vertex L t (next L e)) e (offset_at L t e)

-- the result of a pass: the table, and "the sum of the absolute changes"
pub record Pass : Type 0 where
  pub table : List ℕ
  pub total : ℕ

abbrev pub passed : List ℕ → ℕ → Pass
passed t n = record { table = t; total = n }

-- the step at one vertex, to the offset `new`. "Smooth skips pinned vertices: they add 0 to the total" (Note 5)
unfoldable pub step_to : Layer → Pass → Edge → ℕ → Pass
step_to L s e new =
    cond (pinned_at L s.table e) s
    (passed (slid L s.table e new) (s.total + distance (offset_at L s.table e) new))

-- by the rule's new offset
unfoldable pub visit : Layer → Pass → Edge → Pass
unfolding step_to new_offset
visit L s e = step_to L s e (smoothed_at L s.table e)

-- "a pass visits vertices in contour order, each using its neighbours as they then are": over one contour, the list of its sticks in walk order.
-- "no contour's vertex is a neighbour of another's" (Note 3): it reads and changes no other contour's entry (proofs/Locality.antt)
unfoldable pub pass_contour : Layer → Pass → List Edge → Pass
unfolding visit
pass_contour L s contour = foldl (visit L) s contour

-- a pass over the contour from f on, and its own total
abbrev pub contour_pass : Layer → Edge → List ℕ → Pass
contour_pass L f t = pass_contour L (passed t 0) (contour_of L f)

-- "settled after a pass with 1000×total < 256×vertices"
unfoldable pub is_settled : ℕ → ℕ → Bool
is_settled total vertices = ltb (1000 * total) (256 * vertices)

-- where smoothing stands. Of one contour: "passes, last total (0 if none) and settled or limit"; of several see `with_contour`
pub record Smoothed : Type 0 where
  pub table : List ℕ
  pub passes : ℕ
  pub total : ℕ
  pub settled : Bool

-- Passes one after the other, by what a pass does to a table and how many vertices it visits
module _ (one_pass : List ℕ → Pass) (vertices : ℕ) where
  -- one pass more
  unfoldable pub further : Smoothed → Smoothed
  unfolding is_settled
  further s =
      let p : Pass = one_pass s.table in
      record { table = p.table; passes = s.passes + 1; total = p.total; settled = is_settled p.total vertices }

  -- "Otherwise it goes on until the limit": at most n passes more. "settled wins if both hold"
  unfoldable pub until : ℕ → Smoothed → Smoothed
  unfolding further
  until zero s = s
  until (suc n) s = elim s.settled [ true ↦ s | false ↦ until n (further s) ]

  -- from the start: settled "before any pass if there are no vertices". A contour has some; of a layer without any see `no_contour`
  abbrev pub unsmoothed : List ℕ → Smoothed
  unsmoothed t = record { table = t; passes = 0; total = 0; settled = eqb vertices 0 }

  abbrev pub settle : ℕ → List ℕ → Smoothed
  settle limit t = until limit (unsmoothed t)

-- One contour, from f on: "Each contour is now settled by its own total and its own vertices, and a settled contour gets no further pass. The
-- pass limit holds for each." (Note 3) Pinned vertices "count among the vertices" (Note 5).
unfoldable pub smooth_contour : Layer → ℕ → List ℕ → Edge → Smoothed
unfolding pass_contour until
smooth_contour L limit t f = settle (contour_pass L f) (length (contour_of L f)) limit t

-- before the first contour. For "a layer without contours" (Note 3) it is the answer, as in the paper: 0 passes, total 0, settled
abbrev pub no_contour : List ℕ → Smoothed
no_contour t = record { table = t; passes = 0; total = 0; settled = true }

-- s, and then r, one contour more, smoothed from the table of s: "The answer gives the largest number of passes of any contour, the sum of their
-- last totals, and settled if all are." (Note 3)
abbrev pub with_contour : Smoothed → Smoothed → Smoothed
with_contour s r =
    record {
      table = r.table;
      passes = max s.passes r.passes;
      total = s.total + r.total;
      settled = s.settled && r.settled;
    }

-- Contours one after the other, by what smoothing one does to a table
unfoldable pub in_turn : (List ℕ → Edge → Smoothed) → List ℕ → List Edge → Smoothed
in_turn one t order = foldl (λ s f. with_contour s (one s.table f)) (no_contour t) order

-- Smooth, with a pass limit, on a layer and a table that pass its questions, 1 to 7 and 15: "Contours are smoothed whole, in their order" (Note 3),
-- which "must be shown not to matter": proofs/Orders.antt
unfoldable pub smooth : Layer → ℕ → List ℕ → Smoothed
unfolding smooth_contour in_turn
smooth L limit t = in_turn (smooth_contour L limit) t (first_sticks L)

-- as many edges as 1,024 × 1,024 samples have: no layer has more vertices; and no totals have a larger sum, as an offset changes by 254 at most
abbrev pub most_vertices : ℕ
most_vertices = 2095104

abbrev pub most_total : ℕ
most_total = 254 * most_vertices

-- What the code asks of a layer and a table before it smooths: they passed questions 1 to 6, and 15; 7 is then answered yes too, as nothing is
-- removed
pub record Smoothable (L : Layer) (t : List ℕ) : Type 0 where
  pub sound : Sound L
  pub exact : length t ≡ edge_count L.size
  pub entries : entries_answer L t ≡ Yes
  pub all_kept : all_kept_answer L.size t ≡ Yes

-- and before it smooths the contour from f on
pub record SmoothableAt (L : Layer) (t : List ℕ) (f : Edge) : Type 0 where
  pub table : Smoothable L t
  pub stick : is_stick L f ≡ true
