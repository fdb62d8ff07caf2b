-- Question 7 as the code asks it of a sheet: from a kept vertex on to the next one, along a contour, and over all contours.
use mathlib.Core.Path.{◌≡◌, sym, ap, ◌∙◌}
use mathlib.Core.Bool.{true, false}
use mathlib.Core.List.{List, [], ◌∷◌, ◌++◌, append_assoc}
use Prim.Native.Nat.{ℕ, ◌+◌, ◌*◌, ◌≤◌, ◌<◌}
use native.Mathlib.Omega.{arith}
use borrow.Author.Tests.{eq-eqb, ne_eqb, le-leb, lt-leb}
use lib.ListN.{length, get_or, length-append}
use Rattle.std.specs.Prelude.{Some, None}
use Rattle.grid.specs.Layer.{Layer}
use Rattle.grid.specs.Edges.{is_stick, edge_count}
use Rattle.grid.specs.Questions.{Yes, Sound}
use Rattle.grid.specs.declared.edge.Edge.{Edge}
use Rattle.step.specs.Walk.{next, prev}
use Rattle.contour.specs.Contours.{contour_of, first_sticks}
use Rattle.contour.proofs.Firsts.{here-stick}
use Rattle.table.specs.Vertices.{kept_at, removed_at}
use Rattle.drawn.specs.Drawn.{edge_crosses}
use Rattle.drawn.proofs.GapWalk.{forth, Passed, passed_start, passed-below, passed-turn, passed-last}
use Rattle.held.proofs.Asking.{Done, Counted, counted_start, counted-no, counted-turn, counted-end, Asked, ask-start, ask-next}
use Rattle.formed.specs.Expected.{sheet_answer}
use Rattle.formed.specs.Asked.{ContoursExpected}
use Rattle.formed.proofs.Contours.{expected-start, expected-next, expected-here}
use Rattle.reading.specs.Reading.{described}
use Rattle.reading.specs.Places.{VertexExpected, VertexAfter, VerticesStand, EndsAt, ContourChecked}
use Rattle.reading.specs.declared.holding.Vertex.{Vertex}
use Rattle.reading.proofs.Described.{described-length}
use Rattle.reading.proofs.Vertices.{vertex-stick, vertex-along, removed-is, vertices-stand}

-- On from the kept vertex v over `gap` removed ones: the walk stands at `at`

pub record Seeking (L : Layer) (s : List ℕ) (first v at : Vertex) (gap : ℕ) : Type 0 where
  pub passed : Passed (next L) (prev L) L (described L s) v.stick at.stick gap
  pub expected : VertexExpected L first at

module _ {L : Layer} {s : List ℕ} {first v : Vertex} (stand : VerticesStand L s first) (x : VertexExpected L first v) where
  stick : is_stick L v.stick ≡ true
  stick = vertex-stick stand.sound x

  pub seeking-start : Seeking L s first v v 0
  seeking-start = record { passed = passed_start L (forth L stand.sound) stick; expected = x }

  module _ {at : Vertex} {gap : ℕ} (seek : Seeking L s first v at gap) where
    pub seeking-below : gap < edge_count L.size
    seeking-below = passed-below L (forth L stand.sound) stick seek.passed

    module _ (bytes : (k : ℕ) → get_or s k 0 < 256) {at' : Vertex} (after : VertexAfter L first at at') where
      pub seeking-turn : removed_at L (described L s) v.stick ≡ false → get_or s at'.place 0 ≡ 0x52 → Seeking L s first v at' (gap + 1)
      seeking-turn stays letter =
          record {
            passed =
                passed-turn L (forth L stand.sound) stick seek.passed after.stick stays
                (removed-is stand after.expected bytes ∙ eq-eqb _ _ letter);
            expected = after.expected;
          }

      pub seeking-last : ¬ (get_or s at'.place 0 ≡ 0x52) → EndsAt L s first v (record { vertex = at'; gap = gap })
      seeking-last letter =
          let end =
          passed-last L (forth L stand.sound) stick seek.passed after.stick
          (removed-is stand after.expected bytes ∙ ne_eqb _ _ letter) in
          record { kept = end.kept; gap = end.gap; expected = after.expected }

-- Along a contour: the vertices of `left` are still to come, the first of them at `place`, and `kept` of those before it are kept

pub record CountedAt (L : Layer) (s : List ℕ) (first : Vertex) (left : List Edge) (place kept : ℕ) : Type 0 where
  pub counted : Counted L (described L s) first.stick left kept
  pub before : List Edge
  pub joined : before ++ left ≡ contour_of L first.stick
  pub at : place ≡ first.place + 2 * length before

module _ {L : Layer} {s : List ℕ} {first : Vertex} where
  pub at-start : VerticesStand L s first → {left : List Edge} → left ≡ contour_of L first.stick → CountedAt L s first left first.place 0
  at-start stand e =
      record {
        counted = counted_start (record { sound = stand.sound; exact = described-length L s; stick = stand.start_stick }) e;
        before = [];
        joined = e;
        at = omega arith;
      }

  module _ {left : List Edge} {place kept : ℕ} (here : CountedAt L s first left place kept) where
    module _ (sound : Sound L) {x : Edge} {later : List Edge} (next : left ≡ x ∷ later) where
      joined-next : here.before ++ (x ∷ later) ≡ contour_of L first.stick
      joined-next = ap (λ (l : List Edge). here.before ++ l) (sym next) ∙ here.joined

      -- the vertex that comes next
      pub at-vertex : VertexExpected L first (record { stick = x; place = place })
      at-vertex = vertex-along sound here.counted.lap.first here.before later joined-next here.at

      pub at-no : kept_at L (described L s) x ≡ true → edge_crosses L (described L s) x ≡ false → ContourChecked L s first None
      at-no is-kept missed = record { held = counted-no here.counted sound next is-kept missed; after = tt }

      -- the work on it is done
      pub at_turn : {kept' : ℕ} → Done L (described L s) x kept kept' → CountedAt L s first later (place + 2) kept'
      at_turn done =
          record {
            counted = counted-turn here.counted sound next done;
            before = here.before ++ (x ∷ []);
            joined = append_assoc here.before (x ∷ []) later ∙ joined-next;
            at = omega (arith, here.at, length-append here.before (x ∷ []));
          }

    -- none is left
    module _ (over : left ≡ []) where
      pub at-held : 3 ≤ kept → ContourChecked L s first (Some place)
      at-held enough =
          record {
            held = sym (le-leb 3 kept enough) ∙ counted-end here.counted over;
            after = omega (arith, here.at, ap length here.joined, length-append here.before left, ap length over);
          }

      pub at-few : kept < 3 → ContourChecked L s first None
      at-few few = record { held = sym (lt-leb 3 kept few) ∙ counted-end here.counted over; after = tt }

-- All contours: those of the first sticks `left` are expected from `place` on, and the first of them that is not held is the first of all

pub record AskedFrom (L : Layer) (s : List ℕ) (place : ℕ) (left : List Edge) : Type 0 where
  pub asked : Asked L (described L s) left
  pub expected : ContoursExpected L left place

module _ {L : Layer} {s : List ℕ} {left : List Edge} where
  pub asked-start : left ≡ first_sticks L → AskedFrom L s 5 left
  asked-start e = record { asked = ask-start e; expected = expected-start e }

  module _ {place : ℕ} (here : AskedFrom L s place left) {f : Edge} {later : List Edge} (next : left ≡ f ∷ later) where
    -- the contour that comes next
    pub asked-stand : Sound L → sheet_answer L s ≡ Yes → VerticesStand L s (record { stick = f; place = place + 6 })
    asked-stand sound yes-8 = vertices-stand (expected-here here.expected next) s yes-8 sound (here-stick here.asked.firsts next sound)

    pub asked-next : {end : ℕ} → ContourChecked L s (record { stick = f; place = place + 6 }) (Some end) → AskedFrom L s end later
    asked-next checked =
        record {
          asked = ask-next here.asked next (sym checked.held);
          expected = rw checked.after (expected-next here.expected next);
        }
