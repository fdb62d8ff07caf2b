-- The entries stored along one contour, and contour after contour.
use mathlib.Core.Path.{◌≡◌, sym, ◌∙◌, ap}
use mathlib.Core.List.{List, [], ◌∷◌, map, flatten, foldl, foldl-append, foldl-map}
use Prim.Native.Nat.{ℕ, ◌+◌, ◌*◌, ◌≤◌}
use native.Mathlib.Omega.{arith}
use lib.ListN.{length}
use Rattle.arith.proofs.Ranges.{length-tabulate_from}
use Rattle.grid.specs.Layer.{Layer}
use Rattle.grid.specs.Edges.{edge_count}
use Rattle.grid.specs.Questions.{Yes, Sound}
use Rattle.grid.specs.declared.edge.Edge.{Edge}
use Rattle.contour.specs.Contours.{contour_of, first_sticks}
use Rattle.contour.proofs.Laps.{OnLap, on_lap, due-stick, lap-turn}
use Rattle.contour.proofs.Firsts.{FirstsLeft, firsts-start, firsts-turn, fold-turn}
use Rattle.table.specs.Stores.{store}
use Rattle.table.specs.Lent.{LentAt}
use Rattle.table.specs.declared.entry.Entry.{Entry}
use Rattle.table.proofs.Stores.{store_length}
use Rattle.formed.specs.Expected.{vertex_of, sheet_answer}
use Rattle.formed.specs.Asked.{expected_from, ContoursExpected}
use Rattle.formed.proofs.Commands.{widths-vertices}
use Rattle.formed.proofs.Contours.{from_cons, contour-within, expected-start, expected-next, expected-here}
use Rattle.reading.specs.Reading.{entry_from, Reading, take_command, no_entries, described}
use Rattle.reading.specs.Places.{reading_at, store_vertex, store_contour}
use Rattle.reading.proofs.Described.{taken_at, taken-length}

-- Along the contour of f, from place i and table t₀ on: the vertices of `left` are still to come, the first of them at `place`, and the table is t

pub record Storing (L : Layer) (s : List ℕ) (f : Edge) (i : ℕ) (t₀ : List ℕ) (left : List Edge) (place : ℕ) (t : List ℕ) : Type 0 where
  pub lap : OnLap L f left
  pub exact : length t ≡ edge_count L.size
  pub room : place + 2 * length left ≤ length s
  pub still : foldl (store_vertex L s) (reading_at place t) left ≡ store_contour L s f (reading_at i t₀)

module _ {L : Layer} {s : List ℕ} {f : Edge} {i : ℕ} {t₀ : List ℕ} {left : List Edge} where
  pub storing-start : LentAt L t₀ f → i + 2 * length (contour_of L f) ≤ length s → left ≡ contour_of L f → Storing L s f i t₀ left i t₀
  storing-start given room e =
      record {
        lap = on_lap given.sound given.stick e;
        exact = given.exact;
        room = omega (arith, room, ap length e);
        still = ap (foldl (store_vertex L s) (reading_at i t₀)) e;
      }

  module _ {place : ℕ} {t : List ℕ} (st : Storing L s f i t₀ left place t) where
    module _ {x : Edge} {later : List Edge} (next : left ≡ x ∷ later) where
      module _ (sound : Sound L) where
        -- what is given of the stick that comes next
        pub storing-here : LentAt L t x
        storing-here = record { sound = sound; exact = st.exact; stick = due-stick sound st.lap next }

        -- its entry is stored
        pub storing-turn : {entry : Entry} → entry ≡ entry_from s place → {t' : List ℕ} → t' ≡ store L.size t x entry
            → Storing L s f i t₀ later (place + 2) t'
        storing-turn {entry} told {t'} put =
            let stored : reading_at (place + 2) t' ≡ store_vertex L s (reading_at place t) x =
            ap (reading_at (place + 2)) (put ∙ ap (store L.size t x) told) in
            record {
              lap = lap-turn sound st.lap next;
              exact = ap length put ∙ store_length L t x entry ∙ st.exact;
              room = omega (arith, st.room, ap length next);
              still =
                  ap (λ (r : Reading). foldl (store_vertex L s) r later) stored
                  ∙ fold-turn (store_vertex L s) (reading_at place t) _ next st.still;
            }

-- All contours: taking the commands for those of the first sticks `left`, expected at `place`, into the table t, gives the described table

pub record Filling (L : Layer) (s : List ℕ) (place : ℕ) (t : List ℕ) (left : List Edge) : Type 0 where
  pub firsts : FirstsLeft L left
  pub expected : ContoursExpected L left place
  pub exact : length t ≡ edge_count L.size
  pub still : (foldl (take_command L s) (reading_at place t) (expected_from L left)).table ≡ described L s

-- storing the vertices of a contour is taking their commands
stored-taken : (L : Layer) (s : List ℕ) (f : Edge) (r : Reading)
    → foldl (take_command L s) r (map vertex_of (contour_of L f)) ≡ store_contour L s f r
stored-taken L s f r = foldl-map vertex_of (take_command L s) (contour_of L f) r

pub none-exact : (L : Layer) {t : List ℕ} → t ≡ no_entries L → length t ≡ edge_count L.size
none-exact L none = ap length none ∙ length-tabulate_from (λ k. 0) 0 (edge_count L.size)

module _ {L : Layer} {s : List ℕ} {left : List Edge} where
  pub filling-start : {t : List ℕ} → t ≡ no_entries L → left ≡ first_sticks L → Filling L s 5 t left
  unfolding described
  filling-start none e =
      record { firsts = firsts-start L e; expected = expected-start e; exact = none-exact L none; still = rw (e, none) }

  module _ {place : ℕ} {t : List ℕ} (fill : Filling L s place t left) where
    module _ {f : Edge} {later : List Edge} (next : left ≡ f ∷ later) where
      pub filling-room : sheet_answer L s ≡ Yes → place + 6 + 2 * length (contour_of L f) ≤ length s
      filling-room yes-8 = contour-within (expected-here fill.expected next) s yes-8

      pub filling-turn : {place' : ℕ} {t' : List ℕ} → reading_at place' t' ≡ store_contour L s f (reading_at (place + 6) t)
          → Filling L s place' t' later
      filling-turn {place'} {t'} done =
          let vertices = map vertex_of (contour_of L f) in
          let r = reading_at (place + 6) t in
          let taken : reading_at place' t' ≡ foldl (take_command L s) r vertices = done ∙ sym (stored-taken L s f r) in
          let at : place' ≡ place + 6 + 2 * length (contour_of L f) =
          ap (λ (r : Reading). r.at) taken ∙ taken_at L s vertices r ∙ ap (λ (n : ℕ). place + 6 + n) (widths-vertices (contour_of L f)) in
          record {
            firsts = firsts-turn fill.firsts next;
            expected = rw at (expected-next fill.expected next);
            exact = ap (λ (r : Reading). length r.table) taken ∙ taken-length L s vertices r ∙ fill.exact;
            still =
                ap (λ (r : Reading). r.table)
                (ap (λ (r : Reading). foldl (take_command L s) r (expected_from L later)) taken
                ∙ sym (foldl-append (take_command L s) r vertices (expected_from L later))
                ∙ ap (foldl (take_command L s) (reading_at place t)) (sym (from_cons L f later)))
                ∙ ap (λ (l : List Edge). (foldl (take_command L s) (reading_at place t) (expected_from L l)).table) (sym next)
                ∙ fill.still;
          }

    pub filling-end : left ≡ [] → t ≡ described L s
    unfolding flatten
    filling-end over =
        sym (ap (λ (fs : List Edge). (foldl (take_command L s) (reading_at place t) (expected_from L fs)).table) over) ∙ fill.still
