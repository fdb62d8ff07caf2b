-- What the loops that write contours rest on: one along a contour, vertex by vertex, and one over all contours.
use mathlib.Core.Path.{◌≡◌}
use mathlib.Core.List.{List, [], ◌∷◌, ◌++◌}
use Prim.Native.Nat.{ℕ, ◌+◌, ◌≤◌}
use lib.ListN.{length}
use Rattle.grid.specs.Layer.{Layer}
use Rattle.grid.specs.Questions.{Sound}
use Rattle.grid.specs.declared.edge.Edge.{Edge}
use Rattle.contour.specs.Contours.{contour_of}
use Rattle.contour.proofs.Laps.{OnLap, on_lap, due-stick, lap-turn}
use Rattle.contour.proofs.Firsts.{FirstsLeft, firsts-turn}
use Rattle.table.specs.Vertices.{entry_at}
use Rattle.table.specs.Lent.{LentAt}
use Rattle.table.specs.declared.entry.Entry.{Entry}
use Rattle.sheet.specs.Commands.{vertex_command}
use Rattle.sheet.specs.Written.{vertices_of, contour_vertices, contour_bytes, contours_bytes, all_contours}
use Rattle.sheet.specs.Stored.{Stored}
use Rattle.sheet.proofs.Stored.{PartStored, part-start, part_room, part-turn, part_end}

-- The vertices of the contour of f are being stored in s₀ from i₀ on. Those of `left` are still to come, the first of them at i; what was
-- stored so far gave s.
pub record AtVertex (L : Layer) (t : List ℕ) (f : Edge) (s₀ : List ℕ) (i₀ : ℕ) (s : List ℕ) (i : ℕ) (left : List Edge) : Type 0 where
  pub lap : OnLap L f left
  pub stored : PartStored s₀ i₀ (contour_vertices L t f) s i (vertices_of L t left)

module _ {L : Layer} {t : List ℕ} {f : Edge} {s₀ : List ℕ} {i₀ : ℕ} where
  pub vertices-start : LentAt L t f → {left : List Edge} → left ≡ contour_of L f → AtVertex L t f s₀ i₀ s₀ i₀ left
  vertices-start given e = record { lap = on_lap given.sound given.stick e; stored = rw e part-start }

  module _ {s : List ℕ} {i : ℕ} {left : List Edge} (here : AtVertex L t f s₀ i₀ s i left) where
    module _ {x : Edge} {later : List Edge} (next : left ≡ x ∷ later) where
      -- what is given of the stick that comes next
      pub vertex-lent : LentAt L t f → LentAt L t x
      vertex-lent given = record { sound = given.sound; exact = given.exact; stick = due-stick given.sound here.lap next }

      next-vertex : PartStored s₀ i₀ (contour_vertices L t f) s i (vertex_command (entry_at L t x) ++ vertices_of L t later)
      unfolding vertices_of
      next-vertex = rw next at here.stored

      module _ {entry : Entry} (told : entry ≡ entry_at L t x) where
        -- there is room for its command,
        pub vertex-room : i₀ + length (contour_vertices L t f) ≤ length s₀ → i + length (vertex_command entry) ≤ length s
        vertex-room h = rw told (part_room (vertex_command (entry_at L t x)) _ next-vertex h)

        -- which is stored
        pub vertices-turn : Sound L → {s' : List ℕ} {i' : ℕ} → Stored s i (vertex_command entry) s' i' → AtVertex L t f s₀ i₀ s' i' later
        vertices-turn sound put =
            record {
              lap = lap-turn sound here.lap next;
              stored = part-turn (vertex_command (entry_at L t x)) (vertices_of L t later) next-vertex (rw told at put);
            }

    pub vertices-end : left ≡ [] → Stored s₀ i₀ (contour_vertices L t f) s i
    unfolding vertices_of
    vertices-end over = part_end (rw over at here.stored)

-- The contours are being stored in s₀ from i₀ on. Those of the first sticks `left` are still to come, the first of them at i; what was stored
-- so far gave s.
pub record AtContour (L : Layer) (t s₀ : List ℕ) (i₀ : ℕ) (s : List ℕ) (i : ℕ) (left : List Edge) : Type 0 where
  pub firsts : FirstsLeft L left
  pub stored : PartStored s₀ i₀ (all_contours L t) s i (contours_bytes L t left)

module _ {L : Layer} {t s₀ : List ℕ} {i₀ : ℕ} {s : List ℕ} {i : ℕ} {left : List Edge} (here : AtContour L t s₀ i₀ s i left) where
  module _ {f : Edge} {later : List Edge} (next : left ≡ f ∷ later) where
    next-contour : PartStored s₀ i₀ (all_contours L t) s i (contour_bytes L t f ++ contours_bytes L t later)
    unfolding contours_bytes
    next-contour = rw next at here.stored

    -- there is room for the contour that comes next,
    pub contour-room : i₀ + length (all_contours L t) ≤ length s₀ → i + length (contour_bytes L t f) ≤ length s
    contour-room h = part_room (contour_bytes L t f) (contours_bytes L t later) next-contour h

    -- which is stored
    pub contours-turn : {s' : List ℕ} {i' : ℕ} → Stored s i (contour_bytes L t f) s' i' → AtContour L t s₀ i₀ s' i' later
    contours-turn put =
        record {
          firsts = firsts-turn here.firsts next;
          stored = part-turn (contour_bytes L t f) (contours_bytes L t later) next-contour put;
        }

  pub contours-end : left ≡ [] → Stored s₀ i₀ (all_contours L t) s i
  unfolding contours_bytes
  contours-end over = part_end (rw over at here.stored)
