-- The length of a sheet: "Its length is 6 + 6×contours + 2×vertices."
use mathlib.Core.Path.{◌≡◌, refl}
use mathlib.Core.Bool.{true, false≢true}
use mathlib.Core.List.{List, [], ◌∷◌, map, flatten}
use Prim.Native.Nat.{ℕ, ◌+◌, ◌*◌}
use native.Mathlib.Omega.{arith}
use lib.ListN.{length, length-append}
use Rattle.grid.specs.Layer.{Layer}
use Rattle.mask.specs.Counts.{stick_count}
use Rattle.grid.specs.Questions.{Sound, Yes, first_no}
use Rattle.grid.specs.declared.edge.Edge.{Edge}
use Rattle.contour.specs.Walk.{contour}
use Rattle.contour.specs.Contours.{walk_of, contour_of, first_sticks, contour_count}
use Rattle.contour.proofs.Theorems.{total-length, AllSticks, head-stick, tail-sticks, contour-sticks, firsts-sticks}
use Rattle.table.specs.Entries.{suits, entries_answer}
use Rattle.table.specs.Vertices.{entry_at}
use Rattle.table.specs.declared.entry.Entry.{Entry}
use Rattle.table.specs.declared.entry.Entry.TheVariants.{Nothing, Kept, Removed, Pinned, Wrong}
use Rattle.table.proofs.Suits.{entry-suits}
use Rattle.held.specs.Questions.{held_questions}
use Rattle.held.proofs.Asking.{accepted-of}
use Rattle.sheet.specs.Commands.{vertex_command, end_command}
use Rattle.sheet.specs.Written.{vertices_of, contour_bytes, contours_bytes, all_contours, sheet_of}

-- the command of a vertex has two bytes
two_bytes_lem : (entry : Entry) → suits true entry ≡ true → length (vertex_command entry) ≡ 2
two_bytes_lem Nothing h = absurd (false≢true h)
two_bytes_lem (Kept o) h = refl
two_bytes_lem (Removed o) h = refl
two_bytes_lem (Pinned o) h = refl
two_bytes_lem Wrong h = absurd (false≢true h)

-- a sheet is the five bytes of its size command, the contours, and the byte E
pub sheet-parts : (L : Layer) (t : List ℕ) → length (sheet_of L t) ≡ 5 + length (all_contours L t) + 1
unfolding sheet_of
sheet-parts L t = omega (arith, length-append (all_contours L t) end_command)

module _ (L : Layer) (sound : Sound L) where
  module _ (t : List ℕ) (yes : entries_answer L t ≡ Yes) where
    vertices-length : (l : List Edge) → AllSticks L l → length (vertices_of L t l) ≡ 2 * length l
    unfolding vertices_of
    vertices-length [] h = refl
    vertices-length (x ∷ l) h =
        omega (
          arith,
          length-append (vertex_command (entry_at L t x)) (vertices_of L t l),
          two_bytes_lem (entry_at L t x) (entry-suits L sound t yes x (head-stick sound x l h)),
          vertices-length l (tail-sticks sound x l h),
        )

    contours-length : (fs : List Edge) → AllSticks L fs
        → length (contours_bytes L t fs) ≡ 6 * length (map (contour (walk_of L)) fs) + 2 * length (flatten (map (contour (walk_of L)) fs))
    unfolding contours_bytes
    contours-length [] h = refl
    contours-length (f ∷ fs) h =
        omega (
          arith,
          length-append (contour_bytes L t f) (contours_bytes L t fs),
          vertices-length (contour_of L f) (contour-sticks sound f (head-stick sound f fs h)),
          length-append (contour_of L f) (flatten (map (contour (walk_of L)) fs)),
          contours-length fs (tail-sticks sound f fs h),
        )

    pub sheet-length : length (sheet_of L t) ≡ 6 + 6 * contour_count L + 2 * stick_count L
    sheet-length =
        omega (
          arith,
          sheet-parts L t,
          contours-length (first_sticks L) (firsts-sticks sound),
          total-length L sound,
        )

-- of a layer that passes questions 1 to 7
pub held-length : (L : Layer) (t : List ℕ) → first_no (held_questions L t) ≡ Yes
    → length (sheet_of L t) ≡ 6 + 6 * contour_count L + 2 * stick_count L
held-length L t asked = let all = accepted-of L t asked in sheet-length L all.sound t all.entries
