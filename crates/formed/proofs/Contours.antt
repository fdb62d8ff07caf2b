-- Where the contours of a sheet are expected: each from where the one before it ends, so that in a well-formed sheet the commands of a contour
-- lie within it. At last the same for the first sticks that a loop has left.
use mathlib.Core.Path.{◌≡◌, refl, sym, ◌∙◌, ap}
use mathlib.Core.Bool.{true}
use mathlib.Core.List.{List, [], ◌∷◌, ◌++◌, map, flatten, append_assoc, map-append}
use Prim.Native.Nat.{ℕ, suc, ◌+◌, ◌*◌, ◌≤◌, ◌<◌}
use native.Mathlib.Omega.{arith}
use lib.ListN.{length, take, drop}
use lib.Seq.{split_at, length-take-le}
use Rattle.grid.specs.Layer.{Layer}
use Rattle.grid.specs.Edges.{is_stick}
use Rattle.grid.specs.Questions.{Yes, Sound}
use Rattle.grid.specs.declared.edge.Edge.{Edge}
use Rattle.contour.specs.Walk.{ahead}
use Rattle.contour.specs.Contours.{walk_of, contour_of, first_sticks}
use Rattle.contour.proofs.Orbit.{contour-at}
use Rattle.contour.proofs.Sticks.{laws}
use Rattle.sheet.specs.Commands.{size_command, contour_command, end_command}
use Rattle.formed.specs.Expected.{Expected, these, vertex_of, expected_contour, expected_sheet, commands_from, sheet_answer}
use Rattle.formed.specs.Asked.{widths, expected_from, ContoursExpected}
use Rattle.formed.proofs.Bytes.{contour-room, vertex-room}
use Rattle.formed.proofs.Commands.{widths-append, widths-vertices, command-yes, commands-after}

-- vertex commands that stand one after the other lie within the sheet
vertices-room : (s : List ℕ) (l : List Edge) (later : List Expected) (i : ℕ) → i ≤ length s
    → commands_from s i (map vertex_of l ++ later) ≡ Yes → i + 2 * length l ≤ length s
vertices-room s [] later i w yes-8 = omega arith
vertices-room s (e ∷ l) later i w yes-8 =
    let c = command-yes s i (vertex_of e) (map vertex_of l ++ later) yes-8 in
    omega (arith, vertices-room s l later (i + 2) (vertex-room s i w c.0) c.1)

-- Where contours begin

pub from_cons : (L : Layer) (f : Edge) (fs : List Edge)
    → expected_from L (f ∷ fs) ≡ these (contour_command f) ∷ (map vertex_of (contour_of L f) ++ expected_from L fs)
unfolding flatten
from_cons L f fs = append_assoc (expected_contour L f) (flatten (map (expected_contour L) fs)) (these end_command ∷ [])

module _ {L : Layer} where
  contours-first : ContoursExpected L (first_sticks L) 5
  contours-first = record { before = these (size_command L.size) ∷ []; joined = refl; wide = refl }

  module _ {f : Edge} {fs : List Edge} {i : ℕ} (b : ContoursExpected L (f ∷ fs) i) where
    contours-later : ContoursExpected L fs (i + 6 + 2 * length (contour_of L f))
    contours-later =
        record {
          before = b.before ++ expected_contour L f;
          joined =
              append_assoc b.before (expected_contour L f) (expected_from L fs)
              ∙ ap (λ (xs : List Expected). b.before ++ xs) (sym (from_cons L f fs)) ∙ b.joined;
          wide = omega (arith, widths-append b.before (expected_contour L f), widths-vertices (contour_of L f), b.wide);
        }

    module _ (s : List ℕ) (yes-8 : sheet_answer L s ≡ Yes) where
      commands-here : commands_from s i (these (contour_command f) ∷ (map vertex_of (contour_of L f) ++ expected_from L fs)) ≡ Yes
      unfolding sheet_answer
      commands-here =
          let z : 0 + widths b.before ≡ i = omega (arith, b.wide) in
          rw (z, from_cons L f fs) at (commands-after s b.before (expected_from L (f ∷ fs)) 0 (rw b.joined yes-8))

      pub contour-within : i + 6 + 2 * length (contour_of L f) ≤ length s
      contour-within =
          let c = command-yes s i (these (contour_command f)) (map vertex_of (contour_of L f) ++ expected_from L fs) commands-here in
          vertices-room s (contour_of L f) (expected_from L fs) (i + 6) (contour-room s i f c.0) c.1

    module _ (sound : Sound L) (stick : is_stick L f ≡ true) where
      -- what is expected before and after vertex j
      pub vertex-split : (j : ℕ) → j < length (contour_of L f)
          → (pre : List Expected) × (post : List Expected) × (pre ++ (vertex_of (ahead (walk_of L) j f) ∷ post) ≡ expected_sheet L)
          × (widths pre ≡ i + 6 + 2 * j)
      vertex-split j l =
          let c = contour_of L f in
          let mid : List Expected = these (contour_command f) ∷ map vertex_of (take j c) in
          let post : List Expected = map vertex_of (drop (suc j) c) ++ expected_from L fs in
          let here = contour-at (walk_of L) (laws L sound) f f j stick l in
          let cut : map vertex_of c ≡ map vertex_of (take j c) ++ (vertex_of (ahead (walk_of L) j f) ∷ map vertex_of (drop (suc j) c)) =
          ap (map vertex_of) (split_at c j f l ∙ ap (λ (e : Edge). take j c ++ (e ∷ drop (suc j) c)) here)
          ∙ map-append vertex_of (take j c) (ahead (walk_of L) j f ∷ drop (suc j) c) in (
            b.before ++ mid,
            post,
            append_assoc b.before mid (vertex_of (ahead (walk_of L) j f) ∷ post)
                ∙ ap (λ (xs : List Expected). b.before ++ (these (contour_command f) ∷ xs))
                (sym (append_assoc (map vertex_of (take j c)) (vertex_of (ahead (walk_of L) j f) ∷ map vertex_of (drop (suc j) c))
                (expected_from L fs))
                ∙ ap (λ (xs : List Expected). xs ++ expected_from L fs) (sym cut))
                ∙ ap (λ (xs : List Expected). b.before ++ xs) (sym (from_cons L f fs)) ∙ b.joined,
            omega (arith, widths-append b.before mid, widths-vertices (take j c), length-take-le j c (omega arith), b.wide),
          )

-- The contours of the first sticks that are left

module _ {L : Layer} {left : List Edge} where
  pub expected-start : left ≡ first_sticks L → ContoursExpected L left 5
  expected-start e = rw e contours-first

  module _ {i : ℕ} (b : ContoursExpected L left i) {f : Edge} {later : List Edge} (next : left ≡ f ∷ later) where
    pub expected-here : ContoursExpected L (f ∷ later) i
    expected-here = rw next at b

    pub expected-next : ContoursExpected L later (i + 6 + 2 * length (contour_of L f))
    expected-next = contours-later expected-here
