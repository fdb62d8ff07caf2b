-- Where the commands of a sheet stand: each at the sum of the widths of those before it, to the last byte of a well-formed sheet; and each
-- stick's vertex is expected once.
use mathlib.Core.Path.{◌≡◌, refl, sym, ◌∙◌, ap}
use mathlib.Core.Logic.{◌≢◌}
use mathlib.Core.Bool.{true, false}
use mathlib.Core.List.{List, [], ◌∷◌, ◌++◌, map, flatten}
use Prim.Native.Nat.{ℕ, ◌+◌, ◌*◌, ◌<◌}
use native.Mathlib.Omega.{arith}
use borrow.Author.Tests.{eqb-true}
use lib.Dec.{eqb}
use lib.ListN.{length}
use Rattle.arith.specs.Booleans.{as_number}
use Rattle.arith.proofs.Booleans.{both-sides}
use Rattle.grid.specs.Layer.{Layer}
use Rattle.grid.specs.Edges.{number, is_stick}
use Rattle.grid.specs.Questions.{Yes, No, Sound}
use Rattle.grid.specs.declared.edge.Edge.{Edge}
use Rattle.grid.specs.declared.refusal.Refusal.TheVariants.{Malformed}
use Rattle.grid.proofs.Answers.{no-not-yes}
use Rattle.contour.specs.Walk.{occurrences, walked}
use Rattle.contour.specs.Contours.{walk_of, contour_of, first_sticks, same_edge}
use Rattle.contour.proofs.Orbit.{number-inj}
use Rattle.contour.proofs.Members.{occurrences-append}
use Rattle.contour.proofs.Sticks.{laws, same-edge, same_self}
use Rattle.contour.proofs.Theorems.{permutation}
use Rattle.sheet.specs.Commands.{end_command}
use Rattle.formed.specs.Expected.{Expected, these, vertex_of, width, is_at, expected_contour, expected_sheet, commands_from, sheet_answer}
use Rattle.formed.specs.Asked.{widths}

-- Widths

pub widths-append : (xs ys : List Expected) → widths (xs ++ ys) ≡ widths xs + widths ys
widths-append [] ys = omega arith
widths-append (x ∷ xs) ys = omega (arith, widths-append xs ys)

pub widths-vertices : (l : List Edge) → widths (map vertex_of l) ≡ 2 * length l
widths-vertices [] = refl
widths-vertices (e ∷ l) = omega (arith, widths-vertices l)

-- What is asked of one command, and of those after it

module _ (s : List ℕ) where
  pub command-stands : (i : ℕ) (x : Expected) (later : List Expected) → is_at s i x ≡ true
      → commands_from s i (x ∷ later) ≡ commands_from s (i + width x) later
  command-stands i x later e = rw e

  pub command-wrong : (i : ℕ) (x : Expected) (later : List Expected) → is_at s i x ≡ false → commands_from s i (x ∷ later) ≡ No Malformed i
  command-wrong i x later e = rw e

  pub command-yes : (i : ℕ) (x : Expected) (later : List Expected) → commands_from s i (x ∷ later) ≡ Yes
      → (is_at s i x ≡ true) × (commands_from s (i + width x) later ≡ Yes)
  command-yes i x later e = both-sides (is_at s i x)
      (λ y. (y, rw y at e))
      (λ n. absurd (no-not-yes Malformed i (rw n at e)))

  pub commands-after : (xs ys : List Expected) (i : ℕ) → commands_from s i (xs ++ ys) ≡ Yes → commands_from s (i + widths xs) ys ≡ Yes
  commands-after [] ys i e = let z : i + 0 ≡ i = omega arith in rw z e
  commands-after (x ∷ xs) ys i e =
      let z : i + (width x + widths xs) ≡ i + width x + widths xs = omega arith in
      rw z (commands-after xs ys (i + width x) (command-yes i x (xs ++ ys) e).1)

  -- nothing stands after its last command
  pub commands-length : (xs : List Expected) (i : ℕ) → commands_from s i xs ≡ Yes → i + widths xs ≡ length s
  commands-length [] i e = both-sides (eqb i (length s))
      (λ y. let q = eqb-true i (length s) y in omega arith)
      (λ n. absurd (no-not-yes Malformed i (rw n at e)))
  commands-length (x ∷ xs) i e =
      let later = commands-length xs (i + width x) (command-yes i x xs e).1 in omega arith

-- The sticks whose vertices are expected

abbrev pub sticks_in : List Expected → List Edge
sticks_in [] = []
sticks_in (these bytes ∷ later) = sticks_in later
sticks_in (vertex_of e ∷ later) = e ∷ sticks_in later

pub sticks-append : (xs ys : List Expected) → sticks_in (xs ++ ys) ≡ sticks_in xs ++ sticks_in ys
sticks-append [] ys = refl
sticks-append (these bytes ∷ xs) ys = sticks-append xs ys
sticks-append (vertex_of e ∷ xs) ys = ap (λ (l : List Edge). e ∷ l) (sticks-append xs ys)

pub sticks-vertices : (l : List Edge) → sticks_in (map vertex_of l) ≡ l
sticks-vertices [] = refl
sticks-vertices (e ∷ l) = ap (λ (m : List Edge). e ∷ m) (sticks-vertices l)

module _ (L : Layer) where
  sticks-contours : (fs : List Edge) → sticks_in (flatten (map (expected_contour L) fs)) ≡ flatten (map (contour_of L) fs)
  unfolding flatten
  sticks-contours [] = refl
  sticks-contours (f ∷ fs) =
      sticks-append (map vertex_of (contour_of L f)) (flatten (map (expected_contour L) fs))
      ∙ (λ i. sticks-vertices (contour_of L f) i ++ sticks-contours fs i)

  append-none : (l : List Edge) → l ++ [] ≡ l
  append-none [] = refl
  append-none (x ∷ l) = ap (λ (m : List Edge). x ∷ m) (append-none l)

  -- they are the sticks of all contours
  pub sticks-sheet : sticks_in (expected_sheet L) ≡ walked (walk_of L)
  sticks-sheet =
      sticks-append (flatten (map (expected_contour L) (first_sticks L))) (these end_command ∷ [])
      ∙ append-none (sticks_in (flatten (map (expected_contour L) (first_sticks L))))
      ∙ sticks-contours (first_sticks L)

  -- a stick that is expected is expected somewhere
  pub expected-at : (y : Edge) (xs : List Expected) → 0 < occurrences (walk_of L) y (sticks_in xs)
      → (pre : List Expected) × (post : List Expected) × (pre ++ (vertex_of y ∷ post) ≡ xs)
  unfolding occurrences
  expected-at y [] h = absurd (omega arith)
  expected-at y (these bytes ∷ xs) h =
      let p = expected-at y xs h in (these bytes ∷ p.0, p.1, ap (λ (l : List Expected). these bytes ∷ l) p.2)
  expected-at y (vertex_of e ∷ xs) h = both-sides (same_edge y e)
      (λ t. ([], xs, ap (λ (z : Edge). vertex_of z ∷ xs) (same-edge y e t)))
      (λ f. let p = expected-at y xs (omega (arith, ap as_number f)) in
      (vertex_of e ∷ p.0, p.1, ap (λ (l : List Expected). vertex_of e ∷ l) p.2))

  module _ (sound : Sound L) where
    -- each stick is expected once, and nothing else
    pub expected-once : (y : Edge) → occurrences (walk_of L) y (sticks_in (expected_sheet L)) ≡ as_number (is_stick L y)
    expected-once y = ap (occurrences (walk_of L) y) sticks-sheet ∙ permutation L sound y

    pub expected-stick : (y : Edge) → 0 < occurrences (walk_of L) y (sticks_in (expected_sheet L)) → is_stick L y ≡ true
    expected-stick y h = both-sides (is_stick L y) (λ t. t) (λ f. absurd (omega (arith, expected-once y, ap as_number f)))

    module _ (y : Edge) (pre post : List Expected) (joined : pre ++ (vertex_of y ∷ post) ≡ expected_sheet L) where
      parts : (d : Edge) → occurrences (walk_of L) d (sticks_in pre) + (as_number (same_edge d y) + occurrences (walk_of L) d (sticks_in post))
          ≡ occurrences (walk_of L) d (sticks_in (expected_sheet L))
      unfolding occurrences
      parts d =
          sym (occurrences-append (walk_of L) d (sticks_in pre) (y ∷ sticks_in post))
          ∙ ap (occurrences (walk_of L) d) (sym (sticks-append pre (vertex_of y ∷ post)) ∙ ap sticks_in joined)

      pub here-stick : is_stick L y ≡ true
      here-stick = expected-stick y (omega (arith, parts y, ap as_number (same_self y)))

      -- no later command has its stick
      pub later-other : (d : Edge) → 0 < occurrences (walk_of L) d (sticks_in post) → number L.size y ≢ number L.size d
      later-other d o e =
          let d-stick = expected-stick d (omega (arith, parts d)) in
          let same : y ≡ d = number-inj (walk_of L) (laws L sound) y d here-stick d-stick e in
          let again : 0 < occurrences (walk_of L) y (sticks_in post) = rw same o in
          omega (arith, parts y, ap as_number (same_self y), expected-once y, ap as_number here-stick)

      pub stands_here : (s : List ℕ) → sheet_answer L s ≡ Yes → is_at s (widths pre) (vertex_of y) ≡ true
      unfolding sheet_answer
      stands_here s yes-8 =
          let z : 0 + widths pre ≡ widths pre = omega arith in
          rw z at (command-yes s (0 + widths pre) (vertex_of y) post (commands-after s pre (vertex_of y ∷ post) 0 (rw joined yes-8))).0
