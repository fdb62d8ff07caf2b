-- Question 8 as the code asks it: along the vertices of one contour, and over all contours.
use mathlib.Core.Path.{◌≡◌, sym, ◌∙◌, ap}
use mathlib.Core.List.{List, [], ◌∷◌, ◌++◌, map, flatten}
use Prim.Native.Nat.{ℕ, ◌≤◌}
use lib.ListN.{length}
use Rattle.std.specs.Prelude.{Result, Ok, Err}
use Rattle.grid.specs.Layer.{Layer}
use Rattle.grid.specs.declared.edge.Edge.{Edge}
use Rattle.grid.specs.declared.refusal.Refused.{Refused}
use Rattle.contour.specs.Contours.{contour_of, first_sticks}
use Rattle.contour.proofs.Firsts.{FirstsLeft, firsts-turn}
use Rattle.sheet.specs.Commands.{end_command}
use Rattle.formed.specs.Expected.{Expected, these, vertex_of, expected_contour, commands_from}
use Rattle.formed.specs.Asked.{expected_from, answer_after, CommandsAsked}
use Rattle.formed.proofs.Contours.{from_cons}

-- Along the vertices of the contour of f, from place i on: those of `left` are still to come, the first of them expected at `place`

pub record Walking (L : Layer) (s : List ℕ) (f : Edge) (i : ℕ) (left : List Edge) (place : ℕ) : Type 0 where
  pub within : place ≤ length s
  pub still : (later : List Expected)
      → commands_from s i (map vertex_of (contour_of L f) ++ later) ≡ commands_from s place (map vertex_of left ++ later)

-- All contours: the answer for those of the first sticks `left`, expected at `place`, is that for all

pub record SheetAsked (L : Layer) (s : List ℕ) (place : ℕ) (left : List Edge) : Type 0 where
  pub firsts : FirstsLeft L left
  pub within : place ≤ length s
  pub still : commands_from s place (expected_from L left) ≡ commands_from s 5 (expected_from L (first_sticks L))

module _ {L : Layer} {s : List ℕ} {left : List Edge} {place : ℕ} (here : SheetAsked L s place left) where
  module _ {f : Edge} {later : List Edge} (next : left ≡ f ∷ later) {came : Result ℕ Refused}
      (asked : CommandsAsked s place (expected_contour L f) came) where
    -- the contour that comes next, and those after it
    first-asked : answer_after s (expected_from L later) came ≡ commands_from s 5 (expected_from L (first_sticks L))
    first-asked =
        sym (asked.says (expected_from L later))
        ∙ ap (commands_from s place) (sym (from_cons L f later))
        ∙ ap (λ (l : List Edge). commands_from s place (expected_from L l)) (sym next)
        ∙ here.still

    pub sheet-no : {wrong : Refused} → came ≡ Err wrong → Err wrong ≡ commands_from s 5 (expected_from L (first_sticks L))
    sheet-no bad = rw bad at first-asked

    pub sheet-next : {after : ℕ} → came ≡ Ok after → SheetAsked L s after later
    sheet-next good =
        record { firsts = firsts-turn here.firsts next; within = rw good at asked.within; still = rw good at first-asked }

  pub sheet-end : left ≡ [] → commands_from s place (these end_command ∷ []) ≡ commands_from s 5 (expected_from L (first_sticks L))
  unfolding flatten
  sheet-end over = sym (ap (λ (fs : List Edge). commands_from s place (expected_from L fs)) over) ∙ here.still
