-- First sticks and the depths of their contours, in lists: the first of one, and what a loop over them cites.
use mathlib.Core.Path.{◌≡◌, refl, ap, sym, ◌∙◌}
use mathlib.Core.Bool.{true}
use mathlib.Core.List.{List, [], ◌∷◌}
use Prim.Native.Nat.{ℕ, zero, suc}
use native.Mathlib.Omega.{arith}
use Rattle.std.specs.List.{AllPass}
use Rattle.grid.specs.Layer.{Layer}
use Rattle.grid.specs.Edges.{is_stick}
use Rattle.grid.specs.Questions.{Sound}
use Rattle.grid.specs.declared.edge.Edge.{Edge}
use Rattle.contour.specs.Walk.{first}
use Rattle.contour.specs.Contours.{walk_of, first_sticks}
use Rattle.contour.proofs.First.{first_one}
use Rattle.contour.proofs.Firsts.{FirstsLeft, firsts-start, firsts-turn, here-first}
use Rattle.contour.proofs.Sticks.{laws}
use Rattle.winding.specs.Turns.{contours_around, depth}
use Rattle.winding.proofs.Counts.{depth-around}
use Rattle.nesting.specs.Depths.{AllFirst, with_depths}
use Rattle.nesting.specs.declared.nested.Nested.{Nested}

-- Lists of first sticks

each-first : (L : Layer) (left : List Edge) → FirstsLeft L left → AllPass (first (walk_of L)) left
each-first L [] firsts k d h = absurd (omega arith)
each-first L (f ∷ left) firsts zero d h = here-first firsts refl
each-first L (f ∷ left) firsts (suc k) d h = each-first L left (firsts-turn firsts refl) k d (omega arith)

pub all-first : (L : Layer) {left : List Edge} → FirstsLeft L left → AllFirst L left
all-first L {left} firsts = record { each = each-first L left firsts }

module _ {L : Layer} {left left' : List Edge} {f : Edge} (all : AllFirst L left) (next : left ≡ f ∷ left') where
  pub head-first : first (walk_of L) f ≡ true
  head-first = (rw next at all.each) 0 f (omega arith)

  pub head-stick : Sound L → is_stick L f ≡ true
  head-stick sound = first_one (walk_of L) (laws L sound) f head-first

  pub tail-first : AllFirst L left'
  tail-first = record { each = λ k d h. (rw next at all.each) (suc k) d (omega arith) }

  pub head-depth : Sound L → {n : ℕ} → n ≡ contours_around L f.column f.row
      → with_depths L left ≡ record { first = f; depth = n } ∷ with_depths L left'
  head-depth sound counted =
      let deep = depth-around sound f head-first ∙ sym counted in
      ap (with_depths L) next ∙ ap (λ (d : ℕ). record { first = f; depth = d } ∷ with_depths L left') deep

-- What a loop over the contours with their depths cites: those that are left are first sticks with their depths

pub record NestedLeft (L : Layer) (left : List Nested) : Type 0 where
  pub firsts : List Edge
  pub all : AllFirst L firsts
  pub is : left ≡ with_depths L firsts

abbrev pub nested-start : (L : Layer) {left : List Nested} → left ≡ with_depths L (first_sticks L) → NestedLeft L left
nested-start L e = record { firsts = first_sticks L; all = all-first L (firsts-start L refl); is = e }

-- one of them, and those after it
pub record HereNested (L : Layer) (firsts : List Edge) (n : Nested) (left' : List Nested) : Type 0 where
  pub is_first : first (walk_of L) n.first ≡ true
  pub deep : n.depth ≡ depth L n.first
  pub later : NestedLeft L left'
  pub next : firsts ≡ n.first ∷ later.firsts

here-in : {L : Layer} (firsts : List Edge) → AllFirst L firsts → {n : Nested} {left' : List Nested} → with_depths L firsts ≡ n ∷ left' → HereNested L firsts n left'
here-in [] all e = absurd cc
here-in {L} (f ∷ firsts) all {n} {left'} e =
    let same : record { first = f; depth = depth L f } ≡ n = cc in
    let stick : f ≡ n.first = ap (λ (m : Nested). m.first) same in
    let deep : depth L f ≡ n.depth = ap (λ (m : Nested). m.depth) same in
    let rest : with_depths L firsts ≡ left' = cc in
    record {
      is_first = rw (sym stick) (head-first all refl);
      deep = sym deep ∙ ap (depth L) stick;
      later = record { firsts = firsts; all = tail-first all refl; is = sym rest };
      next = ap (λ (g : Edge). g ∷ firsts) stick;
    }

pub nested-here : {L : Layer} {left left' : List Nested} {n : Nested} (nested : NestedLeft L left) → left ≡ n ∷ left' → HereNested L nested.firsts n left'
nested-here nested e = here-in nested.firsts nested.all (sym nested.is ∙ e)

none-in : (L : Layer) (firsts : List Edge) → with_depths L firsts ≡ [] → firsts ≡ []
none-in L [] e = refl
none-in L (f ∷ firsts) e = absurd cc

pub none_left : {L : Layer} {left : List Nested} (nested : NestedLeft L left) → left ≡ [] → nested.firsts ≡ []
none_left {L} nested e = none-in L nested.firsts (sym nested.is ∙ e)
