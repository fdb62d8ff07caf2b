-- One step of a walk along a contour: the stick where it stands comes, and what is left is that of the next, or nothing once that is the first.
use Rattle.std.specs.Prelude.{Option, Some, None}
use mathlib.Core.Path.{◌≡◌, refl, sym, ap, subst, ◌∙◌}
use mathlib.Core.Bool.{true, false}
use mathlib.Core.List.{List, [], ◌∷◌}
use native.Mathlib.Omega.{arith}
use borrow.Author.Rules.{rules}
use lib.ListN.{length}
use Rattle.std.specs.Iterator.{MakesProgress, item_count}
use Rattle.arith.proofs.Booleans.{both-sides}
use Rattle.grid.specs.Layer.{Layer}
use Rattle.grid.specs.Edges.{is_stick}
use Rattle.grid.specs.Questions.{Sound}
use Rattle.grid.specs.declared.edge.Edge.{Edge}
use Rattle.step.specs.Walk.{next}
use Rattle.contour.specs.Walk.{OnContour, rest}
use Rattle.contour.specs.Contours.{walk_of, contour_of, same_edge, AtOn}
use Rattle.contour.specs.Remaining.{left_from}
use Rattle.contour.proofs.Loop.{Due, start, due-one, due-next, rest_more, rest-last}
use Rattle.contour.proofs.Sticks.{laws}

-- an iterator that gives the first of a list makes progress: one less is left
pub gives-one : {S A : Type 0} (rest : S → List A) {s t : S} {x : A} → rest s ≡ x ∷ rest t
    → MakesProgress (λ _. Unit {0}) (item_count rest) s (Some x) t
gives-one rest e = record { on = λ f. (tt, search rules, omega (arith, ap length e)); keeps = tt; rests = λ _. tt }

module _ {L : Layer} (sound : Sound L) (f : Edge) (first : is_stick L f ≡ true) where
  pub lap-start : AtOn L f (Some f)
  lap-start e s = let same : f ≡ e = cc in subst (OnContour (walk_of L) f) same (start (walk_of L) (laws L sound) f first).on

  pub lap-over : {at : Option Edge} → at ≡ None → AtOn L f at
  lap-over {at} n e s = let both : ◌≡◌ {A = Option Edge} None (Some e) = sym n ∙ s in absurd cc

  module _ {at : Option Edge} {e : Edge} (on : AtOn L f at) (here : at ≡ Some e) where
    due : Due (walk_of L) f e
    due = record { start_one = first; on = on e here }

    pub lap-stick : is_stick L e ≡ true
    lap-stick = due-one (walk_of L) (laws L sound) f e due

    module _ {e' : Edge} (step : e' ≡ next L e) {at' : Option Edge} where
      pub lap-on : at' ≡ Some e' → AtOn L f at'
      lap-on n x s =
          let same : e' ≡ x = let both : Some e' ≡ Some x = sym n ∙ s in cc in
          subst (OnContour (walk_of L) f) same (due-next (walk_of L) (laws L sound) f e e' due step).on

      pub lap-more : same_edge e' f ≡ false → at' ≡ Some e' → left_from L f at ≡ e ∷ left_from L f at'
      lap-more s n = rw (here, n) (rest_more (walk_of L) (laws L sound) f e e' due step s)

      pub lap-last : same_edge e' f ≡ true → at' ≡ None → left_from L f at ≡ e ∷ left_from L f at'
      lap-last s n = rw (here, n) (rest-last (walk_of L) (laws L sound) f e e' due step s)

-- What a loop over the sticks of a contour cites: the sticks that are left of the contour of f, of which the first is due

pub record OnLap (L : Layer) (f : Edge) (left : List Edge) : Type 0 where
  pub first : is_stick L f ≡ true
  pub at : Option Edge
  pub on : AtOn L f at
  pub is : left ≡ left_from L f at

pub on_lap : {L : Layer} → Sound L → {f : Edge} → is_stick L f ≡ true → {left : List Edge} → left ≡ contour_of L f → OnLap L f left
on_lap sound {f} h e = record { first = h; at = Some f; on = lap-start sound f h; is = e }

-- one stick of it: it is due, and what comes after it is left
record Turned (L : Layer) (f e : Edge) (left' : List Edge) : Type 0 where
  pub due : Due (walk_of L) f e
  pub later : OnLap L f left'

module _ {L : Layer} (sound : Sound L) {f : Edge} where
  turned : is_stick L f ≡ true → (at : Option Edge) → AtOn L f at → {e : Edge} {left' : List Edge} → left_from L f at ≡ e ∷ left' → Turned L f e left'
  turned first None on e = absurd cc
  turned first (Some x) on {e} {left'} is =
      let due : Due (walk_of L) f x = record { start_one = first; on = on x refl } in
      both-sides (same_edge (next L x) f)
      (λ s.
      let one = sym (rest-last (walk_of L) (laws L sound) f x (next L x) due refl s) ∙ is in
      let same : x ≡ e = cc in
      let none : [] ≡ left' = cc in
      record {
        due = subst (Due (walk_of L) f) same due;
        later = record { first = first; at = None; on = lap-over sound f first refl; is = sym none };
      })
      (λ s.
      let more = sym (rest_more (walk_of L) (laws L sound) f x (next L x) due refl s) ∙ is in
      let same : x ≡ e = cc in
      let later : rest (walk_of L) (next L x) f ≡ left' = cc in
      record {
        due = subst (Due (walk_of L) f) same due;
        later = record { first = first; at = Some (next L x); on = lap-on sound f first on refl refl refl; is = sym later };
      })

  module _ {left left' : List Edge} {e : Edge} (lap : OnLap L f left) (next : left ≡ e ∷ left') where
    turn-of : Turned L f e left'
    turn-of = turned lap.first lap.at lap.on (sym lap.is ∙ next)

    pub lap-due : Due (walk_of L) f e
    lap-due = turn-of.due

    pub due-stick : is_stick L e ≡ true
    due-stick = due-one (walk_of L) (laws L sound) f e turn-of.due

    pub lap-turn : OnLap L f left'
    lap-turn = turn-of.later
