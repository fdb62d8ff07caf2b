-- Marks along a contour: how they are put one after the other, and that the stick at a place is as many steps on from the mark before it
-- as the place is beyond.
use Rattle.std.specs.Prelude.{Some, slice_get}
use Rattle.std.proofs.lemmas.Option.{slice_get_within, get_or_from_slice_get}
use mathlib.Core.Path.{◌≡◌, refl, sym, ◌∙◌, ap}
use mathlib.Core.Bool.{true}
use mathlib.Core.List.{List}
use Prim.Native.Nat.{ℕ, ◌+◌, ◌*◌, ◌/◌, ◌%◌, ◌<◌}
use native.Mathlib.Decide.{ℕ_discrete}
use native.Mathlib.Omega.{arith}
use lib.ListN.{length, get_or, set, length-set}
use lib.Seq.{get_or-set_same, get_or-set_other}
use Rattle.grid.specs.Layer.{Layer}
use Rattle.grid.specs.Edges.{number, edge_at, is_stick}
use Rattle.grid.specs.declared.edge.Edge.{Edge}
use Rattle.grid.proofs.Numbers.{edges-small}
use Rattle.contour.specs.Contours.{walk_of}
use Rattle.contour.proofs.Orbit.{ahead-one}
use Rattle.contour.proofs.Sticks.{laws}
use Rattle.run.specs.Runs.{stick_after, HasSticks}
use Rattle.run.specs.Marks.{mark_places, Along}
use Rattle.run.proofs.Steps.{no_steps, steps_on, steps-from, stick-on, most-sticks}

-- the first k marks are put, of the contour of n sticks from f on, and `at` is where the next one belongs
pub record MarksPut (L : Layer) (f : Edge) (n : ℕ) (marks : List ℕ) (at : Edge) (k : ℕ) : Type 0 where
  pub sized : length marks ≡ mark_places
  pub says : (j : ℕ) → j < k → get_or marks j 0 ≡ number L.size (stick_after L (j * 64) f)
  pub here : at ≡ stick_after L (k * 64) f

pub put-none : (L : Layer) (f : Edge) (n : ℕ) (marks : List ℕ) → length marks ≡ mark_places → MarksPut L f n marks f 0
put-none L f n marks sized = record { sized = sized; says = λ j h. absurd (omega arith); here = no_steps L f }

module _ {L : Layer} {f : Edge} {n : ℕ} (contour : HasSticks L f n) {marks : List ℕ} {at : Edge} {k : ℕ} (put : MarksPut L f n marks at k) where
  pub put-stick : is_stick L at ≡ true
  put-stick = stick-on L f (k * 64) contour.sound contour.stick put.here

  pub put-number : number L.size at < 2095104
  put-number =
      omega (arith, (laws L contour.sound).number_less at put-stick, edges-small L.size contour.sound.whole.sized)

  -- while the contour is not yet all walked there is room for one more
  pub put-room : k * 64 < n → k < mark_places
  put-room more = omega (arith, most-sticks contour)

  pub put_one : {v : ℕ} {at' : Edge} → k * 64 < n → v ≡ number L.size at → at' ≡ stick_after L 64 at
      → MarksPut L f n (set marks k v) at' (k + 1)
  put_one {v} {at'} more is on =
      let room = put-room more in
      let sum : k * 64 + 64 ≡ (k + 1) * 64 = omega arith in
      record {
        sized = length-set marks k v ∙ put.sized;
        says = λ j h. elim (ℕ_discrete j k) [
          | yes e ↦ rw (e, get_or-set_same marks k v 0 (omega (arith, put.sized))) (is ∙ ap (number L.size) put.here)
          | no d ↦ get_or-set_other marks k j v 0 d ∙ put.says j (omega arith)
        ];
        here = steps_on L f (k * 64) 64 put.here on ∙ ap (λ (m : ℕ). stick_after L m f) sum;
      }

-- From a mark

-- so many steps on from a stick is where h steps on from e is
pub record LeadsOn (L : Layer) (e : Edge) (h : ℕ) (near : Edge) (steps : ℕ) : Type 0 where
  pub stick : is_stick L near ≡ true
  pub same : stick_after L steps near ≡ stick_after L h e

module _ {L : Layer} {marks : List ℕ} {e : Edge} {p h : ℕ} (along : Along L marks e p h) where
  -- the sum of the steps is small
  pub along-small : p + h < 2095104
  along-small = omega (arith, along.inside, most-sticks (record { sound = along.sound; stick = along.stick; all = refl }))

  -- from e itself
  pub leads-here : LeadsOn L e h e h
  leads-here = record { stick = stick-on L along.from p along.sound along.stick along.here; same = refl }

  -- from the mark before the place
  module _ {near : Edge} {mark : ℕ} (found : slice_get marks ((p + h) / 64) ≡ Some mark) (is : near ≡ edge_at L.size mark) where
    near-mark : near ≡ stick_after L ((p + h) / 64 * 64) along.from
    near-mark =
        let inside = along.inside in
        let room = slice_get_within marks ((p + h) / 64) mark found in
        is
        ∙ ap (edge_at L.size) (sym (get_or_from_slice_get marks ((p + h) / 64) mark 0 found) ∙ along.marked ((p + h) / 64) room (omega arith))
        ∙ (laws L along.sound).at_number _
        (ahead-one (walk_of L) (laws L along.sound) ((p + h) / 64 * 64) along.from along.stick)

    pub leads-mark : LeadsOn L e h near ((p + h) % 64)
    leads-mark =
        let sum : (p + h) / 64 * 64 + (p + h) % 64 ≡ p + h = omega arith in
        record {
          stick = stick-on L along.from ((p + h) / 64 * 64) along.sound along.stick near-mark;
          same =
              steps-from L along.from p h along.here
              (steps_on L along.from ((p + h) / 64 * 64) ((p + h) % 64) near-mark refl
              ∙ ap (λ (m : ℕ). stick_after L m along.from) sum);
        }
