-- What the loop that measures all contours rests on: their numbers are stored one after the other.
use mathlib.Core.Path.{◌≡◌, ap}
use mathlib.Core.List.{List, ◌∷◌, map}
use Prim.Native.Nat.{ℕ, ◌+◌}
use native.Mathlib.Numerals.{add-one}
use native.Mathlib.Omega.{arith}
use lib.IntN.{ℤ}
use lib.ListN.{length, set}
use lib.Seq.{sets}
use Rattle.grid.specs.Layer.{Layer}
use Rattle.grid.specs.declared.edge.Edge.{Edge}
use Rattle.contour.specs.Contours.{first_sticks}
use Rattle.contour.proofs.Firsts.{FirstsLeft, firsts-turn, here-stick}
use Rattle.held.specs.Questions.{Accepted}
use Rattle.shoelace.specs.Adds.{HeldStick}
use Rattle.area.specs.Areas.{twice_area, areas_of}

-- the numbers of some contours
abbrev areas_along : Layer → List ℕ → List Edge → List ℤ
areas_along L t l = map (twice_area L t) l

-- The numbers of the contours are being stored in `found`, which is now `buffer`. Those of the contours that are left come next, from `place` on.
pub record PartMeasured (L : Layer) (t : List ℕ) (found buffer : List ℤ) (place : ℕ) (left : List Edge) : Type 0 where
  pub firsts : FirstsLeft L left
  pub stored : sets buffer place (areas_along L t left) ≡ sets found 0 (areas_of L t)
  pub counted : place + length left ≡ length (first_sticks L)

module _ {L : Layer} {t : List ℕ} {found : List ℤ} {left : List Edge} where
  module _ {buffer : List ℤ} {place : ℕ} (part : PartMeasured L t found buffer place left) where
    module _ {f : Edge} {left' : List Edge} (next : left ≡ f ∷ left') where
      pub measured-held : Accepted L t → HeldStick L t f
      measured-held accepted = record { accepted = accepted; stick = here-stick part.firsts next accepted.sound }

      -- `number` is the number as it is stored
      pub measured-turn : {number : ℤ} {at place' : ℕ} → at ≡ place → place' ≡ place + 1 → number ≡ twice_area L t f
          → PartMeasured L t found (set buffer at number) place' left'
      measured-turn {number} {at} {place'} at_is place_is number_is =
          record {
            firsts = firsts-turn part.firsts next;
            stored = rw (at_is, place_is, add-one place, number_is) (rw next at part.stored);
            counted = omega (arith, place_is, part.counted, ap (λ (l : List Edge). length l) next);
          }
