-- "pending runs, of which never more than 22 wait at once": how many runs wait while a layer is simplified. A run waits from when it is cut until it
-- is taken to be tried: each of the two runs of a contour, and each part of a run that is split. The numbers stand in the order in which runs
-- are tried, one for each: how many wait before it is taken, itself included. On a sound layer none is above 22 (proofs/Waiting.antt: `few-wait`).
use Rattle.std.specs.Prelude.{true, false, List, [], ◌∷◌, ◌++◌, ℕ, zero, suc, ◌-◌, length}
use Rattle.grid.specs.Layer.{Layer}
use Rattle.grid.specs.declared.edge.Edge.{Edge}
use Rattle.contour.specs.Contours.{contour_of, first_sticks}
use Rattle.run.specs.Runs.{stick_after, passes}
use Rattle.simplify.specs.Runs.{Progress, half, one_tried, try_run, simplify_contour}
use Rattle.simplify.specs.Parts.{begun}

module _ (L : Layer) (tolerance : ℕ) where
  -- the numbers while `try_run` tries the run of n edges from e, and `others` wait besides: "A run that does not pass is split .. and each part
  -- is tried." While the first part is tried the second one waits.
  unfoldable pub waits_of_run : ℕ → Progress → Edge → ℕ → ℕ → List ℕ
  waits_of_run zero s e n others = []
  waits_of_run (suc depth) s e n others = suc others ∷ elim (passes L s.table tolerance e n) [
    | true ↦ []
    | false ↦ waits_of_run depth (one_tried s) e (half n) (suc others)
        ++ waits_of_run depth (try_run L tolerance depth (one_tried s) e (half n)) (stick_after L (half n) e) (n - half n) others
  ]

  -- the numbers while `simplify_contour` cuts the contour from f on into two runs and tries them, from the table t on
  unfoldable pub waits_of : List ℕ → Edge → List ℕ
  waits_of t f =
      let n : ℕ = length (contour_of L f) in
      waits_of_run n (begun t) f (half n) 1
      ++ waits_of_run n (try_run L tolerance n (begun t) f (half n)) (stick_after L (half n) f) (n - half n) 0

  -- the numbers while contours are simplified one after the other
  unfoldable pub waits_in_turn : List ℕ → List Edge → List ℕ
  waits_in_turn t [] = []
  waits_in_turn t (f ∷ l) = waits_of t f ++ waits_in_turn (simplify_contour L tolerance (begun t) f).table l

  -- the numbers while `simplify` goes over a layer
  abbrev pub waits : List ℕ → List ℕ
  waits t = waits_in_turn t (first_sticks L)
