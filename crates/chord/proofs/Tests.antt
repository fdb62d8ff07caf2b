-- The test of a chord against the sticks of a run, as a loop begins it; and what it may assume of the sticks of a sound layer.
use mathlib.Core.Path.{◌≡◌, ap}
use mathlib.Core.Bool.{true}
use native.Mathlib.Omega.{arith}
use Prim.Native.Nat.{ℕ}
use Rattle.arith.specs.Lists.{each}
use Rattle.grid.specs.Layer.{Layer}
use Rattle.grid.specs.Edges.{is_stick}
use Rattle.grid.specs.Questions.{Sound}
use Rattle.grid.specs.declared.edge.Edge.{Edge}
use Rattle.chord.specs.Points.{Position}
use Rattle.chord.specs.Crossing.{crosses}
use Rattle.chord.specs.Runs.{crosses_run, NearEdge}
use Rattle.step.specs.Walk.{following}
use Rattle.step.proofs.Walks.{stick-sample}
use Rattle.step.proofs.Following.{TestsLeft}

-- a stick of a layer is an edge of the largest layer
pub stick-near : (L : Layer) → Sound L → (e : Edge) → is_stick L e ≡ true → NearEdge e
stick-near L sound e h =
    let sized = sound.whole.sized in
    let inside = stick-sample L sound e.vertical e.column e.row h in
    record { column_below = omega (arith, sized); row_below = omega (arith, sized) }

-- the test of a chord against the n sticks that follow e, before the first of them
pub run-start : (L : Layer) (p q : Position) (e : Edge) {n left : ℕ} → is_stick L e ≡ true → left ≡ n
    → TestsLeft L (crosses p q) (crosses_run L p q e n) e left
unfolding crosses_run
run-start L p q e stick all = record { stick = stick; same = ap (λ (m : ℕ). each (crosses p q) (following L m e)) all }
