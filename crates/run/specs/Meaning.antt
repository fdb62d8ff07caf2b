-- When a run passes, said over points as the paper and Note 5 say it. `passes` of Runs.antt, which computes, is this (proofs/Meaning.antt).
use Rattle.std.specs.Prelude.{◌≡◌, false, List, ℕ, ◌<◌}
use Rattle.grid.specs.Layer.{Layer}
use Rattle.grid.specs.declared.edge.Edge.{Edge}
use Rattle.contour.specs.Walk.{occurrences}
use Rattle.contour.specs.Contours.{walk_of}
use Rattle.chord.specs.Points.{Position, CrossesWithin}
use Rattle.table.specs.Vertices.{pinned_at, offset_at}
use Rattle.drawn.specs.Drawn.{vertex}
use Rattle.run.specs.Runs.{stick_after, between}

-- u is one of the sticks between the ends of the run of n edges from e
abbrev pub BetweenSticks : Layer → Edge → ℕ → Edge → Type 0
BetweenSticks L e n u = 0 < occurrences (walk_of L) u (between L e n)

-- at one of them: the chord from p to q crosses it, its vertex would slide at most T, and is not pinned
pub record PassedOver (L : Layer) (t : List ℕ) (tolerance : ℕ) (p q : Position) (u : Edge) : Type 0 where
  pub within : CrossesWithin tolerance p q u (offset_at L t u)
  pub unpinned : pinned_at L t u ≡ false

-- "A run passes if it is a single edge, or if its chord crosses each stick between and each vertex there would slide at most T (in 1/256,
-- compared exactly).": a single edge has no stick between. "Simplify lets no run pass that has one strictly inside", a pinned vertex (Note 5).
abbrev pub RunPasses : Layer → List ℕ → ℕ → Edge → ℕ → Type 0
RunPasses L t tolerance e n =
    (u : Edge) → BetweenSticks L e n u → PassedOver L t tolerance (vertex L t e) (vertex L t (stick_after L n e)) u
