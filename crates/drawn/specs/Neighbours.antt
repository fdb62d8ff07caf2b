-- The kept vertices before and after a stick on its contour, and the removed ones between.
use Rattle.std.specs.Prelude.{◌≡◌, true, false, List, [], ◌∷◌, ℕ, zero, suc, length}
use Rattle.grid.specs.Layer.{Layer}
use Rattle.grid.specs.Edges.{edge_count, is_stick}
use Rattle.grid.specs.declared.edge.Edge.{Edge}
use Rattle.step.specs.Walk.{next, prev}
use Rattle.table.specs.Vertices.{removed_at}
use Rattle.drawn.specs.declared.walk.EdgeEnd.{EdgeEnd}

-- "A drawn edge joins two kept vertices with only removed ones between." From e by `step`, at most n times: the removed sticks up to the
-- first that is not removed, and that one, which is kept where the table passes question 6 and the contour has a kept vertex.
unfoldable pub removed_from : (Edge → Edge) → Layer → List ℕ → ℕ → Edge → List Edge
removed_from step L t zero e = []
removed_from step L t (suc n) e =
    elim (removed_at L t (step e)) [ true ↦ step e ∷ removed_from step L t n (step e) | false ↦ [] ]

unfoldable pub kept_from : (Edge → Edge) → Layer → List ℕ → ℕ → Edge → Edge
kept_from step L t zero e = step e
kept_from step L t (suc n) e = elim (removed_at L t (step e)) [ true ↦ kept_from step L t n (step e) | false ↦ step e ]

-- the removed sticks between a stick and the next kept one, and that one; the same going back
abbrev pub gap_after : Layer → List ℕ → Edge → List Edge
gap_after L t e = removed_from (next L) L t (edge_count L.size) e

abbrev pub next_kept : Layer → List ℕ → Edge → Edge
next_kept L t e = kept_from (next L) L t (edge_count L.size) e

abbrev pub gap_before : Layer → List ℕ → Edge → List Edge
gap_before L t e = removed_from (prev L) L t (edge_count L.size) e

abbrev pub previous_kept : Layer → List ℕ → Edge → Edge
previous_kept L t e = kept_from (prev L) L t (edge_count L.size) e

-- the same by either step of a layer
abbrev pub gap_by : (Layer → Edge → Edge) → Layer → List ℕ → Edge → List Edge
gap_by step L t e = removed_from (step L) L t (edge_count L.size) e

abbrev pub kept_by : (Layer → Edge → Edge) → Layer → List ℕ → Edge → Edge
kept_by step L t e = kept_from (step L) L t (edge_count L.size) e

-- what the walk to a kept neighbour gives: the stick of it, which is one, and how many sticks the gap has
pub record NeighbourFound (L : Layer) (neighbour : Edge) (between : List Edge) (end : EdgeEnd) : Type 0 where
  pub kept : end.stick ≡ neighbour
  pub gap : end.gap ≡ length between
  pub stick : is_stick L end.stick ≡ true
