-- A gap as a run of sticks: the test of a run is that of the removed sticks between the ends of a drawn edge. Edges of the grid are near enough
-- for the products of a test to fit.
use mathlib.Core.Path.{◌≡◌, refl, ap}
use mathlib.Core.Bool.{true}
use mathlib.Core.List.{List, ◌∷◌}
use Prim.Native.Nat.{ℕ, zero, suc, ◌+◌}
use native.Mathlib.Omega.{arith}
use lib.ListN.{length}
use Rattle.arith.proofs.Booleans.{both-sides}
use Rattle.arith.specs.Lists.{each}
use Rattle.grid.specs.Layer.{Layer}
use Rattle.grid.specs.Edges.{in_grid, edge_count}
use Rattle.grid.specs.Questions.{Sized}
use Rattle.grid.specs.declared.layer.Size.{Size}
use Rattle.grid.specs.declared.edge.Edge.{Edge}
use Rattle.grid.proofs.Numbers.{within, columns-narrow, rows-small}
use Rattle.step.specs.Walk.{next, following}
use Rattle.chord.specs.Points.{Position}
use Rattle.chord.specs.Crossing.{crosses}
use Rattle.chord.specs.Runs.{crosses_run, NearEdge}
use Rattle.table.specs.Vertices.{removed_at}
use Rattle.drawn.specs.Neighbours.{removed_from, gap_after}
use Rattle.drawn.proofs.Gaps.{gap-over, gap_here}

pub in-grid-near : (size : Size) → Sized size → (e : Edge) → in_grid size e ≡ true → NearEdge e
in-grid-near size sized e h =
    let w = within size e h in
    record {
      column_below = omega (arith, w.column_below, columns-narrow size sized e.vertical);
      row_below = omega (arith, w.row_below, (rows-small size sized e.vertical (e.row + 1) (omega (arith, w.row_below))).0);
    }

-- A gap is as many sticks as it has, one after the other

following-gap : (L : Layer) (t : List ℕ) (n : ℕ) (e : Edge)
    → let gap = removed_from (next L) L t n e in
    gap ≡ following L (length gap) e
unfolding removed_from
following-gap L t zero e = refl
following-gap L t (suc n) e =
    both-sides (removed_at L t (next L e))
    (λ r. rw (gap-over (next L) L t n e r) (ap (λ (l : List Edge). next L e ∷ l) (following-gap L t n (next L e))))
    (λ r. rw (gap_here (next L) L t (suc n) e r))

pub gap-following : (L : Layer) (t : List ℕ) (e : Edge) → gap_after L t e ≡ following L (length (gap_after L t e)) e
gap-following L t e = following-gap L t (edge_count L.size) e

-- so to test its sticks is to test so many
pub gap-run : (L : Layer) (t : List ℕ) (p q : Position) (e : Edge)
    → each (crosses p q) (gap_after L t e) ≡ crosses_run L p q e (length (gap_after L t e))
unfolding crosses_run
gap-run L t p q e = ap (each (crosses p q)) (gap-following L t e)
