-- How large the numbers of smoothing can be, so that the code's sums and products fit.
use mathlib.Core.Path.{◌≡◌}
use mathlib.Core.Bool.{true}
use mathlib.Core.List.{List}
use Prim.Native.Nat.{ℕ, ◌≤◌}
use native.Mathlib.Omega.{arith}
use lib.ListN.{length}
use Rattle.arith.proofs.Ranges.{count-le}
use Rattle.grid.specs.Layer.{Layer}
use Rattle.grid.specs.Edges.{edge_count, stick_at, is_stick}
use Rattle.grid.specs.Questions.{Sound}
use Rattle.grid.specs.declared.edge.Edge.{Edge}
use Rattle.grid.proofs.Numbers.{edges-small}
use Rattle.contour.specs.Walk.{walked}
use Rattle.contour.specs.Contours.{walk_of, contour_of}
use Rattle.contour.proofs.Orbit.{round}
use Rattle.contour.proofs.Sticks.{laws}
use Rattle.contour.proofs.Theorems.{total-length}
use Rattle.table.proofs.AllKept.{AllKept}
use Rattle.smooth.specs.Smooth.{contour_pass, most_vertices, most_total}
use Rattle.smooth.proofs.Passes.{contour_pass-total}

module _ {L : Layer} (sound : Sound L) where
  -- all contours together
  pub vertices-most : length (walked (walk_of L)) ≤ most_vertices
  vertices-most =
      omega (arith, total-length L sound, count-le (stick_at L) (edge_count L.size), edges-small L.size sound.whole.sized)

  -- one contour, and a pass over it
  module _ (f : Edge) (stick : is_stick L f ≡ true) where
    pub contour-most : length (contour_of L f) ≤ most_vertices
    contour-most = omega (arith, (round (walk_of L) (laws L sound) f stick).within, edges-small L.size sound.whole.sized)

    pub pass-most : {t : List ℕ} → AllKept L t → (contour_pass L f t).total ≤ most_total
    pass-most kept = omega (arith, contour_pass-total sound f stick kept, contour-most)
