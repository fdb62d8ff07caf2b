-- Note 8, a ceiling on tries: "Planning wants to know the longest simplification." proofs/Ceiling.antt has the theorem that no call of Simplify goes
-- beyond it.
use Rattle.std.specs.Prelude.{◌≡◌, true, List, ℕ, ◌+◌, ◌-◌, ◌*◌, ◌≤◌, length}
use Rattle.arith.specs.Levels.{total}
use Rattle.grid.specs.Layer.{Layer}
use Rattle.grid.specs.declared.edge.Edge.{Edge}
use Rattle.mask.specs.Counts.{stick_count}
use Rattle.contour.specs.Walk.{first}
use Rattle.contour.specs.Contours.{walk_of, contour_of, first_sticks, contour_count}
use Rattle.trace.specs.Counts.{counts_of}
use Rattle.simplify.specs.Runs.{Progress, simplify_contour}
use Rattle.simplify.specs.Parts.{begun}
use Rattle.simplify.specs.Call.{simplify_of}

-- "For a contour of n vertices the runs tried number at most 2×n-2"
abbrev pub contour_ceiling : ℕ → ℕ
contour_ceiling vertices = 2 * vertices - 2

-- "for a layer at most twice the vertices minus twice the contours"
abbrev pub layer_ceiling : ℕ → ℕ → ℕ
layer_ceiling vertices contours = 2 * vertices - 2 * contours

-- what comes of the contour that starts at f, simplified by itself on the table t
abbrev pub alone : Layer → ℕ → List ℕ → Edge → Progress
alone L tolerance t f = simplify_contour L tolerance (begun t) f

-- What holds of a call that is done. A contour has as many vertices as sticks, and so has the layer: question 6 gives each stick a vertex, and 15 says
-- that all are kept.
pub record Ceiling (L : Layer) (tolerance : ℕ) (t : List ℕ) : Type 0 where
  pub of_contour : (f : Edge) → first (walk_of L) f ≡ true → (alone L tolerance t f).tried ≤ contour_ceiling (length (contour_of L f))
  pub of_layer : (simplify_of L tolerance t).tried ≤ layer_ceiling (stick_count L) (contour_count L)
  -- the call's two figures are the sums over the layer's contours, each simplified by itself on the table as lent
  pub tried_by_contour : (simplify_of L tolerance t).tried ≡ total (λ f. (alone L tolerance t f).tried) (first_sticks L)
  pub removed_by_contour : (simplify_of L tolerance t).removed ≡ total (λ f. (alone L tolerance t f).removed) (first_sticks L)
  -- the runs tried fall short of the ceiling by two for each vertex removed; so it is reached where none is removed, and only there
  pub contour_exact : (f : Edge) → first (walk_of L) f ≡ true
      → (alone L tolerance t f).tried + 2 * (alone L tolerance t f).removed + 2 ≡ 2 * length (contour_of L f)
  pub layer_exact : (simplify_of L tolerance t).tried + 2 * (simplify_of L tolerance t).removed + 2 * contour_count L ≡ 2 * stick_count L
  -- Counts, lent the same table, answers the vertices and the contours, and so the ceiling before Simplify is called
  pub sticks_counted : (counts_of L (length t)).sticks ≡ stick_count L
  pub contours_counted : (counts_of L (length t)).contours ≡ contour_count L
