-- What is done with the runs of a contour: one that passes loses its inner vertices, one that does not is split and its parts are tried.
use Rattle.std.proofs.Math.Bool.{true, false}
use mathlib.Core.List.{List, foldl}
use Prim.Native.Nat.{ℕ, zero, suc, ◌+◌, ◌-◌, ◌/◌}
use Rattle.std.proofs.Math.ListN.{length}
use Rattle.grid.specs.Layer.{Layer}
use Rattle.grid.specs.declared.edge.Edge.{Edge}
use Rattle.contour.specs.Contours.{contour_of, first_sticks}
use Rattle.table.specs.Stores.{without}
use Rattle.run.specs.Runs.{stick_after, between, passes}

-- the result of simplifying so far: the table, "the vertices removed and the runs tried"
pub record Progress : Type 0 where
  pub table : List ℕ
  pub removed : ℕ
  pub tried : ℕ

-- "Inner vertices of a passing run are removed."
unfoldable pub remove_inner : Layer → Progress → Edge → ℕ → Progress
remove_inner L s e n =
    record {
      table = foldl (without L) s.table (between L e n);
      removed = s.removed + (n - 1);
      tried = s.tried;
    }

-- "its first part having half its edges rounded down"
abbrev pub half : ℕ → ℕ
half n = n / 2

-- one run more is tried, "single edges included"
abbrev pub one_tried : Progress → Progress
one_tried s = record { table = s.table; removed = s.removed; tried = s.tried + 1 }

module _ (L : Layer) (tolerance : ℕ) where
  -- "A run that does not pass is split .. and each part is tried." As every part is shorter, a depth of n is enough for a run of n edges, n above 0.
  unfoldable pub try_run : ℕ → Progress → Edge → ℕ → Progress
  unfolding passes remove_inner
  try_run zero s e n = s
  try_run (suc depth) s e n = elim (passes L s.table tolerance e n) [
    | true ↦ remove_inner L (one_tried s) e n
    | false ↦ try_run depth (try_run depth (one_tried s) e (half n)) (stick_after L (half n) e) (n - half n)
  ]

  -- "a contour of n vertices is cut into the run from vertex 0 to vertex n div 2 and the run from there back to 0"
  unfoldable pub simplify_contour : Progress → Edge → Progress
  unfolding try_run
  simplify_contour s f =
      let n : ℕ = length (contour_of L f) in
      try_run n (try_run n s f (half n)) (stick_after L (half n) f) (n - half n)

  unfoldable pub simplify : List ℕ → Progress
  unfolding simplify_contour
  simplify t = foldl simplify_contour (record { table = t; removed = 0; tried = 0 }) (first_sticks L)
