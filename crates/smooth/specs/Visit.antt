-- The step at one vertex as the code takes it, from the entry's place in the table and the positions of the neighbours: what it asks, and
-- what it leaves. That it is the step `visit` of the rule is shown in proofs/Walking.antt. And what a pass over a contour, and its smoothing, leave.
use Rattle.std.specs.Prelude.{◌≡◌, Bool, true, cond, List, ℕ, ◌<◌, length, get_or, set}
use Rattle.grid.specs.Layer.{Layer}
use Rattle.grid.specs.declared.edge.Edge.{Edge}
use Rattle.contour.specs.Contours.{contour_of}
use Rattle.chord.specs.Points.{Position}
use Rattle.chord.specs.Crossing.{distance}
use Rattle.table.specs.Entries.{entry_of, encoded, suits}
use Rattle.table.specs.Vertices.{is_pinned, offset_in}
use Rattle.table.specs.declared.entry.Entry.TheVariants.{Kept}
use Rattle.offset.specs.Offset.{new_offset, Movable}
use Rattle.smooth.specs.Smooth.{passed, contour_pass, Smoothed}
use Rattle.smooth.specs.declared.pass.Stepped.{Stepped}
use Rattle.smooth.specs.declared.pass.PassCounts.{PassCounts}
use Rattle.smooth.specs.declared.settling.Settling.{Settling}

-- the offset that entry k of a table gives, and whether it is pinned
abbrev pub offset_of : List ℕ → ℕ → ℕ
offset_of t k = offset_in (entry_of (get_or t k 0))

abbrev pub pinned_of : List ℕ → ℕ → Bool
pinned_of t k = is_pinned (entry_of (get_or t k 0))

-- entry k is that of the vertex of e, whose neighbours are at p and q
pub record Visitable (t : List ℕ) (k : ℕ) (p q : Position) (e : Edge) : Type 0 where
  pub within : k < length t
  pub kept : suits true (entry_of (get_or t k 0)) ≡ true
  pub movable : Movable p q e (offset_of t k)

-- the offset after the step, the change, and the table with that entry alone changed; for a pinned vertex offset and table stay and the change is 0
pub record Visited (t : List ℕ) (k : ℕ) (p q : Position) (e : Edge) (r : Stepped) (t' : List ℕ) : Type 0 where
  pub offset : r.offset ≡ cond (pinned_of t k) (offset_of t k) (new_offset p q e (offset_of t k))
  pub change : r.change ≡ distance (offset_of t k) r.offset
  pub table : t' ≡ cond (pinned_of t k) t (set t k (encoded (Kept r.offset)))

-- a pass over the contour from f on, made on t: the table and the total, and how many vertices it visited
pub record PassMade (L : Layer) (t : List ℕ) (f : Edge) (r : PassCounts) (t' : List ℕ) : Type 0 where
  pub pass_is : passed t' r.total ≡ contour_pass L f t
  pub vertices_is : r.vertices ≡ length (contour_of L f)

-- where smoothing stands, by the code's figures and the table
abbrev pub reached : Settling → List ℕ → Smoothed
reached r t = record { table = t; passes = r.passes; total = r.total; settled = r.settled }
