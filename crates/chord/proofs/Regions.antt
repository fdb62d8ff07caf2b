-- Open cells, open edges and the two halves of a cell are apart: a point fixes in which of them it lies. So a vertex lies strictly inside
-- no edge but its own, and for a chord between vertices of other edges the test of crossing is its meaning.
use mathlib.Core.Path.{◌≡◌, ap₂}
use mathlib.Core.Logic.{◌↔◌, ◌≢◌}
use mathlib.Core.Bool.{Bool, true, false, cond}
use Prim.Native.Nat.{ℕ, ◌+◌, ◌*◌, ◌<◌}
use native.Mathlib.Nat.{lt_of_mul-lt-mul_right}
use native.Mathlib.Omega.{arith}
use Rattle.grid.specs.declared.edge.Edge.{Edge}
use Rattle.chord.specs.Points.{position, point, Crosses}
use Rattle.chord.specs.Crossing.{crosses}
use Rattle.chord.proofs.Homogeneous.{Homogeneous, coordinates}
use Rattle.chord.proofs.EdgePoints.{Closed, Within, within→closed, edge, along-position, across-position}
use Rattle.chord.proofs.Crossings.{crosses→Crosses, Crosses→crosses}
use Rattle.chord.proofs.Cells.{InCell, Corner, SouthWest, SouthEast, NorthWest, NorthEast, Half}

-- 256 × m and 256 × n are each below the other's next multiple of 256: they are one
one_place : (m n d : ℕ) → 256 * m * d < (256 * n + 256) * d → 256 * n * d < (256 * m + 256) * d → m ≡ n
one_place m n d a b =
    let k = lt_of_mul-lt-mul_right d {m = 256 * m} {n = 256 * n + 256} a in
    let l = lt_of_mul-lt-mul_right d {m = 256 * n} {n = 256 * m + 256} b in
    omega arith

-- a number that is a multiple of 256 is not strictly between two that follow each other
off-lines : (m n x d : ℕ) → x ≡ 256 * m * d → 256 * n * d < x → x < (256 * n + 256) * d → ⊥
off-lines m n x d e a b =
    let k = lt_of_mul-lt-mul_right d {m = 256 * n} {n = 256 * m} (omega arith) in
    let l = lt_of_mul-lt-mul_right d {m = 256 * m} {n = 256 * n + 256} (omega arith) in
    omega arith

pub cells-apart : {c r c' r' : ℕ} {h : Homogeneous} → InCell c r h → InCell c' r' h → (c ≡ c') × (r ≡ r')
cells-apart {c} {r} {c'} {r'} {h} i j =
    (one_place c c' h.d (omega arith) (omega arith), one_place r r' h.d (omega arith) (omega arith))

pub edge-cell-apart : {e : Edge} {c r : ℕ} {h : Homogeneous} → Closed e h → InCell c r h → ⊥
edge-cell-apart {e} {c} {r} {h} k i = by e.vertical k.on_line
  where
    by : (v : Bool) → cond v h.x h.y ≡ 256 * cond v e.column e.row * h.d → ⊥
    by true o = off-lines e.column c h.x h.d o i.past_west i.before_east
    by false o = off-lines e.row r h.y h.d o i.past_south i.before_north

-- an edge, its end samples included, that has a point strictly inside another is that other
pub edges-apart : {e f : Edge} {h : Homogeneous} → Closed e h → Within f h → e ≡ f
edges-apart {e} {f} {h} k w = by e.vertical f.vertical e.column e.row f.column f.row k w
  where
    by : (v u : Bool) (c r c' r' : ℕ) → Closed (edge v c r) h → Within (edge u c' r') h → edge v c r ≡ edge u c' r'
    by true true c r c' r' k w =
        ap₂ (edge true) (one_place c c' h.d (omega arith) (omega arith)) (one_place r r' h.d (omega arith) (omega arith))
    by true false c r c' r' k w = absurd (off-lines c c' h.x h.d k.on_line w.after w.before)
    by false true c r c' r' k w = absurd (off-lines r r' h.y h.d k.on_line w.after w.before)
    by false false c r c' r' k w =
        ap₂ (edge false) (one_place c c' h.d (omega arith) (omega arith)) (one_place r r' h.d (omega arith) (omega arith))

abbrev pub opposite : Corner → Corner
opposite SouthWest = NorthEast
opposite SouthEast = NorthWest
opposite NorthWest = SouthEast
opposite NorthEast = SouthWest

pub halves-apart : (k : Corner) (c r : ℕ) (h : Homogeneous) → Half k c r h → Half (opposite k) c r h → ⊥
halves-apart SouthWest c r h a b = omega arith
halves-apart SouthEast c r h a b = omega arith
halves-apart NorthWest c r h a b = omega arith
halves-apart NorthEast c r h a b = omega arith

-- ---- vertices

-- "A vertex .. lies on its stick at the offset its entry gives", strictly inside
pub vertex-within : (e : Edge) (o : ℕ) → 0 < o → o < 256 → Within e (coordinates (point (position e o)))
vertex-within e o a b =
    record {
      on_line = rw across-position (omega arith);
      after = rw along-position (omega arith);
      before = rw along-position (omega arith);
    }

-- for a chord between vertices of other edges the test of crossing is its meaning
pub crosses-is : (e f g : Edge) (m n : ℕ) → f ≢ e → g ≢ e → 0 < m → m < 256 → 0 < n → n < 256
    → (crosses (position f m) (position g n) e ≡ true) ↔ Crosses (position f m) (position g n) e
crosses-is e f g m n nf ng m₀ m₁ n₀ n₁ =
    let p = position f m in
    let q = position g n in
    (crosses→Crosses p q e, Crosses→crosses p q e (other f m nf m₀ m₁) (other g n ng n₀ n₁))
  where
    other : (f : Edge) (o : ℕ) → f ≢ e → 0 < o → o < 256 → ¬ Within e (coordinates (point (position f o)))
    other f o nf a b w = nf (edges-apart (within→closed (vertex-within f o a b)) w)
