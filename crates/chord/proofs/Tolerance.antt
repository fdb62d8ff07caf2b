-- A stick between the ends of a chord, tested with a tolerance: for a chord between vertices of other edges the tests of crossing and of
-- sliding are together what the paper asks there, over all points.
use mathlib.Core.Path.{◌≡◌}
use mathlib.Core.Logic.{◌↔◌, ◌≢◌}
use mathlib.Core.Bool.{true, ◌&&◌}
use Prim.Native.Nat.{ℕ, ◌<◌}
use Rattle.arith.proofs.Booleans.{and_split}
use Rattle.grid.specs.declared.edge.Edge.{Edge}
use Rattle.chord.specs.Points.{Position, position, Point, Meets, Crosses, SlidesWithin, MeetsWithin, CrossesWithin}
use Rattle.chord.specs.Crossing.{crosses, slides_within}
use Rattle.chord.proofs.EdgePoints.{on→closed}
use Rattle.chord.proofs.Crossings.{crosses→parted, crosses→Crosses}
use Rattle.chord.proofs.Slides.{slides}
use Rattle.chord.proofs.Regions.{crosses-is}

-- for a chord that crosses the edge the test of sliding is its meaning
pub slides-is : (t : ℕ) (p q : Position) (e : Edge) (o : ℕ) → crosses p q e ≡ true → (slides_within t p q e o ≡ true) ↔ MeetsWithin t p q e o
slides-is t p q e o c =
    let met = crosses→Crosses p q e c in
    (λ h z m. (here z m).0 h, λ h. (here met.at met.meets).1 (h met.at met.meets))
  where
    here : (z : Point) → Meets z p q e → (slides_within t p q e o ≡ true) ↔ SlidesWithin t z e o
    here z m = slides p q e (crosses→parted p q e c) m.on_first (on→closed e m.on_second).on_line t o

-- for a chord between vertices of other edges the two tests are what the paper asks
pub crosses-within-is : (t : ℕ) (e f g : Edge) (m n o : ℕ) → f ≢ e → g ≢ e → 0 < m → m < 256 → 0 < n → n < 256
    → let p = position f m in let q = position g n in
    ((crosses p q e && slides_within t p q e o) ≡ true) ↔ CrossesWithin t p q e o
crosses-within-is t e f g m n o nf ng m₀ m₁ n₀ n₁ = (
  λ h.
      let both = and_split (crosses p q e) (slides_within t p q e o) h in
      record { crossed = crossing.0 both.0; within = (slides-is t p q e o both.0).0 both.1 },
  λ w.
      let c = crossing.1 w.crossed in
      rw (c, (slides-is t p q e o c).1 w.within),
)
  where
    p : Position
    p = position f m

    q : Position
    q = position g n

    crossing : (crosses p q e ≡ true) ↔ Crosses p q e
    crossing = crosses-is e f g m n nf ng m₀ m₁ n₀ n₁
