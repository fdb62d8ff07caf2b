-- The neighbours of a stick on a sound layer, one that passes questions 1 to 4: the next stick is another side of the cell ahead and the
-- previous one of the cell behind. So a vertex of the one lies strictly beyond the stick's line and a vertex of the other strictly before it,
-- both within the stick's length along it, and the segment between the two meets the closed stick.
use mathlib.Core.Path.{◌≡◌, refl, subst}
use mathlib.Core.Logic.{inl, inr}
use mathlib.Core.Bool.{Bool, true, false, not, true≢false}
use Prim.Native.Nat.{ℕ, ◌+◌, ◌%◌, ◌≤◌, ◌<◌}
use native.Mathlib.Omega.{arith}
use Rattle.grid.specs.Layer.{Layer}
use Rattle.grid.specs.Edges.{is_stick}
use Rattle.step.specs.Cells.{edge_on, edge_of, link}
use Rattle.step.specs.Walk.{upward, beside, next, prev}
use Rattle.grid.specs.Questions.{Sound}
use Rattle.grid.specs.declared.edge.Edge.{Edge}
use Rattle.step.specs.declared.cell.Side.{Side}
use Rattle.step.specs.declared.cell.Side.TheVariants.{South, East, North, West}
use Rattle.step.proofs.Links.{same_side}
use Rattle.step.proofs.Walks.{is_upper, edge_of-beside, there-other}
use Rattle.chord.specs.Points.{Position, position}
use Rattle.chord.specs.Crossing.{along, across, base, line, off}
use Rattle.offset.specs.Offset.{Astride}

-- the position is strictly above the line of the edge, or strictly below it
abbrev pub Past : Bool → Edge → Position → Type 0
Past true e p = line e < across e p
Past false e p = across e p < line e

-- w off the line of an edge and at a along it, on another side of a cell beside the edge: the opposite one is a pitch off the line, the two
-- lateral ones are nearer and lie on grid lines across it
pub record OnSide (w a : ℕ) : Type 0 where
  pub some : 0 < w
  pub most : w ≤ 256
  pub lateral : w < 256 → a % 256 ≡ 0

-- the position is on another side of a cell beside the edge, off the edge's line
pub record Beside (upper : Bool) (e : Edge) (p : Position) : Type 0 where
  pub past : Past upper e p
  pub from : base e ≤ along e p
  pub to : along e p ≤ base e + 256
  pub on_side : OnSide (off e p) (along e p)

-- a vertex of another side of the cell
other-side : (c r : ℕ) (s t : Side) → same_side t s ≡ false → (o : ℕ) → 1 ≤ o → o ≤ 255
    → Beside (is_upper s) (edge_on c r s) (position (edge_on c r t) o)
unfolding off
other-side c r South South d o l h = absurd (true≢false d)
other-side c r South East d o l h = omega arith
other-side c r South North d o l h = omega arith
other-side c r South West d o l h = omega arith
other-side c r East South d o l h = omega arith
other-side c r East East d o l h = absurd (true≢false d)
other-side c r East North d o l h = omega arith
other-side c r East West d o l h = omega arith
other-side c r North South d o l h = omega arith
other-side c r North East d o l h = omega arith
other-side c r North North d o l h = absurd (true≢false d)
other-side c r North West d o l h = omega arith
other-side c r West South d o l h = omega arith
other-side c r West East d o l h = omega arith
other-side c r West North d o l h = omega arith
other-side c r West West d o l h = absurd (true≢false d)

-- the side of the cell above an edge that the edge is has the cell above it
upper-side : (v : Bool) (c r : ℕ) (upper : Bool) → is_upper (beside (record { vertical = v; column = c; row = r }) upper).side ≡ upper
upper-side true c r true = refl
upper-side true c r false = refl
upper-side false c r true = refl
upper-side false c r false = refl

module _ (L : Layer) (sound : Sound L) (e : Edge) (stick : is_stick L e ≡ true) where
  -- a vertex of the stick that is linked to e across the cell on one side of it
  linked : (upper : Bool) (o : ℕ) → 1 ≤ o → o ≤ 255 → Beside upper e (position (edge_of (link L (beside e upper))) o)
  linked upper o l h =
      let here = beside e upper in
      let there = link L here in
      let b = other-side here.column here.row here.side there.side (there-other L sound e stick upper) o l h in
      subst (λ (u : Bool). Beside u e (position (edge_of there) o)) (upper-side e.vertical e.column e.row upper)
      (subst (λ (f : Edge). Beside (is_upper here.side) f (position (edge_of there) o))
      (edge_of-beside L sound e.vertical e.column e.row stick upper) b)

  pub next-beside : (o : ℕ) → 1 ≤ o → o ≤ 255 → Beside (upward L e) e (position (next L e) o)
  unfolding next
  next-beside = linked (upward L e)

  pub prev-beside : (o : ℕ) → 1 ≤ o → o ≤ 255 → Beside (not (upward L e)) e (position (prev L e) o)
  unfolding prev
  prev-beside = linked (not (upward L e))

-- a position on each side of the line
pub beside-apart : (up : Bool) (e : Edge) (p q : Position) → Beside (not up) e p → Beside up e q → Astride p q e
beside-apart true e p q b f = inl (b.past, f.past)
beside-apart false e p q b f = inr (f.past, b.past)
