-- Where a cell is left that is entered by a side, from the number of its pattern: by the constant table, whose rule is `links-rule`.
use mathlib.Core.Path.{◌≡◌, ap, ◌∙◌}
use mathlib.Core.Bool.{Bool}
use Prim.Native.Nat.{ℕ, ◌+◌}
use native.Mathlib.Omega.{arith}
use Rattle.grid.specs.Layer.{Layer}
use Rattle.grid.specs.declared.edge.Edge.{Edge}
use Rattle.step.specs.Cells.{Corners, corners, index, linked_in, edge_on}
use Rattle.step.specs.Turns.{near, across_count, known, Entered, leaving}
use Rattle.step.specs.declared.cell.Side.{Side}
use Rattle.step.specs.declared.cell.Side.TheVariants.{South, East, North, West}
use Rattle.step.proofs.Links.{links-rule}

-- the two corners across the cell from a side
abbrev pub across_first : Corners → Side → Bool
across_first k South = k.nw
across_first k East = k.sw
across_first k North = k.sw
across_first k West = k.se

abbrev pub across_second : Corners → Side → Bool
across_second k South = k.ne
across_second k East = k.nw
across_second k North = k.se
across_second k West = k.ne

index-near : (k : Corners) (s : Side) → near k s + across_count s (across_first k s) (across_second k s) ≡ index k
index-near k South = omega arith
index-near k East = omega arith
index-near k North = omega arith
index-near k West = omega arith

-- The number known from the hand and the corners across is that of the cell's own pattern, and the table gives the side by which the cell is
-- left.
pub by-table : {L : Layer} {c r : ℕ} {s : Side} {inside : Bool} (a b : Bool) → Entered L c r s inside
    → a ≡ across_first (corners L c r) s → b ≡ across_second (corners L c r) s
    → edge_on c r (linked_in (known s inside a b) s) ≡ leaving L c r s
by-table {L} {c} {r} {s} {inside} a b entered first second =
    let k = corners L c r in
    let own : known s inside a b ≡ index k = rw (first, second, ← entered.counted) (index-near k s) in
    ap (λ (m : ℕ). edge_on c r (linked_in m s)) own
    ∙ ap (edge_on c r) (links-rule k s)

-- In a case of the hand and the corners across, the number that is looked up is the one known there.
pub in-case : {e : Edge} {inside a b h x y : Bool} (c r : ℕ) (s : Side) → inside ≡ h → a ≡ x → b ≡ y
    → e ≡ edge_on c r (linked_in (known s h x y) s) → e ≡ edge_on c r (linked_in (known s inside a b) s)
in-case c r s is-inside is-first is-second looked = rw (is-inside, is-first, is-second) looked
