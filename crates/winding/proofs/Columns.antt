-- Up a column: from a sample to the one above, the turns change by the edge between, as along a row. So across a stick on the contour the
-- inside end has one turn more than the outside end, and across any other edge of the grid the turns agree.
use mathlib.Core.Path.{◌≡◌, sym, ◌∙◌}
use mathlib.Core.Bool.{Bool, true, false, cond}
use Prim.Native.Nat.{ℕ, zero, suc, ◌+◌, ◌-◌, ◌<◌}
use native.Mathlib.Omega.{arith}
use lib.IntN.{ℤ, pos, negsuc, ◌+ℤ◌, +ℤ_idl}
use Rattle.arith.proofs.Integers.{arithℤ, add_parts}
use Rattle.grid.specs.Layer.{Layer}
use Rattle.grid.specs.Edges.{is_stick, in_grid, first_end}
use Rattle.grid.specs.Questions.{Sound}
use Rattle.grid.specs.declared.edge.Edge.{Edge}
use Rattle.grid.proofs.Numbers.{WithinGrid, within}
use Rattle.contour.specs.Walk.{first}
use Rattle.contour.specs.Contours.{walk_of}
use Rattle.contour.proofs.Sticks.{stick-in}
use Rattle.winding.specs.Turns.{is_on, dir_on, east, north, turns, turns_at_first, turns_at_second, turns_inside, turns_outside}
use Rattle.winding.proofs.Rows.{row-jump, row-end}
use Rattle.winding.proofs.Contours.{not_on, on_stick, on-column}
use Rattle.winding.proofs.Cells.{cell-flow}

-- round a cell: what holds on three sides holds on the fourth
square : {sw se nw : ℤ} (ne south east north west : ℤ) → sw ≡ south +ℤ se → se ≡ east +ℤ ne → nw ≡ north +ℤ ne → south +ℤ east ≡ north +ℤ west
    → sw ≡ west +ℤ nw
square {sw} {se} {nw} ne south east north west a b c flow =
    omega (
      arithℤ,
      add_parts south se,
      add_parts east ne,
      add_parts north ne,
      add_parts south east,
      add_parts north west,
      add_parts west nw,
    )

-- the inside end is the first or the second
across : (inside : Bool) (a b : ℤ) → a ≡ cond inside (pos 1) (negsuc 0) +ℤ b → cond inside a b ≡ cond inside b a +ℤ pos 1
across true a b h = omega (arithℤ, add_parts (pos 1) b, add_parts b (pos 1))
across false a b h = omega (arithℤ, add_parts (negsuc 0) b, add_parts a (pos 1))

either : (inside : Bool) {a b : ℤ} → a ≡ b → cond inside a b ≡ cond inside b a
either true h = h
either false h = sym h

module _ {L : Layer} (sound : Sound L) (f : Edge) (is-first : first (walk_of L) f ≡ true) where
  -- the right border has no stick
  off-east : (c r : ℕ) → c + 1 ≡ L.size.width → is_on L f (north c r) ≡ false
  off-east c r h = not_on L f (north c r) (λ on. omega (arith, on-column sound f is-first c r on))

  -- by induction on the samples to the right
  column-from : (n c r : ℕ) → c + n + 1 ≡ L.size.width → r + 1 < L.size.height → turns L f c r ≡ dir_on L f (north c r) +ℤ turns L f c (r + 1)
  column-from zero c r h hr =
      rw (row-end L f c r (omega arith), row-end L f c (r + 1) (omega arith), off-east c r (omega arith))
  column-from (suc n) c r h hr =
      square (turns L f (c + 1) (r + 1)) (dir_on L f (east c r)) (dir_on L f (north (c + 1) r)) (dir_on L f (east c (r + 1))) (dir_on L f (north c r))
      (row-jump L f c r (omega arith)) (column-from n (c + 1) r (omega arith) hr) (row-jump L f c (r + 1) (omega arith))
      (cell-flow sound f is-first c r (omega arith) hr)

  pub column-jump : (c r : ℕ) → c < L.size.width → r + 1 < L.size.height → turns L f c r ≡ dir_on L f (north c r) +ℤ turns L f c (r + 1)
  column-jump c r hc hr = column-from (L.size.width - 1 - c) c r (omega arith) hr

  pub jump : (e : Edge) → in_grid L.size e ≡ true → turns_at_first L f e ≡ dir_on L f e +ℤ turns_at_second L f e
  jump e h = go e.vertical e.column e.row (within L.size e h)
    where
      go : (v : Bool) (c r : ℕ)
          → let e : Edge = record { vertical = v; column = c; row = r } in
          WithinGrid L.size e → turns_at_first L f e ≡ dir_on L f e +ℤ turns_at_second L f e
      go true c r w = column-jump c r w.column_below (omega arith)
      go false c r w = row-jump L f c r (omega arith)

  pub jump-on : (e : Edge) → is_on L f e ≡ true → turns_inside L f e ≡ turns_outside L f e +ℤ pos 1
  jump-on e on =
      across (first_end L e) (turns_at_first L f e) (turns_at_second L f e) (rw on at (jump e (stick-in L e (on_stick sound f is-first e on))))

  pub jump-off : (e : Edge) → in_grid L.size e ≡ true → is_on L f e ≡ false → turns_at_first L f e ≡ turns_at_second L f e
  jump-off e h off = (rw off at (jump e h)) ∙ +ℤ_idl (turns_at_second L f e)

  pub jump-other : (e : Edge) → is_stick L e ≡ true → is_on L f e ≡ false → turns_inside L f e ≡ turns_outside L f e
  jump-other e stick off = either (first_end L e) (jump-off e (stick-in L e stick) off)
