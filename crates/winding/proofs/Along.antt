-- Along a contour: the inside ends of a stick and of the next one are the same sample, or are joined by sides of the cell between them that are
-- no sticks. So all inside ends of the sticks of one contour have the same turns of any contour.
use mathlib.Core.Path.{◌≡◌, refl, sym, ◌∙◌, ap}
use mathlib.Core.Bool.{Bool, true, false, cond, xor}
use Prim.Native.Nat.{ℕ, zero, suc, ◌+◌, ◌<◌}
use native.Mathlib.Omega.{arith}
use lib.IntN.{ℤ}
use Rattle.arith.proofs.Integers.{arithℤ}
use Rattle.grid.specs.Layer.{Layer}
use Rattle.grid.specs.Edges.{is_stick, in_grid}
use Rattle.grid.specs.Questions.{Sound}
use Rattle.grid.specs.declared.edge.Edge.{Edge}
use Rattle.grid.proofs.Numbers.{in-grid}
use Rattle.step.specs.Cells.{Corners, corners, cut, partner, edge_on}
use Rattle.step.specs.Walk.{upward, ahead, next}
use Rattle.step.specs.declared.cell.CellSide.{CellSide}
use Rattle.step.specs.declared.cell.Side.{Side}
use Rattle.step.specs.declared.cell.Side.TheVariants.{South, East, North, West}
use Rattle.step.proofs.Walks.{cell-beside, edge_of-beside, next-stick}
use Rattle.contour.specs.Walk.{OnContour, first, ahead as stepped}
use Rattle.contour.specs.Contours.{walk_of}
use Rattle.contour.proofs.Members.{place}
use Rattle.contour.proofs.Sticks.{laws}
use Rattle.winding.specs.Turns.{turns, turns_at_first, turns_at_second, turns_inside}
use Rattle.winding.proofs.Contours.{off-stick}
use Rattle.winding.proofs.Cells.{side_cut}
use Rattle.winding.proofs.Columns.{jump-off}

-- Integers at the corners of a cell.
record AtCorners : Type 0 where
  sw : ℤ
  se : ℤ
  nw : ℤ
  ne : ℤ

-- the one at the inside end of a side
abbrev at_inside : AtCorners → Corners → Side → ℤ
at_inside t k South = cond k.sw t.sw t.se
at_inside t k East = cond k.se t.se t.ne
at_inside t k North = cond k.nw t.nw t.ne
at_inside t k West = cond k.sw t.sw t.nw

-- they agree at the ends of a side that is no stick
abbrev EqualUnless : Bool → ℤ → ℤ → Type 0
EqualUnless true x y = Unit
EqualUnless false x y = x ≡ y

equal-unless : (stick : Bool) {x y : ℤ} → (stick ≡ false → x ≡ y) → EqualUnless stick x y
equal-unless true h = tt
equal-unless false h = h refl

-- then they agree at the inside ends of two linked sides
record Linked (t : AtCorners) (k : Corners) : Type 0 where
  south : at_inside t k (partner k South) ≡ at_inside t k South
  east : at_inside t k (partner k East) ≡ at_inside t k East
  north : at_inside t k (partner k North) ≡ at_inside t k North
  west : at_inside t k (partner k West) ≡ at_inside t k West

linked-from : (t : AtCorners) (sw se nw ne : Bool)
    → let k : Corners = record { sw = sw; se = se; nw = nw; ne = ne } in
    EqualUnless (cut k South) t.sw t.se → EqualUnless (cut k East) t.se t.ne
    → EqualUnless (cut k North) t.nw t.ne → EqualUnless (cut k West) t.sw t.nw → Linked t k
unfolding xor
linked-from t true true true true s e n w = omega arithℤ
linked-from t true true true false s e n w = omega arithℤ
linked-from t true true false true s e n w = omega arithℤ
linked-from t true true false false s e n w = omega arithℤ
linked-from t true false true true s e n w = omega arithℤ
linked-from t true false true false s e n w = omega arithℤ
linked-from t true false false true s e n w = omega arithℤ
linked-from t true false false false s e n w = omega arithℤ
linked-from t false true true true s e n w = omega arithℤ
linked-from t false true true false s e n w = omega arithℤ
linked-from t false true false true s e n w = omega arithℤ
linked-from t false true false false s e n w = omega arithℤ
linked-from t false false true true s e n w = omega arithℤ
linked-from t false false true false s e n w = omega arithℤ
linked-from t false false false true s e n w = omega arithℤ
linked-from t false false false false s e n w = omega arithℤ

linked-at : {t : AtCorners} {k : Corners} → Linked t k → (s : Side) → at_inside t k (partner k s) ≡ at_inside t k s
linked-at l South = l.south
linked-at l East = l.east
linked-at l North = l.north
linked-at l West = l.west

module _ {L : Layer} (sound : Sound L) (f : Edge) (is-first : first (walk_of L) f ≡ true) where
  -- The turns at the corners of a cell in the grid are such integers.
  module _ (c r : ℕ) (hc : c + 1 < L.size.width) (hr : r + 1 < L.size.height) where
    abbrev k : Corners
    k = corners L c r

    abbrev t : AtCorners
    t = record { sw = turns L f c r; se = turns L f (c + 1) r; nw = turns L f c (r + 1); ne = turns L f (c + 1) (r + 1) }

    pub side-in : (s : Side) → in_grid L.size (edge_on c r s) ≡ true
    side-in South = in-grid L.size (edge_on c r South) (omega arith)
    side-in East = in-grid L.size (edge_on c r East) (omega arith)
    side-in North = in-grid L.size (edge_on c r North) (omega arith)
    side-in West = in-grid L.size (edge_on c r West) (omega arith)

    side-agrees : (s : Side) → EqualUnless (cut k s) (turns_at_first L f (edge_on c r s)) (turns_at_second L f (edge_on c r s))
    side-agrees s =
        equal-unless (cut k s)
        (λ h. jump-off sound f is-first (edge_on c r s) (side-in s)
        (off-stick sound f is-first (edge_on c r s) (side_cut sound c r hc hr s ∙ h)))

    at_side : (s : Side) → turns_inside L f (edge_on c r s) ≡ at_inside t k s
    at_side South = refl
    at_side East = refl
    at_side North = refl
    at_side West = refl

    inside-linked : (s : Side) → turns_inside L f (edge_on c r (partner k s)) ≡ turns_inside L f (edge_on c r s)
    inside-linked s =
        let linked : Linked t k =
        linked-from t k.sw k.se k.nw k.ne (side-agrees South) (side-agrees East) (side-agrees North) (side-agrees West) in
        at_side (partner k s) ∙ linked-at linked s ∙ sym (at_side s)

  pub inside-next : (e : Edge) → is_stick L e ≡ true → turns_inside L f (next L e) ≡ turns_inside L f e
  unfolding next
  inside-next e stick =
      let p : CellSide = ahead L e in
      let inner = cell-beside L sound e.vertical e.column e.row stick (upward L e) in
      inside-linked p.column p.row inner.column_inner inner.row_inner p.side
      ∙ ap (turns_inside L f) (edge_of-beside L sound e.vertical e.column e.row stick (upward L e))

  steps : (n : ℕ) (g : Edge) → is_stick L g ≡ true → turns_inside L f (stepped (walk_of L) n g) ≡ turns_inside L f g
  unfolding stepped
  steps zero g stick = refl
  steps (suc n) g stick = steps n (next L g) (next-stick L sound g stick) ∙ inside-next g stick

  pub along : (g e : Edge) → is_stick L g ≡ true → OnContour (walk_of L) g e → turns_inside L f e ≡ turns_inside L f g
  along g e stick o =
      let p = place (walk_of L) (laws L sound) g e stick o in
      ap (turns_inside L f) (sym p.2) ∙ steps p.0 g stick
