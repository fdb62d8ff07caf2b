-- Round a cell: what a contour counts on the south and the east side it counts on the north and the west side. Each stick by which it enters
-- the cell is linked to one by which it leaves, so it enters as often as it leaves.
use mathlib.Core.Path.{◌≡◌, refl, sym, ◌∙◌, ap, subst}
use mathlib.Core.Bool.{Bool, true, false, false≢true, cond, not, xor, ◌&&◌, beq}
use Prim.Native.Nat.{ℕ, ◌+◌, ◌<◌}
use native.Mathlib.Omega.{arith}
use lib.IntN.{ℤ, pos, negsuc, ◌+ℤ◌}
use Rattle.arith.specs.Booleans.{as_number}
use Rattle.arith.specs.Integers.{positive_part, negative_part}
use Rattle.arith.proofs.Booleans.{both-sides, beq→eq}
use Rattle.arith.proofs.Integers.{arithℤ, add_parts}
use Rattle.grid.specs.Layer.{Layer}
use Rattle.grid.specs.Edges.{is_stick}
use Rattle.grid.specs.Questions.{Sound}
use Rattle.grid.specs.declared.edge.Edge.{Edge}
use Rattle.step.specs.Cells.{Corners, corners, cut, partner, link, edge_on, edge_of}
use Rattle.step.specs.Turns.{inside_left}
use Rattle.step.specs.Walk.{upward, beside, ahead, next}
use Rattle.step.specs.declared.cell.CellSide.{CellSide}
use Rattle.step.specs.declared.cell.Side.{Side}
use Rattle.step.specs.declared.cell.Side.TheVariants.{South, East, North, West}
use Rattle.step.proofs.Links.{partner-partner, partner-cut, partner-turns}
use Rattle.step.proofs.Walks.{is_upper, left_is, stick-cut, beside-edge_of}
use Rattle.contour.specs.Walk.{first}
use Rattle.contour.specs.Contours.{walk_of}
use Rattle.winding.specs.Turns.{is_on, dir_on, east, north}
use Rattle.winding.proofs.Contours.{on_stick, off-stick, on-next}

-- the sum over the four sides, which is that over the linked ones, since the link permutes them
abbrev pub over_sides : (Side → ℕ) → ℕ
over_sides n = n South + n East + n North + n West

sides-linked : (n : Side → ℕ) (sw se nw ne : Bool)
    → over_sides (λ s. n (partner (record { sw = sw; se = se; nw = nw; ne = ne }) s)) ≡ over_sides n
unfolding xor
sides-linked n true true true true = omega arith
sides-linked n true true true false = omega arith
sides-linked n true true false true = omega arith
sides-linked n true true false false = omega arith
sides-linked n true false true true = omega arith
sides-linked n true false true false = omega arith
sides-linked n true false false true = omega arith
sides-linked n true false false false = omega arith
sides-linked n false true true true = omega arith
sides-linked n false true true false = omega arith
sides-linked n false true false true = omega arith
sides-linked n false true false false = omega arith
sides-linked n false false true true = omega arith
sides-linked n false false true false = omega arith
sides-linked n false false false true = omega arith
sides-linked n false false false false = omega arith

-- A side's dir in two parts: on the contour or not, with inside at its first end or not. On the south and the east side the first end is the
-- left hand of who enters, on the other two the second end is.
abbrev counted : Bool → Bool → ℤ
counted on inside = cond on (cond inside (pos 1) (negsuc 0)) (pos 0)

first-left : (on left : Bool)
    → (positive_part (counted on left) ≡ as_number (on && left)) × (negative_part (counted on left) ≡ as_number (on && not left))
first-left true true = (refl, refl)
first-left true false = (refl, refl)
first-left false left = (refl, refl)

second-left : (on inside left : Bool) → (on ≡ true → xor inside left ≡ true)
    → (positive_part (counted on inside) ≡ as_number (on && not left)) × (negative_part (counted on inside) ≡ as_number (on && left))
unfolding xor
second-left true true true h = absurd (false≢true (h refl))
second-left true true false h = (refl, refl)
second-left true false true h = (refl, refl)
second-left true false false h = absurd (false≢true (h refl))
second-left false inside left h = (refl, refl)

module _ {L : Layer} (sound : Sound L) where
  -- a cell that is entered by a stick with inside on the left is the one ahead of that stick
  pub ahead-is : (p : CellSide) → is_stick L (edge_of p) ≡ true → inside_left (corners L p.column p.row) p.side ≡ true → ahead L (edge_of p) ≡ p
  ahead-is p stick left =
      let e : Edge = edge_of p in
      let up : beq (upward L e) (is_upper p.side) ≡ true =
      sym (subst
      (λ (q : CellSide). inside_left (corners L q.column q.row) q.side ≡ beq (upward L e) (is_upper p.side))
      (beside-edge_of L sound p) (left_is L sound e.vertical e.column e.row stick (is_upper p.side))) ∙ left in
      ap (beside e) (beq→eq (upward L e) (is_upper p.side) (rw up tt)) ∙ beside-edge_of L sound p

  pub side_cut : (c r : ℕ) → c + 1 < L.size.width → r + 1 < L.size.height → (s : Side) → is_stick L (edge_on c r s) ≡ cut (corners L c r) s
  side_cut c r hc hr s = stick-cut L sound (record { column = c; row = r; side = s }) (record { column_inner = hc; row_inner = hr })

  module _ (f : Edge) (is-first : first (walk_of L) f ≡ true) (c r : ℕ) (hc : c + 1 < L.size.width) (hr : r + 1 < L.size.height) where
    abbrev k : Corners
    k = corners L c r

    abbrev on : Side → Bool
    on s = is_on L f (edge_on c r s)

    on-cut : (s : Side) → on s ≡ true → cut k s ≡ true
    on-cut s h = sym (side_cut c r hc hr s) ∙ on_stick sound f is-first (edge_on c r s) h

    -- a stick and the one linked to it are both on the contour or neither is: one of them comes next after the other
    on-left : (s : Side) → cut k s ≡ true → inside_left k s ≡ true → on (partner k s) ≡ on s
    unfolding next
    on-left s h left =
        let p : CellSide = record { column = c; row = r; side = s } in
        let stick = side_cut c r hc hr s ∙ h in
        sym (ap (λ (q : CellSide). is_on L f (edge_of (link L q))) (ahead-is p stick left)) ∙ on-next sound f is-first (edge_on c r s) stick

    pub on-linked : (s : Side) → cut (corners L c r) s ≡ true → is_on L f (edge_on c r (partner (corners L c r) s)) ≡ is_on L f (edge_on c r s)
    on-linked s h =
        both-sides (inside_left k s) (on-left s h)
        (λ right. sym (ap on (sym (partner-partner k s)) ∙ on-left (partner k s) (partner-cut k s ∙ h) (partner-turns k s h ∙ ap not right)))

    -- so it is entered by the one where the other is left by
    abbrev entered : Side → ℕ
    entered s = as_number (on s && inside_left k s)

    abbrev left_by : Side → ℕ
    left_by s = as_number (on s && not (inside_left k s))

    linked : (s : Side) → entered (partner k s) ≡ left_by s
    linked s = both-sides (cut k s)
        (λ h. rw (on-linked s h, partner-turns k s h))
        (λ h. rw (h, off-stick sound f is-first (edge_on c r s) (side_cut c r hc hr s ∙ h)))

    as-often : over_sides entered ≡ over_sides left_by
    as-often = sym (sides-linked entered k.sw k.se k.nw k.ne) ∙ omega (arith, linked South, linked East, linked North, linked West)

    pub cell-flow : dir_on L f (east c r) +ℤ dir_on L f (north (c + 1) r) ≡ dir_on L f (east c (r + 1)) +ℤ dir_on L f (north c r)
    unfolding xor
    cell-flow =
        omega (
          arithℤ,
          as-often,
          first-left (on South) k.sw,
          first-left (on East) k.se,
          second-left (on North) k.nw k.ne (on-cut North),
          second-left (on West) k.sw k.nw (on-cut West),
          add_parts (dir_on L f (east c r)) (dir_on L f (north (c + 1) r)),
          add_parts (dir_on L f (east c (r + 1))) (dir_on L f (north c r)),
        )
