-- A sum over the sticks of a passage, cell by cell. At each stick the walk enters one cell, by one side, with inside on the left. So a sum over a
-- list of sticks is one over the cells and their sides, each side as often as it stands in the list. A passage has each of its sticks once, and
-- enters a cell by the sides that the pattern says.
use mathlib.Core.Path.{◌≡◌, refl, sym, ◌∙◌, ap}
use mathlib.Core.Bool.{true, false, false≢true, xor}
use mathlib.Core.List.{List, [], ◌∷◌}
use Prim.Native.Nat.{ℕ, ◌+◌, ◌*◌, ◌-◌, ◌<◌}
use native.Mathlib.Omega.{arith}
use Rattle.arith.specs.Booleans.{as_number}
use Rattle.arith.specs.Levels.{total}
use Rattle.arith.proofs.Booleans.{both-sides, beq-self}
use Rattle.arith.specs.Finite.{sum_over}
use Rattle.arith.proofs.Sums.{over-same, over_add, over_none, over-single}
use Rattle.grid.specs.Layer.{Layer}
use Rattle.grid.specs.Edges.{is_stick}
use Rattle.grid.specs.Questions.{Sound}
use Rattle.grid.specs.declared.edge.Edge.{Edge}
use Rattle.step.specs.Cells.{Corners, corners, partner, link, edge_on, edge_of}
use Rattle.step.specs.Turns.{inside_left}
use Rattle.step.specs.Walk.{upward, ahead, next}
use Rattle.step.specs.declared.cell.CellSide.{CellSide}
use Rattle.step.specs.declared.cell.Side.{Side}
use Rattle.step.specs.declared.cell.Side.TheVariants.{South, East, North, West}
use Rattle.step.proofs.Links.{same_side}
use Rattle.step.proofs.Walks.{InGrid, left_is, cell-beside, edge_of-beside}
use Rattle.contour.specs.Walk.{occurrences}
use Rattle.contour.specs.Contours.{walk_of, same_edge}
use Rattle.contour.proofs.Sticks.{same-edge, same_self}
use Rattle.contour.proofs.Theorems.{AllSticks, head-stick, tail-sticks}
use Rattle.winding.proofs.Cells.{over_sides, ahead-is}
use Rattle.polygon.proofs.CellSums.{enters_by}
use Rattle.polygon.proofs.Passages.{Passage, PassageLaws, pattern}

side-self : (s : Side) → same_side s s ≡ true
side-self South = refl
side-self East = refl
side-self North = refl
side-self West = refl

-- one value alone is not 0
sides-single : (n : Side → ℕ) (t : Side) → ((s : Side) → same_side t s ≡ false → n s ≡ 0) → over_sides n ≡ n t
sides-single n South h = omega (arith, h East refl, h North refl, h West refl)
sides-single n East h = omega (arith, h South refl, h North refl, h West refl)
sides-single n North h = omega (arith, h South refl, h East refl, h West refl)
sides-single n West h = omega (arith, h South refl, h East refl, h North refl)

abbrev side_of : ℕ → ℕ → Side → CellSide
side_of c r s = record { column = c; row = r; side = s }

-- how many columns and rows of cells a layer has, and the sum over its cells
abbrev pub cell_columns : Layer → ℕ
cell_columns L = L.size.width - 1

abbrev pub cell_rows : Layer → ℕ
cell_rows L = L.size.height - 1

abbrev pub over_cells : Layer → (ℕ → ℕ → ℕ) → ℕ
over_cells L F = sum_over F (cell_columns L) (cell_rows L)

module _ (L : Layer) (sound : Sound L) (g : Edge → ℕ) where
  -- g at a side, as often as it stands in a list, where who enters the cell by it has inside on the left; and the sum over a cell's sides
  abbrev gives : (Edge → ℕ) → ℕ → ℕ → Side → ℕ
  gives often c r s = as_number (inside_left (corners L c r) s) * often (edge_on c r s) * g (edge_on c r s)

  abbrev cell_gives : (Edge → ℕ) → ℕ → ℕ → ℕ
  cell_gives often c r = over_sides (gives often c r)

  -- of one stick: g at its side of the cell ahead, and nothing at any other side
  module _ (e : Edge) (stick : is_stick L e ≡ true) where
    abbrev alone : Edge → ℕ
    alone x = as_number (same_edge x e)

    abbrev p : CellSide
    p = ahead L e

    other-gives : (c r : ℕ) (s : Side) → (p ≡ side_of c r s → ⊥) → gives alone c r s ≡ 0
    other-gives c r s other =
        both-sides (same_edge (edge_on c r s) e)
        (λ same. both-sides (inside_left (corners L c r) s)
        (λ left.
        let is = same-edge (edge_on c r s) e same in
        absurd (other (sym (ap (ahead L) is) ∙ ahead-is sound (side_of c r s) (rw is stick) left)))
        (λ right. rw right (omega arith)))
        (λ unlike. rw unlike (omega arith))

    own-gives : gives alone p.column p.row p.side ≡ g e
    own-gives =
        let is = edge_of-beside L sound e.vertical e.column e.row stick (upward L e) in
        let left = left_is L sound e.vertical e.column e.row stick (upward L e) ∙ beq-self (upward L e) in
        rw (left, is, same_self e) (omega arith)

    ahead-gives : cell_gives alone p.column p.row ≡ g e
    ahead-gives =
        sides-single (gives alone p.column p.row) p.side
        (λ s ne. other-gives p.column p.row s
        (λ is. false≢true (sym ne ∙ ap (λ (q : CellSide). same_side p.side q.side) (sym is) ∙ side-self p.side)))
        ∙ own-gives

    stick-gives : over_cells L (cell_gives alone) ≡ g e
    stick-gives =
        let inner : InGrid L p = cell-beside L sound e.vertical e.column e.row stick (upward L e) in
        over-single (cell_gives alone) (cell_columns L) (cell_rows L) p.column p.row (omega arith) (omega arith)
        (λ c r other.
        let none : (s : Side) → gives alone c r s ≡ 0 =
        λ s. other-gives c r s (λ is. other (ap (λ (q : CellSide). q.column) (sym is)) (ap (λ (q : CellSide). q.row) (sym is))) in
        omega (arith, none South, none East, none North, none West))
        ∙ ahead-gives

  list-gives : (l : List Edge) → AllSticks L l → over_cells L (cell_gives (λ x. occurrences (walk_of L) x l)) ≡ total g l
  unfolding occurrences
  list-gives [] sticks =
      over_none (cell_gives (λ x. 0)) (cell_columns L) (cell_rows L) (λ c r a b. omega arith)
  list-gives (e ∷ l) sticks =
      let here : Edge → ℕ = λ x. as_number (same_edge x e) in
      let after : Edge → ℕ = λ x. occurrences (walk_of L) x l in
      over-same (cell_gives (λ x. here x + after x)) (λ c r. cell_gives here c r + cell_gives after c r)
      (cell_columns L) (cell_rows L) (λ c r a b. omega arith)
      ∙ over_add (cell_gives here) (cell_gives after) (cell_columns L) (cell_rows L)
      ∙ omega (arith, stick-gives e (head-stick sound e l sticks), list-gives l (tail-sticks sound e l sticks))

-- what v gives for a step of the walk from a stick to the next, and for the step in a cell from a side, if there is one
module _ (L : Layer) (v : Edge → Edge → ℕ) where
  abbrev pub step : Edge → ℕ
  step e = v e (next L e)

  abbrev pub step_in : Passage → ℕ → ℕ → Side → ℕ
  unfolding xor
  step_in P c r s = let k : Corners = pattern P c r in as_number (enters_by k s) * v (edge_on c r s) (edge_on c r (partner k s))

module _ (L : Layer) (sound : Sound L) (P : Passage) (lawful : PassageLaws L P) (v : Edge → Edge → ℕ) where
  abbrev often : Edge → ℕ
  often e = occurrences (walk_of L) e P.sticks

  all-sticks : AllSticks L P.sticks
  all-sticks e o = both-sides (P.on e) (lawful.on_stick e) (λ n. absurd (omega (arith, lawful.often e, ap as_number n)))

  side-step : (c r : ℕ) → c + 1 < L.size.width → r + 1 < L.size.height → (s : Side)
      → step_in L v P c r s ≡ gives L sound (step L v) often c r s
  unfolding xor next
  side-step c r hc hr s =
      let e : Edge = edge_on c r s in
      let side = lawful.by_side c r hc hr s in
      both-sides (P.on e)
      (λ on. both-sides (inside_left (corners L c r) s)
      (λ left.
      let here = ahead-is sound (side_of c r s) (lawful.on_stick e on) left in
      let next-is : next L e ≡ edge_on c r (partner (pattern P c r) s) =
      ap (λ (q : CellSide). edge_of (link L q)) here ∙ ap (edge_on c r) (side.on_partner on) in
      rw (lawful.often e, on, next-is, side.on-left on, sym side.side_on ∙ on) (omega arith))
      (λ right. rw (← side.on-left on, right, sym side.side_on ∙ on) (omega arith)))
      (λ n. rw (lawful.often e, n, sym side.side_on ∙ n) (omega arith))

  -- the sum over all steps is that over the steps in each cell
  pub by-cells : over_cells L (λ c r. over_sides (step_in L v P c r)) ≡ total (step L v) P.sticks
  unfolding xor
  by-cells =
      over-same (λ c r. over_sides (step_in L v P c r)) (cell_gives L sound (step L v) often) (cell_columns L) (cell_rows L)
      (λ c r a b.
      let same : (s : Side) → step_in L v P c r s ≡ gives L sound (step L v) often c r s = side-step c r (omega arith) (omega arith) in
      omega (arith, same South, same East, same North, same West))
      ∙ list-gives L sound (step L v) P.sticks all-sticks
