-- Successor and predecessor on a layer that passes questions 1 to 4: both lead from stick to stick within the grid, each undoes the other,
-- and successive sticks are two different sides of one cell, which the walk enters by the first and leaves by the second.
use mathlib.Core.Path.{◌≡◌, refl, ap, sym, subst, ◌∙◌}
use mathlib.Core.Bool.{Bool, true, false, false≢true, cond, not, xor, ◌&&◌, beq}
use Prim.Native.Nat.{ℕ, ◌+◌, ◌-◌, ◌≤◌, ◌<◌}
use native.Mathlib.Decide.{ℕ_discrete}
use native.Mathlib.Omega.{arith}
use Rattle.arith.proofs.Booleans.{and_split, beq-yes, beq-no, beq-self}
use Rattle.grid.specs.Layer.{Layer, sample}
use Rattle.grid.specs.Edges.{is_stick, in_grid, first_end, second_end}
use Rattle.grid.specs.Questions.{Sound, on_border}
use Rattle.grid.specs.declared.edge.Edge.{Edge}
use Rattle.grid.proofs.Borders.{west, east, bottom, top}
use Rattle.grid.proofs.Numbers.{WithinGrid, within, in-grid}
use Rattle.step.specs.Cells.{corners, cut, link, edge_of}
use Rattle.step.specs.Walk.{upward, beside, ahead, behind, next, prev}
use Rattle.step.specs.Turns.{inside_left, near_by, Entered, leaving}
use Rattle.step.specs.declared.cell.CellSide.{CellSide}
use Rattle.step.specs.declared.cell.Side.{Side}
use Rattle.step.specs.declared.cell.Side.TheVariants.{South, East, North, West}
use Rattle.step.proofs.Links.{same_side, partner-partner, partner-cut, partner-other, partner-turns, near-stick}

-- a cell whose four samples are in the grid
pub record InGrid (L : Layer) (p : CellSide) : Type 0 where
  pub column_inner : p.column + 1 < L.size.width
  pub row_inner : p.row + 1 < L.size.height

-- the cell is entered by this side, with inside on the left or not, and left at stick f
pub record CrossesCell (L : Layer) (p : CellSide) (inside : Bool) (f : Edge) : Type 0 where
  pub enters : Entered L p.column p.row p.side inside
  pub leaves : leaving L p.column p.row p.side ≡ f

-- the cell lies on the upper side of its south and its west side
abbrev pub is_upper : Side → Bool
is_upper South = true
is_upper East = false
is_upper North = false
is_upper West = true

and-false : (a b : Bool) → (a && b) ≡ false → a ≡ true → b ≡ false
and-false true b e t = e
and-false false b e t = absurd (false≢true t)

same_ends : (a b : Bool) → a ≡ false → b ≡ false → xor a b ≡ true → ⊥
unfolding xor
same_ends true b ea eb h = false≢true (sym ea)
same_ends false true ea eb h = false≢true (sym eb)
same_ends false false ea eb h = false≢true h

pub xor-not : (a b : Bool) → xor a b ≡ true → b ≡ not a
unfolding xor
xor-not true true h = absurd (false≢true h)
xor-not true false h = refl
xor-not false true h = refl
xor-not false false h = absurd (false≢true h)

beq-true : (a : Bool) → beq a true ≡ a
beq-true true = refl
beq-true false = refl

beq-false : (a : Bool) → beq a false ≡ not a
beq-false true = refl
beq-false false = refl

not-beq : (a : Bool) → a ≡ beq (not a) false
not-beq true = refl
not-beq false = refl

beq-other : (a : Bool) → beq a (not a) ≡ false
beq-other true = refl
beq-other false = refl

add-sub : (n : ℕ) → n + 1 - 1 ≡ n
add-sub n = omega arith

module _ (L : Layer) (sound : Sound L) where
  abbrev edge : Bool → ℕ → ℕ → Edge
  edge v c r = record { vertical = v; column = c; row = r }

  pub stick-within : (e : Edge) → is_stick L e ≡ true → WithinGrid L.size e
  unfolding is_stick
  stick-within e h = within L.size e (and_split (in_grid L.size e) (xor (first_end L e) (second_end L e)) h).0

  pub stick-differs : (e : Edge) → is_stick L e ≡ true → xor (first_end L e) (second_end L e) ≡ true
  unfolding is_stick
  stick-differs e h = (and_split (in_grid L.size e) (xor (first_end L e) (second_end L e)) h).1

  outside : (c r : ℕ) → c < L.size.width → r < L.size.height → on_border L c r ≡ true → sample L c r ≡ false
  outside c r hc hr b = and-false (on_border L c r) (sample L c r) (sound.border c r hc hr) b

  -- a stick does not lie along the border
  pub inner-row : (c r : ℕ) → is_stick L (edge false c r) ≡ true → (1 ≤ r) × (r + 1 < L.size.height)
  inner-row c r h =
      let w = stick-within (edge false c r) h in
      let both : (on_border L c r ≡ true → on_border L (c + 1) r ≡ true → ⊥) =
      λ a b. same_ends (sample L c r) (sample L (c + 1) r)
      (outside c r (omega arith) w.row_below a) (outside (c + 1) r (omega arith) w.row_below b)
      (stick-differs (edge false c r) h) in (
        elim (ℕ_discrete r 0) [ yes e ↦ absurd (both (bottom L c r e) (bottom L (c + 1) r e)) | no n ↦ omega arith ],
        elim (ℕ_discrete r (L.size.height - 1)) [ yes e ↦ absurd (both (top L c r e) (top L (c + 1) r e)) | no n ↦ omega arith ],
      )

  pub inner-column : (c r : ℕ) → is_stick L (edge true c r) ≡ true → (1 ≤ c) × (c + 1 < L.size.width)
  inner-column c r h =
      let w = stick-within (edge true c r) h in
      let both : (on_border L c r ≡ true → on_border L c (r + 1) ≡ true → ⊥) =
      λ a b. same_ends (sample L c r) (sample L c (r + 1))
      (outside c r w.column_below (omega arith) a) (outside c (r + 1) w.column_below (omega arith) b)
      (stick-differs (edge true c r) h) in (
        elim (ℕ_discrete c 0) [ yes e ↦ absurd (both (west L c r e) (west L c (r + 1) e)) | no n ↦ omega arith ],
        elim (ℕ_discrete c (L.size.width - 1)) [ yes e ↦ absurd (both (east L c r e) (east L c (r + 1) e)) | no n ↦ omega arith ],
      )

  pub stick-sample : (v : Bool) (c r : ℕ) → is_stick L (edge v c r) ≡ true → (c < L.size.width) × (r < L.size.height)
  stick-sample true c r h = omega (arith, stick-within (edge true c r) h)
  stick-sample false c r h = omega (arith, stick-within (edge false c r) h)

  pub stick-low : (v : Bool) (c r : ℕ) → is_stick L (edge v c r) ≡ true → 1 ≤ cond v c r
  stick-low true c r h = (inner-column c r h).0
  stick-low false c r h = (inner-row c r h).0

  -- a stick has a cell on both sides, and is a side of each
  pub cell-beside : (v : Bool) (c r : ℕ) → is_stick L (edge v c r) ≡ true → (upper : Bool) → InGrid L (beside (edge v c r) upper)
  cell-beside true c r h true = omega (arith, stick-within (edge true c r) h, inner-column c r h)
  cell-beside true c r h false = omega (arith, stick-within (edge true c r) h, inner-column c r h)
  cell-beside false c r h true = omega (arith, stick-within (edge false c r) h, inner-row c r h)
  cell-beside false c r h false = omega (arith, stick-within (edge false c r) h, inner-row c r h)

  sub-add : (n : ℕ) → 1 ≤ n → n - 1 + 1 ≡ n
  sub-add n h = omega arith

  pub edge_of-beside : (v : Bool) (c r : ℕ) → is_stick L (edge v c r) ≡ true → (upper : Bool) → edge_of (beside (edge v c r) upper) ≡ edge v c r
  edge_of-beside true c r h true = refl
  edge_of-beside true c r h false = ap (λ (n : ℕ). edge true n r) (sub-add c (inner-column c r h).0)
  edge_of-beside false c r h true = refl
  edge_of-beside false c r h false = ap (edge false c) (sub-add r (inner-row c r h).0)

  -- inside is on the left of who enters a cell by a stick exactly where the contour does
  pub left_is : (v : Bool) (c r : ℕ) → is_stick L (edge v c r) ≡ true → (upper : Bool)
      → let p : CellSide = beside (edge v c r) upper in
      inside_left (corners L p.column p.row) p.side ≡ beq (upward L (edge v c r)) upper
  left_is true c r h true = xor-not (sample L c r) (sample L c (r + 1)) (stick-differs (edge true c r) h) ∙ sym (beq-true (not (sample L c r)))
  left_is true c r h false = rw (sub-add c (inner-column c r h).0) (not-beq (sample L c r))
  left_is false c r h true = sym (beq-true (sample L c r))
  left_is false c r h false =
      rw (sub-add r (inner-row c r h).0) (xor-not (sample L c r) (sample L (c + 1) r) (stick-differs (edge false c r) h) ∙ sym (beq-false (sample L c r)))

  -- a side of a cell in the grid is a stick where its corners differ
  pub stick-cut : (p : CellSide) → InGrid L p → is_stick L (edge_of p) ≡ cut (corners L p.column p.row) p.side
  unfolding is_stick xor
  stick-cut p g = go p.column p.row p.side g
    where
      go : (c r : ℕ) (s : Side) → InGrid L (record { column = c; row = r; side = s })
          → is_stick L (edge_of (record { column = c; row = r; side = s })) ≡ cut (corners L c r) s
      go c r South g = rw (in-grid L.size (edge false c r) (omega arith))
      go c r East g = rw (in-grid L.size (edge true (c + 1) r) (omega arith))
      go c r North g = rw (in-grid L.size (edge false c (r + 1)) (omega arith))
      go c r West g = rw (in-grid L.size (edge true c r) (omega arith))

  pub beside-edge_of : (p : CellSide) → beside (edge_of p) (is_upper p.side) ≡ p
  beside-edge_of p = go p.column p.row p.side
    where
      go : (c r : ℕ) (s : Side)
          → let p : CellSide = record { column = c; row = r; side = s } in beside (edge_of p) (is_upper s) ≡ p
      go c r South = refl
      go c r East = rw (add-sub c)
      go c r North = rw (add-sub r)
      go c r West = refl

  -- From a stick, across the cell on one side of it: the link leads to a stick, and if the contour enters the cell by the one it leaves
  -- the cell by the other.
  module _ (e : Edge) (stick : is_stick L e ≡ true) (upper : Bool) where
    abbrev here : CellSide
    here = beside e upper

    abbrev there : CellSide
    there = link L here

    here_in : InGrid L here
    here_in = cell-beside e.vertical e.column e.row stick upper

    here-cut : cut (corners L here.column here.row) here.side ≡ true
    here-cut =
        sym (stick-cut here here_in)
        ∙ ap (is_stick L) (edge_of-beside e.vertical e.column e.row stick upper)
        ∙ stick

    here-crosses : CrossesCell L here (beq (upward L e) upper) (edge_of there)
    here-crosses = record {
      enters = record {
        whole = sound.whole;
        column_inner = here_in.column_inner;
        row_inner = here_in.row_inner;
        counted =
            near-stick (corners L here.column here.row) here.side here-cut
            ∙ ap (λ (b : Bool). near_by b here.side) (left_is e.vertical e.column e.row stick upper);
      };
      leaves = refl;
    }

    pub there-stick : is_stick L (edge_of there) ≡ true
    there-stick =
        stick-cut there (record { column_inner = here_in.column_inner; row_inner = here_in.row_inner })
        ∙ partner-cut (corners L here.column here.row) here.side
        ∙ here-cut

    pub there-other : same_side there.side here.side ≡ false
    there-other = partner-other (corners L here.column here.row) here.side ∙ ap not here-cut

    pub back : edge_of (link L there) ≡ e
    back =
        ap (λ (s : Side). edge_of (record { column = here.column; row = here.row; side = s }))
        (partner-partner (corners L here.column here.row) here.side)
        ∙ edge_of-beside e.vertical e.column e.row stick upper

    turned : beq (upward L (edge_of there)) (is_upper there.side) ≡ not (beq (upward L e) upper)
    turned =
        sym (subst
        (λ (p : CellSide). inside_left (corners L p.column p.row) p.side ≡ beq (upward L (edge_of there)) (is_upper there.side))
        (beside-edge_of there)
        (left_is (edge_of there).vertical (edge_of there).column (edge_of there).row there-stick (is_upper there.side)))
        ∙ partner-turns (corners L here.column here.row) here.side here-cut
        ∙ ap not (left_is e.vertical e.column e.row stick upper)

  -- across the cell on the upper or the lower side, by the kind of the stick
  crossings : (e : Edge) → is_stick L e ≡ true → (upper inside : Bool) (f : Edge) → CrossesCell L (beside e upper) inside f
      → (v : Bool) → e.vertical ≡ v → CrossesCell L (beside (edge v e.column e.row) upper) inside f
  crossings e stick upper inside f here v kind =
      subst (λ (w : Bool). CrossesCell L (beside (edge w e.column e.row) upper) inside f) kind here

  -- the walk enters the cell ahead with inside on the left and leaves it at the next stick; the walk back enters the cell behind with inside
  -- on the right and leaves it at the previous one
  pub crosses-ahead : (e : Edge) → is_stick L e ≡ true → (v upper : Bool) → e.vertical ≡ v → upper ≡ upward L e
      → CrossesCell L (beside (edge v e.column e.row) upper) true (next L e)
  unfolding next
  crosses-ahead e stick v upper kind u =
      crossings e stick upper true (next L e)
      (subst (λ (b : Bool). CrossesCell L (beside e b) true (next L e)) (sym u)
      (subst (λ (b : Bool). CrossesCell L (ahead L e) b (next L e)) (beq-self (upward L e)) (here-crosses e stick (upward L e)))) v kind

  pub crosses-behind : (e : Edge) → is_stick L e ≡ true → (v upper : Bool) → e.vertical ≡ v → upper ≡ upward L e
      → CrossesCell L (beside (edge v e.column e.row) (not upper)) false (prev L e)
  unfolding prev
  crosses-behind e stick v upper kind u =
      crossings e stick (not upper) false (prev L e)
      (subst (λ (b : Bool). CrossesCell L (beside e (not b)) false (prev L e)) (sym u)
      (subst (λ (b : Bool). CrossesCell L (behind L e) b (prev L e)) (beq-other (upward L e)) (here-crosses e stick (not (upward L e))))) v kind

  -- the cell that the walk entered at a stick is the one that it leaves at the next, and the other way round
  pub behind-next : (e : Edge) → is_stick L e ≡ true → behind L (next L e) ≡ link L (ahead L e)
  unfolding next
  behind-next e stick =
      let q = link L (ahead L e) in
      ap (beside (edge_of q)) (beq-no (upward L (edge_of q)) (is_upper q.side) (turned e stick (upward L e) ∙ ap not (beq-self (upward L e))))
      ∙ beside-edge_of q

  pub ahead-prev : (e : Edge) → is_stick L e ≡ true → ahead L (prev L e) ≡ link L (behind L e)
  unfolding prev
  ahead-prev e stick =
      let q = link L (behind L e) in
      ap (beside (edge_of q)) (beq-yes (upward L (edge_of q)) (is_upper q.side) (turned e stick (not (upward L e)) ∙ ap not (beq-other (upward L e))))
      ∙ beside-edge_of q

  -- the successor and the predecessor of a stick are sticks
  pub next-stick : (e : Edge) → is_stick L e ≡ true → is_stick L (next L e) ≡ true
  unfolding next
  next-stick e stick = there-stick e stick (upward L e)

  pub prev-stick : (e : Edge) → is_stick L e ≡ true → is_stick L (prev L e) ≡ true
  unfolding prev
  prev-stick e stick = there-stick e stick (not (upward L e))

  -- each undoes the other
  pub prev_next : (e : Edge) → is_stick L e ≡ true → prev L (next L e) ≡ e
  unfolding prev
  prev_next e stick = ap (λ (p : CellSide). edge_of (link L p)) (behind-next e stick) ∙ back e stick (upward L e)

  pub next_prev : (e : Edge) → is_stick L e ≡ true → next L (prev L e) ≡ e
  unfolding next
  next_prev e stick = ap (λ (p : CellSide). edge_of (link L p)) (ahead-prev e stick) ∙ back e stick (not (upward L e))

  -- and a stick and the next are two different sides of the cell between them
  pub next-other : (e : Edge) → is_stick L e ≡ true → same_side (behind L (next L e)).side (ahead L e).side ≡ false
  next-other e stick =
      ap (λ (p : CellSide). same_side p.side (ahead L e).side) (behind-next e stick) ∙ there-other e stick (upward L e)
