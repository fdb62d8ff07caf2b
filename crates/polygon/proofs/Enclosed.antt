-- A polygon with a vertex on every stick of a contour encloses about a square for each sample that the contour is around, and the polygons of all
-- contours together enclose about a square for each inside sample: the bounds of one cell, summed over all cells. The edges of the polygon in the
-- cells are all of its edges, and what of the sides is enclosed cancels.
use mathlib.Core.Path.{◌≡◌, refl, sym, ◌∙◌, ap}
use mathlib.Core.Bool.{Bool, true, false, cond, xor}
use mathlib.Core.List.{List, [], ◌∷◌}
use Prim.Native.Nat.{ℕ, zero, suc, ◌+◌, ◌*◌, ◌<◌}
use native.Mathlib.Omega.{arith}
use lib.ListN.{length}
use Rattle.arith.specs.Finite.{sum, sum_over}
use Rattle.arith.specs.Levels.{total}
use Rattle.arith.proofs.Levels.{total-parts}
use Rattle.arith.proofs.Sums.{over-same, over_add}
use Rattle.grid.specs.Layer.{Layer}
use Rattle.grid.specs.Questions.{Sound}
use Rattle.grid.specs.declared.edge.Edge.{Edge}
use Rattle.step.specs.Cells.{edge_on}
use Rattle.step.specs.Walk.{next}
use Rattle.step.specs.declared.cell.Side.TheVariants.{South, East, North, West}
use Rattle.contour.specs.Walk.{first}
use Rattle.contour.specs.Contours.{walk_of, contour_of, first_sticks}
use Rattle.polygon.specs.Polygon.{x_at, y_at, enclosed, inside, Offsets, AllOffsets, Encloses, EnclosedBy, EnclosesInside}
use Rattle.polygon.proofs.CellSums.{links_in, corners_in, added_in, taken_in, more_in, less_in, CellBounds}
use Rattle.polygon.proofs.Cell.{cell-bounds}
use Rattle.polygon.proofs.Passages.{Passage, PassageLaws, pattern, enclosed_in, contour_passage, layer_passage}
use Rattle.polygon.proofs.Patterns.{contour-lawful, layer-lawful}
use Rattle.polygon.proofs.ByCells.{cell_columns, cell_rows, over_cells, by-cells}
use Rattle.polygon.proofs.Shared.{swept, corners-sum, east-west, north-south}

-- bounds add up
sum-bounds : (G : ℕ) (links corners more less : ℕ → ℕ) (n : ℕ)
    → ((k : ℕ) → k < n → CellBounds G (links k) (corners k) (more k) (less k))
    → CellBounds G (sum links n) (sum corners n) (sum more n) (sum less n)
unfolding sum
sum-bounds G links corners more less zero h = omega arith
sum-bounds G links corners more less (suc n) h =
    let before = sum-bounds G links corners more less n (λ k l. h k (omega arith)) in
    let last = h n (omega arith) in
    omega arith

grid-bounds : (G : ℕ) (links corners more less : ℕ → ℕ → ℕ) (m n : ℕ)
    → ((c r : ℕ) → c < m → r < n → CellBounds G (links c r) (corners c r) (more c r) (less c r))
    → CellBounds G (sum_over links m n) (sum_over corners m n) (sum_over more m n) (sum_over less m n)
grid-bounds G links corners more less m n h =
    sum-bounds G _ _ _ _ n
    (λ r b. sum-bounds G (λ c. links c r) (λ c. corners c r) (λ c. more c r) (λ c. less c r) m (λ c a. h c r a b))

-- the bounds of all cells together are the polygon's, with what is swept by the sides the same on both hands: x by the vertical ones, y by the others
bounds-enclose : (G : ℕ) {n n' corners N more more' less less' x x' y y' : ℕ} → CellBounds G n corners more less
    → n ≡ n' → corners ≡ 4 * N → more ≡ more' + x + y → less ≡ less' + x' + y' → x ≡ x' → y ≡ y' → Encloses G n' N more' less'
bounds-enclose G bounds en ec em el ex ey = omega (arith, ap (λ (i : ℕ). G * G * i) en, ap (λ (i : ℕ). G * G * i) ec)

-- a sum over the cells of one of two values, and of three values together
sum-either : (L : Layer) (b : Bool) (F E : ℕ → ℕ → ℕ) {f e : ℕ} → over_cells L F ≡ f → over_cells L E ≡ e
    → over_cells L (λ c r. cond b (F c r) (E c r)) ≡ cond b f e
sum-either L true F E hf he = hf
sum-either L false F E hf he = he

sum-three : (L : Layer) (F X Y : ℕ → ℕ → ℕ) {f : ℕ} → over_cells L F ≡ f
    → over_cells L (λ c r. F c r + X c r + Y c r) ≡ f + over_cells L X + over_cells L Y
sum-three L F X Y hf =
    over_add (λ c r. F c r + X c r) Y (cell_columns L) (cell_rows L) ∙ omega (arith, over_add F X (cell_columns L) (cell_rows L))

total-one : (l : List Edge) → total (λ e. 1) l ≡ length l
total-one [] = refl
total-one (e ∷ l) = omega (arith, total-one l)

-- of any passage
module _ (L : Layer) (sound : Sound L) (P : Passage) (lawful : PassageLaws L P) (G : ℕ) (o : Edge → ℕ)
    (within : (e : Edge) → P.on e ≡ true → (0 < o e) × (o e < G)) where
  abbrev adds : ℕ
  adds = total (λ e. x_at G o e * y_at G o (next L e)) P.sticks

  abbrev takes : ℕ
  takes = total (λ e. x_at G o (next L e) * y_at G o e) P.sticks

  added-sum : over_cells L (λ c r. added_in G o c r (pattern P c r)) ≡ adds
  unfolding xor
  added-sum = by-cells L sound P lawful (λ d e. x_at G o d * y_at G o e)

  taken-sum : over_cells L (λ c r. taken_in G o c r (pattern P c r)) ≡ takes
  unfolding xor
  taken-sum = by-cells L sound P lawful (λ d e. x_at G o e * y_at G o d)

  links-sum : over_cells L (λ c r. links_in (pattern P c r)) ≡ length P.sticks
  unfolding xor
  links-sum =
      over-same _ _ (cell_columns L) (cell_rows L) (λ c r a b. omega arith)
      ∙ by-cells L sound P lawful (λ d e. 1)
      ∙ total-one P.sticks

  passage-encloses : Encloses G (length P.sticks) (enclosed_in L P) (cond P.bore takes adds) (cond P.bore adds takes)
  unfolding xor
  passage-encloses =
      let added-in : ℕ → ℕ → ℕ = λ c r. added_in G o c r (pattern P c r) in
      let taken_in_lem : ℕ → ℕ → ℕ = λ c r. taken_in G o c r (pattern P c r) in
      bounds-enclose G
      (grid-bounds G
      (λ c r. links_in (pattern P c r))
      (λ c r. corners_in P.bore (pattern P c r))
      (λ c r. more_in G o c r (pattern P c r) P.bore)
      (λ c r. less_in G o c r (pattern P c r) P.bore)
      (cell_columns L) (cell_rows L)
      (λ c r a b. cell-bounds G o c r (pattern P c r) P.bore
      (λ s h. within (edge_on c r s) ((lawful.by_side c r (omega arith) (omega arith) s).side_on ∙ h))))
      links-sum
      (corners-sum L sound P lawful)
      (sum-three L _ (swept L P G o East) (swept L P G o North) (sum-either L P.bore taken_in_lem added-in taken-sum added-sum))
      (sum-three L _ (swept L P G o West) (swept L P G o South) (sum-either L P.bore added-in taken_in_lem added-sum taken-sum))
      (east-west L sound P lawful G o)
      (north-south L sound P lawful G o)

-- of one contour, and of all together
module _ (L : Layer) (sound : Sound L) where
  pub encloses : (f : Edge) → first (walk_of L) f ≡ true → (G : ℕ) (o : Edge → ℕ) → Offsets L G o f → EnclosedBy L G o f
  unfolding enclosed
  encloses f is-first = passage-encloses L sound (contour_passage L f) (contour-lawful sound f is-first)

  pub encloses-inside : (G : ℕ) (o : Edge → ℕ) → AllOffsets L G o → EnclosesInside L G o
  unfolding inside
  encloses-inside G o within =
      let all-added = total-parts (contour_of L) (λ e. x_at G o e * y_at G o (next L e)) (first_sticks L) in
      let all-taken = total-parts (contour_of L) (λ e. x_at G o (next L e) * y_at G o e) (first_sticks L) in
      rw (sym all-added, sym all-taken) (passage-encloses L sound (layer_passage L) (layer-lawful sound) G o within)
