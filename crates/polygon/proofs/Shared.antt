-- What neighbouring cells share, summed over all cells. The enclosed part of a side between two cells counts alike in both, so the eastern sides make
-- the same sum as the western ones, and the northern ones as the southern. Every enclosed sample is a corner of four cells. Nothing of the frame
-- is enclosed, as no sample of the border is.
use mathlib.Core.Path.{◌≡◌, refl, ◌∙◌, ap}
use mathlib.Core.Bool.{Bool, true, false, cond, not, xor}
use Prim.Native.Nat.{ℕ, ◌+◌, ◌*◌, ◌<◌}
use native.Mathlib.Omega.{arith}
use Rattle.arith.specs.Booleans.{as_number}
use Rattle.arith.specs.Finite.{sum}
use Rattle.arith.proofs.Finite.{sum_same, sum-add, sum-none}
use Rattle.arith.proofs.Sums.{sum_moved, sum-pairs, over-same}
use Rattle.grid.specs.Layer.{Layer}
use Rattle.grid.specs.Questions.{Sound, on_border}
use Rattle.grid.specs.declared.edge.Edge.{Edge}
use Rattle.grid.proofs.Borders as Borders
use Rattle.step.specs.declared.cell.Side.{Side}
use Rattle.step.specs.declared.cell.Side.TheVariants.{South, East, North, West}
use Rattle.polygon.proofs.CellSums.{is_enclosed, corners_in, part_of}
use Rattle.polygon.proofs.Passages.{Passage, PassageLaws, on_left, pattern, enclosed_in}
use Rattle.polygon.proofs.ByCells.{cell_columns, cell_rows, over_cells}

-- a corner is enclosed exactly if its sample is
corner-is : (bore b : Bool) → is_enclosed bore (cond bore (not b) b) ≡ b
corner-is true true = refl
corner-is true false = refl
corner-is false b = refl

-- a side with neither end enclosed has no enclosed part
part_none : (bore a b : Bool) (x y z : ℕ) → a ≡ false → b ≡ false
    → let left : Bool → Bool = λ t. cond bore (not t) t in
    cond (xor (left a) (left b)) (cond (is_enclosed bore (left a)) x y) (cond (is_enclosed bore (left a)) z 0) ≡ 0
unfolding xor
part_none true a b x y z ea eb = rw (ea, eb)
part_none false a b x y z ea eb = rw (ea, eb)

module _ (L : Layer) (P : Passage) where
  -- of a sample, and of it and the next in its row, how many are enclosed; and how many of all samples of a row, and of all such pairs
  abbrev one : ℕ → ℕ → ℕ
  one c r = as_number (P.enclosed_at c r)

  abbrev two : ℕ → ℕ → ℕ
  two c r = one c r + one (c + 1) r

  abbrev one_in_row : ℕ → ℕ
  one_in_row r = sum (λ c. one c r) L.size.width

  abbrev two_in_row : ℕ → ℕ
  two_in_row r = sum (λ c. two c r) (cell_columns L)

  -- the area between the enclosed part of a side and the axis that it runs along
  abbrev pub swept : ℕ → (Edge → ℕ) → Side → ℕ → ℕ → ℕ
  unfolding xor
  swept G o South c r = G * r * part_of G o c r (pattern P c r) P.bore South
  swept G o East c r = G * (c + 1) * part_of G o c r (pattern P c r) P.bore East
  swept G o North c r = G * (r + 1) * part_of G o c r (pattern P c r) P.bore North
  swept G o West c r = G * c * part_of G o c r (pattern P c r) P.bore West

module _ (L : Layer) (sound : Sound L) (P : Passage) (lawful : PassageLaws L P) where
  -- Corners

  module _ (r : ℕ) (hr : r < L.size.height) where
    border-one : (c : ℕ) → c < L.size.width → on_border L c r ≡ true → one L P c r ≡ 0
    border-one c hc b = ap as_number (lawful.border c r hc hr b)

    row-pairs : two_in_row L P r ≡ one_in_row L P r + one_in_row L P r
    row-pairs =
        let sized = sound.whole.sized in
        let last : ℕ = cell_columns L in
        let all : sum (λ c. one L P c r) (last + 1) ≡ one_in_row L P r = ap (sum (λ c. one L P c r)) (omega arith) in
        sum-pairs (λ c. one L P c r) last
        (border-one 0 (omega arith) (Borders.west L 0 r refl)) (border-one last (omega arith) (Borders.east L last r refl))
        ∙ omega arith

    border-pairs : ((c : ℕ) → on_border L c r ≡ true) → two_in_row L P r ≡ 0
    border-pairs b = omega (arith, row-pairs, sum-none (λ c. one L P c r) L.size.width (λ c hc. border-one c hc (b c)))

  pub corners-sum : over_cells L (λ c r. corners_in P.bore (pattern P c r)) ≡ 4 * enclosed_in L P
  corners-sum =
      let sized = sound.whole.sized in
      let last : ℕ = cell_rows L in
      let pairs : ℕ → ℕ = two_in_row L P in
      let is : (c r : ℕ) → as_number (is_enclosed P.bore (on_left P c r)) ≡ one L P c r =
      λ c r. ap as_number (corner-is P.bore (P.enclosed_at c r)) in
      let all : sum pairs (last + 1) ≡ sum pairs L.size.height = ap (sum pairs) (omega arith) in
      over-same _ (λ c r. two L P c r + two L P c (r + 1)) (cell_columns L) last
      (λ c r a b. omega (arith, is c r, is (c + 1) r, is c (r + 1), is (c + 1) (r + 1)))
      ∙ sum_same _ (λ r. pairs r + pairs (r + 1)) last (λ r b. sum-add (λ c. two L P c r) (λ c. two L P c (r + 1)) (cell_columns L))
      ∙ sum-pairs pairs last
      (border-pairs 0 (omega arith) (λ c. Borders.bottom L c 0 refl)) (border-pairs last (omega arith) (λ c. Borders.top L c last refl))
      ∙ omega (
        arith,
        all,
        sum_same pairs (λ r. one_in_row L P r + one_in_row L P r) L.size.height row-pairs,
        sum-add (one_in_row L P) (one_in_row L P) L.size.height,
      )

  -- Sides

  module _ (G : ℕ) (o : Edge → ℕ) where
    -- nothing is swept by a side with both ends on the border
    border-side : (i c r d q x y : ℕ) → (c < L.size.width) × (d < L.size.width) → (r < L.size.height) × (q < L.size.height)
        → on_border L c r ≡ true → on_border L d q ≡ true
        → let enclosed-start = is_enclosed P.bore (on_left P c r) in
        G * i * cond (xor (on_left P c r) (on_left P d q)) (cond enclosed-start x y) (cond enclosed-start G 0) ≡ 0
    unfolding xor
    border-side i c r d q x y inner-columns inner-rows b b' =
        rw (part_none P.bore (P.enclosed_at c r) (P.enclosed_at d q) x y G
        (lawful.border c r inner-columns.0 inner-rows.0 b) (lawful.border d q inner-columns.1 inner-rows.1 b'))
        (omega arith)

    pub east-west : over_cells L (swept L P G o East) ≡ over_cells L (swept L P G o West)
    unfolding xor
    east-west =
        let sized = sound.whole.sized in
        let last : ℕ = cell_columns L in
        sum_same _ _ (cell_rows L) (λ r b. sum_moved (λ c. swept L P G o West c r) last (omega arith)
        (border-side last last r last (r + 1) _ _ (omega arith) (omega arith) (Borders.east L last r refl) (Borders.east L last (r + 1) refl)))

    pub north-south : over_cells L (swept L P G o North) ≡ over_cells L (swept L P G o South)
    unfolding xor
    north-south =
        let sized = sound.whole.sized in
        let last : ℕ = cell_rows L in
        sum_moved (λ r. sum (λ c. swept L P G o South c r) (cell_columns L)) last
        (sum-none _ (cell_columns L) (λ c a. omega arith))
        (sum-none _ (cell_columns L) (λ c a.
        border-side last c last (c + 1) last _ _ (omega arith) (omega arith) (Borders.top L c last refl) (Borders.top L (c + 1) last refl)))
