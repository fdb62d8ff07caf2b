-- Every contour of a sound layer has a horizontal stick: going on through vertical sticks alone keeps the direction and moves one column
-- each time, and a row of the grid ends. Numbers of horizontal edges are lower, so first sticks are horizontal.
use mathlib.Core.Path.{◌≡◌, refl, ap, sym, ◌∙◌}
use mathlib.Core.Logic.{◌⊎◌, inl, inr}
use mathlib.Core.Bool.{Bool, true, false, true≢false, false≢true, cond, not}
use Prim.Native.Nat.{ℕ, zero, suc, ◌+◌, ◌-◌, ◌*◌, ◌≤◌, ◌<◌}
use native.Mathlib.Decide.{ℕ_discrete}
use native.Mathlib.Omega.{arith}
use Rattle.arith.proofs.Booleans.{both-sides}
use Rattle.grid.specs.Layer.{Layer}
use Rattle.grid.specs.Edges.{is_stick, number, kind_start, edge_columns, edge_rows}
use Rattle.grid.specs.Questions.{Sound}
use Rattle.grid.specs.declared.edge.Edge.{Edge}
use Rattle.grid.proofs.Numbers.{in-kind-below}
use Rattle.step.specs.Walk.{upward, behind, beside, next}
use Rattle.step.specs.declared.cell.CellSide.{CellSide}
use Rattle.step.specs.declared.cell.Side.TheVariants.{South, East, West}
use Rattle.step.proofs.Links.{same_side}
use Rattle.step.proofs.Walks.{inner-column, behind-next, next-stick, next-other}
use Rattle.contour.specs.Walk.{OnContour, first, ahead as stepped}
use Rattle.contour.specs.Contours.{walk_of}
use Rattle.contour.proofs.Orbit.{ahead-next, ahead-one}
use Rattle.contour.proofs.Members.{on-ahead, on_one}
use Rattle.contour.proofs.First.{first_one, first-low, low-le}
use Rattle.contour.proofs.Sticks.{laws, stick-in}

-- a vertical edge v c r on the side of the cell behind it that is not West has been crossed to the east, one column on
to-east : (v : Bool) (c r : ℕ) (up : Bool) (b : ℕ) → v ≡ true → 1 ≤ c
    → let q : CellSide = beside (record { vertical = v; column = c; row = r }) (not up) in
    q.column ≡ b → same_side q.side West ≡ false → (up ≡ true) × (c ≡ b + 1)
to-east true c r true b t l e d = (refl, omega arith)
to-east true c r false b t l e d = absurd (true≢false d)
to-east false c r up b t l e d = absurd (false≢true t)

to-west : (v : Bool) (c r : ℕ) (up : Bool) (b : ℕ) → v ≡ true
    → let q : CellSide = beside (record { vertical = v; column = c; row = r }) (not up) in
    q.column ≡ b → same_side q.side East ≡ false → (up ≡ false) × (c ≡ b)
to-west true c r true b t e d = absurd (true≢false d)
to-west true c r false b t e d = (refl, e)
to-west false c r up b t e d = absurd (false≢true t)

module _ (L : Layer) (sound : Sound L) where
  pub column_inner : (v : Bool) (c r : ℕ) → is_stick L (record { vertical = v; column = c; row = r }) ≡ true → v ≡ true
      → (1 ≤ c) × (c + 1 < L.size.width)
  column_inner true c r h t = inner-column L sound c r h
  column_inner false c r h t = absurd (false≢true t)

  -- a vertical stick whose successor is vertical too: the direction is kept, and the column is the next one that way
  module _ (v : Bool) (c r : ℕ) (stick : is_stick L (record { vertical = v; column = c; row = r }) ≡ true) (vertical : v ≡ true) where
    abbrev here : Edge
    here = record { vertical = v; column = c; row = r }

    abbrev there : Edge
    there = next L here

    there-stick : is_stick L there ≡ true
    there-stick = next-stick L sound here stick

    eastward : there.vertical ≡ true → upward L here ≡ true → (upward L there ≡ true) × (there.column ≡ c + 1)
    eastward t u =
        to-east there.vertical there.column there.row (upward L there) c t
        (column_inner there.vertical there.column there.row there-stick t).0
        (ap (λ (p : CellSide). p.column) (behind-next L sound here stick) ∙ ap (λ (b : Bool). (beside here b).column) u)
        (sym (ap (λ (b : Bool). same_side (behind L there).side (beside here b).side) u ∙ ap (λ (b : Bool). same_side (behind L there).side (cond b West South)) vertical)
        ∙ next-other L sound here stick)

    westward : there.vertical ≡ true → upward L here ≡ false → (upward L there ≡ false) × (there.column ≡ c - 1)
    westward t u =
        to-west there.vertical there.column there.row (upward L there) (c - 1) t
        (ap (λ (p : CellSide). p.column) (behind-next L sound here stick) ∙ ap (λ (b : Bool). (beside here b).column) u
        ∙ ap (λ (b : Bool). (beside (record { vertical = b; column = c; row = r }) false).column) vertical)
        (sym (ap (λ (b : Bool). same_side (behind L there).side (beside here b).side) u
        ∙ ap (λ (b : Bool). same_side (behind L there).side (beside (record { vertical = b; column = c; row = r }) false).side) vertical)
        ∙ next-other L sound here stick)

  module _ (e : Edge) (stick : is_stick L e ≡ true) where
    abbrev after : ℕ → Edge
    after k = stepped (walk_of L) k e

    after-stick : (k : ℕ) → is_stick L (after k) ≡ true
    after-stick k = ahead-one (walk_of L) (laws L sound) k e stick

    after_next : (k : ℕ) → after (suc k) ≡ next L (after k)
    unfolding stepped
    after_next k = ahead-next (walk_of L) k e

    -- k steps through vertical sticks alone
    far-east : (k : ℕ) → ((j : ℕ) → j ≤ k → (after j).vertical ≡ true) → upward L e ≡ true
        → (upward L (after k) ≡ true) × ((after k).column ≡ e.column + k)
    unfolding stepped
    far-east zero all u = (u, omega arith)
    far-east (suc k) all u =
        let before = far-east k (λ j h. all j (omega arith)) u in
        let a = after k in
        let step = eastward a.vertical a.column a.row (after-stick k) (all k (omega arith))
        (rw (after_next k) at (all (suc k) (omega arith))) before.0 in
        rw (after_next k) (step.0, omega arith)

    far-west : (k : ℕ) → ((j : ℕ) → j ≤ k → (after j).vertical ≡ true) → upward L e ≡ false
        → (upward L (after k) ≡ false) × ((after k).column + k ≡ e.column)
    unfolding stepped
    far-west zero all u = (u, omega arith)
    far-west (suc k) all u =
        let before = far-west k (λ j h. all j (omega arith)) u in
        let a = after k in
        let inner = column_inner a.vertical a.column a.row (after-stick k) (all k (omega arith)) in
        let step = westward a.vertical a.column a.row (after-stick k) (all k (omega arith))
        (rw (after_next k) at (all (suc k) (omega arith))) before.0 in
        rw (after_next k) (step.0, omega arith)

    -- so not all of the first W are vertical
    some-horizontal : ((j : ℕ) → j ≤ L.size.width → (after j).vertical ≡ true) → ⊥
    unfolding stepped
    some-horizontal all =
        let w : ℕ = L.size.width in
        let a = after w in
        let inner = column_inner a.vertical a.column a.row (after-stick w) (all w (omega arith)) in
        let first = column_inner e.vertical e.column e.row stick (all 0 (omega arith)) in
        both-sides (upward L e) (λ u. omega (arith, (far-east w all u).1)) (λ u. omega (arith, (far-west w all u).1))

    look : (n : ℕ) → ((k : ℕ) × ((after k).vertical ≡ false)) ⊎ ((j : ℕ) → j < n → (after j).vertical ≡ true)
    look zero = inr (λ j h. absurd (omega arith))
    look (suc n) = go (look n)
      where
        go : ((k : ℕ) × ((after k).vertical ≡ false)) ⊎ ((j : ℕ) → j < n → (after j).vertical ≡ true)
            → ((k : ℕ) × ((after k).vertical ≡ false)) ⊎ ((j : ℕ) → j < suc n → (after j).vertical ≡ true)
        go (inl found) = inl found
        go (inr all) = both-sides (after n).vertical
            (λ t. inr (λ j h. elim (ℕ_discrete j n) [ yes q ↦ rw q t | no d ↦ all j (omega arith) ]))
            (λ f. inl (n, f))

    pub has-horizontal : (h : Edge) × OnContour (walk_of L) e h × (h.vertical ≡ false)
    has-horizontal = elim (look (L.size.width + 1)) [
      | inl p ↦ (after p.0, on-ahead (walk_of L) (laws L sound) e p.0 stick, p.1)
      | inr all ↦ absurd (some-horizontal (λ j h. all j (omega arith)))
    ]

  -- the numbers of horizontal edges are below those of vertical ones
  pub horizontal-low : (e : Edge) → is_stick L e ≡ true → e.vertical ≡ false → number L.size e < kind_start L.size true
  unfolding number
  horizontal-low e h f = go e.vertical e.column e.row f (in-kind-below L.size sound.whole.sized e (stick-in L e h))
    where
      go : (v : Bool) (c r : ℕ) → v ≡ false → r * edge_columns L.size v + c < edge_rows L.size v * edge_columns L.size v
          → kind_start L.size v + (r * edge_columns L.size v + c) < kind_start L.size true
      go true c r f l = absurd (true≢false f)
      go false c r f l = omega arith

  vertical-high : (e : Edge) → e.vertical ≡ true → kind_start L.size true ≤ number L.size e
  unfolding number
  vertical-high e t = rw t (omega arith)

  pub first-horizontal : (e : Edge) → first (walk_of L) e ≡ true → e.vertical ≡ false
  first-horizontal e f =
      let law = laws L sound in
      let stick = first_one (walk_of L) law e f in
      let h = has-horizontal e stick in
      let low = low-le (walk_of L) law e h.0 h.1 in
      let below = horizontal-low h.0 (on_one (walk_of L) law e h.0 stick h.1) h.2 in
      both-sides e.vertical
      (λ t. absurd (omega (arith, first-low (walk_of L) law e f, vertical-high e t)))
      (λ v. v)
