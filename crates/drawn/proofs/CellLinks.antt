-- The points of a link, that is of a stick and the next one: a mean, with both weights above 0, of a point strictly inside the one and a point
-- strictly inside the other. It lies strictly inside the cell between the two. No point lies in two links.
use mathlib.Core.Path.{◌≡◌, refl, ap, sym, subst, ◌∙◌}
use mathlib.Core.Logic.{◌≢◌}
use mathlib.Core.Bool.{Bool, true, false, true≢false, not, xor, ◌&&◌, ◌||◌}
use Prim.Native.Nat.{ℕ}
use lib.Dec.{T, eqb_refl}
use Rattle.arith.proofs.Booleans.{both-sides, T_true, and_T, implied, beq-self}
use Rattle.grid.specs.Layer.{Layer}
use Rattle.grid.specs.Edges.{is_stick}
use Rattle.grid.specs.Questions.{Sound}
use Rattle.grid.specs.declared.edge.Edge.{Edge}
use Rattle.step.specs.Cells.{Corners, corners, cut, partner, link, edge_on, edge_of, side_index}
use Rattle.step.specs.Walk.{upward, ahead, next}
use Rattle.step.specs.Turns.{inside_left}
use Rattle.step.specs.declared.cell.CellSide.{CellSide}
use Rattle.step.specs.declared.cell.Side.{Side}
use Rattle.step.specs.declared.cell.Side.TheVariants.{South, East, North, West}
use Rattle.step.proofs.Links.{at, same_side, same-side}
use Rattle.step.proofs.Walks.{edge_of-beside, left_is, stick-cut, cell-beside, next-other, behind-next}
use Rattle.chord.proofs.Homogeneous.{Homogeneous}
use Rattle.chord.proofs.EdgePoints.{Within}
use Rattle.chord.proofs.Order.{Inner}
use Rattle.chord.proofs.Cells.{InCell, in_cell, Corner, SouthWest, SouthEast, NorthWest, NorthEast, touches, Half, in-half}
use Rattle.chord.proofs.Regions.{cells-apart, opposite, halves-apart}

-- the corner on the left of a walk that enters a cell by a side
abbrev left_corner : Side → Corner
left_corner South = SouthWest
left_corner East = SouthEast
left_corner North = NorthEast
left_corner West = NorthWest

-- the walk enters a cell by a side that is cut and has inside on its left
abbrev entered : Corners → Side → Bool
entered k s = cut k s && inside_left k s

-- if a cell is entered by two sides, the link from the one cuts off the corner on its left, and that from the other the opposite one
abbrev cut_off : Side → Corners → Side → Bool
cut_off s' k s =
    not (entered k s && entered k s' && not (same_side s s'))
    || (touches (left_corner s) s && touches (left_corner s) (partner k s)
    && touches (opposite (left_corner s)) s' && touches (opposite (left_corner s)) (partner k s'))

cut_off_lem : (s' : Side) (k : Corners) (s : Side) → T (cut_off s' k s)
unfolding xor
cut_off_lem South k s = at (cut_off South) tt k s
cut_off_lem East k s = at (cut_off East) tt k s
cut_off_lem North k s = at (cut_off North) tt k s
cut_off_lem West k s = at (cut_off West) tt k s

four : (a b c d : Bool) → T (a && b && c && d) → T a × T b × T c × T d
four a b c d t =
    let x = and_T (a && b && c) d t in
    let y = and_T (a && b) c x.0 in
    let z = and_T a b y.0 in
    (z.0, z.1, y.1, x.1)

sides-differ : (s t : Side) → same_side s t ≡ false → t ≢ s
sides-differ s t f e = true≢false (sym (T_true (same_side s t) (subst (λ (u : Side). T (same_side s u)) (sym e) (eqb_refl (side_index s)))) ∙ f)

module _ (L : Layer) where
  -- the cell that the walk enters at a stick
  abbrev pub entering : Edge → CellSide
  entering e = ahead L e

  abbrev pub leaving : Edge → CellSide
  leaving e = link L (ahead L e)

  -- the point h lies in the link from e to the next stick
  pub record InLink (e : Edge) (h : Homogeneous) : Type 0 where
    pub in-its-cell : InCell (entering e).column (entering e).row h
    pub in-its-half : (k : Corner) → T (touches k (entering e).side) → T (touches k (leaving e).side)
        → Half k (entering e).column (entering e).row h

module _ (L : Layer) (sound : Sound L) where
  module _ (e : Edge) (stick : is_stick L e ≡ true) where
    pub as-entered : edge_of (entering L e) ≡ e
    as-entered = edge_of-beside L sound e.vertical e.column e.row stick (upward L e)

    pub as-left : edge_of (leaving L e) ≡ next L e
    unfolding next
    as-left = refl

    pub other-side : (entering L e).side ≢ (leaving L e).side
    other-side =
        sides-differ (leaving L e).side (entering L e).side
        (subst (λ (p : CellSide). same_side p.side (entering L e).side ≡ false) (behind-next L sound e stick) (next-other L sound e stick))

    is-entered : entered (corners L (entering L e).column (entering L e).row) (entering L e).side ≡ true
    is-entered =
        rw (
          sym (stick-cut L sound (entering L e) (cell-beside L sound e.vertical e.column e.row stick (upward L e)))
              ∙ ap (is_stick L) as-entered ∙ stick,
          left_is L sound e.vertical e.column e.row stick (upward L e) ∙ beq-self (upward L e),
        )

    pub in-link : {h₁ h₂ h : Homogeneous} → Within e h₁ → Within (next L e) h₂ → Inner h₁ h₂ h → InLink L e h
    in-link {h₁} {h₂} v w i =
        let c = (entering L e).column in
        let r = (entering L e).row in
        let v' : Within (edge_on c r (entering L e).side) h₁ = subst (λ (u : Edge). Within u h₁) (sym as-entered) v in
        let w' : Within (edge_on c r (leaving L e).side) h₂ = subst (λ (u : Edge). Within u h₂) (sym as-left) w in
        record {
          in-its-cell = in_cell c r (entering L e).side (leaving L e).side other-side v' w' i;
          in-its-half = λ k a b. in-half c r i k (entering L e).side (leaving L e).side a b v' w';
        }

  -- no point lies in two links
  in-one-cell : (c r : ℕ) (s s' : Side) (h : Homogeneous)
      → entered (corners L c r) s ≡ true → entered (corners L c r) s' ≡ true
      → ((k : Corner) → T (touches k s) → T (touches k (partner (corners L c r) s)) → Half k c r h)
      → ((k : Corner) → T (touches k s') → T (touches k (partner (corners L c r) s')) → Half k c r h)
      → s ≡ s'
  in-one-cell c r s s' h en en' half half' =
      both-sides (same_side s s') (λ y. same-side s s' (rw y tt)) (λ n. absurd (apart n))
    where
      k : Corners
      k = corners L c r

      apart : same_side s s' ≡ false → ⊥
      apart n =
          let two : (entered k s && entered k s' && not (same_side s s')) ≡ true = rw (en, en', n) in
          let c₁ = left_corner s in
          let c₂ = opposite (left_corner s) in
          let all = four (touches c₁ s) (touches c₁ (partner k s)) (touches c₂ s') (touches c₂ (partner k s'))
          (implied (entered k s && entered k s' && not (same_side s s'))
          (touches c₁ s && touches c₁ (partner k s) && touches c₂ s' && touches c₂ (partner k s')) (cut_off_lem s' k s) two) in
          halves-apart c₁ c r h (half c₁ all.0 all.1) (half' c₂ all.2 all.3)

  pub links-apart : {h : Homogeneous} (e f : Edge) → is_stick L e ≡ true → is_stick L f ≡ true → InLink L e h → InLink L f h → e ≡ f
  links-apart {h} e f he hf i j =
      let same = cells-apart i.in-its-cell j.in-its-cell in
      sym (as-entered e he)
      ∙ go (entering L e).column (entering L e).row (entering L f).column (entering L f).row
      (entering L e).side (entering L f).side same.0 same.1
      (is-entered e he) (is-entered f hf) i.in-its-half j.in-its-half
      ∙ as-entered f hf
    where
      go : (c r c' r' : ℕ) (s s' : Side) → c ≡ c' → r ≡ r'
          → entered (corners L c r) s ≡ true → entered (corners L c' r') s' ≡ true
          → ((k : Corner) → T (touches k s) → T (touches k (partner (corners L c r) s)) → Half k c r h)
          → ((k : Corner) → T (touches k s') → T (touches k (partner (corners L c' r') s')) → Half k c' r' h)
          → edge_on c r s ≡ edge_on c' r' s'
      go c r c' r' s s' ec er en en' half half' =
          let en'' : entered (corners L c r) s' ≡ true = rw (ec, er) en' in
          let half'' : ((k : Corner) → T (touches k s') → T (touches k (partner (corners L c r) s')) → Half k c r h) = rw (ec, er) half' in
          let es = in-one-cell c r s s' h en en'' half half'' in
          λ i. edge_on (ec i) (er i) (es i)
