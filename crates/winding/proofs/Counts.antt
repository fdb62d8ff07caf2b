-- How many contours are around a sample: none on the border, one more or one less across a stick, and as many across any other edge. So along a
-- row that number can be kept, at a first stick it is the depth of its contour, and it stays below 512.
use mathlib.Core.Path.{◌≡◌, refl, sym, ap}
use mathlib.Core.Bool.{Bool, true, false, not, cond, ◌&&◌}
use Prim.Native.Nat.{ℕ, zero, suc, ◌+◌, ◌-◌, ◌≤◌, ◌<◌}
use native.Mathlib.Numerals.{add-one}
use native.Mathlib.Omega.{arith}
use lib.Dec.{ltb}
use lib.IntN.{ℤ, pos, negsuc, nat_abs}
use Rattle.arith.specs.Booleans.{as_number}
use Rattle.arith.specs.Lists.{among}
use Rattle.arith.proofs.Booleans.{both-sides}
use Rattle.grid.specs.Layer.{Layer, sample}
use Rattle.grid.specs.Edges.{is_stick}
use Rattle.grid.specs.Questions.{Sound, on_border}
use Rattle.grid.specs.declared.edge.Edge.{Edge}
use Rattle.grid.proofs.Borders as Borders
use Rattle.step.proofs.Walks.{stick-sample}
use Rattle.contour.specs.Walk.{first}
use Rattle.contour.specs.Contours.{walk_of, same_edge}
use Rattle.contour.proofs.Sticks.{laws, same-edge}
use Rattle.winding.specs.Turns.{is_on, east, turns, around, is_bore, first_of, on_bore, contours_around, depth}
use Rattle.winding.proofs.Contours.{first-stick, on-first_of, first_of-first}
use Rattle.winding.proofs.Border.{border}
use Rattle.winding.proofs.Values.{west-none, inside-value, outside-value}
use Rattle.winding.proofs.Firsts.{firsts-induct, among_same, among-more}
use Rattle.winding.proofs.Together.{same-across, other-across}

-- the test by which `around` tells whether there are turns
abbrev pub any_turns : ℤ → Bool
any_turns z = ltb 0 (nat_abs z)

-- The turns x and y around the first and the second end of a stick of the contour, given those of the inside and the outside end; b says that the
-- contour is a bore. If the first end is inside just for a bore, the contour is around the second end alone, else around the first alone.
begins : (b : Bool) (x y : ℤ) → cond b x y ≡ cond b (pos 0) (pos 1) → cond b y x ≡ cond b (negsuc 0) (pos 0)
    → (any_turns x ≡ false) × (any_turns y ≡ true)
begins true x y inside outside = (ap any_turns inside, ap any_turns outside)
begins false x y inside outside = (ap any_turns outside, ap any_turns inside)

ends : (b : Bool) (x y : ℤ) → cond (not b) x y ≡ cond b (pos 0) (pos 1) → cond (not b) y x ≡ cond b (negsuc 0) (pos 0)
    → (any_turns y ≡ false) × (any_turns x ≡ true)
ends true x y inside outside = (ap any_turns inside, ap any_turns outside)
ends false x y inside outside = (ap any_turns outside, ap any_turns inside)

-- two Booleans are equal, or one is not the other
by_equal : (a b : Bool) {P : Type 0} → (a ≡ b → P) → (a ≡ not b → P) → P
by_equal true true f g = f refl
by_equal true false f g = g refl
by_equal false true f g = g refl
by_equal false false f g = f refl

module _ {L : Layer} (sound : Sound L) where
  -- a contour is not around the west end of its first stick
  pub around-own : (g : Edge) → first (walk_of L) g ≡ true → around L g g.column g.row ≡ false
  around-own g is-first = ap any_turns (west-none sound g is-first)

  pub depth-around : (g : Edge) → first (walk_of L) g ≡ true → depth L g ≡ contours_around L g.column g.row
  unfolding depth contours_around
  depth-around g is-first =
      among_same (walk_of L) (laws L sound) (λ f. not (same_edge f g) && around L f g.column g.row) (λ f. around L f g.column g.row)
      (λ f h. both-sides (same_edge f g) (λ t. rw (t, same-edge f g t) (sym (around-own g is-first))) (λ u. rw u))

  pub around-border : (c r : ℕ) → c < L.size.width → r < L.size.height → on_border L c r ≡ true → contours_around L c r ≡ 0
  unfolding contours_around
  around-border c r hc hr b =
      firsts-induct (walk_of L) (λ l. among (λ f. around L f c r) l ≡ 0) refl
      (λ f l h e. omega (arith, ap (λ z. as_number (any_turns z)) (border sound f h c r hc hr b)))

  pub around-west : (r : ℕ) → r < L.size.height → contours_around L 0 r ≡ 0
  around-west r hr = around-border 0 r (omega (arith, sound.whole.sized)) hr (Borders.west L 0 r refl)

  -- From a sample to the next of its row

  module _ (c r : ℕ) where
    abbrev edge : Edge
    edge = east c r

    pub around-same : is_stick L edge ≡ false → contours_around L (c + 1) r ≡ contours_around L c r
    unfolding contours_around
    around-same plain =
        among_same (walk_of L) (laws L sound) (λ f. around L f (c + 1) r) (λ f. around L f c r)
        (λ f is-first. ap any_turns (sym (same-across sound c r plain f is-first)))

    module _ (stick : is_stick L edge ≡ true) where
      -- the contour that the stick is on
      abbrev own : Edge
      own = first_of L edge

      own_first : first (walk_of L) own ≡ true
      own_first = first_of-first sound edge stick

      own_on : is_on L own edge ≡ true
      own_on = on-first_of sound edge stick

      pub around-more : sample L c r ≡ on_bore L edge → contours_around L (c + 1) r ≡ contours_around L c r + 1
      unfolding contours_around
      around-more e =
          let s : sample L c r ≡ is_bore L own = rw stick at e in
          let own-around =
          begins (is_bore L own) (turns L own c r) (turns L own (c + 1) r)
          (rw s at (inside-value sound own own_first edge own_on)) (rw s at (outside-value sound own own_first edge own_on)) in
          among-more (walk_of L) (laws L sound) (λ f. around L f c r) (λ f. around L f (c + 1) r) own own_first own-around.0 own-around.1
          (λ f is-first other. ap any_turns (other-across sound c r f is-first other))

      pub around-less : sample L c r ≡ not (on_bore L edge) → contours_around L c r ≡ contours_around L (c + 1) r + 1
      unfolding contours_around
      around-less e =
          let s : sample L c r ≡ not (is_bore L own) = rw stick at e in
          let own-around =
          ends (is_bore L own) (turns L own c r) (turns L own (c + 1) r)
          (rw s at (inside-value sound own own_first edge own_on)) (rw s at (outside-value sound own own_first edge own_on)) in
          among-more (walk_of L) (laws L sound) (λ f. around L f (c + 1) r) (λ f. around L f c r) own own_first own-around.0 own-around.1
          (λ f is-first other. ap any_turns (sym (other-across sound c r f is-first other)))

    -- at most one more or less
    around-near : (contours_around L (c + 1) r ≤ contours_around L c r + 1) × (contours_around L c r ≤ contours_around L (c + 1) r + 1)
    around-near =
        both-sides (is_stick L edge)
        (λ stick. by_equal (sample L c r) (on_bore L edge) (λ e. omega (arith, around-more stick e)) (λ e. omega (arith, around-less stick e)))
        (λ plain. omega (arith, around-same plain))

  -- Few contours

  around-left : (c r : ℕ) → r < L.size.height → contours_around L c r ≤ c
  around-left zero r hr = omega (arith, around-west r hr)
  around-left (suc c) r hr =
      omega (arith, ap (λ (k : ℕ). contours_around L k r) (add-one c), around-near c r, around-left c r hr)

  around-right : (n c r : ℕ) → c + n + 1 ≡ L.size.width → r < L.size.height → contours_around L c r ≤ n
  around-right zero c r e hr = omega (arith, around-border c r (omega arith) hr (Borders.east L c r (omega arith)))
  around-right (suc n) c r e hr = omega (arith, around-near c r, around-right n (c + 1) r (omega arith) hr)

  pub around-few : (c r : ℕ) → c < L.size.width → r < L.size.height → contours_around L c r < 512
  around-few c r hc hr =
      omega (arith, sound.whole.sized, around-left c r hr, around-right (L.size.width - 1 - c) c r (omega arith) hr)

  pub depth-few : (g : Edge) → first (walk_of L) g ≡ true → depth L g < 512
  depth-few g is-first =
      let at = stick-sample L sound g.vertical g.column g.row (first-stick sound g is-first) in
      omega (arith, depth-around g is-first, around-few g.column g.row at.0 at.1)
