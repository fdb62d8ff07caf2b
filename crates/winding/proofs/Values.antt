-- Which turns there are: a sample has 0 or 1 of an outline, and 0 or −1 of a bore. The west end of the first stick has none, since no stick of the
-- contour is to its left. So the inside ends of an outline's sticks have 1 and the outside ends 0, and those of a bore's 0 and −1. Any other sample
-- is as the next stick of the contour to its right, or as the border.
use mathlib.Core.Path.{◌≡◌, refl, sym, ◌∙◌}
use mathlib.Core.Bool.{Bool, true, false, true≢false, cond}
use Prim.Native.Nat.{ℕ, zero, suc, ◌+◌, ◌-◌, ◌≤◌, ◌<◌}
use native.Mathlib.Omega.{arith}
use lib.Dec.{ltb}
use lib.IntN.{ℤ, pos, negsuc, nat_abs, ◌+ℤ◌}
use Rattle.arith.proofs.Booleans.{both-sides}
use Rattle.arith.proofs.Integers.{arithℤ, add_parts}
use Rattle.grid.specs.Layer.{Layer}
use Rattle.grid.specs.Edges.{is_stick, number, first_end}
use Rattle.grid.specs.Questions.{Sound}
use Rattle.grid.specs.declared.edge.Edge.{Edge}
use Rattle.grid.proofs.Borders as Borders
use Rattle.step.proofs.Walks.{stick-sample}
use Rattle.contour.specs.Walk.{first}
use Rattle.contour.specs.Contours.{walk_of}
use Rattle.contour.proofs.First.{low-self}
use Rattle.contour.proofs.Sticks.{laws}
use Rattle.contour.proofs.Theorems.{first-horizontal}
use Rattle.winding.specs.Turns.{is_on, east, turns, around, is_bore, turns_at_first, turns_at_second, turns_inside, turns_outside}
use Rattle.winding.proofs.Rows.{row-end, row-off, row_same}
use Rattle.winding.proofs.Contours.{not_on, first-stick, on-is, on-self, on-low}
use Rattle.winding.proofs.Columns.{jump-on}
use Rattle.winding.proofs.Along.{along}
use Rattle.winding.proofs.Border.{border}

-- an integer that is 0, or 1 (−1 for a bore)
abbrev OneOrNone : Bool → ℤ → Type 0
OneOrNone bore z = z ≡ cond (ltb 0 (nat_abs z)) (cond bore (negsuc 0) (pos 1)) (pos 0)

-- the turns at the two ends of a stick, of which one is inside
inside_one : (bore : Bool) → OneOrNone bore (cond bore (pos 0) (pos 1))
inside_one true = refl
inside_one false = refl

outside-one : (bore : Bool) → OneOrNone bore (cond bore (negsuc 0) (pos 0))
outside-one true = refl
outside-one false = refl

either-one : (bore inside : Bool) (x y : ℤ) → cond inside x y ≡ cond bore (pos 0) (pos 1) → cond inside y x ≡ cond bore (negsuc 0) (pos 0)
    → OneOrNone bore x
either-one bore true x y i o = rw i (inside_one bore)
either-one bore false x y i o = rw o (outside-one bore)

one_less : (bore : Bool) {x y : ℤ} → x ≡ y +ℤ pos 1 → x ≡ cond bore (pos 0) (pos 1) → y ≡ cond bore (negsuc 0) (pos 0)
one_less true {x} {y} e h = omega (arithℤ, add_parts y (pos 1))
one_less false {x} {y} e h = omega (arithℤ, add_parts y (pos 1))

west-first : (bore : Bool) (x y : ℤ) → cond bore x y ≡ cond bore y x +ℤ pos 1 → x ≡ pos 0 → cond bore x y ≡ cond bore (pos 0) (pos 1)
west-first true x y e h = h
west-first false x y e h = omega (arithℤ, add_parts x (pos 1))

module _ {L : Layer} (sound : Sound L) (f : Edge) (is-first : first (walk_of L) f ≡ true) where
  -- to the left of an edge, in its row, every edge has a lower number, and the contour has no stick below f
  west-row : (c r : ℕ) → c < L.size.width → r < L.size.height → number L.size (east c r) ≤ number L.size f → turns L f c r ≡ pos 0
  unfolding number
  west-row c r hc hr below =
      sym (row_same L f c 0 c r (omega arith) hc (λ d l u. not_on L f (east d r) (lower d u)))
      ∙ border sound f is-first 0 r (omega arith) hr (Borders.west L 0 r refl)
    where
      lower : (d : ℕ) → d < c → is_on L f (east d r) ≡ true → ⊥
      lower d u on = omega (arith, low-self (walk_of L) (laws L sound) (east d r), on-low sound f is-first (east d r) on)

  west-of : (g : Edge) → first (walk_of L) g ≡ true → number L.size g ≤ number L.size f → turns_at_first L f g ≡ pos 0
  west-of g first-g = go g.vertical g.column g.row (first-horizontal L sound g first-g) (first-stick sound g first-g)
    where
      go : (v : Bool) (c r : ℕ)
          → let g : Edge = record { vertical = v; column = c; row = r } in
          v ≡ false → is_stick L g ≡ true → number L.size g ≤ number L.size f → turns L f c r ≡ pos 0
      go true c r h stick below = absurd (true≢false h)
      go false c r h stick below = let w = stick-sample L sound false c r stick in west-row c r w.0 w.1 below

  pub west-later : (g : Edge) → first (walk_of L) g ≡ true → number L.size g < number L.size f → turns_at_first L f g ≡ pos 0
  west-later g first-g below = west-of g first-g (omega arith)

  pub west-none : turns_at_first L f f ≡ pos 0
  west-none = west-of f is-first (omega arith)

  module _ (e : Edge) (on : is_on L f e ≡ true) where
    pub inside-value : turns_inside L f e ≡ cond (is_bore L f) (pos 0) (pos 1)
    inside-value =
        along sound f is-first f e (first-stick sound f is-first) (on-is L f e on)
        ∙ west-first (is_bore L f) (turns_at_first L f f) (turns_at_second L f f) (jump-on sound f is-first f (on-self sound f is-first)) west-none

    pub outside-value : turns_outside L f e ≡ cond (is_bore L f) (negsuc 0) (pos 0)
    outside-value = one_less (is_bore L f) (jump-on sound f is-first e on) inside-value

  -- going right to the next stick on the contour, or to the right border
  value-from : (n c r : ℕ) → c + n + 1 ≡ L.size.width → r < L.size.height → OneOrNone (is_bore L f) (turns L f c r)
  value-from zero c r h hr = rw (row-end L f c r (omega arith))
  value-from (suc n) c r h hr =
      both-sides (is_on L f (east c r))
      (λ on. either-one (is_bore L f) (first_end L (east c r)) (turns L f c r) (turns L f (c + 1) r)
      (inside-value (east c r) on) (outside-value (east c r) on))
      (λ off. rw (row-off L f c r (omega arith) off) (value-from n (c + 1) r (omega arith) hr))

  pub values : (c r : ℕ) → c < L.size.width → r < L.size.height
      → turns L f c r ≡ cond (around L f c r) (cond (is_bore L f) (negsuc 0) (pos 1)) (pos 0)
  values c r hc hr = value-from (L.size.width - 1 - c) c r (omega arith) hr
