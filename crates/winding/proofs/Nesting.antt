-- Contours within contours. Around all ends of the sticks of one contour another turns equally often, so it is around the whole of it or around
-- no part. Being around is transitive, so a contour is less deep than those that it is around; outlines have an even depth, bores an odd one.
use mathlib.Core.Path.{◌≡◌, refl, sym, ◌∙◌, ap}
use mathlib.Core.Logic.{◌≢◌}
use mathlib.Core.Bool.{Bool, true, false, true≢false, false≢true, cond, ◌&&◌}
use mathlib.Core.List.{List}
use Prim.Native.Nat.{ℕ, zero, suc, ◌+◌, ◌*◌, ◌%◌, ◌≤◌, ◌<◌}
use native.Mathlib.Decide.{dec_le}
use native.Mathlib.Omega.{arith}
use lib.IntN.{ℤ, pos, negsuc, ◌+ℤ◌}
use Rattle.arith.specs.Booleans.{as_number}
use Rattle.arith.specs.Lists.{among}
use Rattle.arith.proofs.Booleans.{both-sides, one-le}
use Rattle.arith.proofs.Integers.{arithℤ, add_parts}
use Rattle.grid.specs.Layer.{Layer, sample}
use Rattle.grid.specs.Edges.{number, first_end}
use Rattle.grid.specs.Questions.{Sound}
use Rattle.grid.specs.declared.edge.Edge.{Edge}
use Rattle.step.proofs.Walks.{stick-sample}
use Rattle.contour.specs.Walk.{first}
use Rattle.contour.specs.Contours.{walk_of, first_sticks}
use Rattle.contour.proofs.Orbit.{number-inj}
use Rattle.contour.proofs.Sticks.{laws}
use Rattle.winding.specs.Turns.{is_on, east, turns, turns_of, around, is_bore, turns_at_first, turns_at_second, turns_inside, turns_outside, contours_around, depth}
use Rattle.winding.proofs.Rows.{row-end}
use Rattle.winding.proofs.Contours.{on-is, not_on, first-stick, on-self, on_stick, on-only}
use Rattle.winding.proofs.Columns.{jump-other}
use Rattle.winding.proofs.Along.{along}
use Rattle.winding.proofs.Values.{west-later, values}
use Rattle.winding.proofs.Firsts.{firsts-induct, among-less}
use Rattle.winding.proofs.Together.{off-across, together}
use Rattle.winding.proofs.Counts.{any_turns, around-own, depth-around}

-- of two equal ends, the first is the inside one as well
first-inside : (inside : Bool) (x y : ℤ) → cond inside x y ≡ cond inside y x → x ≡ cond inside x y
first-inside true x y e = refl
first-inside false x y e = sym e

-- one more contour, counted by twos: t are its turns, a says that it is around, b that it is a bore
one_more : (a b : Bool) (n m : ℕ) (t z : ℤ) → t ≡ cond a (cond b (negsuc 0) (pos 1)) (pos 0) → pos n ≡ pos (2 * m) +ℤ z
    → pos (as_number a + n) ≡ pos (2 * (as_number (b && a) + m)) +ℤ (t +ℤ z)
one_more true true n m t z e h = omega (arithℤ, add_parts (pos (2 * m)) z, add_parts (pos (2 * (1 + m))) (t +ℤ z), add_parts t z)
one_more true false n m t z e h = omega (arithℤ, add_parts (pos (2 * m)) z, add_parts (pos (2 * (0 + m))) (t +ℤ z), add_parts t z)
one_more false true n m t z e h = omega (arithℤ, add_parts (pos (2 * m)) z, add_parts (pos (2 * (0 + m))) (t +ℤ z), add_parts t z)
one_more false false n m t z e h = omega (arithℤ, add_parts (pos (2 * m)) z, add_parts (pos (2 * (0 + m))) (t +ℤ z), add_parts t z)

module _ {L : Layer} (sound : Sound L) where
  -- One contour and the sticks of another

  module _ {f g : Edge} (f-first : first (walk_of L) f ≡ true) (g-first : first (walk_of L) g ≡ true) (other : f ≢ g) where
    ends-equal : (e : Edge) → is_on L g e ≡ true → turns_inside L f e ≡ turns_outside L f e
    ends-equal e on =
        jump-other sound f f-first e (on_stick sound g g-first e on)
        (not_on L f e (λ h. other (sym (on-only sound f f-first e h) ∙ on-only sound g g-first e on)))

    first-is : (e : Edge) → is_on L g e ≡ true → turns_at_first L f e ≡ turns_inside L f e
    first-is e on = first-inside (first_end L e) (turns_at_first L f e) (turns_at_second L f e) (ends-equal e on)

    -- f turns as often around both ends of each stick of g as around the west end of g
    pub ends_same : (e : Edge) → is_on L g e ≡ true
        → (turns_inside L f e ≡ turns_at_first L f g) × (turns_outside L f e ≡ turns_at_first L f g)
    ends_same e on =
        let inside : turns_inside L f e ≡ turns_at_first L f g =
        along sound f f-first g e (first-stick sound g g-first) (on-is L g e on) ∙ sym (first-is g (on-self sound g g-first)) in
        (inside, sym (ends-equal e on) ∙ inside)

    first-same : (e : Edge) → is_on L g e ≡ true → turns_at_first L f e ≡ turns_at_first L f g
    first-same e on = first-is e on ∙ (ends_same e on).0

    -- f is around g only if it starts at a lower number
    pub around-lower : around L f g.column g.row ≡ true → number L.size f < number L.size g
    around-lower h = elim (dec_le (number L.size f) (number L.size g)) [
      | yes l ↦
          let apart : number L.size f ≢ number L.size g =
          λ e. other (number-inj (walk_of L) (laws L sound) f g (first-stick sound f f-first) (first-stick sound g g-first) e) in
          omega arith
      | no n ↦ absurd (true≢false (sym h ∙ ap any_turns (west-later sound f f-first g g-first (omega arith))))
    ]

  -- Being around is transitive

  module _ {f g : Edge} (f-first : first (walk_of L) f ≡ true) (g-first : first (walk_of L) g ≡ true) (other : f ≢ g)
      (outer : around L f g.column g.row ≡ true) where
    -- g is around no end of a stick of f, since then each of the two would start at a lower number than the other
    not-around : (e : Edge) → is_on L f e ≡ true → around L g e.column e.row ≡ true → ⊥
    not-around e on inner =
        let back : g ≢ f = λ q. other (sym q) in
        omega (
          arith,
          around-lower f-first g-first other outer,
          around-lower g-first f-first back (sym (ap any_turns (first-same g-first f-first back e on)) ∙ inner),
        )

    -- Along a row from its right end on: where the next edge is on g, f is around the sample as around all of g; where it is on f, g is not;
    -- and past any other edge both are as at the next sample
    trans-from : (n c r : ℕ) → L.size.width ≤ c + 1 + n → around L g c r ≡ true → around L f c r ≡ true
    trans-from zero c r h inner = absurd (false≢true (sym (ap any_turns (row-end L g c r (omega arith))) ∙ inner))
    trans-from (suc n) c r h inner =
        let later = trans-from n (c + 1) r (omega arith) in
        both-sides (is_on L g (east c r)) (λ on. ap any_turns (first-same f-first g-first other (east c r) on) ∙ outer)
        (λ off-g.
        both-sides (is_on L f (east c r)) (λ on. absurd (not-around (east c r) on inner))
        (λ off-f. ap any_turns (off-across L f c r off-f) ∙ later (ap any_turns (sym (off-across L g c r off-g)) ∙ inner)))

    pub around-trans : (c r : ℕ) → around L g c r ≡ true → around L f c r ≡ true
    around-trans c r = trans-from L.size.width c r (omega arith)

  pub deeper : (f g : Edge) → first (walk_of L) f ≡ true → first (walk_of L) g ≡ true → around L f g.column g.row ≡ true → depth L f < depth L g
  unfolding contours_around
  deeper f g f-first g-first h =
      rw (depth-around sound f f-first, depth-around sound g g-first)
      (among-less (walk_of L) (laws L sound) (λ y. around L y f.column f.row) (λ y. around L y g.column g.row) f f-first
      (around-own sound f f-first) h (λ y y-first other outer. around-trans y-first f-first other outer g.column g.row h))

  -- Parity: of the contours around a sample, an outline counts 1 in the turns together, a bore −1

  bores-twice : (c r : ℕ) → c < L.size.width → r < L.size.height
      → (m : ℕ) × (contours_around L c r ≡ 2 * m + as_number (sample L c r))
  unfolding contours_around
  bores-twice c r hc hr =
      let bores : List Edge → ℕ = among (λ f. is_bore L f && around L f c r) in
      let twice =
      firsts-induct (walk_of L) (λ l. pos (among (λ f. around L f c r) l) ≡ pos (2 * bores l) +ℤ turns_of L l c r) refl
      (λ f l h e. one_more (around L f c r) (is_bore L f) _ (bores l) (turns L f c r) (turns_of L l c r) (values sound f h c r hc hr) e) in
      (bores (first_sticks L), omega (arithℤ, twice ∙ ap (λ (z : ℤ). pos (2 * bores (first_sticks L)) +ℤ z) (together sound c r hc hr)))

  pub parity : (g : Edge) → first (walk_of L) g ≡ true → depth L g % 2 ≡ as_number (is_bore L g)
  parity g is-first =
      let at = stick-sample L sound g.vertical g.column g.row (first-stick sound g is-first) in
      let even = bores-twice g.column g.row at.0 at.1 in
      rw (depth-around sound g is-first) (omega (arith, even.1, one-le (is_bore L g)))
