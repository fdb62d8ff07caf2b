-- The border has no turns: its lowest and its highest row have no stick, so that the turns stay as at the row's end, and its west column has none,
-- so that they stay as at its lowest sample.
use mathlib.Core.Path.{◌≡◌, sym, ◌∙◌}
use mathlib.Core.Bool.{true, false≢true}
use Prim.Native.Nat.{ℕ, zero, suc, ◌+◌, ◌-◌, ◌≤◌, ◌<◌}
use native.Mathlib.Numerals.{add-one}
use native.Mathlib.Omega.{arith}
use borrow.Author.Tests.{eqb-true}
use lib.Dec.{eqb}
use lib.IntN.{pos}
use Rattle.arith.proofs.Booleans.{both-sides}
use Rattle.grid.specs.Layer.{Layer}
use Rattle.grid.specs.Questions.{Sound, on_border}
use Rattle.grid.specs.declared.edge.Edge.{Edge}
use Rattle.grid.proofs.Numbers.{in-grid}
use Rattle.contour.specs.Walk.{first}
use Rattle.contour.specs.Contours.{walk_of}
use Rattle.winding.specs.Turns.{east, north, turns}
use Rattle.winding.proofs.Rows.{row-end, row_same}
use Rattle.winding.proofs.Contours.{not_on, on_row, on-column}
use Rattle.winding.proofs.Columns.{jump-off}

module _ {L : Layer} (sound : Sound L) (f : Edge) (is-first : first (walk_of L) f ≡ true) where
  border-row : (c r : ℕ) → c < L.size.width → (1 ≤ r → r + 1 < L.size.height → ⊥) → turns L f c r ≡ pos 0
  border-row c r hc out =
      let last : ℕ = L.size.width - 1 in
      row_same L f (last - c) c last r (omega arith) (omega arith)
      (λ d l u. not_on L f (east d r) (λ on. let inner = on_row sound f is-first d r on in out inner.0 inner.1))
      ∙ row-end L f last r (omega arith)

  border-west : (r : ℕ) → r < L.size.height → turns L f 0 r ≡ pos 0
  border-west zero h = border-row 0 0 (omega (arith, sound.whole.sized)) (λ l u. omega arith)
  border-west (suc r) h =
      let off = not_on L f (north 0 r) (λ on. omega (arith, on-column sound f is-first 0 r on)) in
      rw (← add-one r)
      (sym (jump-off sound f is-first (north 0 r) (in-grid L.size (north 0 r) (omega (arith, sound.whole.sized))) off)
      ∙ border-west r (omega arith))

  pub border : (c r : ℕ) → c < L.size.width → r < L.size.height → on_border L c r ≡ true → turns L f c r ≡ pos 0
  border c r hc hr b =
      both-sides (eqb c 0) (λ w. rw (eqb-true c 0 w) (border-west r hr))
      (λ w. both-sides (eqb c (L.size.width - 1)) (λ e. row-end L f c r (omega (arith, eqb-true c (L.size.width - 1) e)))
      (λ e. both-sides (eqb r 0) (λ s. border-row c r hc (λ l u. omega (arith, eqb-true r 0 s)))
      (λ s. both-sides (eqb r (L.size.height - 1)) (λ n. border-row c r hc (λ l u. omega (arith, eqb-true r (L.size.height - 1) n)))
      (λ n. absurd (false≢true (rw (w, e, s, n) at b))))))
