-- The turns of all contours together: 1 around an inside sample, 0 around an outside one. From a sample to the next of its row they change by the
-- one contour that the edge between is on, if it is a stick, and so does the sample; the right border has none.
use mathlib.Core.Path.{◌≡◌, refl, sym, ◌∙◌, ap, ap₂}
use mathlib.Core.Logic.{◌≢◌}
use mathlib.Core.Bool.{Bool, true, false, cond, xor}
use Prim.Native.Nat.{ℕ, zero, suc, ◌+◌, ◌-◌, ◌<◌}
use native.Mathlib.Decide.{dec_lt}
use native.Mathlib.Omega.{arith}
use lib.IntN.{ℤ, pos, negsuc, ◌+ℤ◌, +ℤ_idl, +ℤ_assoc}
use Rattle.arith.specs.Booleans.{as_number}
use Rattle.arith.proofs.Booleans.{both-sides}
use Rattle.arith.proofs.Integers.{arithℤ, add_parts}
use Rattle.grid.specs.Layer.{Layer, sample}
use Rattle.grid.specs.Edges.{is_stick}
use Rattle.grid.specs.Questions.{Sound}
use Rattle.grid.specs.declared.edge.Edge.{Edge}
use Rattle.grid.proofs.Borders as Borders
use Rattle.grid.proofs.Numbers.{in-grid}
use Rattle.contour.specs.Walk.{first}
use Rattle.contour.specs.Contours.{walk_of}
use Rattle.contour.proofs.Sticks.{laws}
use Rattle.winding.specs.Turns.{is_on, dir, east, turns, turns_of, turns_together, first_of}
use Rattle.winding.proofs.Rows.{row-jump, row-end, row-off}
use Rattle.winding.proofs.Contours.{not_on, off-stick, on-only, first_of-first, on-first_of}
use Rattle.winding.proofs.Firsts.{firsts-induct, firsts-with}

-- what stands between two samples of a row: the direction of the edge, if it is a stick
abbrev pub dir_if : Layer → Edge → ℤ
dir_if L e = cond (is_stick L e) (dir L e) (pos 0)

samples-jump : (a b : Bool) → pos (as_number a) ≡ cond (xor a b) (cond a (pos 1) (negsuc 0)) (pos 0) +ℤ pos (as_number b)
unfolding xor
samples-jump true true = refl
samples-jump true false = refl
samples-jump false true = refl
samples-jump false false = refl

add-past : (x d y : ℤ) → x +ℤ (d +ℤ y) ≡ d +ℤ (x +ℤ y)
add-past x d y = omega (arithℤ, add_parts x (d +ℤ y), add_parts d y, add_parts d (x +ℤ y), add_parts x y)

-- `row-off`, past the right border too
pub off-across : (L : Layer) (f : Edge) (c r : ℕ) → is_on L f (east c r) ≡ false → turns L f c r ≡ turns L f (c + 1) r
off-across L f c r off = elim (dec_lt (c + 1) L.size.width) [
  | yes h ↦ row-off L f c r h off
  | no n ↦ row-end L f c r (omega arith) ∙ sym (row-end L f (c + 1) r (omega arith))
]

module _ {L : Layer} (sound : Sound L) (c r : ℕ) where
  abbrev edge : Edge
  edge = east c r

  -- From a sample to the next, no contour's turns change if the edge between is no stick,
  pub same-across : is_stick L edge ≡ false → (f : Edge) → first (walk_of L) f ≡ true → turns L f c r ≡ turns L f (c + 1) r
  same-across plain f is-first = off-across L f c r (off-stick sound f is-first edge plain)

  -- and only those of the contour that it is on if it is one
  pub other-across : (f : Edge) → first (walk_of L) f ≡ true → f ≢ first_of L edge → turns L f c r ≡ turns L f (c + 1) r
  other-across f is-first other =
      off-across L f c r (not_on L f edge (λ on. other (sym (on-only sound f is-first edge on))))

  pub together-jump : c + 1 < L.size.width → turns_together L c r ≡ dir_if L edge +ℤ turns_together L (c + 1) r
  together-jump h = both-sides (is_stick L edge) across-stick across-plain
    where
      across-stick : is_stick L edge ≡ true → turns_together L c r ≡ dir_if L edge +ℤ turns_together L (c + 1) r
      across-stick stick =
          let own : turns L (first_of L edge) c r ≡ dir L edge +ℤ turns L (first_of L edge) (c + 1) r =
          rw (on-first_of sound edge stick) at (row-jump L (first_of L edge) c r h) in
          rw stick
          (firsts-with (walk_of L) (laws L sound) (first_of L edge) (first_of-first sound edge stick)
          (λ b l. turns_of L l c r ≡ cond b (dir L edge) (pos 0) +ℤ turns_of L l (c + 1) r) refl
          (λ l e.
          ap₂ ◌+ℤ◌ own (e ∙ +ℤ_idl (turns_of L l (c + 1) r))
          ∙ +ℤ_assoc (dir L edge) (turns L (first_of L edge) (c + 1) r) (turns_of L l (c + 1) r))
          (λ b l f is-first other e.
          ap₂ ◌+ℤ◌ (other-across f is-first other) e
          ∙ add-past (turns L f (c + 1) r) (cond b (dir L edge) (pos 0)) (turns_of L l (c + 1) r)))

      across-plain : is_stick L edge ≡ false → turns_together L c r ≡ dir_if L edge +ℤ turns_together L (c + 1) r
      across-plain plain =
          rw plain
          (firsts-induct (walk_of L) (λ l. turns_of L l c r ≡ turns_of L l (c + 1) r) refl
          (λ f l is-first e. ap₂ ◌+ℤ◌ (same-across plain f is-first) e)
          ∙ sym (+ℤ_idl (turns_together L (c + 1) r)))

  sample-jump : c + 1 < L.size.width → r < L.size.height
      → pos (as_number (sample L c r)) ≡ dir_if L edge +ℤ pos (as_number (sample L (c + 1) r))
  unfolding is_stick
  sample-jump hc hr =
      rw (in-grid L.size edge (record { column_below = omega arith; row_below = hr })) (samples-jump (sample L c r) (sample L (c + 1) r))

module _ {L : Layer} (sound : Sound L) where
  -- by induction on the samples to the right
  together-from : (n c r : ℕ) → c + n + 1 ≡ L.size.width → r < L.size.height → turns_together L c r ≡ pos (as_number (sample L c r))
  together-from zero c r h hr =
      let outside : sample L c r ≡ false =
      let on = Borders.east L c r (omega arith) in sym (Borders.on-border L c r on) ∙ sound.border c r (omega arith) hr in
      rw outside
      (firsts-induct (walk_of L) (λ l. turns_of L l c r ≡ pos 0) refl (λ f l is-first e. ap₂ ◌+ℤ◌ (row-end L f c r (omega arith)) e))
  together-from (suc n) c r h hr =
      together-jump sound c r (omega arith)
      ∙ ap (λ (z : ℤ). dir_if L (east c r) +ℤ z) (together-from n (c + 1) r (omega arith) hr)
      ∙ sym (sample-jump sound c r (omega arith) hr)

  pub together : (c r : ℕ) → c < L.size.width → r < L.size.height → turns_together L c r ≡ pos (as_number (sample L c r))
  together c r hc hr = together-from (L.size.width - 1 - c) c r (omega arith) hr
