-- Along a row: from a sample to the next, the turns change by the edge between, and the last has none. So they stay where no edge is on the
-- contour. Here alone the sum over a row is unfolded.
use mathlib.Core.Path.{◌≡◌, ◌∙◌, ap}
use mathlib.Core.Bool.{false}
use Prim.Native.Nat.{ℕ, zero, suc, ◌+◌, ◌-◌, ◌≤◌, ◌<◌}
use native.Mathlib.Omega.{arith}
use lib.IntN.{pos, ◌+ℤ◌, +ℤ_idl}
use Rattle.grid.specs.Layer.{Layer}
use Rattle.grid.specs.declared.edge.Edge.{Edge}
use Rattle.winding.specs.Turns.{is_on, dir_on, east, turns_among, turns}

module _ (L : Layer) (f : Edge) where
  pub row-jump : (c r : ℕ) → c + 1 < L.size.width → turns L f c r ≡ dir_on L f (east c r) +ℤ turns L f (c + 1) r
  unfolding turns turns_among
  row-jump c r h =
      let n : L.size.width - 1 - c ≡ suc (L.size.width - 1 - (c + 1)) = omega arith in
      ap (turns_among L f r c) n

  -- the last sample of a row has no edge to its right
  pub row-end : (c r : ℕ) → L.size.width ≤ c + 1 → turns L f c r ≡ pos 0
  unfolding turns turns_among
  row-end c r h =
      let n : L.size.width - 1 - c ≡ 0 = omega arith in
      ap (turns_among L f r c) n

  -- past an edge that is not on the contour, and past n of them
  pub row-off : (c r : ℕ) → c + 1 < L.size.width → is_on L f (east c r) ≡ false → turns L f c r ≡ turns L f (c + 1) r
  row-off c r h off = (rw off at (row-jump c r h)) ∙ +ℤ_idl (turns L f (c + 1) r)

  pub row_same : (n a b r : ℕ) → a + n ≡ b → b < L.size.width → ((d : ℕ) → a ≤ d → d < b → is_on L f (east d r) ≡ false)
      → turns L f a r ≡ turns L f b r
  row_same zero a b r e h none = let same : a ≡ b = omega arith in ap (λ (c : ℕ). turns L f c r) same
  row_same (suc n) a b r e h none =
      row-off a r (omega arith) (none a (omega arith) (omega arith))
      ∙ row_same n (a + 1) b r (omega arith) h (λ d l u. none d (omega arith) u)
