-- Bytes of a row: where they stand in the bitmap, and which of them have spare bits.
use mathlib.Core.Path.{◌≡◌}
use mathlib.Core.Bool.{false}
use Prim.Native.Nat.{ℕ, ◌+◌, ◌-◌, ◌*◌, ◌≤◌, ◌<◌}
use native.Mathlib.Decide.{ℕ_discrete}
use native.Mathlib.Nat.{div-eq_of_lt, lt_of_lt_of_le}
use native.Mathlib.Omega.{arith}
use lib.Arith.{digits_lt, digits_mod}
use lib.ListN.{length, get_or}
use lib.Pow.{pow_mono}
use Rattle.grid.specs.Layer.{Layer, stride, row_end}
use Rattle.grid.specs.Questions.{Sized, Whole, spare_set}
use Rattle.grid.specs.declared.layer.Size.{Size}

pub byte-below : (L : Layer) → Whole L → (j r : ℕ) → j < stride L.size → r < L.size.height
    → r * stride L.size + j < length L.bitmap
byte-below L whole j r hj hr = omega (arith, digits_lt hr hj)

-- a row of samples ends in its last byte, which has one to eight of them
pub last_byte : (size : Size) → Sized size → (1 ≤ stride size) × (8 * (stride size - 1) < size.width) × (size.width ≤ 8 * stride size)
last_byte size sized = (omega arith, omega arith, omega arith)

-- a byte that is not the last of its row has no spare bits
pub spare-inner : (L : Layer) → Whole L → ((i : ℕ) → get_or L.bitmap i 0 < 256) → (r j : ℕ)
    → j < stride L.size - 1 → spare_set L (r * stride L.size + j) ≡ false
spare-inner L whole bytes r j h =
    let within : j < stride L.size = omega arith in
    let eight : 8 ≤ L.size.width - 8 * j = omega (arith, last_byte L.size whole.sized) in
    let small = lt_of_lt_of_le (bytes (r * stride L.size + j)) (pow_mono eight) in
    rw (digits_mod r within, div-eq_of_lt small)

-- so a row has none set if its last byte has none
pub spare-row : (L : Layer) → Whole L → ((i : ℕ) → get_or L.bitmap i 0 < 256) → (r : ℕ)
    → spare_set L (row_end L.size r) ≡ false
    → (j : ℕ) → j < stride L.size → spare_set L (r * stride L.size + j) ≡ false
spare-row L whole bytes r last j h = elim (ℕ_discrete j (stride L.size - 1)) [
  | yes e ↦ rw e last
  | no n ↦ spare-inner L whole bytes r j (omega arith)
]
