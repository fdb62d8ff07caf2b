-- A layer: its two sides, its bitmap, and the samples that the bitmap holds.
use Rattle.std.specs.Prelude.{Bool, ◌&&◌, List, ℕ, ◌+◌, ◌-◌, ◌*◌, ◌/◌, ◌%◌, ◌^◌, eqb, ltb, get_or}
use Rattle.grid.specs.declared.layer.Size.{Size}

-- "A layer has W columns and H rows": the two in its size, and the bytes of its bitmap
pub record Layer : Type 0 where
  pub size : Size
  pub bitmap : List ℕ

abbrev pub layer_of : Size → List ℕ → Layer
layer_of size bitmap = record { size = size; bitmap = bitmap }

-- the sides that a call is given
abbrev pub size_of : ℕ → ℕ → Size
size_of w h = record { width = w; height = h }

-- "The bitmap has ceil(W/8) bytes a row"
abbrev pub stride : Size → ℕ
stride size = (size.width + 7) / 8

-- byte j of row r
abbrev pub row_byte : Layer → ℕ → ℕ → ℕ
row_byte L j r = get_or L.bitmap (r * stride L.size + j) 0

-- where the last byte of row r stands
abbrev pub row_end : Size → ℕ → ℕ
row_end size r = r * stride size + (stride size - 1)

-- bit k of a number, the least significant being bit 0
unfoldable pub bit : ℕ → ℕ → Bool
bit x k = eqb (x / 2 ^ k % 2) 1

-- "sample (c,r) is bit c mod 8, least significant first, of byte c div 8 of row r; 1 is inside". It means something for c below W and
-- r below H alone.
unfoldable pub sample : Layer → ℕ → ℕ → Bool
sample L c r = bit (row_byte L (c / 8) r) (c % 8)

-- the samples of a row, and of the layer row by row
abbrev pub sample_in : Layer → ℕ → ℕ → Bool
sample_in L r c = sample L c r

abbrev pub sample_at : Layer → ℕ → Bool
sample_at L k = sample L (k % L.size.width) (k / L.size.width)

-- the sample after column c in its row, where the row's bytes reach so far
abbrev pub follows : Layer → ℕ → ℕ → Bool
follows L c r = ltb (c + 1) (8 * stride L.size) && sample L (c + 1) r
