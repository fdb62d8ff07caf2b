-- What a turn of a loop over the bits of a word gives.
use Rattle.std.specs.Prelude.{◌≡◌, ℕ, Option, Some, None, ◌+◌, ◌/◌, ◌^◌, ◌<◌}
use Rattle.arith.specs.Ranges.{least}
use Rattle.grid.specs.Layer.{bit}
use Rattle.bitset.specs.declared.ones.Ones.{Ones}

-- one is left: the lowest, at z of the bits that are left, and those above it are left then
pub record OneTaken (s : Ones) (b : ℕ) (t : Ones) (z : ℕ) : Type 0 where
  pub lowest : z ≡ least (bit s.left) 64
  pub below : z < 64
  pub here : b ≡ s.at + z
  pub next : t.at ≡ s.at + z + 1
  pub left : t.left ≡ s.left / 2 ^ z / 2

-- or none is
abbrev pub OnesStep : Ones → Option ℕ → Ones → Type 0
OnesStep s None t = s.left ≡ 0
OnesStep s (Some b) t = (z : ℕ) × OneTaken s b t z
