-- Booleans as numbers, and a test of all of them that antt computes.
use Rattle.std.specs.Prelude.{Bool, true, false, ◌&&◌, ℕ}

-- 1 for true, 0 for false
abbrev pub as_number : Bool → ℕ
as_number true = 1
as_number false = 0

-- a test that holds of both Booleans holds of each
abbrev pub all : (Bool → Bool) → Bool
all f = f true && f false
