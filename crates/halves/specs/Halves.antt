-- Vertices that smoothing draws to a half, and Note 2: "A half in the smoothing step is now rounded toward 128."
use Rattle.std.specs.Prelude.{Bool, true, false, cond, ℕ, ◌+◌, ◌≤◌, ltb}
use Rattle.grid.specs.declared.edge.Edge.{Edge}
use Rattle.chord.specs.Points.{Position}
use Rattle.offset.specs.Offset.{new_offset}

-- the horizontal stick at (0,1) and the vertical one at (1,0): each on the line 256 and from 0 along it
abbrev pub stick : Bool → Edge
stick vertical = cond vertical (record { vertical = true; column = 1; row = 0 }) (record { vertical = false; column = 0; row = 1 })

-- the position so far along that stick and so far across it
abbrev pub place : Bool → ℕ → ℕ → Position
place vertical along across = cond vertical (record { x = across; y = along }) (record { x = along; y = across })

-- the old offset of a vertex, and neighbours within the stick's length along it
pub record IsPlaced (old before after : ℕ) : Type 0 where
  pub low : 1 ≤ old
  pub high : old ≤ 255
  pub before_most : before ≤ 256
  pub after_most : after ≤ 256

-- the new offset where these neighbours lie 1 before the stick's line and 3 after it
abbrev pub moved_to : Bool → ℕ → ℕ → ℕ → ℕ
moved_to vertical old before after = new_offset (place vertical before 255) (place vertical after 259) (stick vertical) old

-- where the half from k to the next goes
abbrev pub toward_middle : ℕ → ℕ
toward_middle k = cond (ltb k 128) (k + 1) k
