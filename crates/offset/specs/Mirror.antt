-- Mirror images, for the law of Note 2: "For one vertex, mirroring the neighbours' segment and the offset about 128 shall mirror the new
-- offset." Offset 128 is the middle of a stick. The theorems are in proofs/Mirror.antt.
use Rattle.std.specs.Prelude.{◌≡◌, cond, ◌+◌, ◌*◌, ◌-◌}
use Rattle.grid.specs.declared.edge.Edge.{Edge}
use Rattle.chord.specs.Points.{Position}
use Rattle.chord.specs.Crossing.{along, base, off}

-- the image of a position within the edge's length along it
abbrev pub mirror : Edge → Position → Position
mirror e p =
    cond e.vertical
    (record { x = p.x; y = 2 * base e + 256 - p.y })
    (record { x = 2 * base e + 256 - p.x; y = p.y })

-- A position beside one edge and its image beside another, as in the left-hand and the right-hand block. On a stick across the mirror: as far off
-- the edge's line, and along it at offsets that are together 256.
pub record Image (e : Edge) (p : Position) (e' : Edge) (p' : Position) : Type 0 where
  pub as_far : off e p ≡ off e' p'
  pub about : along e p + along e' p' ≡ base e + base e' + 256

-- On a stick along the mirror: as far off the line, and at the same offset
pub record Facing (e : Edge) (p : Position) (e' : Edge) (p' : Position) : Type 0 where
  pub as_far : off e p ≡ off e' p'
  pub level : along e p + base e' ≡ along e' p' + base e
