-- What the calls store: an entry at an edge's number, and over it a vertex slid, a vertex removed and a vertex pinned.
use Rattle.std.specs.Prelude.{List, ℕ, set}
use Rattle.grid.specs.Layer.{Layer}
use Rattle.grid.specs.Edges.{number}
use Rattle.grid.specs.declared.layer.Size.{Size}
use Rattle.grid.specs.declared.edge.Edge.{Edge}
use Rattle.table.specs.Entries.{encoded}
use Rattle.table.specs.Vertices.{offset_at}
use Rattle.table.specs.declared.entry.Entry.{Entry}
use Rattle.table.specs.declared.entry.Entry.TheVariants.{Kept, Removed, Pinned}

-- the table with e's entry replaced: "An accepted edit writes the named stick's entry and no other."
abbrev pub store : Size → List ℕ → Edge → Entry → List ℕ
store size t e x = set t (number size e) (encoded x)

-- with e's vertex kept at another offset, and not pinned: no call slides a pinned one
abbrev pub slid : Layer → List ℕ → Edge → ℕ → List ℕ
slid L t e o = store L.size t e (Kept o)

-- with e's vertex removed, "with the offset it last had"
abbrev pub without : Layer → List ℕ → Edge → List ℕ
without L t e = store L.size t e (Removed (offset_at L t e))

-- with e's vertex pinned where it is; on one that is pinned it "alters nothing" (Note 5; proofs/Pins.antt: `pin-again`)
abbrev pub pinned : Layer → List ℕ → Edge → List ℕ
pinned L t e = store L.size t e (Pinned (offset_at L t e))
