-- Vertices: what an entry says of its vertex, and what the table says of an edge.
use Rattle.std.specs.Prelude.{Bool, true, false, List, ℕ, get_or}
use Rattle.grid.specs.Layer.{Layer}
use Rattle.grid.specs.Edges.{number}
use Rattle.grid.specs.declared.edge.Edge.{Edge}
use Rattle.table.specs.Entries.{entry_of}
use Rattle.table.specs.declared.entry.Entry.{Entry}
use Rattle.table.specs.declared.entry.Entry.TheVariants.{Nothing, Kept, Removed, Pinned, Wrong}

-- an entry's vertex: whether it is kept, whether it is removed, whether it is pinned, and "the offset its entry gives". A pinned vertex is
-- kept: "512 plus offset is a kept and pinned vertex" (Note 5)
abbrev pub is_kept : Entry → Bool
is_kept Nothing = false
is_kept (Kept offset) = true
is_kept (Removed offset) = false
is_kept (Pinned offset) = true
is_kept Wrong = false

abbrev pub is_removed : Entry → Bool
is_removed Nothing = false
is_removed (Kept offset) = false
is_removed (Removed offset) = true
is_removed (Pinned offset) = false
is_removed Wrong = false

abbrev pub is_pinned : Entry → Bool
is_pinned Nothing = false
is_pinned (Kept offset) = false
is_pinned (Removed offset) = false
is_pinned (Pinned offset) = true
is_pinned Wrong = false

abbrev pub offset_in : Entry → ℕ
offset_in Nothing = 0
offset_in (Kept offset) = offset
offset_in (Removed offset) = offset
offset_in (Pinned offset) = offset
offset_in Wrong = 0

-- the same for an edge
abbrev pub entry_at : Layer → List ℕ → Edge → Entry
entry_at L t e = entry_of (get_or t (number L.size e) 0)

unfoldable pub kept_at : Layer → List ℕ → Edge → Bool
kept_at L t e = is_kept (entry_at L t e)

unfoldable pub removed_at : Layer → List ℕ → Edge → Bool
removed_at L t e = is_removed (entry_at L t e)

unfoldable pub pinned_at : Layer → List ℕ → Edge → Bool
pinned_at L t e = is_pinned (entry_at L t e)

unfoldable pub offset_at : Layer → List ℕ → Edge → ℕ
offset_at L t e = offset_in (entry_at L t e)
