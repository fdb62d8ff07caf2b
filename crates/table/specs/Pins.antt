-- Pins that stay. "A table entry of 512 plus offset is a kept and pinned vertex", and "its offset is the same after any sequence that doesn't
-- trace or read a sheet" (Note 5): what is said here of two tables, the guarantee says of the tables before and after a list of calls.
use Rattle.std.specs.Prelude.{◌≡◌, true, List, ℕ, get_or}
use Rattle.table.specs.Entries.{entry_of}
use Rattle.table.specs.Vertices.{is_pinned}

-- every entry of t that is pinned is the same number in u: still pinned, at the same offset
pub record PinsStay (t u : List ℕ) : Type 0 where
  pub same_entry : (k : ℕ) → is_pinned (entry_of (get_or t k 0)) ≡ true → get_or u k 0 ≡ get_or t k 0
