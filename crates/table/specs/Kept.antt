-- Kept vertices, and question 15, by the entries alone. Both are asked about after question 6 was answered yes, so each stick's entry is
-- that of a kept vertex, pinned or not, or of a removed one.
use Rattle.std.specs.Prelude.{Bool, List, ℕ, get_or}
use Rattle.grid.specs.Edges.{edge_count}
use Rattle.grid.specs.Questions.{ask_each}
use Rattle.grid.specs.declared.layer.Size.{Size}
use Rattle.grid.specs.declared.refusal.Refusal.TheVariants as Refusal
use Rattle.grid.specs.Questions.{Answer}
use Rattle.table.specs.Entries.{entry_of}
use Rattle.table.specs.Vertices.{is_kept, is_removed}

-- whether entry k of a table has a kept vertex
abbrev pub kept_entry : List ℕ → ℕ → Bool
kept_entry t k = is_kept (entry_of (get_or t k 0))

-- "15. For Smooth and Simplify: is every vertex kept? (lowest removed entry)"
abbrev pub is_removed_at : List ℕ → ℕ → Bool
is_removed_at t k = is_removed (entry_of (get_or t k 0))

unfoldable pub all_kept_answer : Size → List ℕ → Answer
all_kept_answer size t = ask_each Refusal.SomeRemoved (is_removed_at t) (edge_count size)
