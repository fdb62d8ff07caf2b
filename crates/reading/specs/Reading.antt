-- A sheet read against a bitmap: the table that a well-formed sheet describes, and the call that reads it.
use Rattle.std.specs.Prelude.{Err, cond, ℕ, ◌+◌, eqb, length, get_or}
use mathlib.Core.List.{List, [], ◌∷◌, ◌++◌, foldl}
use Rattle.arith.specs.Ranges.{tabulate}
use Rattle.grid.specs.Layer.{Layer}
use Rattle.grid.specs.Edges.{edge_count}
use Rattle.grid.specs.Questions.{Answer, Yes, first_no, if_all_yes, number_of}
use Rattle.table.specs.Entries.{encoded, length_questions}
use Rattle.table.specs.Stores.{store}
use Rattle.table.specs.declared.entry.Entry.{Entry}
use Rattle.table.specs.declared.entry.Entry.TheVariants.{Nothing, Kept, Removed, Pinned}
use Rattle.held.specs.Held.{held_answer}
use Rattle.formed.specs.Expected.{Expected, these, vertex_of, expected_sheet, sheet_answer}

-- the entry that a vertex command gives its stick, by its letter and offset: "K (hex 4B, kept) or R (hex 52, removed) and its offset byte", and
-- "N (hex 4E) and the offset for a pinned one" (Note 5); question 8 lets no other letter pass
abbrev pub entry_by : ℕ → ℕ → Entry
entry_by letter offset = cond (eqb letter 0x52) (Removed offset) (cond (eqb letter 0x4E) (Pinned offset) (Kept offset))

-- of the command at i
abbrev pub entry_from : List ℕ → ℕ → Entry
entry_from s i = entry_by (get_or s i 0) (get_or s (i + 1) 0)

-- reading partway: the place of the next command, and the table so far
pub record Reading : Type 0 where
  pub at : ℕ
  pub table : List ℕ

abbrev pub take_command : Layer → List ℕ → Reading → Expected → Reading
take_command L s r (these bytes) = record { at = r.at + length bytes; table = r.table }
take_command L s r (vertex_of e) =
    record { at = r.at + 2; table = store L.size r.table e (entry_from s r.at) }

-- the table of the layer that a well-formed sheet describes: no entries off sticks
abbrev pub no_entries : Layer → List ℕ
no_entries L = tabulate (λ k. encoded Nothing) (edge_count L.size)

unfoldable pub described : Layer → List ℕ → List ℕ
described L s = (foldl (take_command L s) (record { at = 0; table = no_entries L }) (expected_sheet L)).table

-- the number of a refusal and its place, both 0 where the call is done; and the table at exit
pub record Outcome : Type 0 where
  pub refusal : ℕ
  pub place : ℕ
  pub table : List ℕ

-- Reading a sheet for a layer and the table t that it is lent: "Reading a sheet skips 6, puts 8 before 7", which is asked of the layer that
-- the sheet describes.
unfoldable pub read_of : Layer → List ℕ → List ℕ → Outcome
unfolding sheet_answer described
read_of L t s =
    if_all_yes (first_no (length_questions L (length t) ++ (sheet_answer L s ∷ held_answer L (described L s) ∷ [])))
    (λ q place. record { refusal = number_of q; place = place; table = t })
    (record { refusal = 0; place = 0; table = described L s })

-- the outcome that an answer and the table at exit stand for
abbrev pub outcome : Answer → List ℕ → Outcome
outcome Yes t = record { refusal = 0; place = 0; table = t }
outcome (Err e) t = record { refusal = number_of e.question; place = e.place; table = t }
