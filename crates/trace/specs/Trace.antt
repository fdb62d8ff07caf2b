-- Trace: "every stick kept at 128".
use Rattle.std.specs.Prelude.{Err, Bool, cond, List, ℕ, length}
use Rattle.arith.specs.Ranges.{tabulate}
use Rattle.grid.specs.Layer.{Layer}
use Rattle.grid.specs.Edges.{edge_count, stick_at}
use Rattle.grid.specs.Questions.{Answer, Yes, first_no, if_all_yes, number_of}
use Rattle.table.specs.Entries.{encoded, length_questions}
use Rattle.table.specs.declared.entry.Entry.TheVariants.{Nothing, Kept}

-- the number of an edge's entry, by whether the edge is a stick
abbrev pub traced : Bool → ℕ
traced stick = encoded (cond stick (Kept 128) Nothing)

-- that of edge k
abbrev pub traced_entry : Layer → ℕ → ℕ
traced_entry L k = traced (stick_at L k)

-- the number of a refusal and its place, both 0 where the call is done; and the table at exit
pub record Outcome : Type 0 where
  pub refusal : ℕ
  pub place : ℕ
  pub table : List ℕ

-- Trace of a layer, on the table t that it is lent: "A refusal leaves all buffers as found"
unfoldable pub trace_of : Layer → List ℕ → Outcome
trace_of L t =
    if_all_yes (first_no (length_questions L (length t)))
    (λ q place. record { refusal = number_of q; place = place; table = t })
    (record { refusal = 0; place = 0; table = tabulate (traced_entry L) (edge_count L.size) })

-- what an answer and a table at exit say
abbrev pub outcome : Answer → List ℕ → Outcome
outcome Yes t = record { refusal = 0; place = 0; table = t }
outcome (Err e) t = record { refusal = number_of e.question; place = e.place; table = t }
