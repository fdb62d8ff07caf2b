-- The call Simplify: "with a tolerance T of 0 to 255".
use Rattle.std.specs.Prelude.{Result, Ok, Err, List, ℕ}
use Rattle.grid.specs.Layer.{Layer}
use Rattle.grid.specs.Questions.{first_no, if_all_yes, number_of}
use Rattle.grid.specs.declared.refusal.Refused.{Refused}
use Rattle.held.specs.Questions.{kept_questions}
use Rattle.simplify.specs.Runs.{Progress, simplify}
use Rattle.simplify.specs.Parts.{reached}
use Rattle.simplify.specs.declared.tries.RunCounts.{RunCounts}

-- the number of a refusal and its place, both 0 where the call is done; "the vertices removed and the runs tried"; and the table at exit
pub record Outcome : Type 0 where
  pub refusal : ℕ
  pub place : ℕ
  pub removed : ℕ
  pub tried : ℕ
  pub table : List ℕ

-- the result of simplifying, as an outcome
abbrev pub finished : Progress → Outcome
finished s = record { refusal = 0; place = 0; removed = s.removed; tried = s.tried; table = s.table }

-- Simplify of a layer, on the table t that it is lent: questions 1 to 7 and 15. "All other figures of a refused call are 0. A refusal leaves all buffers as found"
unfoldable pub simplify_of : Layer → ℕ → List ℕ → Outcome
unfolding simplify
simplify_of L tolerance t =
    if_all_yes (first_no (kept_questions L t))
    (λ q place. record { refusal = number_of q; place = place; removed = 0; tried = 0; table = t })
    (finished (simplify L tolerance t))

-- what an answer and a table at exit say
abbrev pub outcome : Result RunCounts Refused → List ℕ → Outcome
outcome (Ok r) t = finished (reached r t)
outcome (Err e) t = record { refusal = number_of e.question; place = e.place; removed = 0; tried = 0; table = t }
