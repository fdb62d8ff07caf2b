-- The call Smooth: what is asked, and what comes of it.
use Rattle.std.specs.Prelude.{Result, Ok, Err, Bool, false, List, ℕ}
use Rattle.grid.specs.Layer.{Layer}
use Rattle.grid.specs.Questions.{Answer, first_no, if_all_yes, number_of}
use Rattle.grid.specs.declared.refusal.Refusal.{Refusal}
use Rattle.grid.specs.declared.refusal.Refused.{Refused}
use Rattle.held.specs.Questions.{kept_questions}
use Rattle.smooth.specs.declared.settling.Settling.{Settling}
use Rattle.smooth.specs.Smooth.{Smoothed, smooth}
use Rattle.smooth.specs.Visit.{reached}

-- the number of a refusal and its place, both 0 where the call is done; "the largest number of passes of any contour, the sum of their last
-- totals, and settled if all are" (Note 3), else limit; and the table at exit
pub record Outcome : Type 0 where
  pub refusal : ℕ
  pub place : ℕ
  pub passes : ℕ
  pub total : ℕ
  pub settled : Bool
  pub table : List ℕ

-- "All other figures of a refused call are 0. A refusal leaves all buffers as found"
abbrev pub refused_with : Refusal → ℕ → List ℕ → Outcome
refused_with q place t = record { refusal = number_of q; place = place; passes = 0; total = 0; settled = false; table = t }

abbrev pub done_with : Smoothed → Outcome
done_with s =
    record { refusal = 0; place = 0; passes = s.passes; total = s.total; settled = s.settled; table = s.table }

-- by the answer to the questions: s comes of the call where it is yes
abbrev pub answered : Answer → List ℕ → Smoothed → Outcome
answered answer t s = if_all_yes answer (λ q place. refused_with q place t) (done_with s)

-- questions 1 to 7 and 15, put to a layer and the table t that is lent
abbrev pub asked : Layer → List ℕ → Smoothed → Outcome
asked L t s = answered (first_no (kept_questions L t)) t s

-- Smooth of a layer, with a pass limit, on the table t that it is lent
unfoldable pub smooth_of : Layer → ℕ → List ℕ → Outcome
unfolding smooth
smooth_of L limit t = asked L t (smooth L limit t)

-- what an answer and a table at exit say
abbrev pub outcome : Result Settling Refused → List ℕ → Outcome
outcome (Ok r) t = done_with (reached r t)
outcome (Err e) t = refused_with e.question e.place t
