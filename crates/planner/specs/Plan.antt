-- The planner's list: what the call answers and leaves in its two outputs.
use Rattle.std.specs.Prelude.{Result, Ok, Err, ◌&&◌, List, [], ◌∷◌, ◌++◌, ℕ, leb, Float, length}
use Rattle.std.proofs.lemmas.List.Edits.{sets}
use Rattle.grid.specs.Layer.{Layer}
use Rattle.grid.specs.Questions.{Answer, first_no, if_all_yes, ask, number_of}
use Rattle.grid.specs.declared.refusal.Refusal.TheVariants.{ShortOutput}
use Rattle.grid.specs.declared.refusal.Refused.{Refused}
use Rattle.held.specs.Questions.{held_questions}
use Rattle.item.specs.Items.{bytes_of, floats_of}
use Rattle.item.specs.declared.item.Written.{Written}
use Rattle.planner.specs.Items.{listed_items}

-- the number of a refusal and its place, both 0 where the call is done; how many items and floats were written; and the outputs at exit
pub record Outcome : Type 0 where
  pub refusal : ℕ
  pub place : ℕ
  pub items : ℕ
  pub floats : ℕ
  pub item_buffer : List ℕ
  pub point_buffer : List Float

-- what an answer and two outputs at exit say
abbrev pub outcome : Result Written Refused → List ℕ → List Float → Outcome
outcome (Ok w) items points =
    record { refusal = 0; place = 0; items = w.items; floats = w.floats; item_buffer = items; point_buffer = points }
outcome (Err e) items points =
    record { refusal = number_of e.question; place = e.place; items = 0; floats = 0; item_buffer = items; point_buffer = points }

-- "14. Does each output hold the whole answer? (0)"
unfoldable pub room_answer : Layer → List ℕ → List ℕ → List Float → Answer
room_answer L t items points =
    ask ShortOutput
    (leb (length (bytes_of (listed_items L t))) (length items) && leb (length (floats_of (listed_items L t))) (length points))

-- the outcome where the questions are answered so: "All other figures of a refused call are 0. A refusal leaves all buffers as found ..
-- Outputs past the answer's end stay untouched."
unfoldable pub answered : Answer → Layer → List ℕ → List ℕ → List Float → Outcome
answered answer L t items points =
    if_all_yes answer
    (λ q place. record { refusal = number_of q; place = place; items = 0; floats = 0; item_buffer = items; point_buffer = points })
    (record {
      refusal = 0;
      place = 0;
      items = length (bytes_of (listed_items L t));
      floats = length (floats_of (listed_items L t));
      item_buffer = sets items 0 (bytes_of (listed_items L t));
      point_buffer = sets points 0 (floats_of (listed_items L t));
    })

-- the planner's list: questions 1 to 7, then 14
abbrev pub plan_of : Layer → List ℕ → List ℕ → List Float → Outcome
plan_of L t items points = answered (first_no (held_questions L t ++ (room_answer L t items points ∷ []))) L t items points
