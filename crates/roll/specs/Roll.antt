-- The call Roll: "with T: an edit roll of one-byte commands". "The whole roll passes 8 before an edit is made. 9 to 13 give the command's byte
-- offset and the count done.", and so does 16 (Note 5).
use Rattle.std.specs.Prelude.{List, [], ◌∷◌, ◌++◌, length, Result, Ok, Err}
use Prim.Native.Nat.{ℕ, zero, suc, ◌+◌}
use Rattle.grid.specs.Layer.{Layer}
use Rattle.grid.specs.Questions.{first_no, if_all_yes, number_of}
use Rattle.table.specs.Stores.{slid, without, pinned}
use Rattle.held.specs.Questions.{held_questions}
use Rattle.roll.specs.declared.rolling.RollRefused.{RollRefused}
use Rattle.roll.specs.Commands.{command_at, roll_answer, slides, removes, pins, ends, wrong}
use Rattle.edit.specs.Edits.{edge_named, slide_answer, removal_answer, pin_answer}

-- the number of a refusal and its place, both 0 where the call is done; "the commands done, E not counted"; and the table at exit
pub record Outcome : Type 0 where
  pub refusal : ℕ
  pub place : ℕ
  pub done : ℕ
  pub table : List ℕ

module _ (L : Layer) (tolerance : ℕ) (r : List ℕ) where
  -- The n commands from i on at most, after some are done: "A refusal leaves all buffers as found, but for earlier commands of a roll." The
  -- places and n are those of `well_formed`, which answers no where n runs out or a command is wrong: a roll that passes 8 meets neither.
  unfoldable pub run_from : ℕ → ℕ → ℕ → List ℕ → Outcome
  unfolding slide_answer removal_answer pin_answer
  run_from zero i done t = record { refusal = 0; place = 0; done = done; table = t }
  run_from (suc n) i done t = elim (command_at r i) [
    | slides s o ↦
        if_all_yes (slide_answer L tolerance t i s o)
        (λ q place. record { refusal = number_of q; place = place; done = done; table = t })
        (run_from n (i + 7) (done + 1) (slid L t (edge_named s) o))
    | removes s ↦
        if_all_yes (removal_answer L tolerance t i s)
        (λ q place. record { refusal = number_of q; place = place; done = done; table = t })
        (run_from n (i + 6) (done + 1) (without L t (edge_named s)))
    | pins s ↦
        if_all_yes (pin_answer L t i s)
        (λ q place. record { refusal = number_of q; place = place; done = done; table = t })
        (run_from n (i + 6) (done + 1) (pinned L t (edge_named s)))
    | ends ↦ record { refusal = 0; place = 0; done = done; table = t }
    | wrong ↦ record { refusal = 0; place = 0; done = done; table = t }
  ]

-- Roll of a layer, on the table t that it is lent: questions 1 to 8, then the commands. "All other figures of a refused call are 0."
unfoldable pub roll_of : Layer → ℕ → List ℕ → List ℕ → Outcome
unfolding roll_answer run_from
roll_of L tolerance r t =
    if_all_yes (first_no (held_questions L t ++ (roll_answer r ∷ [])))
    (λ q place. record { refusal = number_of q; place = place; done = 0; table = t })
    (run_from L tolerance r (length r + 1) 0 0 t)

-- what Roll answers: the commands done, or why it is refused
abbrev pub Rolled : Type 0
Rolled = Result ℕ RollRefused

-- what an answer and a table at exit say
abbrev pub outcome : Rolled → List ℕ → Outcome
outcome (Ok n) t = record { refusal = 0; place = 0; done = n; table = t }
outcome (Err e) t = record { refusal = number_of e.question; place = e.place; done = e.done; table = t }
