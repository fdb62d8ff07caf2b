-- One command of a roll as the code takes it: its result, and the table after it. Roll.antt has the commands one after the other.
use Rattle.std.specs.Prelude.{◌≡◌, List, ℕ, ◌+◌, Option, Some, None, Result, Ok, Err}
use Rattle.grid.specs.Layer.{Layer}
use Rattle.grid.specs.Questions.{if_all_yes, Answer, Yes}
use Rattle.grid.specs.declared.refusal.Refusal.{Refusal}
use Rattle.grid.specs.declared.refusal.Refused.{Refused}
use Rattle.grid.specs.declared.refusal.Refusal.TheVariants.{Malformed}
use Rattle.table.specs.Stores.{slid, without, pinned}
use Rattle.held.specs.Questions.{Accepted}
use Rattle.roll.specs.Commands.{command_at, formed_from, slides, removes, pins, ends, wrong}
use Rattle.edit.specs.Edits.{Named, edge_named, slide_answer, removal_answer, pin_answer}

abbrev pub Step : Type 0
Step = Result (Option ℕ) Refused

abbrev pub stop : Refusal → ℕ → Step
stop q place = Err (record { question = q; place = place })

pub record Stepped : Type 0 where
  pub step : Step
  pub table : List ℕ

abbrev pub stepped : Step → List ℕ → Stepped
stepped step t = record { step = step; table = t }

-- on to the next command after a yes, else the refused question and its place
abbrev pub step_on : Answer → ℕ → Step
step_on answer after = if_all_yes answer stop (Ok (Some after))

-- the same with the table t, which is t' after a yes
abbrev pub step_by : Answer → ℕ → List ℕ → List ℕ → Stepped
step_by answer after t t' = if_all_yes answer (λ q place. stepped (stop q place) t) (stepped (Ok (Some after)) t')

module _ (L : Layer) (tolerance i : ℕ) (t : List ℕ) where
  unfoldable pub slide_step : Named → ℕ → Stepped
  slide_step s o = step_by (slide_answer L tolerance t i s o) (i + 7) t (slid L t (edge_named s) o)

  unfoldable pub removal_step : Named → Stepped
  removal_step s = step_by (removal_answer L tolerance t i s) (i + 6) t (without L t (edge_named s))

unfoldable pub pin_step : Layer → ℕ → List ℕ → Named → Stepped
pin_step L i t s = step_by (pin_answer L t i s) (i + 6) t (pinned L t (edge_named s))

-- the command at byte i
unfoldable pub step_of : Layer → ℕ → List ℕ → ℕ → List ℕ → Stepped
step_of L tolerance r i t = elim (command_at r i) [
  | slides s o ↦ slide_step L tolerance i t s o
  | removes s ↦ removal_step L tolerance i t s
  | pins s ↦ pin_step L i t s
  | ends ↦ stepped (Ok None) t
  | wrong ↦ stepped (stop Malformed i) t
]

-- What a command is run on: a layer that passes questions 1 to 7, and a roll that is well formed from byte i on
pub record Runnable (L : Layer) (t r : List ℕ) (i : ℕ) : Type 0 where
  pub accepted : Accepted L t
  pub formed : formed_from r i ≡ Yes
