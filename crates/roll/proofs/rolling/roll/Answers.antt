-- `roll` meets its contract.
use Rattle.std.proofs.lemmas.Result.{err_from_is_err_and}
use mathlib.Core.Path.{◌≡◌, ap, sym, ◌∙◌}
use mathlib.Core.List.{List, [], ◌∷◌, ◌++◌}
use Prim.Native.Nat.{ℕ, ◌+◌}
use lib.ListN.{length}
use Rattle.grid.specs.Layer.{Layer}
use Rattle.grid.specs.Questions.{Answer, Yes, first_no, if_all_yes}
use Rattle.grid.proofs.Answers.{append-all, first_no-yes}
use Rattle.held.specs.Questions.{held_questions}
use Rattle.held.proofs.Asking.{accepted-of}
use Rattle.roll.specs.Commands.{roll_answer}
use Rattle.roll.specs.Roll.{run_from, roll_of}
use Rattle.roll.specs.Steps.{Runnable}
use Rattle.roll.proofs.Forms.{formed-all}
use Rattle.roll.proofs.Steps.{refused}
use Rattle.roll.proofs.rolling.roll.Goals as goal

-- the outcome by what questions 1 to 8 were answered
outcome-is : (L : Layer) (tolerance : ℕ) (r t : List ℕ) {answer : Answer} → first_no (held_questions L t ++ (roll_answer r ∷ [])) ≡ answer
    → if_all_yes answer (refused 0 t) (run_from L tolerance r (length r + 1) 0 0 t) ≡ roll_of L tolerance r t
unfolding roll_of
outcome-is L tolerance r t e = sym (ap (λ (x : Answer). if_all_yes x (refused 0 t) (run_from L tolerance r (length r + 1) 0 0 t)) e)

-- what a yes to questions 1 to 8 says
runnable : (L : Layer) (r t : List ℕ) → first_no (held_questions L t ++ (roll_answer r ∷ [])) ≡ Yes → Runnable L t r 0
runnable L r t all =
    let both = append-all (held_questions L t) (roll_answer r ∷ []) all in
    record { accepted = accepted-of L t both.0; formed = formed-all r ∙ (first_no-yes (roll_answer r) [] both.1).0 }

pub invariant_of-run : goal.invariant_of-run
invariant_of-run c =
    let a = c.args in
    record { sound = (runnable _ a.commands.now a.table.now (sym c.ask_all.ensures ∙ c.in_ok-ask_all.was)).accepted.sound }

pub run-requires : goal.run-requires
run-requires c =
    let a = c.args in
    runnable _ a.commands.now a.table.now (sym c.ask_all.ensures ∙ c.in_ok-ask_all.was)

pub returns : goal.returns
returns c =
    let a = c.args in
    c.run.ensures
    ∙ outcome-is _ a.t a.commands.now a.table.now (sym c.ask_all.ensures ∙ c.in_ok-ask_all.was)

pub returns-in_err-ask_all : goal.returns-in_err-ask_all
returns-in_err-ask_all c =
    let a = c.args in
    let exit = err_from_is_err_and c.from_residual.result c.from_residual.ensures.1 in
    rw (exit.1, exit.2)
    (outcome-is _ a.t a.commands.now a.table.now (sym c.ask_all.ensures ∙ c.in_err-ask_all.was))
