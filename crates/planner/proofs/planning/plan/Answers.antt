-- `plan` meets its contract: questions 1 to 7, then 14.
use mathlib.Core.Path.{sym, ◌∙◌}
use Rattle.std.proofs.lemmas.Result.{err_from_is_err_and}
use Rattle.bitset.proofs.Sets.{empty-set}
use Rattle.held.proofs.Asking.{accepted-of}
use Rattle.planner.proofs.Outcomes.{plan-no}
use Rattle.planner.proofs.planning.plan.Goals as goal

pub ask_held_firsts-requires : goal.ask_held_firsts-requires
ask_held_firsts-requires c = empty-set

pub plan_accepted-requires : goal.plan_accepted-requires
plan_accepted-requires c = accepted-of _ c.args.table.now (sym c.ask_held_firsts.ensures.value ∙ c.in_ok-ask_held_firsts.was)

pub returns-in_err-ask_held_firsts : goal.returns-in_err-ask_held_firsts
returns-in_err-ask_held_firsts c =
    let a = c.args in
    let exit = err_from_is_err_and c.from_residual.result c.from_residual.ensures.1 in
    rw (exit.1, exit.2)
    (plan-no _ a.table.now a.items.now a.points.now (sym c.ask_held_firsts.ensures.value ∙ c.in_err-ask_held_firsts.was))
