-- `simplify` meets its contract: by the answer to its questions.
use mathlib.Core.Path.{sym, ap, ◌∙◌}
use Rattle.std.proofs.lemmas.Result.{err_from_is_err_and}
use Rattle.bitset.proofs.Sets.{empty-set}
use Rattle.simplify.specs.Call.{finished}
use Rattle.simplify.proofs.Outcomes.{outcome-is, yes-to-all}
use Rattle.simplify.proofs.call.simplify.Goals as goal

pub ask_kept_firsts-requires : goal.ask_kept_firsts-requires
ask_kept_firsts-requires c = empty-set

pub returns-in_err-ask_kept_firsts : goal.returns-in_err-ask_kept_firsts
returns-in_err-ask_kept_firsts c =
    let exit = err_from_is_err_and c.from_residual.result c.from_residual.ensures.1 in
    rw (exit.1, exit.2)
    (sym (outcome-is _ c.args.table.now c.args.t _ (sym c.ask_kept_firsts.ensures.value ∙ c.in_err-ask_kept_firsts.was)))

pub invariant_of-layer : goal.invariant_of-layer
invariant_of-layer c =
    let accepted = (yes-to-all _ c.args.table.now (sym c.ask_kept_firsts.ensures.value ∙ c.in_ok-ask_kept_firsts.was)).0 in
    record { sound = accepted.sound }

pub invariant_of-contours : goal.invariant_of-contours
invariant_of-contours c = record { first_set = c.ask_kept_firsts.ensures.first_set c.in_ok-ask_kept_firsts.was }

pub simplify_contours-requires : goal.simplify_contours-requires
simplify_contours-requires c =
    let accepted = (yes-to-all _ c.args.table.now (sym c.ask_kept_firsts.ensures.value ∙ c.in_ok-ask_kept_firsts.was)).0 in
    record { sound = accepted.sound; exact = accepted.exact }

pub returns : goal.returns
returns c =
    let all_yes = sym c.ask_kept_firsts.ensures.value ∙ c.in_ok-ask_kept_firsts.was in
    ap finished c.simplify_contours.ensures ∙ sym (outcome-is _ c.args.table.now c.args.t _ all_yes)
