-- `smooth` meets its contract: by the answer to its questions.
use mathlib.Core.Path.{sym, ap, ◌∙◌}
use Rattle.std.proofs.lemmas.Result.{err_from_is_err_and}
use Rattle.bitset.proofs.Sets.{empty-set}
use Rattle.smooth.specs.Call.{done_with}
use Rattle.smooth.proofs.Held.{smoothable-of, outcome-done, outcome-refused}
use Rattle.smooth.proofs.smoothing.smooth.Goals as goal

pub ask_kept_firsts-requires : goal.ask_kept_firsts-requires
ask_kept_firsts-requires c = empty-set

pub returns-in_err-ask_kept_firsts : goal.returns-in_err-ask_kept_firsts
returns-in_err-ask_kept_firsts c =
    let exit = err_from_is_err_and c.from_residual.result c.from_residual.ensures.1 in
    rw (exit.1, exit.2)
    (outcome-refused _ c.args.limit c.args.table.now (sym c.ask_kept_firsts.ensures.value ∙ c.in_err-ask_kept_firsts.was))

pub invariant_of-layer : goal.invariant_of-layer
invariant_of-layer c =
    record { sound = (smoothable-of _ c.args.table.now (sym c.ask_kept_firsts.ensures.value ∙ c.in_ok-ask_kept_firsts.was)).sound }

pub invariant_of-contours : goal.invariant_of-contours
invariant_of-contours c = record { first_set = c.ask_kept_firsts.ensures.first_set c.in_ok-ask_kept_firsts.was }

pub smooth_contours-requires : goal.smooth_contours-requires
smooth_contours-requires c = smoothable-of _ c.args.table.now (sym c.ask_kept_firsts.ensures.value ∙ c.in_ok-ask_kept_firsts.was)

pub returns : goal.returns
returns c =
    outcome-done _ c.args.limit c.args.table.now (sym c.ask_kept_firsts.ensures.value ∙ c.in_ok-ask_kept_firsts.was)
    (ap done_with c.smooth_contours.ensures)
