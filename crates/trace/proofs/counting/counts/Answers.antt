-- `counts` meets its contract: by the answer to questions 1 to 5.
use mathlib.Core.Path.{sym, ◌∙◌}
use Rattle.std.proofs.lemmas.Result.{err_from_is_err_and}
use Rattle.table.proofs.Lengths.{lengths-of}
use Rattle.trace.proofs.Outcomes.{counts-done, counts-refused}
use Rattle.trace.proofs.counting.counts.Goals as goal

pub returns-in_err-ask_lengths : goal.returns-in_err-ask_lengths
returns-in_err-ask_lengths c =
    let exit = err_from_is_err_and c.from_residual.result c.from_residual.ensures.1 in
    rw (exit.1, exit.2) (counts-refused _ _ (sym c.ask_lengths.ensures ∙ c.in_err-ask_lengths.was))

pub invariant_of-layer : goal.invariant_of-layer
invariant_of-layer c = record { sound = (lengths-of _ _ (sym c.ask_lengths.ensures ∙ c.in_ok-ask_lengths.was)).sound }

pub returns : goal.returns
returns c =
    let asked = sym c.ask_lengths.ensures ∙ c.in_ok-ask_lengths.was in
    counts-done _ _ asked c.inside_count.ensures c.stick_count.ensures c.count_contours.ensures
