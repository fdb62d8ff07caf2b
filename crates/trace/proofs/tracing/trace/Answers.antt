-- `trace` meets its contract: by the answer to questions 1 to 5.
use mathlib.Core.Path.{sym, ◌∙◌}
use Rattle.std.proofs.lemmas.Result.{err_from_is_err_and}
use Rattle.table.proofs.Lengths.{lengths-of}
use Rattle.trace.proofs.Outcomes.{trace-done, trace-refused}
use Rattle.trace.proofs.tracing.trace.Goals as goal

pub returns-in_err-ask_lengths : goal.returns-in_err-ask_lengths
returns-in_err-ask_lengths c =
    let exit = err_from_is_err_and c.from_residual.result c.from_residual.ensures.1 in
    rw (exit.1, exit.2) (trace-refused _ _ (sym c.ask_lengths.ensures ∙ c.in_err-ask_lengths.was))

pub invariant_of-fill_table : goal.invariant_of-fill_table
invariant_of-fill_table c = record { sound = (lengths-of _ _ (sym c.ask_lengths.ensures ∙ c.in_ok-ask_lengths.was)).sound }

pub fill_table-requires : goal.fill_table-requires
fill_table-requires c = lengths-of _ _ (sym c.ask_lengths.ensures ∙ c.in_ok-ask_lengths.was)

pub returns : goal.returns
returns c = trace-done _ _ (sym c.ask_lengths.ensures ∙ c.in_ok-ask_lengths.was) c.fill_table.ensures
