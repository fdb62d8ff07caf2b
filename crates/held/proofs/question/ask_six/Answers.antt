-- `ask_six` meets its contract.
use mathlib.Core.Path.{sym, ◌∙◌}
use Rattle.table.proofs.Lengths.{lengths-of}
use Rattle.held.proofs.question.ask_six.Goals as goal

pub invariant_of-ask_entries : goal.invariant_of-ask_entries
invariant_of-ask_entries c = record { sound = (lengths-of _ c.args.table.now (sym c.ask_lengths.ensures ∙ c.in_ok-ask_lengths.was)).sound }

pub ask_entries-requires : goal.ask_entries-requires
ask_entries-requires c = lengths-of _ c.args.table.now (sym c.ask_lengths.ensures ∙ c.in_ok-ask_lengths.was)
