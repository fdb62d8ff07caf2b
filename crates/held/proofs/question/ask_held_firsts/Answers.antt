-- `ask_held_firsts` meets its contract: what a yes to questions 1 to 6 says is what those after them require.
use mathlib.Core.Path.{sym, ◌∙◌}
use Rattle.held.proofs.Asking.{six-of}
use Rattle.held.proofs.question.ask_held_firsts.Goals as goal

pub invariant_of-layer : goal.invariant_of-layer
invariant_of-layer c = record { sound = (six-of _ c.args.table.now (sym c.ask_six.ensures ∙ c.in_ok-ask_six.was)).0.sound }

pub ask_contours-requires : goal.ask_contours-requires
ask_contours-requires c = (six-of _ c.args.table.now (sym c.ask_six.ensures ∙ c.in_ok-ask_six.was)).0
