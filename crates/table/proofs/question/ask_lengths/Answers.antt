-- `ask_lengths` meets its contract.
use mathlib.Core.Path.{sym, ◌∙◌}
use Rattle.grid.proofs.Answers.{sound-of}
use Rattle.table.proofs.question.ask_lengths.Goals as goal

pub ask_table_length-requires : goal.ask_table_length-requires
ask_table_length-requires c = (sound-of _ (sym c.ask_layer.ensures ∙ c.in_ok-ask_layer.was)).whole.sized
