-- `ask_layer_held` meets its contract.
use Rattle.bitset.proofs.Sets.{empty-set}
use Rattle.held.proofs.question.ask_layer_held.Goals as goal

pub ask_held_firsts-requires : goal.ask_held_firsts-requires
ask_held_firsts-requires c = empty-set
