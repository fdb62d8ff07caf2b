-- `read_against` meets its contract.
use Rattle.bitset.proofs.Sets.{empty-set}
use Rattle.reading.proofs.read.read_against.Goals as goal

pub first_sticks-requires : goal.first_sticks-requires
first_sticks-requires c = record { empty = empty-set }
