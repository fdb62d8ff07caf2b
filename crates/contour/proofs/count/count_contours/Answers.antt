-- `count_contours` meets its contract.
use Rattle.bitset.proofs.Sets.{empty-set}
use Rattle.contour.proofs.count.count_contours.Goals as goal

pub first_sticks-requires : goal.first_sticks-requires
first_sticks-requires c = record { empty = empty-set }
