-- `contains` meets its contract.
use mathlib.Core.Path.{refl}
use Rattle.grid.specs.Layer.{bit}
use Rattle.bitset.specs.Sets.{has}
use Rattle.bitset.proofs.set.contains.Goals as goal

pub returns : goal.returns
unfolding has bit
returns c = refl
