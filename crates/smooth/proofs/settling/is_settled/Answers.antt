-- `is_settled` meets its contract.
use mathlib.Core.Path.{refl}
use Rattle.smooth.specs.Smooth.{is_settled}
use Rattle.smooth.proofs.settling.is_settled.Goals as goal

pub returns : goal.returns
unfolding is_settled
returns c = refl
