-- `call_roll` meets its contract.
use Rattle.roll.proofs.Held.{roll-leaves}
use Rattle.guarantee.proofs.calls.call_roll.Goals as goal

pub returns : goal.returns
returns c = roll-leaves _ _ _ _ c.roll.result c.roll.ensures
