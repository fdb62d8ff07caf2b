-- `call_smooth` meets its contract.
use Rattle.smooth.proofs.Held.{smooth-leaves}
use Rattle.guarantee.proofs.calls.call_smooth.Goals as goal

pub returns : goal.returns
returns c = smooth-leaves _ _ _ c.smooth.result c.smooth.ensures
