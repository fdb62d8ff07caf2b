-- `call_simplify` meets its contract.
use Rattle.simplify.proofs.Outcomes.{simplify-leaves}
use Rattle.guarantee.proofs.calls.call_simplify.Goals as goal

pub returns : goal.returns
returns c = simplify-leaves _ _ _ c.simplify.result c.simplify.ensures
