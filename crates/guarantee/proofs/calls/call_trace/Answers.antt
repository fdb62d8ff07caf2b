-- `call_trace` meets its contract.
use Rattle.trace.proofs.Outcomes.{trace-leaves}
use Rattle.guarantee.proofs.calls.call_trace.Goals as goal

pub returns : goal.returns
returns c = trace-leaves _ _ c.trace.result c.trace.ensures
