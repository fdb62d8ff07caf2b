-- `open_by_trace` meets its contract.
use Rattle.trace.proofs.Outcomes.{trace-leaves}
use Rattle.guarantee.proofs.Promises.{trace-accepts}
use Rattle.guarantee.proofs.openings.open_by_trace.Goals as goal

pub returns : goal.returns
returns c = record { table_after = trace-leaves _ _ c.trace.result c.trace.ensures; opening_accepted = trace-accepts _ _ _ c.trace.ensures }
