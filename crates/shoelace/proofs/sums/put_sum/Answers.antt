-- `put_sum` meets its contract: the vertex of the stick is kept, or it is not.
use mathlib.Core.Path.{refl}
use Rattle.arith.proofs.Bounds.{sized, in-range, exact}
use Rattle.table.proofs.Lent.{has-entry}
use Rattle.shoelace.proofs.Running.{lent_at, kept-is, stick-held, stick-small, stick-room, past-kept, past-other}
use Rattle.shoelace.proofs.sums.put_sum.Goals as goal

pub entry_at-requires : goal.entry_at-requires
entry_at-requires c = has-entry (lent_at (stick-held c.requires))

pub edge_adds-requires-clause-kept : goal.edge_adds-requires-clause-kept
edge_adds-requires-clause-kept c = kept-is _ _ _ c.entry_at.ensures c.if-is_kept.ensures

pub overflow_add-running : goal.overflow_add-running
overflow_add-running c =
    let so_far = stick-small c.requires in
    let one = c.edge_adds.ensures.result_bound in
    in-range (search sized depth 9) tt

pub bounds-sums-running : goal.bounds-sums-running
bounds-sums-running c = stick-room c.requires (kept-is _ _ _ c.entry_at.ensures c.if-is_kept.ensures)

pub returns-then-is_kept : goal.returns-then-is_kept
returns-then-is_kept c =
    let so_far = stick-small c.requires in
    let adds = c.edge_adds.ensures in
    let one = adds.result_bound in
    let kept = kept-is _ _ _ c.entry_at.ensures c.if-is_kept.ensures in
    past-kept c.requires kept adds.value one (exact (search sized depth 12) tt) (exact (search sized depth 9) tt) refl

pub returns-else-is_kept : goal.returns-else-is_kept
returns-else-is_kept c = past-other c.requires (kept-is _ _ _ c.entry_at.ensures c.if-is_kept.ensures)
