-- `measure_held` meets its contract: an output is too short, or both hold the whole answer.
use mir.Syntax.{w64}
use mir.Val.{to_z, of_z}
use Rattle.arith.proofs.Bounds.{sized, exact}
use Rattle.held.proofs.Asking.{accepted-of}
use Rattle.area.proofs.Answered.{drawn-is, measured-short-areas, measured-short-sums, measured-all}
use Rattle.area.proofs.measure.measure_held.Goals as goal

pub returns-then-areas-count : goal.returns-then-areas-count
returns-then-areas-count c = rw c.at.ensures (measured-short-areas _ _ _ _ c.requires c.contours_in-count.ensures.value c.if-areas-count.true)

pub returns-then-sums-edges : goal.returns-then-sums-edges
returns-then-sums-edges c = rw c.at-then-sums-edges.ensures (measured-short-sums _ _ _ _ c.requires c.count_kept-edges.ensures c.if-sums-edges.true)

pub put_areas-requires-clause-accepted : goal.put_areas-requires-clause-accepted
put_areas-requires-clause-accepted c = accepted-of _ _ c.requires

pub put_sums-total-requires-clause-accepted : goal.put_sums-total-requires-clause-accepted
put_sums-total-requires-clause-accepted c = accepted-of _ _ c.requires

pub put_sums-total-requires-clause-room : goal.put_sums-total-requires-clause-room
put_sums-total-requires-clause-room c =
    rw (drawn-is _ _ c.requires c.count_kept-edges.ensures) at c.if-sums-edges.false

pub returns : goal.returns
returns c =
    let all = c.put_sums-total.ensures in
    let small = all.small in
    let done =
    measured-all _ _ _ _ c.requires c.contours_in-count.ensures.value c.count_kept-edges.ensures c.if-areas-count.false c.if-sums-edges.false
    c.put_areas.ensures all in
    rw (exact {z = to_z w64 (of_z w64 c.put_sums-total.result)} (search sized depth 9) tt) done
