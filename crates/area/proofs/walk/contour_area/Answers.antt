-- `contour_area` meets its contract. The invariant: what is summed, what the drawn edge that leads on from the last kept vertex adds, and what those that
-- start later add make the whole.
use mathlib.Core.Path.{ap, ◌∙◌}
use mir.Syntax.{w64}
use mir.Val.{to_z, of_z}
use Rattle.arith.proofs.Bounds.{sized, exact}
use Rattle.contour.specs.Remaining.{sticks_left}
use Rattle.table.proofs.Lent.{has-entry}
use Rattle.area.proofs.Summing.{summed-start, summed-here, summed-edge, summed-small, summed_turn, summed-end, closing-small, area-found, area_small}
use Rattle.area.proofs.walk.contour_area.Goals as goal

pub loop-e-init : goal.loop-e-init
loop-e-init c = summed-start c.requires (ap sticks_left c.into_iter-e-iterator.ensures.into_iter_gives ∙ c.sticks_of-e-items.ensures)

pub entry_at-requires : goal.entry_at-requires
entry_at-requires c = has-entry (summed-here c.requires c.loop-e.invariant c.in-Some.ensures.steps)

pub pass-requires-clause-edge : goal.pass-requires-clause-edge
pass-requires-clause-edge c = summed-edge c.requires c.loop-e.invariant c.in-Some.ensures.steps

pub pass-requires-clause-small : goal.pass-requires-clause-small
pass-requires-clause-small c = summed-small c.requires c.loop-e.invariant

pub loop-e-preserved : goal.loop-e-preserved
loop-e-preserved c =
    let passed = c.pass.ensures in
    summed_turn c.requires c.loop-e.invariant c.in-Some.ensures.steps c.entry_at.ensures passed.value passed.bounded passed.trail

pub closed-requires-clause-small : goal.closed-requires-clause-small
closed-requires-clause-small c = closing-small c.requires (summed-end c.requires c.loop-e.invariant c.in-None.ensures.steps.0)

pub returns : goal.returns
returns c =
    let closing = summed-end c.requires c.loop-e.invariant c.in-None.ensures.steps.0 in
    let found = area-found c.requires closing c.closed.ensures.value c.closed.ensures.bounded in
    let small = area_small c.requires found in
    rw (exact {z = to_z w64 (of_z w64 c.closed.result)} (search sized depth 9) tt) found
