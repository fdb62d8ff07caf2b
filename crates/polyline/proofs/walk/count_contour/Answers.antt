-- `count_contour` meets its contract. The invariant: the kept vertices counted and those still to come are all of the contour's.
use mathlib.Core.Path.{ap, ◌∙◌}
use native.Mathlib.Omega.{arith}
use Rattle.arith.specs.Booleans.{as_number}
use Rattle.contour.specs.Remaining.{sticks_left}
use Rattle.grid.specs.Plain.{plain}
use Rattle.table.proofs.Lent.{has-entry}
use Rattle.polyline.proofs.Walking.{kept-is, tally-start, tally-here, tally-few, tally-turn, tally-end}
use Rattle.polyline.proofs.walk.count_contour.Goals as goal

pub loop-e-init : goal.loop-e-init
loop-e-init c = tally-start c.requires (ap sticks_left c.into_iter-e-iterator.ensures.into_iter_gives ∙ c.sticks_of-e-items.ensures)

pub entry_at-requires : goal.entry_at-requires
entry_at-requires c = has-entry (tally-here c.requires c.loop-e.invariant c.in-Some.ensures.steps)

pub overflow_add-kept : goal.overflow_add-kept
overflow_add-kept c = omega (arith, tally-few c.requires c.loop-e.invariant)

pub loop-e-preserved-then-is_kept : goal.loop-e-preserved-then-is_kept
loop-e-preserved-then-is_kept c =
    tally-turn c.requires c.loop-e.invariant c.in-Some.ensures.steps
    (omega (arith, ap as_number (kept-is (plain c.args.layer) _ _ c.entry_at.ensures c.is_kept.ensures ∙ c.if-is_kept.true)))

pub loop-e-preserved : goal.loop-e-preserved
loop-e-preserved c =
    tally-turn c.requires c.loop-e.invariant c.in-Some.ensures.steps
    (omega (arith, ap as_number (kept-is (plain c.args.layer) _ _ c.entry_at.ensures c.is_kept.ensures ∙ c.if-is_kept.false)))

pub returns : goal.returns
returns c = tally-end c.requires c.loop-e.invariant c.in-None.ensures.steps.0
