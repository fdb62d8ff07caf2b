-- `bore_sticks` meets its contract. The invariant: the bits of the sticks on bores that the loop has passed are set, and no others.
use mathlib.Core.Path.{ap, ◌∙◌}
use Rattle.contour.specs.Remaining.{firsts_left}
use Rattle.nesting.proofs.Marking.{bores-start, bores-markable, bores-turn, bores-end}
use Rattle.nesting.proofs.bore.bore_sticks.Goals as goal

pub loop-first-init : goal.loop-first-init
loop-first-init c =
    bores-start c.args.contours.layer.sound (ap firsts_left c.into_iter-first-iterator.ensures.into_iter_gives ∙ c.firsts_of-first-items.ensures)
    c.requires.empty

pub mark_bore-requires : goal.mark_bore-requires
mark_bore-requires c = bores-markable c.args.contours.layer.sound c.loop-first.invariant c.in-Some.ensures.steps

pub loop-first-preserved : goal.loop-first-preserved
loop-first-preserved c =
    bores-turn c.args.contours.layer.sound c.loop-first.invariant c.in-Some.ensures.steps c.mark_bore.ensures

pub returns : goal.returns
returns c = bores-end c.args.contours.layer.sound c.loop-first.invariant c.in-None.ensures.steps.0
