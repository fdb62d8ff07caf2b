-- `mark_contour` meets its contract. The invariant: marking what is left of the walk, from here, marks the whole contour.
use mathlib.Core.Path.{sym, ap, ◌∙◌}
use native.Mathlib.Omega.{arith}
use borrow.Author.Tests.{not-true, not-false}
use Rattle.contour.specs.Remaining.{sticks_left}
use Rattle.contour.proofs.Scans.{mark-vertical}
use Rattle.contour.proofs.Scanning.{marks-start, marks-place, marks-flat, marks-turn, marks-end}
use Rattle.contour.proofs.scan.mark_contour.Goals as goal

pub loop-e-init : goal.loop-e-init
loop-e-init c = marks-start c.requires (ap sticks_left c.into_iter-e-iterator.ensures.into_iter_gives ∙ c.sticks_of-e-items.ensures)

pub overflow_mul-e : goal.overflow_mul-e
overflow_mul-e c =
    omega (arith, marks-place c.loop-e.invariant c.args.layer.sound c.in-Some.ensures.steps (not-true _ c.if-not-e.true))

pub overflow_add-e : goal.overflow_add-e
overflow_add-e c =
    omega (arith, marks-place c.loop-e.invariant c.args.layer.sound c.in-Some.ensures.steps (not-true _ c.if-not-e.true))

pub insert-requires : goal.insert-requires
insert-requires c =
    record { n_lt_set_bits = marks-place c.loop-e.invariant c.args.layer.sound c.in-Some.ensures.steps (not-true _ c.if-not-e.true) }

pub loop-e-preserved-then-not-e : goal.loop-e-preserved-then-not-e
loop-e-preserved-then-not-e c =
    marks-turn c.loop-e.invariant c.args.layer.sound c.in-Some.ensures.steps
    (c.insert.ensures ∙ marks-flat c.loop-e.invariant c.args.layer.sound c.in-Some.ensures.steps (not-true _ c.if-not-e.true))

pub loop-e-preserved : goal.loop-e-preserved
loop-e-preserved c =
    marks-turn c.loop-e.invariant c.args.layer.sound c.in-Some.ensures.steps
    (sym (mark-vertical c.args.layer.size c.loop-e.set _ (not-false _ c.if-not-e.false)))

pub returns : goal.returns
returns c = marks-end c.loop-e.invariant c.in-None.ensures.steps.0
