-- `ask_described` meets its contract. The invariant: the first contour that is not held, of those from here on, is the first of all, and the
-- contours from here on are expected from `place` on.
use mathlib.Core.Path.{sym, ap, ◌∙◌}
use native.Mathlib.Omega.{arith}
use Rattle.contour.specs.Remaining.{firsts_left}
use Rattle.contour.proofs.Firsts.{here-stick}
use Rattle.contour.proofs.Sticks.{stick-in}
use Rattle.held.proofs.Asking.{ask-no}
use Rattle.reading.proofs.Asking.{asked-start, asked-stand, asked-next}
use Rattle.reading.proofs.holding.ask_described.Goals as goal

pub loop-stick-init : goal.loop-stick-init
loop-stick-init c = asked-start (ap firsts_left c.into_iter-stick-iterator.ensures.into_iter_gives ∙ c.firsts_of-stick-items.ensures)

pub overflow_add-first : goal.overflow_add-first
overflow_add-first c =
    omega (arith, (asked-stand c.loop-stick.invariant c.in-Some.ensures.steps c.args.contours.layer.sound c.requires).room)

pub held_contour-requires : goal.held_contour-requires
held_contour-requires c = asked-stand c.loop-stick.invariant c.in-Some.ensures.steps c.args.contours.layer.sound c.requires

pub number_of-requires-clause-within : goal.number_of-requires-clause-within
number_of-requires-clause-within c =
    stick-in _ _ (here-stick c.loop-stick.invariant.asked.firsts c.in-Some.ensures.steps c.args.contours.layer.sound)

pub returns-in_default : goal.returns-in_default
returns-in_default c =
    rw (c.at.ensures, c.number_of.ensures) (ask-no c.loop-stick.invariant.asked c.in-Some.ensures.steps (sym c.in_default.ensures.held))

pub loop-stick-preserved : goal.loop-stick-preserved
loop-stick-preserved c = asked-next c.loop-stick.invariant c.in-Some.ensures.steps c.in-Some-held_contour.ensures
