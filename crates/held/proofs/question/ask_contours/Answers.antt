-- `ask_contours` meets its contract. The invariant: the first contour that is not held, of those that are left, is the first of all.
use mathlib.Core.Path.{sym, ap, ◌∙◌}
use Rattle.contour.specs.Remaining.{firsts_left}
use Rattle.contour.proofs.Firsts.{here-stick}
use Rattle.contour.proofs.Sticks.{stick-in}
use Rattle.held.proofs.Asking.{ask-start, ask-no, ask-next, ask-end}
use Rattle.held.proofs.question.ask_contours.Goals as goal

pub loop-first-init : goal.loop-first-init
loop-first-init c = ask-start (ap firsts_left c.into_iter-first-iterator.ensures.into_iter_gives ∙ c.firsts_of-first-items.ensures)

pub held_contour-requires : goal.held_contour-requires
held_contour-requires c =
    let sound = c.args.contours.layer.sound in
    record { sound = sound; exact = c.requires.exact; stick = here-stick c.loop-first.invariant.firsts c.in-Some.ensures.steps sound }

pub number_of-requires : goal.number_of-requires
number_of-requires c =
    let sound = c.args.contours.layer.sound in
    record { sized = sound.whole.sized; within = stick-in _ _ (here-stick c.loop-first.invariant.firsts c.in-Some.ensures.steps sound) }

pub returns-then-not-held_contour : goal.returns-then-not-held_contour
returns-then-not-held_contour c =
    rw (c.at.ensures, c.number_of.ensures)
    (ask-no c.loop-first.invariant c.in-Some.ensures.steps (sym c.held_contour.ensures ∙ c.if-not-held_contour.true))

pub loop-first-preserved : goal.loop-first-preserved
loop-first-preserved c =
    ask-next c.loop-first.invariant c.in-Some.ensures.steps (sym c.held_contour.ensures ∙ c.if-not-held_contour.false)

pub returns : goal.returns
returns c = ask-end c.loop-first.invariant c.in-None.ensures.steps.0
