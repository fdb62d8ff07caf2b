-- `ask_contours` meets its contract. The invariant: the answer for the contours from here on is that for all of them.
use mathlib.Core.Path.{◌∙◌}
use Rattle.std.proofs.lemmas.Result.{err_from_is_err_and}
use Rattle.contour.proofs.Firsts.{here-stick}
use Rattle.formed.proofs.Asking.{sheet-no, sheet-next, sheet-end}
use Rattle.formed.proofs.ask.ask_contours.Goals as goal

pub walk_contour-requires : goal.walk_contour-requires
walk_contour-requires c =
    let inv = c.loop-first.invariant in
    record { stick = here-stick inv.firsts c.in-Some.ensures.steps c.args.contours.layer.sound; within = inv.within }

pub returns-in_err-place : goal.returns-in_err-place
returns-in_err-place c =
    let exit = err_from_is_err_and c.from_residual.result c.from_residual.ensures.1 in
    rw (exit.1, exit.2) (sheet-no c.loop-first.invariant c.in-Some.ensures.steps c.walk_contour.ensures c.in_err-place.was)

pub loop-first-preserved : goal.loop-first-preserved
loop-first-preserved c = sheet-next c.loop-first.invariant c.in-Some.ensures.steps c.walk_contour.ensures c.in_ok-place.was

pub returns : goal.returns
returns c = c.ask_end.ensures ∙ sheet-end c.loop-first.invariant c.in-None.ensures.steps.0
