-- `ask_roll` meets its contract. The invariant: the answer from here on is that of the whole roll.
-- A command goes on by its length, or ends the loop with the answer at its place.
use mathlib.Core.Path.{sym, ◌∙◌}
use native.Mathlib.Omega.{arith}
use Rattle.roll.proofs.Forms.{formed-all, formed-end, formed-next, formed-wrong, read-as, within, at_none}
use Rattle.roll.proofs.command.ask_roll.Goals as goal

pub loop-at-init : goal.loop-at-init
loop-at-init c = (omega arith, formed-all c.args.roll.now)

pub returns-in_default : goal.returns-in_default
returns-in_default c =
    rw c.at.ensures (formed-wrong c.args.roll.now c.loop-at.at (sym c.in_default.ensures) ∙ c.loop-at.invariant.1)

pub returns-in-End : goal.returns-in-End
returns-in-End c =
    c.ask_last.ensures ∙ formed-end c.args.roll.now c.loop-at.at (read-as c.in-Some.ensures c.in-End.is) ∙ c.loop-at.invariant.1

pub loop-at-preserved : goal.loop-at-preserved
loop-at-preserved c =
    let at = c.loop-at.at in
    let r = c.args.roll.now in
    rw c.width-at.ensures (
      within r at c.in-Some.ensures c.loop-at.invariant.0,
      formed-next r at c.in-Some.command c.in-Some.ensures c.in_default-command.not-End ∙ c.loop-at.invariant.1,
    )

pub returns : goal.returns
returns c =
    let r = c.args.roll.now in
    rw c.at-2.ensures (formed-wrong r c.loop-at.at (at_none r c.loop-at.at c.loop-at-test.false) ∙ c.loop-at.invariant.1)
