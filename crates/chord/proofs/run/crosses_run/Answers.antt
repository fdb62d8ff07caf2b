-- `crosses_run` meets its contract. The invariant: the sticks that are left are crossed if all are. Those that the search leaves: a stick that
-- follows one is an edge of the largest layer, and one less is left after a turn.
use mathlib.Core.Path.{◌≡◌, sym, ◌∙◌}
use Prim.Native.Nat.{◌+◌, ◌-◌}
use native.Mathlib.Omega.{arith}
use Rattle.step.proofs.Following.{on-next, tests-turn}
use Rattle.chord.proofs.Tests.{stick-near, run-start}
use Rattle.chord.proofs.run.crosses_run.Goals as goal

pub loop-init : goal.loop-init
loop-init c = run-start _ _ _ _ c.requires.stick (omega arith)

pub crosses_stick-requires-clause-near_edge : goal.crosses_stick-requires-clause-near_edge
crosses_stick-requires-clause-near_edge c =
    let sound = c.args.layer.sound in
    stick-near _ sound _ (on-next sound _ c.loop.invariant.stick c.next_stick-at.ensures)

pub loop-preserved : goal.loop-preserved
loop-preserved c =
    let one-less : c.args.count - (c.loop.counter + 1) ≡ c.args.count - c.loop.counter - 1 = omega arith in
    rw one-less (tests-turn c.loop.invariant (omega arith) c.next_stick-at.ensures c.args.layer.sound
    (sym c.crosses_stick.ensures ∙ c.if-not-crosses_stick.false))
