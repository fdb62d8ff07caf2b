-- `stick_after` meets its contract. The invariant: the walk is as many steps on as it has turned.
use Rattle.run.proofs.Steps.{no_steps, step-more, stick-on}
use Rattle.run.proofs.walk.stick_after.Goals as goal

pub loop-init : goal.loop-init
loop-init c = no_steps _ _

pub next_stick-at-requires : goal.next_stick-at-requires
next_stick-at-requires c = record { stick = stick-on _ _ _ c.args.layer.sound c.requires c.loop.invariant }

pub loop-preserved : goal.loop-preserved
loop-preserved c = step-more _ _ _ c.loop.invariant c.next_stick-at.ensures
