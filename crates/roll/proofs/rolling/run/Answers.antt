-- `run` meets its contract.
use native.Mathlib.Omega.{arith}
use Rattle.std.specs.Prelude.{Some, None}
use borrow.Author.Rules.{rules}
use Rattle.roll.proofs.Steps.{ran_from, running-few, running-further, running-on, running-by, done-next}
use Rattle.roll.proofs.rolling.run.Goals as goal

pub overflow_add-done : goal.overflow_add-done
overflow_add-done c =
    let few = running-few c.loop-next.invariant in
    search rules

pub loop-next-smaller : goal.loop-next-smaller
loop-next-smaller c =
    omega (arith, running-further c.loop-next.invariant c.run_command.ensures (done-next (Some c.in-Ok-Some.next) c.in-Ok-Some.is c.in-Ok-Some.field-0-is))

pub loop-next-preserved : goal.loop-next-preserved
loop-next-preserved c =
    running-on c.loop-next.invariant c.run_command.ensures (done-next (Some c.in-Ok-Some.next) c.in-Ok-Some.is c.in-Ok-Some.field-0-is)

pub returns-in-Ok-None : goal.returns-in-Ok-None
unfolding ran_from
returns-in-Ok-None c =
    running-by c.loop-next.invariant c.run_command.ensures (done-next None c.in-Ok-None.is c.in-Ok-None.field-0-is)

pub returns-in-Err : goal.returns-in-Err
unfolding ran_from
returns-in-Err c =
    running-by c.loop-next.invariant c.run_command.ensures c.in-Err.is
