-- `remove_inner` meets its contract. The invariant: removing what is left, from here, removes all.
use Rattle.table.specs.Vertices.{offset_at}
use Rattle.table.proofs.Lent.{has-entry}
use Rattle.run.proofs.Steps.{removals-lent, removals-turn, removals-end}
use Rattle.run.proofs.walk.remove_inner.Goals as goal

pub remove-requires : goal.remove-requires
remove-requires c =
    let given = c.requires in
    has-entry (removals-lent c.loop.invariant c.args.layer.sound c.next_stick-at.ensures given.exact)

pub loop-preserved : goal.loop-preserved
unfolding offset_at
loop-preserved c = removals-turn c.loop.invariant c.args.layer.sound c.next_stick-at.ensures c.loop-test.true c.remove.ensures

pub returns : goal.returns
returns c = removals-end c.loop.invariant c.loop-test.false
