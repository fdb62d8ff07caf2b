-- `store_vertices` meets its contract. The invariant: storing what is left of the contour, from here, stores the whole of it.
use mathlib.Core.Path.{ap, ◌∙◌}
use Rattle.contour.specs.Remaining.{sticks_left}
use Rattle.table.proofs.Lent.{has-entry}
use Rattle.reading.proofs.Storing.{storing-start, storing-here, storing-turn}
use Rattle.reading.proofs.fill.store_vertices.Goals as goal

pub loop-e-init : goal.loop-e-init
loop-e-init c =
    storing-start c.requires.lent_at c.requires.room
    (ap sticks_left c.into_iter-e-iterator.ensures.into_iter_gives ∙ c.sticks_of-e-items.ensures)

pub store-requires : goal.store-requires
store-requires c = has-entry (storing-here c.loop-e.invariant c.in-Some.ensures.steps c.args.layer.sound)

pub loop-e-preserved : goal.loop-e-preserved
loop-e-preserved c = storing-turn c.loop-e.invariant c.in-Some.ensures.steps c.args.layer.sound c.entry_from.ensures c.store.ensures
