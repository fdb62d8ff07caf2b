-- `put_vertices` meets its contract. The invariant: what is left of the contour, stored from here on, gives the whole.
use mathlib.Core.Path.{ap, ◌∙◌}
use Rattle.contour.specs.Remaining.{sticks_left}
use Rattle.table.proofs.Lent.{has-entry}
use Rattle.sheet.proofs.Contours.{vertices-start, vertex-lent, vertex-room, vertices-turn, vertices-end}
use Rattle.sheet.proofs.walk.put_vertices.Goals as goal

pub loop-e-init : goal.loop-e-init
loop-e-init c = vertices-start c.requires.lent_at (ap sticks_left c.into_iter-e-iterator.ensures.into_iter_gives ∙ c.sticks_of-e-items.ensures)

pub entry_at-requires : goal.entry_at-requires
entry_at-requires c = has-entry (vertex-lent c.loop-e.invariant c.in-Some.ensures.steps c.requires.lent_at)

pub put_vertex-at-requires : goal.put_vertex-at-requires
put_vertex-at-requires c = vertex-room c.loop-e.invariant c.in-Some.ensures.steps c.entry_at.ensures c.requires.room

pub loop-e-preserved : goal.loop-e-preserved
loop-e-preserved c = vertices-turn c.loop-e.invariant c.in-Some.ensures.steps c.entry_at.ensures c.args.layer.sound c.put_vertex-at.ensures

pub returns : goal.returns
returns c = vertices-end c.loop-e.invariant c.in-None.ensures.steps.0
