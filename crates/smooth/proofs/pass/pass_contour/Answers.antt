-- `pass_contour` meets its contract. The invariant: visiting what is left of the contour, from here, gives the pass over the whole of it.
-- `here` is the stick of a turn, `there` the next, and `ahead` what the turn finds of the next vertex.
use mathlib.Core.Path.{sym, ◌∙◌}
use native.Mathlib.Omega.{arith}
use Rattle.table.proofs.Lent.{has-entry, places-few}
use Rattle.smooth.proofs.Walking.{smoothable-kept, stick-near, lent-first, lent-previous, entry-within, entry-suits, next-vertex, visits-start, visits-here, visits-there, visitable, visits-few, visits-less, visited-kept, total-within, visits-turn, visits-last}
use Rattle.smooth.proofs.Sizes.{contour-most, pass-most}
use Rattle.smooth.proofs.pass.pass_contour.Goals as goal

pub number_of-start-requires : goal.number_of-start-requires
number_of-start-requires c = let entry = has-entry (lent-first c.requires) in record { sized = entry.sized; within = entry.in-grid }

pub previous_stick-requires : goal.previous_stick-requires
previous_stick-requires c = record { stick = c.requires.stick }

pub vertex_at-p-requires : goal.vertex_at-p-requires
vertex_at-p-requires c = has-entry (lent-previous (lent-first c.requires) c.previous_stick.ensures)

pub loop-at-init : goal.loop-at-init
loop-at-init c =
    let vertex = c.vertex_at-p.ensures in
    visits-start (lent-first c.requires) (smoothable-kept c.requires.table) c.number_of-start.ensures
    c.previous_stick.ensures vertex.value vertex.near

pub next_stick-next-requires : goal.next_stick-next-requires
next_stick-next-requires c =
    let here = visits-here c.requires.table.sound c.loop-at.invariant in record { stick = here.stick }

pub number_of-after-requires : goal.number_of-after-requires
number_of-after-requires c =
    let entry = has-entry (visits-there c.requires.table.sound c.loop-at.invariant c.next_stick-next.ensures) in
    record { sized = entry.sized; within = entry.in-grid }

pub offset_bounds-table-after : goal.offset_bounds-table-after
offset_bounds-table-after c =
    let there = visits-there c.requires.table.sound c.loop-at.invariant c.next_stick-next.ensures in
    omega (arith, entry-within there c.number_of-after.ensures, places-few (has-entry there))

pub bounds-table-after : goal.bounds-table-after
bounds-table-after c =
    let there = visits-there c.requires.table.sound c.loop-at.invariant c.next_stick-next.ensures in
    entry-within there c.number_of-after.ensures

pub offset_of-requires : goal.offset_of-requires
offset_of-requires c =
    let there = visits-there c.requires.table.sound c.loop-at.invariant c.next_stick-next.ensures in
    entry-suits there c.number_of-after.ensures c.loop-at.invariant.kept

pub position_of-q-requires : goal.position_of-q-requires
position_of-q-requires c = stick-near (visits-there c.requires.table.sound c.loop-at.invariant c.next_stick-next.ensures)

pub visit-moved-requires : goal.visit-moved-requires
visit-moved-requires c =
    let q = c.position_of-q.ensures in
    let ahead = next-vertex c.loop-at.table c.next_stick-next.ensures c.number_of-after.ensures c.offset_of.ensures q.value q.near in
    visitable c.requires.table.sound c.loop-at.invariant ahead

pub overflow_add-total : goal.overflow_add-total
overflow_add-total c =
    let q = c.position_of-q.ensures in
    let ahead = next-vertex c.loop-at.table c.next_stick-next.ensures c.number_of-after.ensures c.offset_of.ensures q.value q.near in
    let given = c.requires in
    let inv = c.loop-at.invariant in
    omega (
      arith,
      total-within given.table.sound inv ahead c.visit-moved.ensures,
      pass-most given.table.sound c.args.first given.stick (smoothable-kept given.table),
    )

pub overflow_add-vertices : goal.overflow_add-vertices
overflow_add-vertices c =
    let q = c.position_of-q.ensures in
    let ahead = next-vertex c.loop-at.table c.next_stick-next.ensures c.number_of-after.ensures c.offset_of.ensures q.value q.near in
    let given = c.requires in
    omega (
      arith,
      visits-few given.table.sound c.loop-at.invariant ahead,
      contour-most given.table.sound c.args.first given.stick,
    )

pub position_of-p-requires : goal.position_of-p-requires
position_of-p-requires c =
    stick-near (visits-here c.requires.table.sound c.loop-at.invariant)

pub loop-at-smaller : goal.loop-at-smaller
loop-at-smaller c =
    let q = c.position_of-q.ensures in
    let ahead = next-vertex c.loop-at.table c.next_stick-next.ensures c.number_of-after.ensures c.offset_of.ensures q.value q.near in
    visits-less c.requires.table.sound c.loop-at.invariant ahead (λ e. c.if-at-start.false (e ∙ sym c.number_of-start.ensures))

pub loop-at-preserved : goal.loop-at-preserved
loop-at-preserved c =
    let q = c.position_of-q.ensures in
    let ahead = next-vertex c.loop-at.table c.next_stick-next.ensures c.number_of-after.ensures c.offset_of.ensures q.value q.near in
    let past = c.position_of-p.ensures in
    visits-turn c.requires.table.sound c.loop-at.invariant ahead c.visit-moved.ensures past.value past.near
    (λ e. c.if-at-start.false (e ∙ sym c.number_of-start.ensures))

pub shape_of-table : goal.shape_of-table
shape_of-table c =
    let q = c.position_of-q.ensures in
    let ahead = next-vertex c.loop-at.table c.next_stick-next.ensures c.number_of-after.ensures c.offset_of.ensures q.value q.near in
    let given = c.requires.table in
    (visited-kept c.args.layer.sound c.loop-at.invariant ahead c.visit-moved.ensures).whole ∙ sym given.exact

pub returns : goal.returns
returns c =
    let q = c.position_of-q.ensures in
    let ahead = next-vertex c.loop-at.table c.next_stick-next.ensures c.number_of-after.ensures c.offset_of.ensures q.value q.near in
    visits-last c.requires.table.sound c.loop-at.invariant ahead c.visit-moved.ensures
    (c.if-at-start.true ∙ c.number_of-start.ensures)
