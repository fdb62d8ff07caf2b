-- `kept_after` meets its contract. The invariant: the walk from v has passed removed vertices alone. It is back at v, which is not removed,
-- before the edges are out.
use native.Mathlib.Omega.{arith}
use Rattle.grid.proofs.Numbers.{edges-small}
use Rattle.reading.proofs.Asking.{seeking-start, seeking-below, seeking-turn, seeking-last}
use Rattle.reading.proofs.holding.kept_after.Goals as goal

pub loop-at-init : goal.loop-at-init
loop-at-init c = let given = c.requires in seeking-start given.vertices_stand given.vertex_expected

pub overflow_add-gap : goal.overflow_add-gap
overflow_add-gap c =
    omega (
      arith,
      edges-small c.args.layer.size c.requires.vertices_stand.sound.whole.sized,
      seeking-below c.requires.vertices_stand c.requires.vertex_expected c.loop-at.invariant,
    )

pub loop-at-smaller : goal.loop-at-smaller
loop-at-smaller c =
    let given = c.requires in
    omega (arith, seeking-below given.vertices_stand given.vertex_expected c.loop-at.invariant)

pub loop-at-preserved : goal.loop-at-preserved
loop-at-preserved c =
    let given = c.requires in
    seeking-turn given.vertices_stand given.vertex_expected c.loop-at.invariant (λ k. (c.type_inv.sheet k).fits)
    c.vertex_after-at.ensures given.not_removed c.if-sheet-at-ne82.false

pub returns : goal.returns
returns c =
    let given = c.requires in
    seeking-last given.vertices_stand given.vertex_expected c.loop-at.invariant (λ k. (c.type_inv.sheet k).fits)
    c.vertex_after-at.ensures c.if-sheet-at-ne82.true
