-- `kept_by` meets its contract. The invariant: the walk from e has passed only removed sticks, fewer than its contour has sticks.
-- `way` is the law of the way's walk, `removed` what the stick's entry says; the walk's laws are those of GapWalk.
use mathlib.Core.Path.{sym, ap, ◌∙◌}
use native.Mathlib.Omega.{arith}
use Rattle.grid.proofs.Numbers.{edges-small}
use Rattle.table.specs.Vertices.{is_removed, removed_at}
use Rattle.table.proofs.Lent.{has-entry}
use Rattle.drawn.proofs.GapWalk.{passed_start, passed_here, passed-below, passed-stick, passed-turn, passed-last}
use Rattle.drawn.proofs.walk.kept_by.Goals as goal

pub loop-gap-init : goal.loop-gap-init
loop-gap-init g c = passed_start _ (g.met.W.Way.is_walk _ c.args.layer.sound) c.requires.lent_at.stick

pub step-at-requires : goal.step-at-requires
step-at-requires g c = passed_here _ (g.met.W.Way.is_walk _ c.args.layer.sound) c.requires.lent_at.stick c.loop-gap.invariant

pub entry_at-requires : goal.entry_at-requires
entry_at-requires g c =
    let given = c.requires.lent_at in
    let way = g.met.W.Way.is_walk _ given.sound in
    has-entry (record {
      sound = given.sound;
      exact = given.exact;
      stick = passed-stick _ way given.stick c.loop-gap.invariant c.step-at.ensures;
    })

pub overflow_add-gap : goal.overflow_add-gap
overflow_add-gap g c =
    let given = c.requires.lent_at in
    let few = passed-below _ (g.met.W.Way.is_walk _ given.sound) given.stick c.loop-gap.invariant in
    omega (arith, few, edges-small _ given.sound.whole.sized)

pub loop-gap-smaller : goal.loop-gap-smaller
loop-gap-smaller g c =
    let given = c.requires.lent_at in
    omega (arith, passed-below _ (g.met.W.Way.is_walk _ given.sound) given.stick c.loop-gap.invariant)

pub loop-gap-preserved : goal.loop-gap-preserved
unfolding removed_at
loop-gap-preserved g c =
    let given = c.requires.lent_at in
    let removed = sym (c.is_removed.ensures ∙ ap is_removed c.entry_at.ensures) ∙ c.if-not-is_removed.false in
    passed-turn _ (g.met.W.Way.is_walk _ given.sound) given.stick c.loop-gap.invariant c.step-at.ensures c.requires.not_removed removed

pub returns : goal.returns
unfolding removed_at
returns g c =
    let given = c.requires.lent_at in
    let removed = sym (c.is_removed.ensures ∙ ap is_removed c.entry_at.ensures) ∙ c.if-not-is_removed.true in
    passed-last _ (g.met.W.Way.is_walk _ given.sound) given.stick c.loop-gap.invariant c.step-at.ensures removed
