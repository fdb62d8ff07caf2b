-- `passes_run` meets its contract. The invariant: the sticks that are left pass if all do.
-- The laws are those of any test of the sticks that follow one; a run of n edges has n - 1 sticks between its ends.
use mathlib.Core.Path.{◌≡◌, sym, ◌∙◌}
use Prim.Native.Nat.{◌+◌, ◌-◌}
use native.Mathlib.Omega.{arith}
use Rattle.table.specs.Vertices.{offset_at}
use Rattle.table.proofs.Lent.{has-entry}
use Rattle.step.proofs.Following.{on-next, tests-no, tests-turn, tests-end}
use Rattle.run.proofs.Steps.{lent-start, lent-end, tests-start}
use Rattle.run.proofs.passes.passes_run.Goals as goal

pub vertex_at-p-requires : goal.vertex_at-p-requires
vertex_at-p-requires c = has-entry (lent-start c.requires)

pub vertex_at-q-requires : goal.vertex_at-q-requires
vertex_at-q-requires c = has-entry (lent-end c.requires)

pub loop-init : goal.loop-init
unfolding offset_at
loop-init c = tests-start c.args.t _ _ c.requires c.vertex_at-p.ensures.value c.vertex_at-q.ensures.value

pub chord_passes-requires-clause-lent_at : goal.chord_passes-requires-clause-lent_at
chord_passes-requires-clause-lent_at c =
    let given = c.requires in
    record { sound = c.args.layer.sound; exact = given.exact; stick = on-next c.args.layer.sound _ c.loop.invariant.stick c.next_stick-at.ensures }

pub returns-then-not-chord_passes : goal.returns-then-not-chord_passes
returns-then-not-chord_passes c =
    tests-no c.loop.invariant (omega (arith, c.loop-test.true)) c.next_stick-at.ensures
    (sym c.chord_passes.ensures ∙ c.if-not-chord_passes.true)

pub loop-preserved : goal.loop-preserved
loop-preserved c =
    let one : c.args.n - (c.loop.counter + 1) ≡ c.args.n - c.loop.counter - 1 = omega arith in
    rw one
    (tests-turn c.loop.invariant (omega (arith, c.loop-test.true)) c.next_stick-at.ensures c.args.layer.sound
    (sym c.chord_passes.ensures ∙ c.if-not-chord_passes.false))

pub returns : goal.returns
returns c = tests-end c.loop.invariant (omega (arith, c.loop-test.false))
