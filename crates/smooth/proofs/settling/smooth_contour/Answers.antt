-- `smooth_contour` meets its contract. The invariant: the passes that the limit still allows, from here, give the result of the whole.
-- Limits has one more pass, the settled end and the end by the limit.
use mathlib.Core.Path.{◌≡◌}
use Prim.Native.Nat.{◌+◌, ◌-◌}
use native.Mathlib.Omega.{arith}
use Rattle.smooth.proofs.Walking.{smoothable-kept}
use Rattle.smooth.proofs.Rounds.{kept-smoothable}
use Rattle.smooth.proofs.Limits.{settling-start, settling-most, settling-turn, settling-limit, settling-settled}
use Rattle.smooth.proofs.settling.smooth_contour.Goals as goal

pub loop-passes-init : goal.loop-passes-init
loop-passes-init c = settling-start (smoothable-kept c.requires.table)

pub pass_contour-made-requires : goal.pass_contour-made-requires
pass_contour-made-requires c =
    let given = c.requires in
    record { table = kept-smoothable given.table.sound c.loop-passes.invariant.kept; stick = given.stick }

pub is_settled-requires : goal.is_settled-requires
is_settled-requires c =
    let given = c.requires in
    let most = settling-most c.loop-passes.invariant given.table.sound given.stick c.pass_contour-made.ensures in
    record { total_le_most_total = most.0; vertices_le_most_vertices = most.1 }

pub loop-passes-preserved : goal.loop-passes-preserved
loop-passes-preserved c =
    let given = c.requires in
    let same : c.loop-passes.passes + 1 - 1 ≡ c.loop-passes.passes = omega arith in
    rw same
    (settling-turn c.loop-passes.invariant given.table.sound given.stick c.pass_contour-made.ensures (omega arith) (omega arith)
    c.is_settled.ensures c.if-is_settled.false)

pub returns-then-is_settled : goal.returns-then-is_settled
returns-then-is_settled c =
    let given = c.requires in
    settling-settled c.loop-passes.invariant given.table.sound given.stick c.pass_contour-made.ensures (omega arith) (omega arith)
    c.is_settled.ensures c.if-is_settled.true

pub returns : goal.returns
returns c =
    rw c.from-most.ensures (settling-limit c.loop-passes.invariant (omega (arith, c.from-most.ensures, c.loop-passes-test.false)))

pub returns-else-is_settled : goal.returns-else-is_settled
returns-else-is_settled c =
    let given = c.requires in
    rw c.from-most.ensures
    (settling-limit {passes = c.loop-passes.passes}
    (settling-turn c.loop-passes.invariant given.table.sound given.stick c.pass_contour-made.ensures (omega arith) (omega arith)
    c.is_settled.ensures c.if-is_settled.false) (omega arith))
