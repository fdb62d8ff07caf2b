-- `try_runs` meets its contract. The invariant: trying the runs that wait gives what the contour is to give, and as many wait as the definition
-- says. The measure is how many runs are still to be tried.
use mathlib.Core.Path.{sym, ◌∙◌}
use Prim.Native.Nat.{◌+◌, ◌-◌, ◌≤◌}
use native.Mathlib.Omega.{arith}
use Rattle.run.proofs.Steps.{no_steps, lent-start}
use Rattle.simplify.proofs.RunsLeft.{whole-splits, whole_from, middle-along}
use Rattle.simplify.proofs.Pending.{pending-start, counts-small, few, top_from, top_lent, place-small, removed-small, top_split, room, pending-passed, pending-split, pending-end}
use Rattle.simplify.proofs.tries.try_runs.Goals as goal
use Rattle.simplify.proofs.tries.try_runs.Goals.{After-run_to-first_part}

-- the two parts of a split run have room
fits : (c : After-run_to-first_part) → c.loop-top.top - 1 + 2 ≤ 22
fits c = room c.requires.contour c.loop-top.invariant c.loop-top-test.true (sym c.passes_run.ensures ∙ c.if-passes_run.false)

pub overflow_sub-n : goal.overflow_sub-n
overflow_sub-n c = omega (arith, c.half_of-middle.ensures, (whole-splits c.requires.contour).first_less)

-- Before the loop
pub stick_at-requires : goal.stick_at-requires
stick_at-requires c =
    let given = c.requires in
    middle-along given.contour (no_steps _ _) (whole_from given.contour) (whole-splits given.contour) c.half_of-middle.ensures given.marked

pub loop-top-init : goal.loop-top-init
loop-top-init c =
    pending-start c.requires.contour c.half_of-middle.ensures c.stick_at.ensures
    c.run_to.ensures c.run_to-second_run.ensures

pub overflow_sub-top : goal.overflow_sub-top
overflow_sub-top c = omega (arith, c.loop-top-test.true)

-- it stands within the array
pub bounds-runs-top : goal.bounds-runs-top
bounds-runs-top c = omega (arith, few c.requires.contour c.loop-top.invariant c.loop-top-test.true)

pub offset_bounds-runs-top : goal.offset_bounds-runs-top
offset_bounds-runs-top c = omega (arith, bounds-runs-top c)

pub overflow_add-tried : goal.overflow_add-tried
overflow_add-tried c = omega (arith, counts-small c.requires.contour c.loop-top.invariant)

pub passes_run-requires : goal.passes_run-requires
passes_run-requires c = top_lent c.requires.contour c.loop-top.invariant c.loop-top-test.true c.requires.exact

pub remove_inner-requires : goal.remove_inner-requires
remove_inner-requires c = lent-start (top_lent c.requires.contour c.loop-top.invariant c.loop-top-test.true c.requires.exact)

pub overflow_sub-removed : goal.overflow_sub-removed
overflow_sub-removed c = (top_from c.requires.contour c.loop-top.invariant c.loop-top-test.true).some

pub overflow_add-removed : goal.overflow_add-removed
overflow_add-removed c = omega (arith, removed-small c.requires.contour c.loop-top.invariant c.loop-top-test.true)

pub overflow_add-place : goal.overflow_add-place
overflow_add-place c = omega (arith, place-small c.requires.contour c.loop-top.invariant c.loop-top-test.true)

pub loop-top-preserved-then-passes_run : goal.loop-top-preserved-then-passes_run
loop-top-preserved-then-passes_run c =
    pending-passed c.requires.contour c.loop-top.invariant c.loop-top-test.true (sym c.passes_run.ensures ∙ c.if-passes_run.true) c.remove_inner.ensures

pub loop-top-smaller-then-passes_run : goal.loop-top-smaller-then-passes_run
loop-top-smaller-then-passes_run c =
    omega (arith, (counts-small c.requires.contour (loop-top-preserved-then-passes_run c)).2)

pub overflow_sub-run : goal.overflow_sub-run
overflow_sub-run c =
    omega (arith, c.half_of-h.ensures, (top_split c.requires.contour c.loop-top.invariant c.loop-top-test.true (sym c.passes_run.ensures ∙ c.if-passes_run.false)).first_less)

pub stick_at-requires-else-passes_run : goal.stick_at-requires-else-passes_run
stick_at-requires-else-passes_run c =
    let given = c.requires in
    let inv = c.loop-top.invariant in
    middle-along given.contour inv.remaining.here (top_from given.contour inv c.loop-top-test.true)
    (top_split given.contour inv c.loop-top-test.true (sym c.passes_run.ensures ∙ c.if-passes_run.false)) c.half_of-h.ensures given.marked

pub offset_bounds-runs-top-else-passes_run : goal.offset_bounds-runs-top-else-passes_run
offset_bounds-runs-top-else-passes_run c = omega (arith, fits c)

pub bounds-runs-top-else-passes_run : goal.bounds-runs-top-else-passes_run
bounds-runs-top-else-passes_run c = omega (arith, fits c)

pub overflow_add-runs : goal.overflow_add-runs
overflow_add-runs c = omega (arith, fits c)

pub offset_bounds-runs-top-else-passes_run-2 : goal.offset_bounds-runs-top-else-passes_run-2
offset_bounds-runs-top-else-passes_run-2 c = omega (arith, fits c)

pub bounds-runs-top-else-passes_run-2 : goal.bounds-runs-top-else-passes_run-2
bounds-runs-top-else-passes_run-2 c = omega (arith, fits c)

pub overflow_add-top : goal.overflow_add-top
overflow_add-top c = omega (arith, fits c)

pub loop-top-preserved : goal.loop-top-preserved
loop-top-preserved c =
    pending-split c.requires.contour c.loop-top.invariant c.loop-top-test.true (sym c.passes_run.ensures ∙ c.if-passes_run.false)
    (omega (arith, fits c, c.loop-top.invariant.same-room)) c.half_of-h.ensures c.stick_at-else-passes_run.ensures c.run_to-first_part.ensures
    c.run_to-second_part.ensures

pub loop-top-smaller : goal.loop-top-smaller
loop-top-smaller c =
    omega (arith, (counts-small c.requires.contour (loop-top-preserved c)).2)

pub shape_of-table : goal.shape_of-table
shape_of-table c = c.loop-top.invariant.same_length

pub returns : goal.returns
returns c = pending-end c.requires.contour c.loop-top.invariant (omega (arith, c.loop-top-test.false))
