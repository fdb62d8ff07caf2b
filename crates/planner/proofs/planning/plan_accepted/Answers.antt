-- `plan_accepted` meets its contract: `counts` has the numbers by which question 14 is decided.
use native.Mathlib.Omega.{arith}
use Rattle.planner.proofs.Outcomes.{tallied, tallies-fit, refused-items, refused-points, list-fits, list_done}
use Rattle.planner.proofs.planning.plan_accepted.Goals as goal
use Rattle.planner.proofs.planning.plan_accepted.Goals.{then-items-whole-via-then-items-whole, then-items-whole-via-else-items-whole+then-points-whole}

pub overflow_add-whole : goal.overflow_add-whole
overflow_add-whole c =
    let many = c.contours_in.ensures in
    omega (arith, tallies-fit (tallied c.requires c.count_kept-kept.ensures many.value many.upper_bound))

pub overflow_mul-whole : goal.overflow_mul-whole
overflow_mul-whole c =
    let many = c.contours_in.ensures in
    omega (arith, tallies-fit (tallied c.requires c.count_kept-kept.ensures many.value many.upper_bound))

pub returns-then-items-whole : goal.returns-then-items-whole
returns-then-items-whole c =
    let many = c.contours_in.ensures in
    let counts = tallied c.requires c.count_kept-kept.ensures many.value many.upper_bound in
    let a = c.args in
    rw c.at.ensures (elim c.then-items-whole.branch [
      | then-items-whole-via-then-items-whole w ↦ refused-items counts a.items.now a.points.now w.if-items-whole.true
      | then-items-whole-via-else-items-whole+then-points-whole w ↦ refused-points counts a.items.now a.points.now w.if-points-whole.true
    ])

pub write_list-requires-clause-room : goal.write_list-requires-clause-room
write_list-requires-clause-room c =
    let many = c.contours_in.ensures in
    let counts = tallied c.requires c.count_kept-kept.ensures many.value many.upper_bound in
    let a = c.args in
    list-fits counts a.items.now a.points.now c.if-items-whole.false c.if-points-whole.false

pub returns : goal.returns
returns c =
    let many = c.contours_in.ensures in
    let counts = tallied c.requires c.count_kept-kept.ensures many.value many.upper_bound in
    let a = c.args in
    let wrote = c.write_list.ensures in
    list_done counts a.items.now a.points.now c.if-items-whole.false c.if-points-whole.false wrote.put_bytes wrote.put_floats
