-- `sheet_length` meets its contract.
use Prim.Native.Nat.{◌≤◌}
use native.Mathlib.Omega.{arith}
use Rattle.arith.proofs.Ranges.{count-le}
use Rattle.grid.specs.Plain.{plain}
use Rattle.grid.specs.Edges.{edge_count, stick_at}
use Rattle.grid.proofs.Numbers.{edges-small}
use Rattle.sheet.proofs.write.sheet_length.Goals as goal
use Rattle.sheet.proofs.write.sheet_length.Goals.{After-stick_count}

-- there are at most as many sticks as edges
few-sticks : (c : After-stick_count) → c.stick_count.result ≤ 2095104
few-sticks c =
    let a = c.args in
    omega (
      arith,
      c.stick_count.ensures,
      count-le (stick_at (plain a.contours.layer)) (edge_count a.contours.layer.size),
      edges-small a.contours.layer.size a.contours.layer.sound.whole.sized,
    )

pub overflow_mul-result-2 : goal.overflow_mul-result-2
overflow_mul-result-2 c = omega (arith, few-sticks c)

pub overflow_add-result-2 : goal.overflow_add-result-2
overflow_add-result-2 c = omega (arith, c.contours_in.ensures.upper_bound, few-sticks c)
