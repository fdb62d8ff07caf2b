-- `row_end` meets its contract.
use Prim.Native.Nat.{◌*◌, ◌≤◌}
use native.Mathlib.Omega.{arith}
use native.Mathlib.Nat.{mul-le-mul}
use Rattle.grid.proofs.question.row_end.Goals as goal
use Rattle.grid.proofs.question.row_end.Goals.{After-stride_of-bytes}

small : (c : After-stride_of-bytes) → (c.args.row * c.stride_of-bytes.result ≤ 131072) × (c.stride_of-bytes.result ≤ 128)
small c =
    let sized = c.requires.sized in
    (mul-le-mul {n₁ = c.args.row} {m₁ = c.stride_of-bytes.result} {n₂ = 1024} {m₂ = 128} (omega arith) (omega arith), omega arith)

pub overflow_mul-result : goal.overflow_mul-result
overflow_mul-result c = omega (arith, small c)

pub overflow_add-result : goal.overflow_add-result
overflow_add-result c = omega (arith, small c)

pub returns : goal.returns
returns c = rw c.stride_of-bytes.ensures
