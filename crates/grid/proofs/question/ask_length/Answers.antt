-- `ask_length` meets its contract.
use native.Mathlib.Omega.{arith}
use native.Mathlib.Nat.{mul-le-mul}
use borrow.Author.Tests.{eq-eqb, ne_eqb}
use Rattle.grid.specs.Questions.{length_answer}
use Rattle.grid.proofs.question.ask_length.Goals as goal

pub overflow_mul-size : goal.overflow_mul-size
overflow_mul-size c =
    let sized = c.requires in
    let bound = mul-le-mul {n₁ = c.args.size.height} {m₁ = c.stride_of.result} {n₂ = 1024} {m₂ = 128} (omega arith) (omega arith) in
    omega arith

pub returns-then-bitmap-size : goal.returns-then-bitmap-size
unfolding length_answer
returns-then-bitmap-size c = let x = c.if-bitmap-size.true in rw (eq-eqb _ _ (rw c.stride_of.ensures at x))

pub returns-else-bitmap-size : goal.returns-else-bitmap-size
unfolding length_answer
returns-else-bitmap-size c = let x = c.if-bitmap-size.false in rw (c.at.ensures, ne_eqb _ _ (rw c.stride_of.ensures at x))
