-- `shift_of` meets its contract.
use mathlib.Core.Path.{ap, ◌∙◌}
use Prim.Native.Nat.{◌≤◌}
use native.Mathlib.Omega.{arith}
use lib.IntN.{pos, ◌+ℤ◌, ◌-ℤ◌, ◌*ℤ◌}
use Rattle.arith.proofs.Bounds.{sized, in-range, exact, within}
use Rattle.offset.proofs.offset.shift_of.Goals as goal

pub overflow_mul-result : goal.overflow_mul-result
overflow_mul-result c = let old-size : c.args.old ≤ 255 = omega arith in in-range (search sized depth 9) tt

pub overflow_mul-result-2 : goal.overflow_mul-result-2
overflow_mul-result-2 c = in-range (search sized depth 9) tt

pub overflow_add-result : goal.overflow_add-result
overflow_add-result c = let old-size : c.args.old ≤ 255 = omega arith in in-range (search sized depth 9) tt

pub returns : goal.returns
returns c =
    let old = c.args.old in
    let old-size : old ≤ 255 = omega arith in
    let u = c.signed-from.ensures.value ∙ ap pos c.along_of.ensures.value in
    let o = c.signed.ensures.value ∙ ap pos c.base_of.ensures.value in
    let w = c.signed-2.ensures.value ∙ ap pos c.along_of-2.ensures.value in
    let l = c.signed-3.ensures.value ∙ ap pos c.line_of.ensures.value in
    let s = c.signed-4.ensures.value ∙ ap pos c.across_of.ensures.value in
    let d = c.spread_of.ensures.value in
    record { value = exact (search sized depth 14) tt ∙ (λ i. (u i -ℤ o i -ℤ pos old) *ℤ d i +ℤ (w i -ℤ u i) *ℤ (l i -ℤ s i)); result_bound = within (search sized depth 14) tt }
