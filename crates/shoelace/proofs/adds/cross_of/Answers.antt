-- `cross_of` meets its contract.
use mathlib.Core.Path.{◌∙◌}
use lib.IntN.{◌-ℤ◌, ◌*ℤ◌}
use Rattle.arith.proofs.Bounds.{sized, in-range, exact, within}
use Rattle.shoelace.proofs.adds.cross_of.Goals as goal

pub overflow_mul-result : goal.overflow_mul-result
overflow_mul-result c = in-range (search sized depth 9) tt

pub overflow_mul-result-2 : goal.overflow_mul-result-2
overflow_mul-result-2 c = in-range (search sized depth 9) tt

pub overflow_sub-result : goal.overflow_sub-result
overflow_sub-result c = in-range (search sized depth 9) tt

pub returns : goal.returns
returns c =
    let py = c.signed-4.ensures.value in
    let qx = c.signed-3.ensures.value in
    let qy = c.signed-2.ensures.value in
    let px = c.signed.ensures.value in
    record { value = exact (search sized depth 9) tt ∙ (λ i. px i *ℤ qy i -ℤ qx i *ℤ py i); result_bound = within (search sized depth 9) tt }
