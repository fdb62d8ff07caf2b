-- `rounded_of` meets its contract.
use mathlib.Core.Path.{◌∙◌}
use Prim.Native.Nat.{◌≤◌}
use native.Mathlib.Omega.{arith}
use lib.IntN.{pos, ◌*ℤ◌}
use mir.Syntax.{w64}
use mir.Val.{to_z, of_z}
use Rattle.arith.proofs.Bounds.{sized, in-range, exact, within}
use Rattle.offset.proofs.Division.{above-exact, above-times, rounded-of, read-back}
use Rattle.offset.proofs.offset.rounded_of.Goals as goal

pub overflow_mul-d-2 : goal.overflow_mul-d-2
overflow_mul-d-2 c = let old-size : c.args.old ≤ 255 = omega arith in in-range (search sized depth 9) tt

pub overflow_add-d : goal.overflow_add-d
overflow_add-d c = let old-size : c.args.old ≤ 255 = omega arith in in-range (search sized depth 9) tt

pub nearest_div-requires : goal.nearest_div-requires
nearest_div-requires c =
    let old-size : c.args.old ≤ 255 = omega arith in
    record {
      n_size = within (search sized depth 9) tt;
      d_size = within (search sized depth 9) tt;
      above = above-exact (search sized depth 9) tt (above-times 5 (omega arith) c.args.d c.requires.above);
    }

pub returns-clause-value : goal.returns-clause-value
returns-clause-value c =
    let a = c.args in
    let given = c.requires in
    let old-size : c.args.old ≤ 255 = omega arith in
    read-back c.nearest_div.result c.nearest_div.type_inv
    ∙ c.nearest_div.ensures.value
    ∙ rounded-of {y = to_z w64 (of_z w64 (pos 5 *ℤ to_z w64 (of_z w64 a.d)))} a.old a.n a.d given.above
    (exact (search sized depth 9) tt) (exact (search sized depth 9) tt)
