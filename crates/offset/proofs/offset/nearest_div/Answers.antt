-- `nearest_div` meets its contract: what is divided and what by are those of `nearest-of`, and the quotient is no larger than what is divided.
use mathlib.Core.Path.{ap, ap₂, ◌∙◌}
use Prim.Native.Nat.{◌≤◌}
use native.Mathlib.Nat.{le_trans}
use lib.IntN.{ℤ, pos, nat_abs, ◌+ℤ◌, ◌-ℤ◌, ◌*ℤ◌}
use lib.Signed.{lt_z}
use mir.Syntax.{w64}
use mir.Val.{to_z, of_z, bool_byte}
use Rattle.arith.proofs.Bounds.{sized, in-range, exact, within}
use Rattle.offset.specs.Offset.{middle}
use Rattle.offset.proofs.Division.{euclid-size, one-most, nearest-of, read-back}
use Rattle.offset.proofs.offset.nearest_div.Goals as goal
use Rattle.offset.proofs.offset.nearest_div.Goals.{After-from-less}

abbrev machine : ℤ → ℤ
machine x = to_z w64 (of_z w64 x)

-- at most 1 is taken off
few : (c : After-from-less) → nat_abs c.from-less.result ≤ 1
few c = rw c.from-less.ensures (one-most _)

pub overflow_sub-n : goal.overflow_sub-n
overflow_sub-n c = let less = few c in in-range (search sized depth 9) tt

pub returns : goal.returns
returns c =
    let n = c.args.n in
    let d = c.args.d in
    let given = c.requires in
    let less-size = few c.before in
    let times = exact {z = machine (middle *ℤ machine d)} (search sized depth 9) tt in
    let same = exact {z = machine n} (search sized depth 9) tt in
    let less = c.from-less.ensures ∙ ap₂ (λ u v. pos (bool_byte (lt_z u v))) times same in
    let is = read-back c.div_euclid.result c.div_euclid.type_inv ∙ c.div_euclid.ensures in
    record {
      value =
          is
          ∙ nearest-of {y = machine (pos 2 *ℤ machine d)} n d given.above (exact (search sized depth 9) tt ∙ ap (λ z. pos 2 *ℤ n +ℤ d -ℤ z) less)
          (exact (search sized depth 9) tt);
      result_bound = rw is (le_trans (euclid-size _ (machine (pos 2 *ℤ machine d))) (within (search sized depth 9) tt));
    }
