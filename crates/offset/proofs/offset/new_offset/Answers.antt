-- `new_offset` meets its contract. The spread is not 0, as the neighbours lie on different sides, so the division is defined; its result is a
-- byte since the new offset is inside. `sized` bounds each signed product.
use mathlib.Core.Path.{◌≡◌, sym, ap, ap₂, ◌∙◌}
use Prim.Native.Nat.{◌≤◌}
use lib.IntN.{ℤ, pos, nat_abs, ◌*ℤ◌}
use mir.Syntax.{w64}
use mir.Val.{to_z, of_z}
use Rattle.std.specs.Int.{int_signum}
use Rattle.arith.proofs.Integers.{arithℤ}
use Rattle.arith.proofs.Bounds.{sized, exact, within}
use Rattle.offset.specs.Offset.{rounded, spread, shift, new_offset}
use Rattle.offset.proofs.Division.{sign-most, upon-sign, read-back, byte_fits}
use Rattle.offset.proofs.Offsets.{spread-some, new_is, new-inside}
use Rattle.offset.proofs.offset.new_offset.Goals as goal
use Rattle.offset.proofs.offset.new_offset.Goals.{After-abs, After-rounded_of}

-- the size of the spread
size : (c : After-abs) → let a = c.args in to_z w64 (of_z w64 c.abs.result) ≡ pos (nat_abs (spread a.p a.q a.e))
size c =
    read-back c.abs.result c.abs.type_inv
    ∙ c.abs.ensures.value
    ∙ ap (λ (z : ℤ). pos (nat_abs z)) (read-back c.spread_of-d.result c.spread_of-d.type_inv ∙ c.spread_of-d.ensures.value)

sign-size : (c : After-abs) → nat_abs c.signum.result ≤ 1
sign-size c = rw c.signum.ensures.value (sign-most _)

pub rounded_of-requires : goal.rounded_of-requires
rounded_of-requires c =
    let n-size = c.shift_of-n.ensures.result_bound in
    let sign = sign-size c in
    let some = spread-some c.requires.around in
    record {
      n_size = within (search sized depth 9) tt;
      d_size = rw (size c) (rw c.spread_of-d.ensures.value at c.spread_of-d.ensures.result_bound);
      above = rw (size c) (omega arithℤ);
    }

-- what is cast is the new offset
rounds : (c : After-rounded_of)
    → let a = c.args in
    to_z w64 (of_z w64 c.rounded_of.result) ≡ pos (new_offset a.p a.q a.e a.old)
rounds c =
    let a = c.args in
    let n-size = c.shift_of-n.ensures.result_bound in
    let sign = sign-size c.before in
    let d = read-back c.spread_of-d.result c.spread_of-d.type_inv ∙ c.spread_of-d.ensures.value in
    let n =
    exact {z = to_z w64 (of_z w64 (to_z w64 (of_z w64 c.shift_of-n.result) *ℤ to_z w64 (of_z w64 c.signum.result)))} (search sized depth 9) tt
    ∙ ap₂ ◌*ℤ◌ c.shift_of-n.ensures.value (c.signum.ensures.value ∙ ap int_signum d)
    ∙ upon-sign (shift a.p a.q a.e a.old) (spread a.p a.q a.e) (spread-some c.requires.around) in
    read-back c.rounded_of.result c.rounded_of.type_inv
    ∙ c.rounded_of.ensures.value
    ∙ ap₂ (λ (x y : ℤ). rounded a.old x (nat_abs y)) n (size c.before)
    ∙ sym (new_is c.requires.around)

pub overflow_cast-result : goal.overflow_cast-result
overflow_cast-result c = byte_fits _ (rounds c) (new-inside c.requires.around).high

pub returns : goal.returns
returns c = ap nat_abs (rounds c)
