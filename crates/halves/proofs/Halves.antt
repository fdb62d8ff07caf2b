-- What the program shows holds: `new_offset` may be asked for the vertices that it smooths, and where old + 2/5 of (v - old) is k + 1/2 the new
-- offset is k + 1 below 128 and k from 128 on.
use mathlib.Core.Path.{◌≡◌, ◌∙◌}
use mathlib.Core.Logic.{inl}
use mathlib.Core.Bool.{Bool, true, false}
use Prim.Native.Nat.{ℕ, ◌+◌, ◌*◌}
use native.Mathlib.Decide.{dec_lt}
use native.Mathlib.Omega.{arith}
use lib.IntN.{ℤ, pos, ◌+ℤ◌, ◌-ℤ◌, ◌*ℤ◌}
use borrow.Author.Rules.{rules}
use borrow.Author.Tests.{le-ltb, lt-ltb}
use Rattle.arith.proofs.Integers.{ints, viaℕ, arithℤ}
use Rattle.offset.specs.Offset.{unrounded, rounded, Movable}
use Rattle.offset.proofs.Rounding.{rounded-half-down, rounded-half-up}
use Rattle.offset.proofs.Offsets.{new_is}
use Rattle.halves.specs.Halves.{stick, place, IsPlaced, moved_to, toward_middle}

pub placed-movable : (vertical : Bool) {old before after : ℕ} → IsPlaced old before after
    → Movable (place vertical before 255) (place vertical after 259) (stick vertical) old
placed-movable true i = search (rules, inl)
placed-movable false i = search (rules, inl)

-- four times v - old
abbrev moves : ℕ → ℕ → ℕ → ℤ
moves old before after = (pos before -ℤ pos 0 -ℤ pos old) *ℤ pos 4 +ℤ (pos after -ℤ pos before) *ℤ pos 1

moved-is : (vertical : Bool) {old before after : ℕ} → IsPlaced old before after
    → pos (moved_to vertical old before after) ≡ rounded old (moves old before after) 4
moved-is true i = new_is (placed-movable true i).around
moved-is false i = new_is (placed-movable false i).around

-- v is (3·before + after) / 4, so that old + 2/5 of (v - old) is (6·old + 3·before + after) / 10
pub half-goes : (vertical : Bool) {old before after : ℕ} (k : ℕ) → IsPlaced old before after → 6 * old + (3 * before + after) ≡ 10 * k + 5
    → moved_to vertical old before after ≡ toward_middle k
half-goes vertical {old} {before} {after} k i e =
    let n : ℤ = moves old before after in
    let is = moved-is vertical i in
    let half : pos 2 *ℤ unrounded old n 4 ≡ pos 20 *ℤ (pos 2 *ℤ pos k +ℤ pos 1) = viaℕ (search ints depth 9) (omega arith) in
    elim (dec_lt k 128) [
      | yes l ↦ rw (lt-ltb k 128 l) (omega (arithℤ, is ∙ rounded-half-up old n 4 (omega arith) (pos k) half (omega arithℤ)))
      | no l ↦ rw (le-ltb k 128 (omega arith)) (omega (arithℤ, is ∙ rounded-half-down old n 4 (omega arith) (pos k) half (omega arithℤ)))
    ]
