-- `sums_in_byte` meets its contract. The invariant: the bits that are left mark the sticks from there on, and the code stands there.
-- At the start the iterator is that of `ones_of`, which has all bits of the byte.
use mathlib.Core.Path.{◌≡◌, refl, ◌∙◌}
use Prim.Native.Nat.{◌+◌, ◌*◌}
use native.Mathlib.Omega.{arith}
use Rattle.shoelace.proofs.Running.{byte-start, byte_last, one-stick, one-turn}
use Rattle.shoelace.proofs.sums.sums_in_byte.Goals as goal

pub loop-b-init : goal.loop-b-init
loop-b-init c =
    let same = c.into_iter-b-iterator.ensures.into_iter_gives in
    let start : 8 * c.args.at + c.into_iter-b-iterator.result.at ≡ 8 * c.args.at = rw (same, c.ones_of-b-items.ensures.at) (omega arith) in
    let word : c.into_iter-b-iterator.result.left ≡ c.stick_byte.result = rw same (c.ones_of-b-items.ensures.left ∙ c.from.ensures) in
    rw (start, word) (byte-start c.requires.in_row c.stick_byte.ensures refl c.stick_byte.type_inv)

pub put_sum-requires : goal.put_sum-requires
put_sum-requires c = one-stick c.loop-b.invariant c.in-Some.ensures.steps.1

pub loop-b-preserved : goal.loop-b-preserved
loop-b-preserved c = one-turn c.loop-b.invariant c.in-Some.ensures.steps.1 c.put_sum.ensures

pub returns : goal.returns
returns c = byte_last c.loop-b.invariant c.in-None.ensures.steps
