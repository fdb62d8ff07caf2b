-- `over_byte` meets its contract. The invariant: the bits that are left mark the sticks from there on, and the count is that of the sample there.
-- At the start the iterator is that of `ones_of`, which has all bits of the byte from the sweep's column on.
use mathlib.Core.Path.{◌≡◌}
use Prim.Native.Nat.{◌+◌, ◌/◌, ◌%◌, ◌^◌}
use native.Mathlib.Omega.{arith}
use Rattle.nesting.proofs.Sweeping.{byte-start, byte_last, one-stick, one_past, one-turn}
use Rattle.nesting.proofs.sweep.over_byte.Goals as goal

pub loop-b-init : goal.loop-b-init
loop-b-init c =
    let from = c.args.from in
    let same = c.into_iter-b-iterator.ensures.into_iter_gives in
    let start : from.column + c.into_iter-b-iterator.result.at ≡ from.column = rw (same, c.ones_of-b-items.ensures.at) (omega arith) in
    let word : c.into_iter-b-iterator.result.left ≡ c.from.result / 2 ^ (from.column % 8) = rw same c.ones_of-b-items.ensures.left in
    rw (start, word) (byte-start c.requires.swept c.stick_byte-byte.ensures c.from.ensures (omega (arith, c.from.ensures, c.stick_byte-byte.type_inv)))

pub crossed-around-requires : goal.crossed-around-requires
crossed-around-requires c = one-stick c.args.from.column c.loop-b.invariant c.in-Some.ensures.steps.1 c.args.nesting.contours.layer.sound

pub loop-b-preserved : goal.loop-b-preserved
loop-b-preserved c = one-turn c.args.from.column c.loop-b.invariant c.in-Some.ensures.steps.1 (omega arith) c.crossed-around.ensures

pub returns-then-column-end : goal.returns-then-column-end
returns-then-column-end c =
    one_past c.args.from.column c.loop-b.invariant c.in-Some.ensures.steps.1 c.args.nesting.contours.layer.sound c.if-column-end.true

pub returns : goal.returns
returns c = byte_last c.loop-b.invariant c.args.nesting.contours.layer.sound c.in-None.ensures.steps
