-- `member_count` meets its contract. The invariant: the sum is how many numbers of the words passed are in the set.
use mathlib.Core.Path.{sym, ◌∙◌}
use Prim.Native.Nat.{◌*◌}
use native.Mathlib.Omega.{arith}
use Rattle.arith.proofs.Ranges.{count_past}
use Rattle.arith.proofs.Counting.{counted_none, counted-room}
use Rattle.bitset.specs.Sets.{set_bits, has}
use Rattle.bitset.proofs.Sets.{count_word}
use Rattle.bitset.proofs.set.member_count.Goals as goal

pub loop-word-init : goal.loop-word-init
loop-word-init c = counted_none

pub overflow_add-sum : goal.overflow_add-sum
overflow_add-sum c = omega (arith, counted-room c.loop-word.invariant (omega arith) _ c.ones_in-sum.ensures)

pub loop-word-preserved : goal.loop-word-preserved
loop-word-preserved c =
    count_word c.args.set.now c.loop-word.invariant (omega arith) c.ones_in-sum.ensures

pub returns : goal.returns
returns c =
    c.loop-word.invariant.so_far
    ∙ sym (count_past (has c.args.set.now) (c.loop-word.word * 64) set_bits (omega (arith, c.loop-word.invariant.within)) (λ n l _. c.requires.none_above n (omega arith)))
