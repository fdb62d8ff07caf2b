use Rattle.arith.proofs.Counting.{CountedTo}
use Rattle.bitset.specs.Sets.{words, has}
use Rattle.bitset.proofs.set.member_count.Given as goal

abbrev pub invariant-loop-word : goal.invariant-loop-word
invariant-loop-word l = CountedTo (has l.set) 64 words l.word l.sum
