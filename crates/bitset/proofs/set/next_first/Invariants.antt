use Rattle.bitset.proofs.Sets.{Searched}
use Rattle.bitset.proofs.set.next_first.Given as goal

abbrev pub invariant-loop-word : goal.invariant-loop-word
invariant-loop-word l = Searched l.set l.from l.word
