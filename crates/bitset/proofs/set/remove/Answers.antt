-- `remove` meets its contract.
use Prim.Native.Nat.{◌%◌}
use native.Mathlib.Nat.{mod-lt}
use native.Mathlib.Omega.{arith}
use Rattle.bitset.specs.Sets.{without_number}
use Rattle.bitset.proofs.Words.{one_shifted}
use Rattle.bitset.proofs.set.remove.Goals as goal

pub returns : goal.returns
unfolding without_number
returns c = rw (one_shifted (c.args.n % 64) (mod-lt c.args.n (omega arith)))
