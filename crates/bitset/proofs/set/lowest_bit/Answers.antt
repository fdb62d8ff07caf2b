-- `lowest_bit` meets its contract.
use native.Mathlib.Omega.{arith}
use lib.Count.{trailing_le}
use Rattle.bitset.proofs.Words.{trailing-least, some-bit}
use Rattle.bitset.proofs.set.lowest_bit.Goals as goal

pub overflow_cast-result : goal.overflow_cast-result
overflow_cast-result c = omega (arith, trailing_le 64 c.args.x)

pub returns : goal.returns
returns c =
    let x = c.args.x in
    record { value = trailing-least 64 x; upper_bound = rw (trailing-least 64 x) (some-bit 64 x c.ranges.x.fits c.requires) }
