-- `ones_in` meets its contract.
use native.Mathlib.Omega.{arith}
use lib.Count.{ones-le}
use Rattle.grid.proofs.Bits.{ones-count}
use Rattle.bitset.proofs.set.ones_in.Goals as goal

pub overflow_cast-result : goal.overflow_cast-result
overflow_cast-result c = omega (arith, ones-le 64 c.args.x c.ranges.x.fits)

pub returns : goal.returns
returns c = ones-count 64 c.args.x c.ranges.x.fits
