-- `ones_of` meets its contract.
use native.Mathlib.Omega.{arith}
use lib.Count.{ones-le}
use Rattle.grid.proofs.Bits.{ones-count}
use Rattle.mask.proofs.count.ones_of.Goals as goal

pub overflow_cast-result : goal.overflow_cast-result
overflow_cast-result c = omega (arith, ones-le 8 c.args.x c.ranges.x.fits)

pub returns : goal.returns
returns c = record { value = ones-count 8 c.args.x c.ranges.x.fits; upper_bound = ones-le 8 c.args.x c.ranges.x.fits }
