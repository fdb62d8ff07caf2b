-- `in_samples` meets its contract: the code's 256.0 is the number 256.
use mathlib.Core.Path.{ap}
use lib.IntN.{pos}
use lib.Ieee.{Float, binary64, of_int, div}
use Rattle.item.specs.Items.{in_samples}
use Rattle.item.proofs.Exact.{unit-bits}
use Rattle.item.proofs.item.in_samples.Goals as goal

pub returns : goal.returns
unfolding in_samples
returns c = ap (λ (d : Float). div binary64 (of_int binary64 (pos c.args.n)) d) unit-bits
