-- `from_below` meets its contract.
use Rattle.std.proofs.Common.{◌∙◌, arith, rules}
use Rattle.halves.proofs.Halves.{half-goes}
use Rattle.halves.proofs.from_below.Goals as goal

pub returns : goal.returns
returns c =
    let k = c.args.k in
    c.moved.ensures ∙ half-goes c.args.vertical k (search rules) (omega (arith, c.requires.le_k, c.requires.k_bound))
