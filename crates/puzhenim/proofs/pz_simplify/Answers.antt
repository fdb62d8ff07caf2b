-- `pz_simplify` meets its contract.
use Rattle.puzhenim.proofs.Faces.{short-face, stored-face}
use Rattle.puzhenim.proofs.pz_simplify.Goals as goal

pub returns-then-figures-lt4 : goal.returns-then-figures-lt4
returns-then-figures-lt4 c = short-face _ _ _ c.from.ensures c.if-figures-lt4.true

pub returns : goal.returns
returns c = rw (← c.simplify-answer.ensures)
    (stored-face _ c.put_report.ensures (c.simplified_report.ensures _))
