-- `pz_sample` meets its contract.
use mathlib.Core.Path.{ap, ◌∙◌}
use Rattle.report.specs.Results.{sample_result}
use Rattle.puzhenim.proofs.Faces.{short-face, stored-face}
use Rattle.puzhenim.proofs.pz_sample.Goals as goal

pub returns-then-figures-lt4 : goal.returns-then-figures-lt4
returns-then-figures-lt4 c = short-face _ _ _ c.from.ensures c.if-figures-lt4.true

pub returns : goal.returns
returns c =
    let sampled = c.from-sampled.ensures ∙ c.sample_at.ensures in
    stored-face _ c.put_report.ensures (c.sampled_report.ensures ∙ ap sample_result sampled)
