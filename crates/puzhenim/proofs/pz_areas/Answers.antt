-- `pz_areas` meets its contract.
use mathlib.Core.Path.{ap, ◌∙◌}
use Rattle.area.specs.Call.{Outcome}
use Rattle.report.specs.Results.{measure_result}
use Rattle.puzhenim.specs.Face.{face}
use Rattle.puzhenim.proofs.Faces.{short-face, stored-face}
use Rattle.puzhenim.proofs.pz_areas.Goals as goal

pub returns-then-figures-lt4 : goal.returns-then-figures-lt4
returns-then-figures-lt4 c = short-face _ _ _ c.from.ensures c.if-figures-lt4.true

pub returns : goal.returns
returns c =
    let a = c.args in
    stored-face _ c.put_report.ensures (c.measured_report.ensures _)
    ∙ ap (λ (o : Outcome). face a.figures.now (record { areas = a.areas.now; sums = a.sums.now }) (measure_result o)) c.areas-answer.ensures
