-- `put_areas` meets its contract. The invariant: the numbers of the contours that are left, stored from here on, give the whole.
use mathlib.Core.Path.{◌∙◌}
use Rattle.arith.proofs.Bounds.{sized, exact}
use Rattle.area.proofs.Summing.{area_small}
use Rattle.area.proofs.Storing.{measured-held, measured-turn}
use Rattle.area.proofs.contours.put_areas.Goals as goal

pub contour_area-requires : goal.contour_area-requires
contour_area-requires c = measured-held c.loop-place.invariant c.in-Some.ensures.steps.0 c.requires.accepted

pub loop-place-preserved : goal.loop-place-preserved
loop-place-preserved c =
    let step = c.in-Some.ensures.steps in
    let held = measured-held c.loop-place.invariant step.0 c.requires.accepted in
    let area = c.contour_area.ensures in
    let small = area_small held area in
    measured-turn c.loop-place.invariant step.0 step.1 step.2 (exact (search sized depth 9) tt ∙ area.is)
