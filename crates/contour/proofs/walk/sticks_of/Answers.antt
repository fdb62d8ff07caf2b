-- `sticks_of` meets its contract: the whole contour is left.
use Rattle.contour.proofs.Laps.{lap-start}
use Rattle.contour.proofs.walk.sticks_of.Goals as goal

pub invariant_of-result : goal.invariant_of-result
invariant_of-result c =
    record { first_stick = c.requires; on_contour = lap-start c.args.layer.sound c.args.first c.requires }
