-- `sweep_to` meets its contract: the sweep begins where it stands, if that is in the stick's row and not past it, and else at the border.
use Rattle.nesting.proofs.Sweeping.{from-border, from-west}
use Rattle.nesting.proofs.sweep.sweep_to.Goals as goal
use Rattle.nesting.proofs.sweep.sweep_to.Goals.{then-at-stick+then-at-stick-2, else-at-stick}

pub around_at-requires : goal.around_at-requires
around_at-requires c =
    let sound = c.args.nesting.contours.layer.sound in
    elim c.if-at-stick.branch [
      | then-at-stick+then-at-stick-2 w ↦
          from-west sound c.args.stick c.requires.stick w.from-is c.requires.counted w.if-at-stick.true w.if-at-stick-2.true
      | else-at-stick w ↦ from-border sound c.args.stick c.requires.stick w.from-is
    ]
