-- `from_west` meets its contract: each of the eight cases looks up the number of the corners that are known there, and `by-table` says that
-- this is the number of the cell's own pattern, so that the cell is left where the link of that side leads.
use mathlib.Core.Path.{◌∙◌}
use Rattle.step.specs.declared.cell.Side.TheVariants.{West}
use Rattle.step.proofs.Turns.{in-case, by-table}
use Rattle.step.proofs.turn.from_west.Goals as goal

pub returns-then-ne : goal.returns-then-ne
returns-then-ne c =
    in-case _ _ West c.if-left.true c.if-se.true c.if-ne.true c.leave.ensures
    ∙ by-table _ _ c.requires c.is_inside-se.ensures c.is_inside-ne.ensures

pub returns-then-se : goal.returns-then-se
returns-then-se c =
    in-case _ _ West c.if-left.true c.if-se.true c.if-ne.false c.leave-then-se.ensures
    ∙ by-table _ _ c.requires c.is_inside-se.ensures c.is_inside-ne.ensures

pub returns-then-ne-2 : goal.returns-then-ne-2
returns-then-ne-2 c =
    in-case _ _ West c.if-left.true c.if-se.false c.if-ne-2.true c.leave-then-ne-2.ensures
    ∙ by-table _ _ c.requires c.is_inside-se.ensures c.is_inside-ne.ensures

pub returns-then-left : goal.returns-then-left
returns-then-left c =
    in-case _ _ West c.if-left.true c.if-se.false c.if-ne-2.false c.leave-then-left.ensures
    ∙ by-table _ _ c.requires c.is_inside-se.ensures c.is_inside-ne.ensures

pub returns-then-ne-3 : goal.returns-then-ne-3
returns-then-ne-3 c =
    in-case _ _ West c.if-left.false c.if-se-2.true c.if-ne-3.true c.leave-then-ne-3.ensures
    ∙ by-table _ _ c.requires c.is_inside-se.ensures c.is_inside-ne.ensures

pub returns-then-se-2 : goal.returns-then-se-2
returns-then-se-2 c =
    in-case _ _ West c.if-left.false c.if-se-2.true c.if-ne-3.false c.leave-then-se-2.ensures
    ∙ by-table _ _ c.requires c.is_inside-se.ensures c.is_inside-ne.ensures

pub returns-then-ne-4 : goal.returns-then-ne-4
returns-then-ne-4 c =
    in-case _ _ West c.if-left.false c.if-se-2.false c.if-ne-4.true c.leave-then-ne-4.ensures
    ∙ by-table _ _ c.requires c.is_inside-se.ensures c.is_inside-ne.ensures

pub returns : goal.returns
returns c =
    in-case _ _ West c.if-left.false c.if-se-2.false c.if-ne-4.false c.leave-2.ensures
    ∙ by-table _ _ c.requires c.is_inside-se.ensures c.is_inside-ne.ensures
