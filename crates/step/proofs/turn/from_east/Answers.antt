-- `from_east` meets its contract: each of the eight cases looks up the number of the corners that are known there, and `by-table` says that
-- this is the number of the cell's own pattern, so that the cell is left where the link of that side leads.
use mathlib.Core.Path.{◌∙◌}
use Rattle.step.specs.declared.cell.Side.TheVariants.{East}
use Rattle.step.proofs.Turns.{in-case, by-table}
use Rattle.step.proofs.turn.from_east.Goals as goal

pub returns-then-nw : goal.returns-then-nw
returns-then-nw c =
    in-case _ _ East c.if-left.true c.if-sw.true c.if-nw.true c.leave.ensures
    ∙ by-table _ _ c.requires c.is_inside-sw.ensures c.is_inside-nw.ensures

pub returns-then-sw : goal.returns-then-sw
returns-then-sw c =
    in-case _ _ East c.if-left.true c.if-sw.true c.if-nw.false c.leave-then-sw.ensures
    ∙ by-table _ _ c.requires c.is_inside-sw.ensures c.is_inside-nw.ensures

pub returns-then-nw-2 : goal.returns-then-nw-2
returns-then-nw-2 c =
    in-case _ _ East c.if-left.true c.if-sw.false c.if-nw-2.true c.leave-then-nw-2.ensures
    ∙ by-table _ _ c.requires c.is_inside-sw.ensures c.is_inside-nw.ensures

pub returns-then-left : goal.returns-then-left
returns-then-left c =
    in-case _ _ East c.if-left.true c.if-sw.false c.if-nw-2.false c.leave-then-left.ensures
    ∙ by-table _ _ c.requires c.is_inside-sw.ensures c.is_inside-nw.ensures

pub returns-then-nw-3 : goal.returns-then-nw-3
returns-then-nw-3 c =
    in-case _ _ East c.if-left.false c.if-sw-2.true c.if-nw-3.true c.leave-then-nw-3.ensures
    ∙ by-table _ _ c.requires c.is_inside-sw.ensures c.is_inside-nw.ensures

pub returns-then-sw-2 : goal.returns-then-sw-2
returns-then-sw-2 c =
    in-case _ _ East c.if-left.false c.if-sw-2.true c.if-nw-3.false c.leave-then-sw-2.ensures
    ∙ by-table _ _ c.requires c.is_inside-sw.ensures c.is_inside-nw.ensures

pub returns-then-nw-4 : goal.returns-then-nw-4
returns-then-nw-4 c =
    in-case _ _ East c.if-left.false c.if-sw-2.false c.if-nw-4.true c.leave-then-nw-4.ensures
    ∙ by-table _ _ c.requires c.is_inside-sw.ensures c.is_inside-nw.ensures

pub returns : goal.returns
returns c =
    in-case _ _ East c.if-left.false c.if-sw-2.false c.if-nw-4.false c.leave-2.ensures
    ∙ by-table _ _ c.requires c.is_inside-sw.ensures c.is_inside-nw.ensures
