-- `next_stick` meets its contract: the kind and the direction tell by which side the cell ahead is entered.
use mathlib.Core.Path.{sym, ◌∙◌}
use Rattle.step.proofs.Walks.{stick-low, crosses-ahead}
use Rattle.step.proofs.walk.next_stick.Goals as goal

pub from_west-requires : goal.from_west-requires
from_west-requires c =
    (crosses-ahead _ c.args.layer.sound _ c.requires.stick _ _ c.if-e.true (sym c.if-upper.true ∙ c.is_upward-upper.ensures)).enters

pub overflow_sub-column : goal.overflow_sub-column
overflow_sub-column c =
    rw c.if-e.true at (stick-low _ c.args.layer.sound _ _ _ c.requires.stick)

pub from_east-requires : goal.from_east-requires
from_east-requires c =
    (crosses-ahead _ c.args.layer.sound _ c.requires.stick _ _ c.if-e.true (sym c.if-upper.false ∙ c.is_upward-upper.ensures)).enters

pub from_south-requires : goal.from_south-requires
from_south-requires c =
    (crosses-ahead _ c.args.layer.sound _ c.requires.stick _ _ c.if-e.false (sym c.if-upper-2.true ∙ c.is_upward-upper.ensures)).enters

pub overflow_sub-row : goal.overflow_sub-row
overflow_sub-row c =
    rw c.if-e.false at (stick-low _ c.args.layer.sound _ _ _ c.requires.stick)

pub from_north-requires : goal.from_north-requires
from_north-requires c =
    (crosses-ahead _ c.args.layer.sound _ c.requires.stick _ _ c.if-e.false (sym c.if-upper-2.false ∙ c.is_upward-upper.ensures)).enters

pub returns-then-upper : goal.returns-then-upper
returns-then-upper c =
    c.from_west.ensures
    ∙ (crosses-ahead _ c.args.layer.sound _ c.requires.stick _ _ c.if-e.true (sym c.if-upper.true ∙ c.is_upward-upper.ensures)).leaves

pub returns-else-upper : goal.returns-else-upper
returns-else-upper c =
    c.from_east.ensures
    ∙ (crosses-ahead _ c.args.layer.sound _ c.requires.stick _ _ c.if-e.true (sym c.if-upper.false ∙ c.is_upward-upper.ensures)).leaves

pub returns-then-upper-2 : goal.returns-then-upper-2
returns-then-upper-2 c =
    c.from_south.ensures
    ∙ (crosses-ahead _ c.args.layer.sound _ c.requires.stick _ _ c.if-e.false (sym c.if-upper-2.true ∙ c.is_upward-upper.ensures)).leaves

pub returns-else-upper-2 : goal.returns-else-upper-2
returns-else-upper-2 c =
    c.from_north.ensures
    ∙ (crosses-ahead _ c.args.layer.sound _ c.requires.stick _ _ c.if-e.false (sym c.if-upper-2.false ∙ c.is_upward-upper.ensures)).leaves
