-- `write_contour` meets its contract. The invariant: what is left to write, from here, makes the whole contour.
use mathlib.Core.Path.{ap, ◌∙◌}
use Rattle.chord.proofs.Tests.{stick-near}
use Rattle.contour.specs.Remaining.{sticks_left}
use Rattle.grid.specs.Plain.{plain}
use Rattle.table.proofs.Lent.{has-entry}
use Rattle.polyline.proofs.Walking.{kept-is, item-is, written-kept, written_none, writes_start, writes-here, writes-room, writes-turn}
use Rattle.polyline.proofs.walk.write_contour.Goals as goal

pub loop-e-init : goal.loop-e-init
loop-e-init c =
    writes_start c.requires.lent_at c.requires.room
    (ap sticks_left c.into_iter-e-iterator.ensures.into_iter_gives ∙ c.sticks_of-e-items.ensures)

pub entry_at-entry-requires : goal.entry_at-entry-requires
entry_at-entry-requires c = has-entry (writes-here c.requires.lent_at c.loop-e.invariant c.in-Some.ensures.steps)

pub point_of-p-requires : goal.point_of-p-requires
point_of-p-requires c =
    stick-near _ c.args.layer.sound _ (writes-here c.requires.lent_at c.loop-e.invariant c.in-Some.ensures.steps).stick

pub put_item-requires : goal.put_item-requires
put_item-requires c =
    let kept = kept-is (plain c.args.layer) _ _ c.entry_at-entry.ensures c.is_kept.ensures ∙ c.if-is_kept.true in
    let item = item-is _ _ _ c.entry_at-entry.ensures c.loop-e.due c.offset_in.ensures c.point_of-p.ensures c.item_to.ensures in
    rw item (writes-room c.requires.lent_at c.loop-e.invariant c.in-Some.ensures.steps kept)

pub loop-e-preserved-then-is_kept : goal.loop-e-preserved-then-is_kept
loop-e-preserved-then-is_kept c =
    let kept = kept-is (plain c.args.layer) _ _ c.entry_at-entry.ensures c.is_kept.ensures ∙ c.if-is_kept.true in
    let item = item-is _ _ _ c.entry_at-entry.ensures c.loop-e.due c.offset_in.ensures c.point_of-p.ensures c.item_to.ensures in
    writes-turn c.requires.lent_at c.loop-e.invariant c.in-Some.ensures.steps (written-kept kept item c.put_item.ensures)

pub loop-e-preserved : goal.loop-e-preserved
loop-e-preserved c =
    writes-turn c.requires.lent_at c.loop-e.invariant c.in-Some.ensures.steps
    (written_none (kept-is (plain c.args.layer) _ _ c.entry_at-entry.ensures c.is_kept.ensures ∙ c.if-is_kept.false))
