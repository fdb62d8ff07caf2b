-- `ask_slide` meets its contract. From question 16 answered yes (`unpinned-yes`) the rest goes on.
use native.Mathlib.Omega.{arith}
use mathlib.Core.Path.{◌∙◌}
use Rattle.edit.proofs.Asked.{pinned-no, unpinned-yes, slidable, slide-pinned, slide-bad, slide-asked}
use Rattle.edit.proofs.edit.ask_slide.Goals as goal

pub returns-then-is_pinned : goal.returns-then-is_pinned
returns-then-is_pinned c =
    rw c.at.ensures
    (slide-pinned c.args.t c.args.place c.requires c.args.offset
    (pinned-no _ _ c.args.stick c.carries_pin-is_pinned.ensures c.if-is_pinned.true))

pub returns-then-offset-eq0 : goal.returns-then-offset-eq0
returns-then-offset-eq0 c =
    rw c.at-then-offset-eq0.ensures
    (slide-bad c.args.t c.args.place c.requires c.args.offset (unpinned-yes _ _ c.args.stick c.carries_pin-is_pinned.ensures c.if-is_pinned.false) c.if-offset-eq0.true)

pub slid_into-into-requires : goal.slid_into-into-requires
slid_into-into-requires c = slidable c.requires c.edge_named-e.ensures c.if-offset-eq0.false (omega (arith, c.ranges.offset.fits))

pub slid_out-out-requires : goal.slid_out-out-requires
slid_out-out-requires c = slidable c.requires c.edge_named-e.ensures c.if-offset-eq0.false (omega (arith, c.ranges.offset.fits))

pub returns : goal.returns
returns c =
    let movable =
    slidable c.requires c.edge_named-e.ensures c.if-offset-eq0.false (omega (arith, c.ranges.offset.fits)) in
    c.ask_chords.ensures
    ∙ slide-asked c.args.t c.args.place c.requires c.args.offset (unpinned-yes _ _ c.args.stick c.carries_pin-is_pinned.ensures c.if-is_pinned.false)
    c.edge_named-e.ensures movable c.slid_into-into.ensures.value c.slid_out-out.ensures.value
