-- `ask_removal` meets its contract. From question 16 answered yes (`unpinned-yes`) the rest goes on.
use mathlib.Core.Path.{sym, ◌∙◌}
use mathlib.Core.Bool.{true≢false}
use Rattle.edit.proofs.Asked.{editable, pinned-no, unpinned-yes, removal-pinned, removal-missed, removal-far, removal-done, removal-third-left}
use Rattle.edit.proofs.edit.ask_removal.Goals as goal

pub returns-then-pinned : goal.returns-then-pinned
returns-then-pinned c =
    rw c.at.ensures
    (removal-pinned c.args.t c.args.place c.requires (pinned-no _ _ c.args.stick c.carries_pin-pinned.ensures c.if-pinned.true))

pub joined-over-requires : goal.joined-over-requires
joined-over-requires c = editable c.requires c.edge_named-e.ensures

pub returns-then-not-crosses_all : goal.returns-then-not-crosses_all
returns-then-not-crosses_all c =
    rw c.at-then-not-crosses_all.ensures
    (removal-missed c.args.t c.args.place c.requires (unpinned-yes _ _ c.args.stick c.carries_pin-pinned.ensures c.if-pinned.false)
    c.edge_named-e.ensures c.joined-over.ensures.value (sym c.crosses_all.ensures ∙ c.if-not-crosses_all.true))

pub returns-then-not-within_all : goal.returns-then-not-within_all
returns-then-not-within_all c =
    rw c.at-then-not-within_all.ensures
    (removal-far c.args.t c.args.place c.requires (unpinned-yes _ _ c.args.stick c.carries_pin-pinned.ensures c.if-pinned.false)
    c.edge_named-e.ensures c.joined-over.ensures.value (sym c.crosses_all.ensures ∙ c.if-not-crosses_all.false)
    (sym c.within_all.ensures ∙ c.if-not-within_all.true))

pub leaves_three-requires : goal.leaves_three-requires
leaves_three-requires c =
    editable c.requires c.edge_named-e.ensures

-- after a yes to question 11 there are three left
pub returns-then-not-leaves_three : goal.returns-then-not-leaves_three
returns-then-not-leaves_three c =
    let left =
    removal-third-left c.args.t c.args.place c.requires (unpinned-yes _ _ c.args.stick c.carries_pin-pinned.ensures c.if-pinned.false)
    c.edge_named-e.ensures c.joined-over.ensures.value (sym c.crosses_all.ensures ∙ c.if-not-crosses_all.false) in
    absurd (true≢false (sym left ∙ sym c.leaves_three.ensures ∙ c.if-not-leaves_three.true))

pub returns : goal.returns
returns c =
    removal-done c.args.t c.args.place c.requires (unpinned-yes _ _ c.args.stick c.carries_pin-pinned.ensures c.if-pinned.false)
    c.edge_named-e.ensures c.joined-over.ensures.value (sym c.crosses_all.ensures ∙ c.if-not-crosses_all.false)
    (sym c.within_all.ensures ∙ c.if-not-within_all.false)
