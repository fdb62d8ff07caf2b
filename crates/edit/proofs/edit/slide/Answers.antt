-- `slide` meets its contract. `here` is question 9 answered yes, from which the rest goes on.
use mathlib.Core.Bool.{not}
use mathlib.Core.Path.{refl, ap}
use Rattle.grid.specs.Plain.{plain}
use Rattle.edit.specs.Chords.{NamedKept}
use Rattle.edit.proofs.Asked.{not-kept, named-kept, slide_none}
use Rattle.edit.proofs.edit.slide.Goals as goal
use Rattle.edit.proofs.edit.slide.Goals.{Else-not-carries_kept}

here : (k : Else-not-carries_kept)
    → let a = k.args in
    NamedKept (plain a.layer) a.table.now a.stick
here k =
    named-kept _ _ k.args.stick k.carries_kept.ensures k.requires (ap not k.if-not-carries_kept.false)

pub returns-then-not-carries_kept : goal.returns-then-not-carries_kept
returns-then-not-carries_kept c =
    let a = c.args in
    let L = plain a.layer in
    let none = not-kept L _ a.stick c.carries_kept.ensures (ap not c.if-not-carries_kept.true) in
    record { value = rw c.at.ensures (slide_none L a.t a.table.now a.place a.stick a.offset none); table_after = refl }

pub ask_slide-requires : goal.ask_slide-requires
ask_slide-requires c = here c
