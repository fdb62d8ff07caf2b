-- `chord_passes` meets its contract: it stops at the first of the three tests that fails.
use mathlib.Core.Path.{◌≡◌, sym, ap, ◌∙◌}
use mathlib.Core.Bool.{Bool, true, false, not, ◌&&◌}
use Rattle.grid.specs.Plain.{plain}
use Rattle.chord.specs.Crossing.{slides_within}
use Rattle.chord.proofs.Tests.{stick-near}
use Rattle.table.specs.Vertices.{is_pinned, offset_in, pinned_at, offset_at}
use Rattle.table.proofs.Lent.{has-entry}
use Rattle.run.proofs.passes.chord_passes.Goals as goal

-- the first two hold, and the third is the answer; or the second fails
third : {a b c d : Bool} → a ≡ true → b ≡ true → d ≡ c → d ≡ (a && b && c)
third {c = c} p q r = r ∙ sym (λ i. p i && q i && c)

second : {a b d : Bool} (c : Bool) → a ≡ true → b ≡ d → d ≡ false → d ≡ (a && b && c)
second c p q r = r ∙ sym (λ i. p i && (q ∙ r) i && c)

pub crosses_stick-requires-clause-near_edge : goal.crosses_stick-requires-clause-near_edge
crosses_stick-requires-clause-near_edge c =
    let given = c.requires.lent_at in stick-near (plain c.args.layer) c.args.layer.sound c.args.u given.stick

pub entry_at-entry-requires : goal.entry_at-entry-requires
entry_at-entry-requires c = has-entry c.requires.lent_at

pub slides_within-requires-clause-near_edge : goal.slides_within-requires-clause-near_edge
slides_within-requires-clause-near_edge c =
    let given = c.requires.lent_at in stick-near (plain c.args.layer) c.args.layer.sound c.args.u given.stick

pub returns-then-slides_within : goal.returns-then-slides_within
unfolding pinned_at offset_at
returns-then-slides_within c =
    let a = c.args in
    let slid = sym (c.slides_within.ensures ∙ ap (slides_within a.t a.p a.q a.u) (c.offset_in.ensures ∙ ap offset_in c.entry_at-entry.ensures)) in
    third (sym c.crosses_stick.ensures ∙ c.if-not-crosses_stick.false) (slid ∙ c.if-slides_within.true)
    (ap not (c.is_pinned.ensures ∙ ap is_pinned c.entry_at-entry.ensures))

pub returns-else-slides_within : goal.returns-else-slides_within
unfolding offset_at
returns-else-slides_within c =
    let a = c.args in
    let slid = sym (c.slides_within.ensures ∙ ap (slides_within a.t a.p a.q a.u) (c.offset_in.ensures ∙ ap offset_in c.entry_at-entry.ensures)) in
    second _ (sym c.crosses_stick.ensures ∙ c.if-not-crosses_stick.false) slid c.if-slides_within.false
