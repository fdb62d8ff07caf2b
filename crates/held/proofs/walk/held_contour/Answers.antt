-- `held_contour` meets its contract. The invariant: the kept vertices counted so far and those that are left are all of them, and what is
-- left decides whether all drawn edges cross. `found` is what the entry says of the stick that the walk is at.
use mathlib.Core.Path.{◌≡◌, refl, sym, ap, ◌∙◌}
use mathlib.Core.Bool.{Bool}
use mathlib.Core.List.{List}
use Prim.Native.Nat.{ℕ}
use native.Mathlib.Omega.{arith}
use Rattle.grid.specs.Layer.{Layer}
use Rattle.grid.specs.declared.edge.Edge.{Edge}
use Rattle.contour.specs.Remaining.{sticks_left}
use Rattle.table.specs.Vertices.{is_kept, entry_at, kept_at}
use Rattle.table.specs.declared.entry.Entry.{Entry}
use Rattle.table.proofs.Lent.{has-entry}
use Rattle.held.proofs.Asking.{done-kept, done-none, counted_start, counted-lent, counted-most, counted-no, counted-turn, counted-end}
use Rattle.held.proofs.walk.held_contour.Goals as goal

found : (L : Layer) (t : List ℕ) (e : Edge) {entry : Entry} {b : Bool} → entry ≡ entry_at L t e → b ≡ is_kept entry → kept_at L t e ≡ b
unfolding kept_at
found L t e at_e is = sym (is ∙ ap is_kept at_e)

pub loop-e-init : goal.loop-e-init
loop-e-init c = counted_start c.requires (ap sticks_left c.into_iter-e-iterator.ensures.into_iter_gives ∙ c.sticks_of-e-items.ensures)

pub entry_at-requires : goal.entry_at-requires
entry_at-requires c = has-entry (counted-lent c.loop-e.invariant c.args.layer.sound c.in-Some.ensures.steps c.requires)

pub held_at-requires : goal.held_at-requires
held_at-requires c =
    record {
      lent_at = counted-lent c.loop-e.invariant c.args.layer.sound c.in-Some.ensures.steps c.requires;
      kept = found _ _ _ c.entry_at.ensures c.is_kept.ensures ∙ c.if-is_kept.true;
    }

pub returns-then-not-held_at : goal.returns-then-not-held_at
returns-then-not-held_at c =
    counted-no c.loop-e.invariant c.args.layer.sound c.in-Some.ensures.steps
    (found _ _ _ c.entry_at.ensures c.is_kept.ensures ∙ c.if-is_kept.true) (sym c.held_at.ensures ∙ c.if-not-held_at.true)

pub overflow_add-kept : goal.overflow_add-kept
overflow_add-kept c = omega (arith, counted-most c.loop-e.invariant c.args.layer.sound c.in-Some.ensures.steps)

pub loop-e-preserved-then-is_kept : goal.loop-e-preserved-then-is_kept
loop-e-preserved-then-is_kept c =
    counted-turn c.loop-e.invariant c.args.layer.sound c.in-Some.ensures.steps
    (done-kept _ _ _ _ (found _ _ _ c.entry_at.ensures c.is_kept.ensures ∙ c.if-is_kept.true) (sym c.held_at.ensures ∙ c.if-not-held_at.false) refl)

pub loop-e-preserved : goal.loop-e-preserved
loop-e-preserved c =
    counted-turn c.loop-e.invariant c.args.layer.sound c.in-Some.ensures.steps
    (done-none _ _ _ _ (found _ _ _ c.entry_at.ensures c.is_kept.ensures ∙ c.if-is_kept.false) refl)

pub returns : goal.returns
returns c = counted-end c.loop-e.invariant c.in-None.ensures.steps.0
