-- `within_all` meets its contract. The invariant: the sticks that are left are within the tolerance if all are. `slide-here`
-- says what a turn learns of its stick.
use mathlib.Core.Path.{◌∙◌}
use native.Mathlib.Omega.{arith}
use Rattle.grid.specs.Plain.{plain}
use Rattle.step.proofs.Following.{on-next, tests-no, tests-turn}
use Rattle.chord.proofs.Tests.{stick-near}
use Rattle.table.proofs.Lent.{has-entry}
use Rattle.edit.proofs.Within.{within-start, as-many, slide-here}
use Rattle.edit.proofs.redraw.within_all.Goals as goal

pub loop-init : goal.loop-init
loop-init c =
    as-many (within-start _ _ _ _ _ _ _ c.requires.laid.stick) (omega arith)

pub entry_at-requires : goal.entry_at-requires
entry_at-requires c =
    let laid = c.requires.laid in
    has-entry (record {
      sound = laid.sound;
      exact = c.requires.exact;
      stick = on-next laid.sound _ c.loop.invariant.stick c.next_stick-at.ensures;
    })

pub slides_within-requires : goal.slides_within-requires
slides_within-requires c =
    let laid = c.requires.laid in
    record {
      p_near = laid.p_near;
      q_near = laid.q_near;
      near_edge = stick-near _ laid.sound _ (on-next laid.sound _ c.loop.invariant.stick c.next_stick-at.ensures);
    }

pub returns-then-not-slides_within : goal.returns-then-not-slides_within
returns-then-not-slides_within c =
    tests-no c.loop.invariant (omega arith) c.next_stick-at.ensures
    (slide-here (plain c.args.layer) c.args.table.now _ _ _ _ c.slides_within.ensures c.offset_in.ensures c.entry_at.ensures ∙ c.if-not-slides_within.true)

pub loop-preserved : goal.loop-preserved
loop-preserved c =
    as-many (tests-turn c.loop.invariant (omega arith) c.next_stick-at.ensures c.requires.laid.sound
    (slide-here (plain c.args.layer) c.args.table.now _ _ _ _ c.slides_within.ensures c.offset_in.ensures c.entry_at.ensures ∙ c.if-not-slides_within.false)) (omega arith)
