-- `next` gives the first of the first sticks that are left, with the depth that the sweep counts there.
use mathlib.Core.Path.{ap}
use Rattle.nesting.specs.declared.sweep.Sweep.{Sweep}
use Rattle.nesting.proofs.Depths.{head-stick, tail-first, head-depth}
use Rattle.nesting.proofs.descent.NestedFirstsIterator.next.Goals as goal

pub sweep_to-self-requires-clause-stick : goal.sweep_to-self-requires-clause-stick
sweep_to-self-requires-clause-stick c =
    let s = c.args.self.now in head-stick s.all_first c.in_ok-first.ensures.steps s.nesting.contours.layer.sound

pub invariant_of-self-2-clause-all_first : goal.invariant_of-self-2-clause-all_first
invariant_of-self-2-clause-all_first c =
    tail-first c.args.self.now.all_first c.in_ok-first.ensures.steps

pub returns-clause-steps : goal.returns-clause-steps
returns-clause-steps c =
    let s = c.args.self.now in
    head-depth s.all_first c.in_ok-first.ensures.steps s.nesting.contours.layer.sound (ap (λ (w : Sweep). w.around) c.sweep_to-self.ensures)
