-- `stick_at` meets its contract: the walk starts at the mark before the place, or at e. `found` is what the search for the mark shows.
use mathlib.Core.Path.{◌≡◌, ◌∙◌}
use Prim.Native.Nat.{◌+◌, ◌/◌}
use native.Mathlib.Omega.{arith}
use Rattle.std.specs.Prelude.{Some, slice_get}
use Rattle.std.proofs.lemmas.Grind.{common_steps}
use Rattle.std.proofs.lemmas.Option.{gets}
use Rattle.run.proofs.Marking.{along-small, leads-here, leads-mark}
use Rattle.run.proofs.marks.stick_at.Goals as goal
use Rattle.run.proofs.marks.stick_at.Goals.{in-Some, in_default-2, in_default}

pub overflow_add-place : goal.overflow_add-place
overflow_add-place c = omega (arith, along-small c.requires)

pub stick_after-requires : goal.stick_after-requires
stick_after-requires c = elim c.match-get.branch [
  | in-Some w ↦
      let a = c.args in
      let found : slice_get a.marks.now ((a.p + a.h) / 64) ≡ Some w.in-Some.field-0.now = grind (arith, common_steps, gets, w.in-Some.ensures.lookup) in
      rw w.steps-is (leads-mark c.requires found w.edge_at.ensures).stick
  | in_default-2 w ↦ rw w.steps-is (leads-here c.requires).stick
  | in_default w ↦ rw w.steps-is (leads-here c.requires).stick
]

pub returns : goal.returns
returns c = elim c.match-get.branch [
  | in-Some w ↦
      let a = c.args in
      let found : slice_get a.marks.now ((a.p + a.h) / 64) ≡ Some w.in-Some.field-0.now = grind (arith, common_steps, gets, w.in-Some.ensures.lookup) in
      c.stick_after.ensures ∙ (rw w.steps-is (leads-mark c.requires found w.edge_at.ensures).same)
  | in_default-2 w ↦ c.stick_after.ensures ∙ (rw w.steps-is (leads-here c.requires).same)
  | in_default w ↦ c.stick_after.ensures ∙ (rw w.steps-is (leads-here c.requires).same)
]
