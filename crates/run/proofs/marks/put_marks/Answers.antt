-- `put_marks` meets its contract. The invariant: so many marks are put, and the walk stands where the next one belongs.
use native.Mathlib.Omega.{arith}
use Rattle.contour.proofs.Sticks.{stick-in}
use Rattle.run.proofs.Marking.{put-none, put-stick, put-number, put-room, put_one}
use Rattle.run.proofs.marks.put_marks.Goals as goal

pub loop-k-init : goal.loop-k-init
loop-k-init c = put-none _ _ _ _ c.requires.marks_len

pub number_of-requires-clause-within : goal.number_of-requires-clause-within
number_of-requires-clause-within c = stick-in _ _ (put-stick c.requires.has_sticks c.loop-k.invariant)

pub overflow_cast-marks : goal.overflow_cast-marks
overflow_cast-marks c = omega (arith, c.number_of.ensures, put-number c.requires.has_sticks c.loop-k.invariant)

pub bounds-marks-k : goal.bounds-marks-k
bounds-marks-k c = put-room c.requires.has_sticks c.loop-k.invariant (omega (arith, c.loop-k-test.true))

pub stick_after-at-requires : goal.stick_after-at-requires
stick_after-at-requires c = put-stick c.requires.has_sticks c.loop-k.invariant

pub loop-k-preserved : goal.loop-k-preserved
loop-k-preserved c = put_one c.requires.has_sticks c.loop-k.invariant (omega (arith, c.loop-k-test.true)) c.number_of.ensures c.stick_after-at.ensures
