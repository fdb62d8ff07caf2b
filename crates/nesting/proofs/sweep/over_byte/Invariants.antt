use Prim.Native.Nat.{◌+◌, ◌/◌}
use Rattle.grid.specs.Plain.{plain}
use Rattle.nesting.proofs.Sweeping.{ByteSwept}
use Rattle.nesting.proofs.sweep.over_byte.Given as goal

abbrev pub invariant-loop-b : goal.invariant-loop-b
invariant-loop-b l =
    ByteSwept (plain l.nesting.contours.layer) (l.from.column / 8) l.from.row l.end l.b-iterator.left (l.from.column + l.b-iterator.at) l.around
