use Prim.Native.Nat.{◌-◌}
use Rattle.grid.specs.Plain.{plain}
use Rattle.step.proofs.Following.{TestsLeft}
use Rattle.edit.specs.Chords.{slides_at, within_chord}
use Rattle.edit.proofs.redraw.within_all.Given as goal

abbrev pub invariant-loop : goal.invariant-loop
invariant-loop l =
    let L = plain l.layer in TestsLeft L (slides_at L l.table l.t l.c.from l.c.to) (within_chord L l.table l.t l.c) l.at (l.c.gap - l.counter)
