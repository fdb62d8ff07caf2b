-- `next` keeps what is said of the walk, and gives the first of the sticks that are left.
use mathlib.Core.Path.{sym, ◌∙◌}
use Rattle.contour.specs.Remaining.{sticks_left}
use Rattle.contour.proofs.Laps.{gives-one, lap-over, lap-stick, lap-on, lap-more, lap-last}
use Rattle.contour.proofs.lap.ContourWalkIterator.next.Goals as goal
use Rattle.contour.proofs.lap.ContourWalkIterator.next.Goals.{then-eq, else-eq}

pub next_stick-after-requires : goal.next_stick-after-requires
next_stick-after-requires c =
    let s = c.args.self.now in record { stick = lap-stick s.layer.sound s.first s.first_stick s.on_contour c.in_ok-here.was }

pub invariant_of-self : goal.invariant_of-self
invariant_of-self c =
    let s = c.args.self.now in
    record {
      first_stick = s.first_stick;
      on_contour = elim c.if-eq.branch [
        | then-eq w ↦ lap-over s.layer.sound s.first s.first_stick w.self-is
        | else-eq w ↦ lap-on s.layer.sound s.first s.first_stick s.on_contour c.in_ok-here.was c.next_stick-after.ensures w.self-is
      ];
    }

pub returns-clause-steps : goal.returns-clause-steps
returns-clause-steps c =
    let s = c.args.self.now in
    elim c.if-eq.branch [
      | then-eq w ↦
          lap-last s.layer.sound s.first s.first_stick s.on_contour c.in_ok-here.was c.next_stick-after.ensures (sym c.eq.ensures ∙ w.if-eq.true) w.self-is
      | else-eq w ↦
          lap-more s.layer.sound s.first s.first_stick s.on_contour c.in_ok-here.was c.next_stick-after.ensures (sym c.eq.ensures ∙ w.if-eq.false) w.self-is
    ]

pub returns-clause-goes : goal.returns-clause-goes
returns-clause-goes c =
    let s = c.args.self.now in
    gives-one sticks_left (elim c.if-eq.branch [
      | then-eq w ↦
          lap-last s.layer.sound s.first s.first_stick s.on_contour c.in_ok-here.was c.next_stick-after.ensures (sym c.eq.ensures ∙ w.if-eq.true) w.self-is
      | else-eq w ↦
          lap-more s.layer.sound s.first s.first_stick s.on_contour c.in_ok-here.was c.next_stick-after.ensures (sym c.eq.ensures ∙ w.if-eq.false) w.self-is
    ])
