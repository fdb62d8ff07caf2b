-- `next` gives the first of the first sticks that are left.
use mathlib.Core.Bool.{false}
use native.Mathlib.Omega.{arith}
use Rattle.grid.proofs.Numbers.{kind-below, edges-small}
use Rattle.contour.specs.Remaining.{firsts_left}
use Rattle.contour.proofs.Laps.{gives-one}
use Rattle.contour.proofs.Firsts.{firsts-within, firsts-some, firsts-none}
use Rattle.contour.proofs.ascent.FirstSticksIterator.next.Goals as goal

pub returns-in_err-number-clause-steps : goal.returns-in_err-number-clause-steps
returns-in_err-number-clause-steps c =
    let s = c.args.self.now in
    let asked = rw c.kind_start.ensures at c.next_first.ensures in
    let none = firsts-none s.contours.first_set s.from asked s.within c.in_err-number.was in
    rw c.from_residual.ensures (none, none)

pub overflow_add-self : goal.overflow_add-self
overflow_add-self c =
    let s = c.args.self.now in
    let asked = rw c.kind_start.ensures at c.next_first.ensures in
    let sized = s.contours.layer.sound.whole.sized in
    omega
    (arith, firsts-within s.contours.first_set s.from asked c.in_ok-number.was, kind-below s.contours.layer.size sized false, edges-small s.contours.layer.size sized)

pub invariant_of-self : goal.invariant_of-self
invariant_of-self c =
    let s = c.args.self.now in
    let asked = rw c.kind_start.ensures at c.next_first.ensures in
    record { within = firsts-within s.contours.first_set s.from asked c.in_ok-number.was }

pub returns-clause-steps : goal.returns-clause-steps
returns-clause-steps c =
    let s = c.args.self.now in
    let asked = rw c.kind_start.ensures at c.next_first.ensures in
    firsts-some s.contours.first_set s.from asked c.in_ok-number.was c.edge_in.ensures

pub returns-clause-goes : goal.returns-clause-goes
returns-clause-goes c =
    let s = c.args.self.now in
    let asked = rw c.kind_start.ensures at c.next_first.ensures in
    gives-one firsts_left (firsts-some s.contours.first_set s.from asked c.in_ok-number.was c.edge_in.ensures)
