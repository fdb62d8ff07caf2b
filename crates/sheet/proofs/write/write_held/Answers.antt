-- `write_held` meets its contract: the sheet's length is the one computed, and the output holds it or not.
use mathlib.Core.Path.{sym, ◌∙◌}
use native.Mathlib.Omega.{arith}
use Rattle.grid.specs.Plain.{plain}
use Rattle.held.proofs.Asking.{accepted-of}
use Rattle.sheet.proofs.Counted.{held-length}
use Rattle.sheet.proofs.Answered.{written-short, written-done}
use Rattle.sheet.proofs.write.write_held.Goals as goal

pub returns-then-sheet-length : goal.returns-then-sheet-length
returns-then-sheet-length c =
    let a = c.args in
    let L = plain a.contours.layer in
    let long = c.sheet_length-length.ensures ∙ sym (held-length L a.table.now c.requires) in
    rw c.at.ensures (sym (written-short L a.table.now a.sheet.now c.requires (omega (arith, c.if-sheet-length.true))))

pub put_sheet-requires : goal.put_sheet-requires
put_sheet-requires c =
    let a = c.args in
    let L = plain a.contours.layer in
    let long = c.sheet_length-length.ensures ∙ sym (held-length L a.table.now c.requires) in
    let all = accepted-of L a.table.now c.requires in
    record { lent = record { sound = all.sound; exact = all.exact }; room = omega (arith, c.if-sheet-length.false) }

pub returns : goal.returns
returns c =
    let a = c.args in
    let L = plain a.contours.layer in
    let long = c.sheet_length-length.ensures ∙ sym (held-length L a.table.now c.requires) in
    let done = written-done L a.table.now a.sheet.now c.requires (omega (arith, c.if-sheet-length.false)) in
    (λ i. record { refusal = 0; place = 0; written = long i; output = c.put_sheet.ensures i }) ∙ sym done
