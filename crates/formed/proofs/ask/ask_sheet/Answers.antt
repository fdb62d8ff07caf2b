-- `ask_sheet` meets its contract.
use mathlib.Core.Path.{sym, ◌∙◌}
use Rattle.grid.specs.Plain.{plain}
use Rattle.contour.specs.Contours.{first_sticks}
use Rattle.sheet.specs.Commands.{size_command}
use Rattle.formed.specs.Expected.{these, sheet_answer}
use Rattle.formed.specs.Asked.{expected_from}
use Rattle.formed.proofs.Commands.{command-stands, command-wrong}
use Rattle.formed.proofs.ask.ask_sheet.Goals as goal

pub returns-then-not-has_size : goal.returns-then-not-has_size
unfolding sheet_answer
returns-then-not-has_size c =
    let a = c.args in
    let L = plain a.contours.layer in
    rw c.at.ensures (sym (command-wrong a.sheet.now 0 (these (size_command a.contours.layer.size)) (expected_from L (first_sticks L))
    (sym c.has_size.ensures ∙ c.if-not-has_size.true)))

pub returns : goal.returns
unfolding sheet_answer
returns c =
    let a = c.args in
    let L = plain a.contours.layer in
    let good = sym c.has_size.ensures ∙ c.if-not-has_size.false in
    c.ask_contours.ensures ∙ sym (command-stands a.sheet.now 0 (these (size_command a.contours.layer.size)) (expected_from L (first_sticks L)) good)
