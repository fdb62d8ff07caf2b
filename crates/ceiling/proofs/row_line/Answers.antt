-- `row_line` meets its contract.
use mathlib.Core.Path.{◌∙◌}
use Rattle.ceiling.proofs.Rows.{row-lines}
use Rattle.ceiling.proofs.row_line.Goals as goal

pub returns : goal.returns
returns c =
    let lines = row-lines c.args.samples c.samples_byte.result c.requires.le_samples c.requires.samples_bound c.samples_byte.ensures in
    let is = c.line_after.ensures ∙ lines.0 in
    record { found = is; reached = is ∙ lines.1 }
