-- `ask_kept` meets its contract: where all are kept, the layer is held.
use mathlib.Core.Path.{sym, ◌∙◌}
use Rattle.grid.proofs.Answers.{yes-of}
use Rattle.held.proofs.Holding.{kept-yes}
use Rattle.held.proofs.question.ask_kept.Goals as goal

pub returns-else-is_err : goal.returns-else-is_err
returns-else-is_err c =
    let a = c.args.contours in
    let given = c.requires in
    let yes = yes-of _ (sym c.is_err.ensures.value ∙ c.if-is_err.false) in
    yes ∙ kept-yes _ _ a.layer.sound given.lent.exact given.entries_right (sym c.ask_all_kept-kept.ensures ∙ yes)
