-- `write_sheet` meets its contract.
use mathlib.Core.Path.{sym, ◌∙◌}
use Rattle.std.proofs.lemmas.Result.{err_from_is_err_and}
use Rattle.bitset.proofs.Sets.{empty-set}
use Rattle.sheet.proofs.Answered.{written-no}
use Rattle.sheet.proofs.write.write_sheet.Goals as goal

pub ask_held_firsts-requires : goal.ask_held_firsts-requires
ask_held_firsts-requires c = empty-set

pub returns-in_err-ask_held_firsts : goal.returns-in_err-ask_held_firsts
returns-in_err-ask_held_firsts c =
    let exit = err_from_is_err_and c.from_residual.result c.from_residual.ensures.1 in
    rw (exit.1, exit.2) (sym (written-no _ _ _ (sym c.ask_held_firsts.ensures.value ∙ c.in_err-ask_held_firsts.was)))
