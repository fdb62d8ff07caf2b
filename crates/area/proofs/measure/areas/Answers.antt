-- `areas` meets its contract: by the answer to questions 1 to 7.
use mathlib.Core.Path.{sym, ◌∙◌}
use Rattle.std.proofs.lemmas.Result.{err_from_is_err_and}
use Rattle.bitset.proofs.Sets.{empty-set}
use Rattle.held.proofs.Asking.{accepted-of}
use Rattle.area.proofs.Answered.{measured-no}
use Rattle.area.proofs.measure.areas.Goals as goal

pub ask_held_firsts-requires : goal.ask_held_firsts-requires
ask_held_firsts-requires c = empty-set

pub returns-in_err-ask_held_firsts : goal.returns-in_err-ask_held_firsts
returns-in_err-ask_held_firsts c =
    let exit = err_from_is_err_and c.from_residual.result c.from_residual.ensures.1 in
    rw (exit.1, exit.2) (measured-no _ _ _ _ (sym c.ask_held_firsts.ensures.value ∙ c.in_err-ask_held_firsts.was))

pub invariant_of-layer : goal.invariant_of-layer
invariant_of-layer c = record { sound = (accepted-of _ _ (sym c.ask_held_firsts.ensures.value ∙ c.in_ok-ask_held_firsts.was)).sound }
