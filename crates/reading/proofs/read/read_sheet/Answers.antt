-- `read_sheet` meets its contract.
use mathlib.Core.Path.{ap, sym, ◌∙◌}
use lib.ListN.{length}
use Rattle.std.proofs.lemmas.Result.{err_from_is_err_and}
use Rattle.grid.specs.Layer.{layer_of, size_of}
use Rattle.grid.proofs.Answers.{append-no, append-yes}
use Rattle.table.specs.Entries.{length_questions}
use Rattle.table.proofs.Lengths.{lengths-of}
use Rattle.reading.specs.Reading.{read_of}
use Rattle.reading.specs.Places.{sheet_questions, answered_by}
use Rattle.reading.proofs.read.read_sheet.Goals as goal

pub returns-in_err-ask_lengths : goal.returns-in_err-ask_lengths
unfolding read_of
returns-in_err-ask_lengths c =
    let a = c.args in
    let L = layer_of (size_of a.w a.h) a.bitmap.now in
    let t = a.table.now in
    let s = a.sheet.now in
    let exit = err_from_is_err_and c.from_residual.result c.from_residual.ensures.1 in
    rw (exit.1, exit.2)
    (ap (answered_by L t s) (append-no (length_questions L (length t)) (sheet_questions L s) (sym c.ask_lengths.ensures ∙ c.in_err-ask_lengths.was)))

pub invariant_of-read_against : goal.invariant_of-read_against
invariant_of-read_against c = record { sound = (lengths-of _ c.args.table.now (sym c.ask_lengths.ensures ∙ c.in_ok-ask_lengths.was)).sound }

pub read_against-requires : goal.read_against-requires
read_against-requires c = lengths-of _ c.args.table.now (sym c.ask_lengths.ensures ∙ c.in_ok-ask_lengths.was)

pub returns : goal.returns
unfolding read_of
returns c =
    let a = c.args in
    let L = layer_of (size_of a.w a.h) a.bitmap.now in
    let t = a.table.now in
    let s = a.sheet.now in
    let five = sym c.ask_lengths.ensures ∙ c.in_ok-ask_lengths.was in
    c.read_against.ensures ∙ ap (answered_by L t s) (append-yes (length_questions L (length t)) (sheet_questions L s) five)
