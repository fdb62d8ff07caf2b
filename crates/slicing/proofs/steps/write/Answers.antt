-- `write` meets its contract: nothing is refused there.
use mathlib.Core.Path.{ap, ◌∙◌}
use Prim.Native.Nat.{ℕ}
use Rattle.slicing.specs.Slice.{outcome}
use Rattle.slicing.proofs.Answers.{written_is}
use Rattle.slicing.proofs.steps.write.Goals as goal

pub returns : goal.returns
returns c =
    ap (λ (n : ℕ). outcome n c.write_sheet.new.sheet) c.unwrap_or.ensures
    ∙ written_is _ c.args.table.now c.args.output.now c.requires.held c.requires.room c.write_sheet.result c.write_sheet.ensures
