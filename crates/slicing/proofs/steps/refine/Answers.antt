-- `refine` meets its contract.
use Rattle.grid.specs.Layer.{layer_of, size_of}
use Rattle.slicing.proofs.Answers.{refined-is}
use Rattle.slicing.proofs.steps.refine.Goals as goal

pub returns : goal.returns
returns c =
    let a = c.args in
    refined-is (layer_of (size_of a.w a.h) a.bitmap.now) a.table.now _ _
    c.smooth.result c.simplify.result c.smooth.ensures c.simplify.ensures
