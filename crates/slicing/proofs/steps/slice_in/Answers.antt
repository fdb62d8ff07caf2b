-- `slice_in` meets its contract: by the answer of Trace, and by what Trace and `refine` leave in the table.
use mathlib.Core.Path.{ap, ◌∙◌}
use mathlib.Core.List.{List}
use Prim.Native.Nat.{ℕ}
use native.Mathlib.Omega.{arith}
use Rattle.grid.specs.Layer.{layer_of, size_of}
use Rattle.trace.specs.Trace.{trace_of}
use Rattle.sheet.specs.Written.{sheet_of}
use Rattle.slicing.specs.Slice.{stored}
use Rattle.slicing.proofs.Answers.{traced-done, bytes-done, bytes-refused}
use Rattle.slicing.proofs.Accepting.{after-done}
use Rattle.slicing.proofs.steps.slice_in.Goals as goal

pub write-requires : goal.write-requires
write-requires c =
    let a = c.args in
    let L = layer_of (size_of a.w a.h) a.bitmap.now in
    let done = traced-done L c.trace.new.table c.trace.result (trace_of L a.table.now) c.trace.ensures c.in_default.is in
    let after = after-done L a.table.now c.trace.new.table c.refine.new.table done c.refine.ensures c.requires.fits in
    record { held = after.0; room = omega (arith, after.1, c.requires.room) }

pub returns : goal.returns
returns c =
    let a = c.args in
    let L = layer_of (size_of a.w a.h) a.bitmap.now in
    c.write.ensures
    ∙ ap (λ (t : List ℕ). stored a.output.now (sheet_of L t)) c.refine.ensures
    ∙ ap (stored a.output.now) (bytes-done L c.trace.new.table c.trace.result (trace_of L a.table.now) c.trace.ensures c.in_default.is)

pub returns-in-Err : goal.returns-in-Err
returns-in-Err c =
    let a = c.args in
    let L = layer_of (size_of a.w a.h) a.bitmap.now in
    c.refuse.ensures
    ∙ ap (stored a.output.now) (bytes-refused L c.trace.new.table c.trace.result (trace_of L a.table.now) c.trace.ensures c.in-Err.is)
