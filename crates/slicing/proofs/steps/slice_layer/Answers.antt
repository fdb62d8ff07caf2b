-- `slice_layer` meets its contract.
use mathlib.Core.Path.{ap, ◌∙◌}
use mathlib.Core.List.{List}
use Prim.Native.Nat.{ℕ}
use lib.ListN.{replicate}
use Rattle.grid.specs.Layer.{layer_of, size_of}
use Rattle.trace.specs.Trace.{trace_of}
use Rattle.slicing.specs.Slice.{bytes_after, layer_bytes, table_limit, stored}
use Rattle.std.proofs.lemmas.List.{take-replicate}
use Rattle.slicing.proofs.steps.slice_layer.Goals as goal

pub returns : goal.returns
unfolding layer_bytes
returns c =
    let a = c.args in
    let L = layer_of (size_of a.w a.h) a.bitmap.now in
    c.slice_in.ensures
    ∙ ap (λ (t : List ℕ). stored a.output.now (bytes_after L (trace_of L t)))
    (take-replicate c.entry_count-n.result table_limit 0 c.entry_count-n.ensures.1 ∙ ap (λ (n : ℕ). replicate n 0) c.entry_count-n.ensures.0)
