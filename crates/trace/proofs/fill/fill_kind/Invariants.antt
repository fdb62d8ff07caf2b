use mathlib.Core.Path.{◌≡◌}
use Prim.Native.Nat.{◌*◌}
use Rattle.arith.specs.Ranges.{fill}
use Rattle.grid.specs.Plain.{plain}
use Rattle.grid.specs.Edges.{edge_columns, kind_start}
use Rattle.trace.specs.Trace.{traced_entry}
use Rattle.trace.proofs.fill.fill_kind.Given as goal

abbrev pub invariant-loop-row : goal.invariant-loop-row
invariant-loop-row l =
    l.table ≡ fill (traced_entry (plain l.layer)) (kind_start l.layer.size l.vertical) (l.row * edge_columns l.layer.size l.vertical) l.initial.table
