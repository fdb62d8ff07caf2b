use mathlib.Core.Path.{◌≡◌}
use Rattle.arith.specs.Ranges.{fill}
use Rattle.grid.specs.Plain.{plain}
use Rattle.grid.specs.Edges.{row_start}
use Rattle.table.proofs.Pieces.{reached}
use Rattle.trace.specs.Trace.{traced_entry}
use Rattle.trace.proofs.fill.fill_row.Given as goal

abbrev pub invariant-loop-at : goal.invariant-loop-at
invariant-loop-at l =
    l.table ≡ fill (traced_entry (plain l.layer)) (row_start l.layer.size l.vertical l.row) (reached l.layer.size l.vertical l.at) l.initial.table
