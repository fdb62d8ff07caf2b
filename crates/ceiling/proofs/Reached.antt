-- The layers of specs/Reached.antt reach the ceiling, by running the definitions of Trace, Roll and Simplify.
use mathlib.Core.Path.{refl}
use mathlib.Core.Bool.{xor}
use Rattle.arith.specs.Ranges.{tabulate_from, count, least_from}
use Rattle.grid.specs.Layer.{sample, bit}
use Rattle.grid.specs.Edges.{number, edge_count, edge_at, is_stick}
use Rattle.grid.specs.Questions.{sides_answer, length_answer, spare_answer, border_answer}
use Rattle.step.specs.Walk.{next, prev}
use Rattle.contour.specs.Walk.{firsts_among, ahead}
use Rattle.chord.specs.Crossing.{off, parted, crosses, slides_within}
use Rattle.table.specs.Entries.{entry_of, entries_answer, table_length_answer}
use Rattle.table.specs.Kept.{all_kept_answer}
use Rattle.table.specs.Vertices.{kept_at, removed_at, pinned_at, offset_at}
use Rattle.drawn.specs.Neighbours.{removed_from, kept_from}
use Rattle.drawn.specs.Drawn.{edge_crosses}
use Rattle.held.specs.Held.{held_contour, held_answer}
use Rattle.trace.specs.Counts.{counts_of}
use Rattle.trace.specs.Trace.{trace_of}
use Rattle.run.specs.Runs.{passes}
use Rattle.simplify.specs.Call.{simplify_of}
use Rattle.edit.specs.Edits.{edge_within}
use Rattle.roll.specs.Roll.{roll_of}
use Rattle.ceiling.specs.Reached.{CeilingReached}

pub ceiling-reached : CeilingReached
unfolding counts_of trace_of tabulate_from simplify_of roll_of sides_answer length_answer spare_answer border_answer table_length_answer entries_answer all_kept_answer held_answer
    held_contour edge_crosses edge_within firsts_among ahead number edge_count edge_at is_stick sample bit next prev xor least_from count kept_at
    removed_at pinned_at offset_at removed_from kept_from entry_of off parted crosses slides_within passes
ceiling-reached =
    record {
      four = record { table-after = refl; held = refl; one_contour = refl; counted = refl; answer = refl; layer-ceiling = refl };
      six = record { table-after = refl; held = refl; one_contour = refl; counted = refl; answer = refl; layer-ceiling = refl };
      eight = record { table-after = refl; held = refl; one_contour = refl; counted = refl; answer = refl; layer-ceiling = refl };
      ten = record { table-after = refl; held = refl; one_contour = refl; counted = refl; answer = refl; layer-ceiling = refl };
      twelve = record { table-after = refl; held = refl; one_contour = refl; counted = refl; answer = refl; layer-ceiling = refl };
      two_contours = refl;
      two_answer = refl;
    }
