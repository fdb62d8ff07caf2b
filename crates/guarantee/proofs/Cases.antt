-- All cases that the paper marks with a star, under one theorem, by running the calls' definitions. Points lie on segments by computing too. A
-- chord that meets a stick at a sample does not cross it: a crossing is the only point of both, and strictly inside.
use mathlib.Core.Path.{◌≡◌, refl}
use mathlib.Core.Bool.{true, xor}
use Prim.Native.Nat.{ℕ, zero, suc, ◌*◌, min, max}
use lib.Dec.{T}
use lib.IntN.{pos, ◌-ℤ◌, ◌*ℤ◌}
use lib.Signed.{le_z, le_z_yes}
use Rattle.arith.specs.Ranges.{tabulate_from, count, least_from}
use Rattle.grid.specs.Layer.{sample, bit}
use Rattle.grid.specs.Edges.{number, edge_count, edge_at, is_stick}
use Rattle.grid.specs.Questions.{sides_answer, length_answer, spare_answer, border_answer}
use Rattle.step.specs.Walk.{next, prev}
use Rattle.contour.specs.Walk.{firsts_among, ahead}
use Rattle.chord.specs.Points.{Position, Point, from_x, from_y, On}
use Rattle.chord.specs.Crossing.{off, parted, crosses, slides_within}
use Rattle.chord.proofs.Crossings.{crosses→Crosses}
use Rattle.table.specs.Entries.{entry_of, entries_answer, table_length_answer}
use Rattle.table.specs.Kept.{all_kept_answer}
use Rattle.table.specs.Vertices.{kept_at, removed_at, pinned_at, offset_at}
use Rattle.drawn.specs.Neighbours.{removed_from, kept_from}
use Rattle.drawn.specs.Drawn.{edge_crosses}
use Rattle.held.specs.Held.{held_contour, held_answer}
use Rattle.trace.specs.Counts.{counts_of}
use Rattle.trace.specs.Trace.{trace_of}
use Rattle.smooth.specs.Call.{smooth_of}
use Rattle.run.specs.Runs.{passes}
use Rattle.simplify.specs.Call.{simplify_of}
use Rattle.edit.specs.Edits.{edge_within}
use Rattle.roll.specs.Roll.{roll_of}
use Rattle.guarantee.specs.Cases.{Cases, offsets, blank, bar, bar_table, stick, vertex_on, inner_sample}

-- `On`, by tests that compute on written-out points
on : {z : Point} {p q : Position} → from_x z p *ℤ from_y z q -ℤ from_y z p *ℤ from_x z q ≡ pos 0
    → T (le_z (pos (min (z.d * p.x) (z.d * q.x))) z.x) → T (le_z z.x (pos (max (z.d * p.x) (z.d * q.x))))
    → T (le_z (pos (min (z.d * p.y) (z.d * q.y))) z.y) → T (le_z z.y (pos (max (z.d * p.y) (z.d * q.y))))
    → On z p q
on cross left right low high =
    record {
      cross = cross;
      x_between = record { least = le_z_yes left; most = le_z_yes right };
      y_between = record { least = le_z_yes low; most = le_z_yes high };
    }

-- the limit makes no difference where there is nothing to smooth
blank-settled : (limit : ℕ) → smooth_of blank limit (offsets 0 0 0 0)
    ≡ record { refusal = 0; place = 0; passes = 0; total = 0; settled = true; table = offsets 0 0 0 0 }
unfolding counts_of trace_of tabulate_from smooth_of simplify_of roll_of sides_answer length_answer spare_answer border_answer table_length_answer entries_answer all_kept_answer held_answer
    held_contour edge_crosses edge_within firsts_among ahead number edge_count edge_at is_stick sample bit next prev xor least_from count kept_at
    removed_at pinned_at offset_at removed_from kept_from entry_of off parted crosses slides_within passes
blank-settled zero = refl
blank-settled (suc n) = refl

pub cases : Cases
unfolding counts_of trace_of tabulate_from smooth_of simplify_of roll_of sides_answer length_answer spare_answer border_answer table_length_answer entries_answer all_kept_answer held_answer
    held_contour edge_crosses edge_within firsts_among ahead number edge_count edge_at is_stick sample bit next prev xor least_from count kept_at
    removed_at pinned_at offset_at removed_from kept_from entry_of off parted crosses slides_within passes
cases =
    record {
      single_contour = refl;
      single_entries = refl;
      single-traced = λ t exact. rw exact;
      bar_traced = λ t exact. rw exact;
      one_pass = refl;
      tenth_pass = refl;
      no_further_pass = refl;
      limit_9 = refl;
      limit_0 = refl;
      no_inside_sample = blank-settled;
      simplify_single = refl;
      first_chord_touches = on refl tt tt tt tt;
      first_chord_crosses_not = λ c.
          c.not_end (c.only c.at inner_sample c.meets
          (record { on_first = on refl tt tt tt tt; on_second = on refl tt tt tt tt }));
      second_chord_touches = on refl tt tt tt tt;
      second_chord_crosses_not = λ c.
          c.not_start (c.only c.at inner_sample c.meets
          (record { on_first = on refl tt tt tt tt; on_second = on refl tt tt tt tt }));
      bar_at_86 = refl;
      bar_at_85 = refl;
      bar_contour = refl;
      run_at_86 = refl;
      run_at_85 = refl;
      chord_crosses = crosses→Crosses (vertex_on bar (bar_table 128 128) 4) (vertex_on bar (bar_table 128 128) 14) (stick bar 13) refl;
      chord_meets = record { on_first = on refl tt tt tt tt; on_second = on refl tt tt tt tt };
      slide_is = refl;
      removal_at_12 = refl;
      removal_at_11 = refl;
      diagonal_counts = refl;
      other_diagonal_counts = refl;
      diagonal_contours = refl;
      other_diagonal_contours = refl;
      slide_to_0 = refl;
      slide_to_255 = refl;
    }
