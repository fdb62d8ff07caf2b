-- The result of each call as it is reported, over the call's own outcome. The figures of each call stand in the paper's order, 0 for the
-- rest.
use Rattle.std.specs.Prelude.{◌≡◌, cond, List, ℕ, suc, ◌-◌, ◌^◌, ◌≤◌, Float, ℤ, pos, negsuc, length, set}
use Rattle.trace.specs.Trace as Trace
use Rattle.trace.specs.Counts as Counts
use Rattle.smooth.specs.Call as Smooth
use Rattle.simplify.specs.Call as Simplify
use Rattle.roll.specs.Roll as Roll
use Rattle.sheet.specs.Written as Write
use Rattle.reading.specs.Reading as Read
use Rattle.planner.specs.Plan as Plan
use Rattle.area.specs.Call as Area
use Rattle.view.specs.declared.viewing.Sampled.{Sampled}
use Rattle.report.specs.declared.report.Report.{Report}

-- the result of a call: its report, and the buffers that it was lent, as it leaves them
pub record Result (B : Type 0) : Type 0 where
  pub report : Report
  pub buffers : B

-- the place and three figures; elements past the fourth stay
abbrev pub four_figures : Report → List ℕ → List ℕ
four_figures r figures = set (set (set (set figures 0 r.place) 1 r.first) 2 r.second) 3 r.third

-- A report is stored in figures of which there are four at least: n is returned, and `left` are the figures then.
pub record ReportStored (r : Report) (figures : List ℕ) (n : ℕ) (left : List ℕ) : Type 0 where
  pub enough : 4 ≤ length figures
  pub number : n ≡ r.number
  pub stored : left ≡ four_figures r figures

-- Trace: place
abbrev pub trace_result : Trace.Outcome → Result (List ℕ)
trace_result o =
    record { report = record { number = o.refusal; place = o.place; first = 0; second = 0; third = 0 }; buffers = o.table }

-- Counts: place, inside, sticks, contours. It writes to nothing but the figures.
abbrev pub counts_result : Counts.Figures → Result (Unit {0})
counts_result o =
    record {
      report = record { number = o.refusal; place = o.place; first = o.inside; second = o.sticks; third = o.contours };
      buffers = tt;
    }

-- Smooth: place, most passes of a contour, sum of the last totals, 1 if all are settled
abbrev pub smooth_result : Smooth.Outcome → Result (List ℕ)
smooth_result o =
    record {
      report = record { number = o.refusal; place = o.place; first = o.passes; second = o.total; third = cond o.settled 1 0 };
      buffers = o.table;
    }

-- Simplify: place, removed, tried
abbrev pub simplify_result : Simplify.Outcome → Result (List ℕ)
simplify_result o =
    record { report = record { number = o.refusal; place = o.place; first = o.removed; second = o.tried; third = 0 }; buffers = o.table }

-- Roll: place, done
abbrev pub roll_result : Roll.Outcome → Result (List ℕ)
roll_result o =
    record { report = record { number = o.refusal; place = o.place; first = o.done; second = 0; third = 0 }; buffers = o.table }

-- Writing a sheet: place, length
abbrev pub write_result : Write.Outcome → Result (List ℕ)
write_result o =
    record { report = record { number = o.refusal; place = o.place; first = o.written; second = 0; third = 0 }; buffers = o.output }

-- Reading a sheet: place
abbrev pub read_result : Read.Outcome → Result (List ℕ)
read_result o =
    record { report = record { number = o.refusal; place = o.place; first = 0; second = 0; third = 0 }; buffers = o.table }

-- The planner's list: place, items, floats written; and its two outputs
pub record Outputs : Type 0 where
  pub items : List ℕ
  pub points : List Float

abbrev pub plan_result : Plan.Outcome → Result Outputs
plan_result o =
    record {
      report = record { number = o.refusal; place = o.place; first = o.items; second = o.floats; third = 0 };
      buffers = record { items = o.item_buffer; points = o.point_buffer };
    }

-- A figure has 64 bits, so a number below 0 stands in two's complement.
abbrev pub twos_complement : ℤ → ℕ
twos_complement (pos n) = n
twos_complement (negsuc n) = 2 ^ 64 - suc n

-- Areas: place, contours, drawn edges, total; and its two outputs
pub record Measures : Type 0 where
  pub areas : List ℤ
  pub sums : List ℤ

abbrev pub measure_result : Area.Outcome → Result Measures
measure_result o =
    record {
      report = record { number = o.refusal; place = o.place; first = o.contours; second = o.edges; third = twos_complement o.total };
      buffers = record { areas = o.areas; sums = o.sums };
    }

-- One sample of a layer view: place, sample
abbrev pub sample_result : Sampled → Result (Unit {0})
sample_result s =
    record { report = record { number = s.number; place = s.place; first = cond s.inside 1 0; second = 0; third = 0 }; buffers = tt }
