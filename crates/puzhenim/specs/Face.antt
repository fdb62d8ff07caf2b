-- The exported face of each call: the number that it returns and its buffers at exit, over the call's own definition. `report` Results says
-- which figures each call has.
use Rattle.std.specs.Prelude.{cond, List, ℕ, ltb, length}
use Rattle.grid.specs.Layer.{Layer}
use Rattle.grid.specs.Questions.{number_of}
use Rattle.grid.specs.declared.refusal.Refusal.TheVariants.{ShortOutput}
use Rattle.trace.specs.Trace.{trace_of}
use Rattle.trace.specs.Counts.{counts_of}
use Rattle.smooth.specs.Call.{smooth_of}
use Rattle.simplify.specs.Call.{simplify_of}
use Rattle.roll.specs.Roll.{roll_of}
use Rattle.sheet.specs.Written.{write_of}
use Rattle.reading.specs.Reading.{read_of}
use Rattle.planner.specs.Plan.{plan_of}
use Rattle.area.specs.Call.{measure_of}
use Rattle.view.specs.View.{sample_of}
use Rattle.report.specs.Results.{Result, Outputs, Measures, four_figures, trace_result, counts_result, smooth_result, simplify_result, roll_result, write_result, read_result, plan_result, measure_result, sample_result}

-- what an exported function returns, the buffers that it was lent at its exit, and the figures
pub record Face (B : Type 0) : Type 0 where
  pub number : ℕ
  pub buffers : B
  pub figures : List ℕ

-- The face of a call, from the figures that it is lent, its buffers as found and its result. Fewer than four figures give 14 before any
-- question, and nothing is touched: a rule of the exported face alone.
unfoldable pub face : {B : Type 0} → List ℕ → B → Result B → Face B
face figures found result =
    cond (ltb (length figures) 4)
    (record { number = number_of ShortOutput; buffers = found; figures = figures })
    (record { number = result.report.number; buffers = result.buffers; figures = four_figures result.report figures })

abbrev pub trace_face : Layer → List ℕ → List ℕ → Face (List ℕ)
trace_face L t figures = face figures t (trace_result (trace_of L t))

-- Counts is lent a table of n entries.
abbrev pub counts_face : Layer → ℕ → List ℕ → Face (Unit {0})
counts_face L n figures = face figures tt (counts_result (counts_of L n))

abbrev pub smooth_face : Layer → ℕ → List ℕ → List ℕ → Face (List ℕ)
smooth_face L limit t figures = face figures t (smooth_result (smooth_of L limit t))

abbrev pub simplify_face : Layer → ℕ → List ℕ → List ℕ → Face (List ℕ)
simplify_face L tolerance t figures = face figures t (simplify_result (simplify_of L tolerance t))

abbrev pub roll_face : Layer → ℕ → List ℕ → List ℕ → List ℕ → Face (List ℕ)
roll_face L tolerance roll t figures = face figures t (roll_result (roll_of L tolerance roll t))

abbrev pub write_face : Layer → List ℕ → List ℕ → List ℕ → Face (List ℕ)
write_face L t sheet figures = face figures sheet (write_result (write_of L t sheet))

abbrev pub read_face : Layer → List ℕ → List ℕ → List ℕ → Face (List ℕ)
read_face L t sheet figures = face figures t (read_result (read_of L t sheet))

abbrev pub plan_face : Layer → List ℕ → Outputs → List ℕ → Face Outputs
plan_face L t out figures = face figures out (plan_result (plan_of L t out.items out.points))

abbrev pub measure_face : Layer → List ℕ → Measures → List ℕ → Face Measures
measure_face L t out figures = face figures out (measure_result (measure_of L t out.areas out.sums))

-- one sample of a layer view
abbrev pub sample_face : Layer → ℕ → ℕ → List ℕ → Face (Unit {0})
sample_face L column row figures = face figures tt (sample_result (sample_of L column row))
