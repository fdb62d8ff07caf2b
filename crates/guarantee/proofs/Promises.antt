-- A Trace or a sheet reading that answers done accepts the opening: by its promise the outcome has no refusal. L is the layer, t and u are the tables at
-- entry and at exit, r is the answer.
use mathlib.Core.Path.{◌≡◌, sym, ◌∙◌}
use mathlib.Core.List.{List}
use Prim.Native.Nat.{ℕ}
use Rattle.grid.specs.Layer.{Layer}
use Rattle.grid.specs.Questions.{Answer, Yes}
use Rattle.trace.specs.Trace as Trace
use Rattle.reading.specs.Reading as Reading

module _ (L : Layer) (t u : List ℕ) where
  pub trace-accepts : {r : Answer} → Trace.outcome r u ≡ Trace.trace_of L t → r ≡ Yes → (Trace.trace_of L t).refusal ≡ 0
  trace-accepts promised done = (λ i. (sym promised i).refusal) ∙ (λ i. (Trace.outcome (done i) u).refusal)

  pub read-accepts : (sheet : List ℕ) {r : Answer} → Reading.outcome r u ≡ Reading.read_of L t sheet → r ≡ Yes
      → (Reading.read_of L t sheet).refusal ≡ 0
  read-accepts sheet promised done = (λ i. (sym promised i).refusal) ∙ (λ i. (Reading.outcome (done i) u).refusal)
