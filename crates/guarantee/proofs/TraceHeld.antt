-- What Trace leaves is a held layer, since every vertex is kept. So an accepted Trace may open a list of calls, and any Trace among them keeps
-- the layer held.
use mathlib.Core.Path.{◌≡◌, refl}
use mathlib.Core.List.{List}
use Prim.Native.Nat.{ℕ}
use lib.ListN.{length}
use Rattle.std.specs.Prelude.{Err}
use Rattle.grid.specs.Layer.{Layer}
use Rattle.grid.specs.Questions.{Answer, Yes, first_no}
use Rattle.table.specs.Entries.{length_questions}
use Rattle.table.proofs.Lengths.{lengths-of}
use Rattle.held.specs.Questions.{Accepted}
use Rattle.held.proofs.Holding.{all-kept-accepted}
use Rattle.trace.specs.Trace.{trace_of}
use Rattle.trace.proofs.Kept.{traced_table, traced-kept, trace-kept}

module _ (L : Layer) (t : List ℕ) where
  pub trace-opens : (trace_of L t).refusal ≡ 0 → Accepted L (trace_of L t).table
  trace-opens done = let kept = trace-kept L t done in all-kept-accepted L (trace_of L t).table kept.0 kept.1

  pub trace-keeps : Accepted L t → Accepted L (trace_of L t).table
  unfolding trace_of
  trace-keeps accepted = by (first_no (length_questions L (length t))) refl
    where
      by : (a : Answer) → first_no (length_questions L (length t)) ≡ a → Accepted L (trace_of L t).table
      by Yes e = let sound = (lengths-of L t e).sound in rw e (all-kept-accepted L (traced_table L) sound (traced-kept L sound))
      by (Err e) asked = rw asked accepted
