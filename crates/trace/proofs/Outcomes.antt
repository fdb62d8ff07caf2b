-- What Trace and Counts answer, by the answer to questions 1 to 5, and that the table at exit is the outcome's.
use mathlib.Core.Path.{◌≡◌}
use mathlib.Core.List.{List}
use Prim.Native.Nat.{ℕ}
use lib.ListN.{length}
use Rattle.std.specs.Prelude.{Ok, Err}
use Rattle.arith.specs.Ranges.{fill}
use Rattle.arith.proofs.Ranges.{fill-all}
use Rattle.grid.specs.Layer.{Layer}
use Rattle.grid.specs.Edges.{edge_count}
use Rattle.grid.specs.Questions.{Answer, Yes, first_no}
use Rattle.grid.specs.declared.refusal.Refused.{Refused}
use Rattle.mask.specs.Counts.{inside_count, stick_count}
use Rattle.contour.specs.Contours.{contour_count}
use Rattle.table.specs.Entries.{length_questions}
use Rattle.table.proofs.Lengths.{lengths-of}
use Rattle.trace.specs.Trace.{traced_entry, trace_of, outcome}
use Rattle.trace.specs.Counts.{counts_of, figures_of}
use Rattle.trace.specs.declared.counting.Counted.{Counted}

module _ (L : Layer) (t : List ℕ) where
  pub trace-done : {u : List ℕ} → first_no (length_questions L (length t)) ≡ Yes → u ≡ fill (traced_entry L) 0 (edge_count L.size) t
      → outcome Yes u ≡ trace_of L t
  unfolding trace_of
  trace-done e filled = rw (e, filled, fill-all (traced_entry L) (edge_count L.size) t (lengths-of L t e).exact)

  pub trace-refused : {n : Refused} → first_no (length_questions L (length t)) ≡ Err n → outcome (Err n) t ≡ trace_of L t
  unfolding trace_of
  trace-refused e = rw e

  -- the table at exit, whatever the answer
  pub trace-leaves : {u : List ℕ} (a : Answer) → outcome a u ≡ trace_of L t → u ≡ (trace_of L t).table
  trace-leaves Yes promised = λ i. (promised i).table
  trace-leaves (Err n) promised = λ i. (promised i).table

module _ (L : Layer) (n : ℕ) where
  pub counts-done : {counts : Counted} → first_no (length_questions L n) ≡ Yes → counts.inside ≡ inside_count L → counts.sticks ≡ stick_count L
      → counts.contours ≡ contour_count L → figures_of (Ok counts) ≡ counts_of L n
  unfolding counts_of
  counts-done e i s c = rw (e, i, s, c)

  pub counts-refused : {no : Refused} → first_no (length_questions L n) ≡ Err no → figures_of (Err no) ≡ counts_of L n
  unfolding counts_of
  counts-refused e = rw e
