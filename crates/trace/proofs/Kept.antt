-- What an accepted Trace leaves: every stick carries a kept vertex, and every other entry says 'no stick'.
use mathlib.Core.Path.{◌≡◌, refl, ap, ◌∙◌}
use mathlib.Core.Bool.{true}
use mathlib.Core.List.{List}
use Prim.Native.Nat.{ℕ}
use native.Mathlib.Omega.{arith}
use lib.ListN.{length}
use Rattle.std.specs.Prelude.{Err}
use Rattle.arith.specs.Ranges.{tabulate}
use Rattle.arith.proofs.Ranges.{length-tabulate_from, get_d_tabulate}
use Rattle.grid.specs.Layer.{Layer}
use Rattle.grid.specs.Edges.{number, edge_count, is_stick, stick_at}
use Rattle.grid.specs.Questions.{Answer, Yes, Sound, first_no}
use Rattle.grid.proofs.Answers.{number-within}
use Rattle.grid.proofs.Numbers.{number-below, edge_at-number}
use Rattle.contour.proofs.Sticks.{stick-in}
use Rattle.table.specs.Entries.{entry_of, length_questions}
use Rattle.table.specs.Vertices.{is_kept}
use Rattle.table.specs.declared.entry.Entry.TheVariants.{Kept}
use Rattle.table.proofs.Lengths.{lengths-of}
use Rattle.table.proofs.Entries.{entry-encoded, entry-nothing}
use Rattle.table.proofs.AllKept.{AllKept}
use Rattle.trace.specs.Trace.{traced, traced_entry, trace_of}

abbrev pub traced_table : Layer → List ℕ
traced_table L = tabulate (traced_entry L) (edge_count L.size)

pub traced-kept : (L : Layer) → Sound L → AllKept L (traced_table L)
traced-kept L sound =
    record {
      whole = length-tabulate_from (traced_entry L) 0 (edge_count L.size);
      on_sticks = λ e stick.
          let k = number L.size e in
          let within = stick-in L e stick in
          let here : stick_at L k ≡ true = ap (is_stick L) (edge_at-number L.size sound.whole.sized e within) ∙ stick in
          ap (λ (n : ℕ). is_kept (entry_of n))
          (get_d_tabulate (traced_entry L) (edge_count L.size) k 0 (number-below L.size sound.whole.sized e within) ∙ ap traced here)
          ∙ ap is_kept (entry-encoded (Kept 128) (record { low = omega arith; high = omega arith }));
      elsewhere = λ k below none.
          ap entry_of (get_d_tabulate (traced_entry L) (edge_count L.size) k 0 below ∙ ap traced none) ∙ entry-nothing;
    }

-- the table of a Trace that is done
pub trace-kept : (L : Layer) (t : List ℕ) → (trace_of L t).refusal ≡ 0 → Sound L × AllKept L (trace_of L t).table
unfolding trace_of
trace-kept L t done = by (first_no (length_questions L (length t))) refl done
  where
    by : (a : Answer) → first_no (length_questions L (length t)) ≡ a → (trace_of L t).refusal ≡ 0 → Sound L × AllKept L (trace_of L t).table
    by Yes e done = let sound = (lengths-of L t e).sound in (sound, rw e (traced-kept L sound))
    by (Err n) e done = absurd (omega (arith, number-within n.question, rw e at done))
