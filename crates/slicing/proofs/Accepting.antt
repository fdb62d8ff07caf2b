-- After an accepted Trace nothing is refused: neither Smooth, nor Simplify, nor the writing of the sheet to an output that holds it. So the
-- program refuses exactly what Trace does, and what its command or its sides do. And no answer is longer than 28,230 bytes.
use mathlib.Core.Path.{◌≡◌, refl, sym, ap, subst, ◌∙◌}
use mathlib.Core.Bool.{true}
use mathlib.Core.List.{List, [], ◌∷◌}
use Prim.Native.Nat.{ℕ, ◌≤◌}
use native.Mathlib.Omega.{arith}
use borrow.Author.Tests.{eqb-true}
use lib.Dec.{eqb, lit≤}
use lib.ListN.{length, replicate}
use lib.Seq.{length-sets}
use Rattle.arith.proofs.Booleans.{both-sides}
use Rattle.grid.specs.Layer.{Layer}
use Rattle.grid.specs.Edges.{edge_count}
use Rattle.std.specs.Prelude.{Err}
use Rattle.grid.specs.Questions.{Answer, Yes, first_no}
use Rattle.grid.proofs.Answers.{number-within, append-yes}
use Rattle.table.specs.Entries.{length_questions}
use Rattle.table.specs.Kept.{all_kept_answer}
use Rattle.table.proofs.AllKept.{passes-all-kept}
use Rattle.held.specs.Questions.{held_questions, kept_questions, Accepted}
use Rattle.held.proofs.Asking.{accepted-yes}
use Rattle.held.proofs.Holding.{all-kept-accepted}
use Rattle.trace.specs.Trace.{Outcome, trace_of}
use Rattle.trace.proofs.Kept.{trace-kept}
use Rattle.smooth.specs.Call.{smooth_of}
use Rattle.smooth.proofs.Held as Smooth
use Rattle.simplify.specs.Call.{simplify_of}
use Rattle.simplify.proofs.Outcomes as Simplify
use Rattle.simplify.proofs.Held.{simplify-keeps}
use Rattle.sheet.specs.Written.{sheet_of, write_of}
use Rattle.sheet.proofs.Answered.{written-done}
use Rattle.slicing.specs.Slice.{whole_command, layer_in, sides_fit, pass_limit, tolerance, refined, bytes_after, slice_of, answer_limit, Result, stored, outcome}
use Rattle.slicing.proofs.Bounds.{small_of, sheet-short}

module _ (L : Layer) (t : List ℕ) (done : (trace_of L t).refusal ≡ 0) where
  -- what Trace was asked was answered yes
  yes_5 : first_no (length_questions L (length t)) ≡ Yes
  unfolding trace_of
  yes_5 = by (first_no (length_questions L (length t))) refl done
    where
      by : (a : Answer) → first_no (length_questions L (length t)) ≡ a → (trace_of L t).refusal ≡ 0 → first_no (length_questions L (length t)) ≡ Yes
      by Yes e done = e
      by (Err n) e done = absurd (omega (arith, number-within n.question, rw e at done))

  -- so 1 to 7 are answered yes for each accepted table
  held-yes : (u : List ℕ) → Accepted L u → first_no (held_questions L u) ≡ Yes
  held-yes u = accepted-yes L t u yes_5

  kept-yes : (u : List ℕ) → Accepted L u → all_kept_answer L.size u ≡ Yes → first_no (kept_questions L u) ≡ Yes
  kept-yes u accepted kept =
      let last : first_no (all_kept_answer L.size u ∷ []) ≡ Yes = rw kept in
      sym (append-yes (held_questions L u) (all_kept_answer L.size u ∷ []) (held-yes u accepted)) ∙ last

  -- what Trace leaves is held, and nothing of it is removed
  traced-accepted : Accepted L (trace_of L t).table
  traced-accepted = let kept = trace-kept L t done in all-kept-accepted L (trace_of L t).table kept.0 kept.1

  traced-kept : all_kept_answer L.size (trace_of L t).table ≡ Yes
  traced-kept = let kept = trace-kept L t done in passes-all-kept L (trace_of L t).table kept.1 kept.0

  traced-yes : first_no (kept_questions L (trace_of L t).table) ≡ Yes
  traced-yes = kept-yes (trace_of L t).table traced-accepted traced-kept

  -- what is written is a held layer
  pub refined-accepted : Accepted L (refined L (trace_of L t).table)
  unfolding refined
  refined-accepted =
      simplify-keeps L tolerance (smooth_of L pass_limit (trace_of L t).table).table
      (Smooth.smooth-keeps L pass_limit (trace_of L t).table traced-accepted)

  pub refined-yes : first_no (held_questions L (refined L (trace_of L t).table)) ≡ Yes
  refined-yes = held-yes (refined L (trace_of L t).table) refined-accepted

  pub smooth-done : (smooth_of L pass_limit (trace_of L t).table).refusal ≡ 0
  smooth-done = rw (Smooth.outcome-is L pass_limit (trace_of L t).table Yes traced-yes)

  pub simplify-done : (simplify_of L tolerance (smooth_of L pass_limit (trace_of L t).table).table).refusal ≡ 0
  simplify-done =
      let u = (smooth_of L pass_limit (trace_of L t).table).table in
      let after = Smooth.smooth-held L pass_limit (trace_of L t).table traced-yes in
      rw (Simplify.outcome-is L u tolerance Yes (kept-yes u after.0 after.1))

  pub write_done : (out : List ℕ) → length (sheet_of L (refined L (trace_of L t).table)) ≤ length out
      → (write_of L (refined L (trace_of L t).table) out).refusal ≡ 0
  write_done out room = rw (written-done L (refined L (trace_of L t).table) out refined-yes room)

-- the same of the tables that a run leaves: t₁ after Trace, t₂ after Smooth and Simplify
pub after-done : (L : Layer) (t t₁ t₂ : List ℕ) → record { refusal = 0; place = 0; table = t₁ } ≡ trace_of L t → t₂ ≡ refined L t₁
    → sides_fit L.size ≡ true → (first_no (held_questions L t₂) ≡ Yes) × (length (sheet_of L t₂) ≤ answer_limit)
after-done L t t₁ t₂ traced refine fits =
    let done : (trace_of L t).refusal ≡ 0 = sym (ap (λ (o : Outcome). o.refusal) traced) in
    let is : refined L (trace_of L t).table ≡ t₂ = sym (refine ∙ ap (λ (o : Outcome). refined L o.table) traced) in
    let accepted = refined-accepted L t done in
    let short = sheet-short L accepted.sound (refined L (trace_of L t).table) (small_of L.size fits) accepted.entries in (
      subst (λ (u : List ℕ). first_no (held_questions L u) ≡ Yes) is (refined-yes L t done),
      subst (λ (u : List ℕ). length (sheet_of L u) ≤ answer_limit) is short,
    )

-- so no answer is longer than the longest sheet
pub bytes-short : (L : Layer) (t : List ℕ) → sides_fit L.size ≡ true → length (bytes_after L (trace_of L t)) ≤ answer_limit
unfolding bytes_after
bytes-short L t fits = both-sides (eqb (trace_of L t).refusal 0)
    (λ e.
    let done = eqb-true (trace_of L t).refusal 0 e in
    let accepted = refined-accepted L t done in
    rw e (sheet-short L accepted.sound (refined L (trace_of L t).table) (small_of L.size fits) accepted.entries))
    (λ e. rw e (lit≤ tt))

pub slice-short : (input : List ℕ) → length (slice_of input) ≤ answer_limit
unfolding slice_of
slice-short input = both-sides (whole_command input)
    (λ e. both-sides (sides_fit (layer_in input).size)
    (λ f. rw (e, f) (bytes-short (layer_in input) (replicate (edge_count (layer_in input).size) 0) f))
    (λ f. rw (e, f) (lit≤ tt)))
    (λ e. rw e (lit≤ tt))

-- and in an output of that length the answer's length is within it
pub answer-within : (r : ℕ) (out out' input : List ℕ) → outcome r out' ≡ stored out (slice_of input) → answer_limit ≤ length out → r ≤ length out'
answer-within r out out' input e room =
    let written : r ≡ length (slice_of input) = ap (λ (o : Result). o.written) e in
    let same : length out' ≡ length out = ap (λ (o : Result). length o.output) e ∙ length-sets out 0 (slice_of input) in
    omega (arith, written, same, room, slice-short input)
