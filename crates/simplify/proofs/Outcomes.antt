-- The outcome of the call, by what its questions are answered, what a yes to all of them says, and that the table at exit is the outcome's.
use mathlib.Core.Path.{◌≡◌, ap}
use mathlib.Core.List.{List}
use Prim.Native.Nat.{ℕ}
use Rattle.grid.specs.Layer.{Layer}
use Rattle.std.specs.Prelude.{Result, Ok, Err}
use Rattle.grid.specs.Questions.{Answer, Yes, first_no, if_all_yes, number_of}
use Rattle.grid.specs.declared.refusal.Refused.{Refused}
use Rattle.table.proofs.AllKept.{AllKept, all-kept-of}
use Rattle.held.specs.Questions.{kept_questions, Accepted}
use Rattle.held.proofs.Asking.{kept-of-yes}
use Rattle.simplify.specs.Runs.{simplify}
use Rattle.simplify.specs.Call.{Outcome, finished, simplify_of, outcome}
use Rattle.simplify.specs.declared.tries.RunCounts.{RunCounts}

module _ (L : Layer) (t : List ℕ) where
  pub outcome-is : (tolerance : ℕ) (answer : Answer) → first_no (kept_questions L t) ≡ answer
      → simplify_of L tolerance t
      ≡ if_all_yes answer
      (λ q place. record { refusal = number_of q; place = place; removed = 0; tried = 0; table = t })
      (finished (simplify L tolerance t))
  unfolding simplify_of
  outcome-is tolerance answer e =
      ap (λ (x : Answer). if_all_yes {A = Outcome} x
      (λ q place. record { refusal = number_of q; place = place; removed = 0; tried = 0; table = t })
      (finished (simplify L tolerance t))) e

  -- all questions answered yes: the layer and the table pass 1 to 7, and every vertex is kept
  pub yes-to-all : first_no (kept_questions L t) ≡ Yes → Accepted L t × AllKept L t
  yes-to-all e =
      let both = kept-of-yes L t e in
      let accepted = both.0 in
      (accepted, all-kept-of L t accepted.sound accepted.exact accepted.entries both.1)

  -- the table at exit, whatever the answer
  pub simplify-leaves : (tolerance : ℕ) {u : List ℕ} (r : Result RunCounts Refused) → outcome r u ≡ simplify_of L tolerance t → u ≡ (simplify_of L tolerance t).table
  simplify-leaves tolerance (Ok _) promised = λ i. (promised i).table
  simplify-leaves tolerance (Err _) promised = λ i. (promised i).table
