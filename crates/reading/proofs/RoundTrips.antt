-- The two round trips: an accepted writing left the sheet of its table, which read-written reads; and an accepted reading left an accepted
-- layer, whose sheet is, by read_again, the one that was read.
use mathlib.Core.Path.{◌≡◌, refl, sym, ap, ◌∙◌}
use mathlib.Core.List.{List, [], ◌∷◌, ◌++◌}
use Prim.Native.Nat.{ℕ}
use native.Mathlib.Omega.{arith}
use lib.ListN.{length, drop}
use lib.Seq.{sets, take_at}
use Rattle.grid.specs.Layer.{Layer}
use Rattle.std.specs.Prelude.{Err}
use Rattle.grid.specs.Questions.{Answer, Yes, first_no}
use Rattle.grid.proofs.Answers.{number-within, append-all}
use Rattle.held.specs.Questions.{held_questions}
use Rattle.held.proofs.Asking.{accepted-of, accepted-yes}
use Rattle.sheet.specs.Written.{sheet_of, room_answer, Outcome, write_of}
use Rattle.reading.specs.Reading.{read_of}
use Rattle.reading.specs.RoundTrips.{sheet_in, RoundTrips}
use Rattle.sheet.proofs.Answered.{written-by, written-done}
use Rattle.sheet.proofs.Kept.{sets-joined, write-begins}
use Rattle.reading.proofs.Theorems.{read-passes, read-opens}
use Rattle.reading.proofs.Written.{read-written, read_again}

-- what an accepted writing was asked was answered yes
write-passes : (L : Layer) (t out : List ℕ) → (write_of L t out).refusal ≡ 0 → first_no (held_questions L t ++ (room_answer L t out ∷ [])) ≡ Yes
write-passes L t out done = go (first_no (held_questions L t ++ (room_answer L t out ∷ []))) refl
  where
    go : (answer : Answer) → first_no (held_questions L t ++ (room_answer L t out ∷ [])) ≡ answer
        → first_no (held_questions L t ++ (room_answer L t out ∷ [])) ≡ Yes
    go Yes e = e
    go (Err n) e = absurd (omega (arith, number-within n.question, done, ap (λ (o : Outcome). o.refusal) (written-by L t out (Err n) e)))

pub round-trips : RoundTrips
round-trips =
    record {
      same_table = λ L t t' out sized done.
          let all = write-passes L t out done in
          let asked = (append-all (held_questions L t) (room_answer L t out ∷ []) all).0 in
          ap (read_of L t') (write-begins L t out all)
          ∙ read-written L t t' asked (sized ∙ sym (accepted-of L t asked).exact);
      same_bytes = λ L t s out bytes room done.
          let u = (read_of L t s).table in
          let asked = accepted-yes L t u (read-passes L t s done).yes_5 (read-opens L t s bytes done) in
          let sheet : sheet_of L u ≡ s = read_again L t s bytes done in
          let is : write_of L u out ≡ record { refusal = 0; place = 0; written = length s; output = s ++ drop (length s) out } =
          written-done L u out asked (rw sheet room)
          ∙ ap (λ (l : List ℕ). record { refusal = 0; place = 0; written = length l; output = sets out 0 l }) sheet
          ∙ ap (λ (l : List ℕ). record { refusal = 0; place = 0; written = length s; output = l }) (sets-joined s out room) in
          (is, ap sheet_in is ∙ take_at s (drop (length s) out) (length s) refl);
    }
