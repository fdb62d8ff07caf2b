-- The call that writes a sheet, by the answers to its questions: refused by 1 to 7, refused by 14, or done.
use Rattle.std.specs.Prelude.{Err}
use mathlib.Core.Path.{◌≡◌, sym, ap, ◌∙◌}
use mathlib.Core.List.{List, [], ◌∷◌, ◌++◌}
use Prim.Native.Nat.{ℕ, ◌≤◌, ◌<◌}
use borrow.Author.Tests.{le-leb, lt-leb}
use lib.ListN.{length}
use lib.Seq.{sets}
use Rattle.grid.specs.Layer.{Layer}
use Rattle.grid.specs.Questions.{Answer, Yes, No, first_no, if_all_yes, number_of}
use Rattle.grid.specs.declared.refusal.Refused.{Refused}
use Rattle.grid.specs.declared.refusal.Refusal.TheVariants.{ShortOutput}
use Rattle.grid.proofs.Answers.{append-no, append-yes, first-only}
use Rattle.held.specs.Questions.{held_questions}
use Rattle.sheet.specs.Written.{sheet_of, room_answer, Outcome, write_of}

module _ (L : Layer) (t out : List ℕ) where
  -- the outcome, by the answer to all questions
  abbrev pub by_answer : Answer → Outcome
  by_answer answer =
      if_all_yes answer
      (λ q place. record { refusal = number_of q; place = place; written = 0; output = out })
      (record { refusal = 0; place = 0; written = length (sheet_of L t); output = sets out 0 (sheet_of L t) })

  pub written-by : (answer : Answer) → first_no (held_questions L t ++ (room_answer L t out ∷ [])) ≡ answer → write_of L t out ≡ by_answer answer
  unfolding write_of
  written-by answer e = ap by_answer e

  pub written-no : {e : Refused} → first_no (held_questions L t) ≡ Err e
      → write_of L t out ≡ record { refusal = number_of e.question; place = e.place; written = 0; output = out }
  written-no {e} refused = written-by (Err e) (sym (append-no (held_questions L t) (room_answer L t out ∷ []) refused))

  module _ (yes : first_no (held_questions L t) ≡ Yes) where
    -- what is left is question 14
    room-last : first_no (held_questions L t ++ (room_answer L t out ∷ [])) ≡ room_answer L t out
    room-last = sym (append-yes (held_questions L t) (room_answer L t out ∷ []) yes) ∙ sym (first-only (room_answer L t out))

    pub written-short : length out < length (sheet_of L t)
        → write_of L t out ≡ record { refusal = 14; place = 0; written = 0; output = out }
    written-short l = written-by (No ShortOutput 0) (room-last ∙ rw (lt-leb (length (sheet_of L t)) (length out) l))

    pub written-done : length (sheet_of L t) ≤ length out
        → write_of L t out ≡ record { refusal = 0; place = 0; written = length (sheet_of L t); output = sets out 0 (sheet_of L t) }
    written-done l = written-by Yes (room-last ∙ rw (le-leb (length (sheet_of L t)) (length out) l))
