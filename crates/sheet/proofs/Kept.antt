-- What writing a sheet leaves: the output keeps its length, it begins with the sheet where the call is done, and what lies past the answer's
-- end is as before. "A refusal leaves all buffers as found"; "Outputs past the answer's end stay untouched."
use Rattle.std.specs.Prelude.{Err}
use mathlib.Core.Path.{◌≡◌, refl, ap, ◌∙◌}
use mathlib.Core.List.{List, [], ◌∷◌, ◌++◌}
use Prim.Native.Nat.{ℕ, ◌+◌, ◌≤◌}
use native.Mathlib.Omega.{arith}
use borrow.Author.Tests.{leb-true}
use lib.ListN.{length, get_or, take, drop}
use lib.Seq.{sets, length-sets, sets-eq, take_at}
use Rattle.arith.proofs.Stores.{sets-past}
use Rattle.grid.specs.Layer.{Layer}
use Rattle.grid.specs.Questions.{Answer, Yes, first_no}
use Rattle.grid.specs.declared.refusal.Refusal.TheVariants.{ShortOutput}
use Rattle.grid.proofs.Answers.{append-all, first_no-yes, asked}
use Rattle.held.specs.Questions.{held_questions}
use Rattle.sheet.specs.Written.{sheet_of, room_answer, Outcome, write_of}
use Rattle.sheet.proofs.Answered.{by_answer, written-by}

-- what is stored from 0 on is what the list begins with
pub sets-joined : (l s : List ℕ) → length l ≤ length s → sets s 0 l ≡ l ++ drop (length l) s
sets-joined l s h =
    let z : 0 + length l ≡ length l = omega arith in
    sets-eq l s 0 (omega arith) ∙ ap (λ (n : ℕ). l ++ drop n s) z

pub sets-begin : (l s : List ℕ) → length l ≤ length s → take (length l) (sets s 0 l) ≡ l
sets-begin l s h = ap (take (length l)) (sets-joined l s h) ∙ take_at l (drop (length l) s) (length l) refl

module _ (L : Layer) (t out : List ℕ) where
  pub write-length : length (write_of L t out).output ≡ length out
  write-length = ap (λ (o : Outcome). length o.output) (written-by L t out _ refl) ∙ go (first_no (held_questions L t ++ (room_answer L t out ∷ [])))
    where
      go : (answer : Answer) → length (by_answer L t out answer).output ≡ length out
      go Yes = length-sets out 0 (sheet_of L t)
      go (Err e) = refl

  pub write-past : (k d : ℕ) → (write_of L t out).written ≤ k → get_or (write_of L t out).output k d ≡ get_or out k d
  write-past k d h =
      let e = written-by L t out _ refl in
      ap (λ (o : Outcome). get_or o.output k d) e
      ∙ go (first_no (held_questions L t ++ (room_answer L t out ∷ []))) (rw e at h)
    where
      go : (answer : Answer) → (by_answer L t out answer).written ≤ k → get_or (by_answer L t out answer).output k d ≡ get_or out k d
      go Yes l = sets-past (sheet_of L t) out 0 k d (omega arith)
      go (Err e) l = refl

  -- where every question is answered yes
  pub write-begins : first_no (held_questions L t ++ (room_answer L t out ∷ [])) ≡ Yes
      → take (write_of L t out).written (write_of L t out).output ≡ sheet_of L t
  write-begins all =
      let both = append-all (held_questions L t) (room_answer L t out ∷ []) all in
      let room = leb-true (length (sheet_of L t)) (length out) (asked ShortOutput _ (first_no-yes (room_answer L t out) [] both.1).0) in
      ap (λ (o : Outcome). take o.written o.output) (written-by L t out Yes all)
      ∙ sets-begin (sheet_of L t) out room
