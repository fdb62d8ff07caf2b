-- What reading a sheet leaves: the table that it describes, which is that of an accepted layer, or the table as found; and that the table at exit is
-- the outcome's.
use mathlib.Core.Path.{◌≡◌, refl, ap}
use mathlib.Core.List.{List, [], ◌∷◌, ◌++◌}
use Prim.Native.Nat.{ℕ, ◌<◌}
use native.Mathlib.Decide.{ℕ_discrete}
use native.Mathlib.Omega.{arith}
use lib.ListN.{length, get_or}
use Rattle.grid.specs.Layer.{Layer}
use Rattle.std.specs.Prelude.{Err}
use Rattle.grid.specs.Questions.{Answer, Yes, first_no, Sound}
use Rattle.grid.proofs.Answers.{number-within, append-all, first_no-yes}
use Rattle.table.specs.Entries.{length_questions}
use Rattle.table.proofs.Lengths.{lengths-of}
use Rattle.held.specs.Held.{held_answer}
use Rattle.held.specs.Questions.{Accepted}
use Rattle.formed.specs.Expected.{sheet_answer}
use Rattle.reading.specs.Reading.{described, Outcome, read_of, outcome}
use Rattle.reading.specs.Places.{answered_by}
use Rattle.reading.proofs.Described.{described-length}
use Rattle.reading.proofs.Vertices.{described-entries}

-- what holds where a sheet is read: its questions are answered yes, and the table at exit is the one that it describes
pub record ReadPasses (L : Layer) (t s : List ℕ) : Type 0 where
  pub yes_5 : first_no (length_questions L (length t)) ≡ Yes
  pub sound : Sound L
  pub formed : sheet_answer L s ≡ Yes
  pub held : held_answer L (described L s) ≡ Yes
  pub left : (read_of L t s).table ≡ described L s

module _ (L : Layer) (t s : List ℕ) where
  answers : List Answer
  answers = length_questions L (length t) ++ (sheet_answer L s ∷ held_answer L (described L s) ∷ [])

  answer-is : (answer : Answer) → first_no answers ≡ answer → read_of L t s ≡ answered_by L t s answer
  unfolding read_of answers
  answer-is answer e = ap (answered_by L t s) e

  -- It holds wherever the call is done.
  pub read-passes : (read_of L t s).refusal ≡ 0 → ReadPasses L t s
  unfolding answers
  read-passes done = go (first_no answers) refl
    where
      go : (answer : Answer) → first_no answers ≡ answer → ReadPasses L t s
      go Yes e =
          let both = append-all (length_questions L (length t)) (sheet_answer L s ∷ held_answer L (described L s) ∷ []) e in
          let eight = first_no-yes (sheet_answer L s) (held_answer L (described L s) ∷ []) both.1 in
          let seven = first_no-yes (held_answer L (described L s)) [] eight.1 in
          record {
            yes_5 = both.0;
            sound = (lengths-of L t both.0).sound;
            formed = eight.0;
            held = seven.0;
            left = ap (λ (o : Outcome). o.table) (answer-is Yes e);
          }
      go (Err n) e = absurd (omega (arith, number-within n.question, done, ap (λ (o : Outcome). o.refusal) (answer-is (Err n) e)))

  -- A sheet of bytes that is read leaves an accepted layer.
  pub read-opens : ((k : ℕ) → get_or s k 0 < 256) → (read_of L t s).refusal ≡ 0 → Accepted L (read_of L t s).table
  read-opens bytes done =
      let p = read-passes done in
      rw p.left (record {
        sound = p.sound;
        exact = described-length L s;
        entries = described-entries L s bytes p.sound p.formed;
        held = p.held;
      })

  -- A refusal leaves the table as found.
  pub read-refused : ((read_of L t s).refusal ≡ 0 → ⊥) → (read_of L t s).table ≡ t
  unfolding answers
  read-refused refused = go (first_no answers) refl
    where
      go : (answer : Answer) → first_no answers ≡ answer → (read_of L t s).table ≡ t
      go Yes e = absurd (refused (ap (λ (o : Outcome). o.refusal) (answer-is Yes e)))
      go (Err n) e = ap (λ (o : Outcome). o.table) (answer-is (Err n) e)

  -- So, whatever the answer is, an accepted layer stays one.
  pub read_keeps : ((k : ℕ) → get_or s k 0 < 256) → Accepted L t → Accepted L (read_of L t s).table
  read_keeps bytes accepted = elim (ℕ_discrete (read_of L t s).refusal 0) [
    | yes done ↦ read-opens bytes done
    | no refused ↦ rw (read-refused refused) accepted
  ]

  -- the table at exit, whatever the answer
  pub read-leaves : {u : List ℕ} (answer : Answer) → outcome answer u ≡ read_of L t s → u ≡ (read_of L t s).table
  read-leaves Yes promised = λ i. (promised i).table
  read-leaves (Err e) promised = λ i. (promised i).table
