-- What a yes to Smooth's questions says, and what comes of the call; that Smooth keeps a layer held: what it leaves passes questions 1 to 7 and
-- 15 again, since nothing is removed; and whatever the answer is, an accepted table stays one.
use mathlib.Core.Path.{◌≡◌, refl, sym, ◌∙◌, ap}
use mathlib.Core.List.{List}
use Prim.Native.Nat.{ℕ}
use Rattle.grid.specs.Layer.{Layer}
use Rattle.std.specs.Prelude.{Result, Ok, Err}
use Rattle.grid.specs.Questions.{Answer, Yes, Sound, first_no}
use Rattle.grid.specs.declared.refusal.Refused.{Refused}
use Rattle.table.specs.Kept.{all_kept_answer}
use Rattle.table.proofs.AllKept.{AllKept, passes-all-kept}
use Rattle.held.specs.Questions.{kept_questions, Accepted}
use Rattle.held.proofs.Holding.{all-kept-accepted}
use Rattle.held.proofs.Asking.{kept-of-yes}
use Rattle.smooth.specs.Smooth.{Smoothed, smooth, Smoothable}
use Rattle.smooth.specs.Call.{Outcome, refused_with, done_with, answered, asked, smooth_of, outcome}
use Rattle.smooth.specs.declared.settling.Settling.{Settling}
use Rattle.smooth.proofs.Walking.{smoothable-kept}
use Rattle.smooth.proofs.Rounds.{smooth-kept}

-- a yes to all questions
pub smoothable-of : (L : Layer) (t : List ℕ) → first_no (kept_questions L t) ≡ Yes → Smoothable L t
smoothable-of L t e =
    let both = kept-of-yes L t e in
    let held = both.0 in
    record { sound = held.sound; exact = held.exact; entries = held.entries; all_kept = both.1 }

-- what comes of the call, by the answer to its questions
pub outcome-is : (L : Layer) (limit : ℕ) (t : List ℕ) (answer : Answer) → first_no (kept_questions L t) ≡ answer
    → smooth_of L limit t ≡ answered answer t (smooth L limit t)
unfolding smooth_of
outcome-is L limit t answer e = ap (λ (x : Answer). answered x t (smooth L limit t)) e

module _ (L : Layer) (limit : ℕ) (t : List ℕ) where
  pub outcome-done : first_no (kept_questions L t) ≡ Yes → {r : Outcome} → r ≡ done_with (smooth L limit t) → r ≡ smooth_of L limit t
  outcome-done e is = is ∙ sym (outcome-is L limit t Yes e)

  pub outcome-refused : {n : Refused} → first_no (kept_questions L t) ≡ Err n → refused_with n.question n.place t ≡ smooth_of L limit t
  outcome-refused {n} e = sym (outcome-is L limit t (Err n) e)

  -- the table at exit, whatever the answer
  pub smooth-leaves : {u : List ℕ} (r : Result Settling Refused) → outcome r u ≡ smooth_of L limit t → u ≡ (smooth_of L limit t).table
  smooth-leaves (Ok _) promised = λ i. (promised i).table
  smooth-leaves (Err _) promised = λ i. (promised i).table

-- two rules that give the same on tables with all vertices kept make the same call, whatever is lent
pub same-call : (L : Layer) (t : List ℕ) (one other : Smoothed) → (Sound L → AllKept L t → one ≡ other)
    → asked L t one ≡ asked L t other
same-call L t one other same = by (first_no (kept_questions L t)) refl
  where
    by : (answer : Answer) → first_no (kept_questions L t) ≡ answer → answered answer t one ≡ answered answer t other
    by Yes e = let given = smoothable-of L t e in ap done_with (same given.sound (smoothable-kept given))
    by (Err _) e = refl

-- a layer and a table that pass questions 1 to 7 and 15 pass them again after Smooth
pub smooth-held : (L : Layer) (limit : ℕ) (t : List ℕ) → first_no (kept_questions L t) ≡ Yes
    → Accepted L (smooth_of L limit t).table × (all_kept_answer L.size (smooth_of L limit t).table ≡ Yes)
smooth-held L limit t e =
    let given = smoothable-of L t e in
    let kept = smooth-kept given.sound limit (smoothable-kept given) in
    rw (outcome-is L limit t Yes e)
    (all-kept-accepted L (smooth L limit t).table given.sound kept, passes-all-kept L (smooth L limit t).table kept given.sound)

-- and after a refusal the table is as found: whatever the answer is, an accepted table stays one
pub smooth-keeps : (L : Layer) (limit : ℕ) (t : List ℕ) → Accepted L t → Accepted L (smooth_of L limit t).table
smooth-keeps L limit t accepted = by (first_no (kept_questions L t)) refl
  where
    by : (answer : Answer) → first_no (kept_questions L t) ≡ answer → Accepted L (smooth_of L limit t).table
    by Yes e = (smooth-held L limit t e).0
    by (Err refused) e = rw (outcome-is L limit t (Err refused) e) accepted
