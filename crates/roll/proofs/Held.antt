-- A layer that passes questions 1 to 7 passes them after Roll too, for every roll and tolerance: done, refused, or stopped partway. And whatever
-- is lent, Roll leaves every pinned entry as it is; and the table at exit is the outcome's.
use mathlib.Core.Path.{◌≡◌, refl}
use mathlib.Core.List.{List, [], ◌∷◌, ◌++◌}
use Prim.Native.Nat.{ℕ, zero, suc, ◌+◌}
use Rattle.std.specs.Prelude.{Ok, Err}
use lib.ListN.{length}
use Rattle.grid.specs.Layer.{Layer}
use Rattle.grid.specs.Questions.{first_no, if_all_yes, Answer, Yes}
use Rattle.table.specs.Stores.{slid, without, pinned}
use Rattle.table.specs.Pins.{PinsStay}
use Rattle.table.proofs.Pins.{pins-same, pins-then, pin-pins}
use Rattle.held.specs.Questions.{held_questions, Accepted}
use Rattle.roll.specs.Commands.{Command, command_at, roll_answer, slides, removes, pins, ends, wrong}
use Rattle.edit.specs.Edits.{Named, edge_named, slide_answer, removal_answer, pin_answer}
use Rattle.roll.specs.Roll.{Outcome, Rolled, run_from, roll_of, outcome}
use Rattle.edit.proofs.Asked.{slide-keeps, slide-pins, removal-keeps, removal-pins, pin-keeps}
use Rattle.roll.proofs.Steps.{run_by, refused}

-- what every accepted edit keeps of a table
record Keeps (L : Layer) (tolerance : ℕ) (P : List ℕ → Type 0) : Type 1 where
  slide : (t : List ℕ) (i : ℕ) (s : Named) (o : ℕ) → P t → slide_answer L tolerance t i s o ≡ Yes → P (slid L t (edge_named s) o)
  remove : (t : List ℕ) (i : ℕ) (s : Named) → P t → removal_answer L tolerance t i s ≡ Yes → P (without L t (edge_named s))
  pin : (t : List ℕ) (i : ℕ) (s : Named) → P t → pin_answer L t i s ≡ Yes → P (pinned L t (edge_named s))

module _ (L : Layer) (tolerance : ℕ) (P : List ℕ → Type 0) where
  -- a refusal leaves the table t; after a yes there is what follows
  by_answer : (answer : Answer) (done : ℕ) (t : List ℕ) (later : Outcome) → P t → (answer ≡ Yes → P later.table)
      → P (if_all_yes answer (refused done t) later).table
  by_answer Yes done t later a after = after refl
  by_answer (Err e) done t later a after = a

  module _ (r : List ℕ) (keeps : Keeps L tolerance P) where
    -- every command keeps it
    run-keeps : (n i done : ℕ) (t : List ℕ) → P t → P (run_from L tolerance r n i done t).table
    unfolding run_from
    run-keeps zero i done t a = a
    run-keeps (suc n) i done t a = go (λ j u b. run-keeps n j (done + 1) u b) (command_at r i)
      where
        go : ((j : ℕ) (u : List ℕ) → P u → P (run_from L tolerance r n j (done + 1) u).table)
            → (c : Command) → P (run_by L tolerance r i done t (λ j u. run_from L tolerance r n j (done + 1) u) c).table
        go later (slides s o) =
            by_answer (slide_answer L tolerance t i s o) done t _ a
            (λ all. later (i + 7) (slid L t (edge_named s) o) (keeps.slide t i s o a all))
        go later (removes s) =
            by_answer (removal_answer L tolerance t i s) done t _ a
            (λ all. later (i + 6) (without L t (edge_named s)) (keeps.remove t i s a all))
        go later (pins s) =
            by_answer (pin_answer L t i s) done t _ a (λ all. later (i + 6) (pinned L t (edge_named s)) (keeps.pin t i s a all))
        go later ends = a
        go later wrong = a

    all_keep : (t : List ℕ) → P t → P (roll_of L tolerance r t).table
    unfolding roll_of
    all_keep t a =
        by_answer (first_no (held_questions L t ++ (roll_answer r ∷ []))) 0 t _ a (λ all. run-keeps (length r + 1) 0 0 t a)

module _ (L : Layer) (tolerance : ℕ) (r : List ℕ) where
  pub roll-keeps : (t : List ℕ) → Accepted L t → Accepted L (roll_of L tolerance r t).table
  roll-keeps = all_keep L tolerance (Accepted L) r record {
    slide = λ t i s o a all. slide-keeps L tolerance t i s o a all;
    remove = λ t i s a all. removal-keeps L tolerance t i s a all;
    pin = λ t i s a all. pin-keeps L t i s a all;
  }

  pub roll-pins : (t : List ℕ) → PinsStay t (roll_of L tolerance r t).table
  roll-pins t₀ = all_keep L tolerance (PinsStay t₀) r (record {
    slide = λ t i s o stay all. pins-then stay (slide-pins L tolerance t i s o all);
    remove = λ t i s stay all. pins-then stay (removal-pins L tolerance t i s all);
    pin = λ t i s stay all. pins-then stay (pin-pins L t (edge_named s));
  }) t₀ pins-same

  -- the table at exit, whatever the answer
  pub roll-leaves : (t : List ℕ) {u : List ℕ} (answer : Rolled) → outcome answer u ≡ roll_of L tolerance r t → u ≡ (roll_of L tolerance r t).table
  roll-leaves t (Ok n) promised = λ i. (promised i).table
  roll-leaves t (Err e) promised = λ i. (promised i).table
