-- Question 8 command by command: that a command ends within the roll, what the answer is from it on, and that more fuel than there are bytes
-- left changes nothing.
use mathlib.Core.Path.{◌≡◌, refl, sym, ◌∙◌, ap}
use mathlib.Core.Bool.{Bool, true, false}
use mathlib.Core.List.{List}
use Prim.Native.Nat.{ℕ, zero, suc, ◌+◌, ◌≤◌, ◌<◌}
use Rattle.std.specs.Prelude.{cond}
use native.Mathlib.Decide.{dec_lt}
use native.Mathlib.Omega.{arith}
use borrow.Author.Tests.{le-leb, lt-leb}
use lib.Dec.{eqb}
use lib.ListN.{length, get_or, get_or-eq_default}
use Rattle.grid.specs.declared.refusal.Refusal.TheVariants.{Malformed}
use Rattle.grid.specs.Questions.{Answer, No}
use Rattle.edit.specs.Edits.{Named, ask_at}
use Rattle.roll.specs.declared.command.Command.{Command as declared}
use Rattle.roll.specs.declared.command.Command.TheVariants.{Slide, Remove, Pin, End}
use Rattle.roll.specs.Commands.{Command, slides, removes, pins, ends, wrong, named_at, width, whole, command_at, written, well_formed, formed_from, roll_answer}

-- past the last byte there is no command
pub at_none : (r : List ℕ) (i : ℕ) → length r ≤ i → command_at r i ≡ wrong
at_none r i h = rw (get_or-eq_default r 0 h)

-- the command that is here, by what the code read
pub read-as : {here : Command} {c d : declared} → written c ≡ here → c ≡ d → here ≡ written d
read-as read is = sym read ∙ ap written is

-- a command ends within the roll: "wrong" has no byte
whole_within : (r : List ℕ) (i : ℕ) (c : Command) → i ≤ length r → i + width (whole r i c) ≤ length r
whole_within r i c h = elim (dec_lt (length r) (i + width c)) [
  | yes k ↦ rw (lt-leb (i + width c) (length r) k) (omega arith)
  | no k ↦ rw (le-leb (i + width c) (length r) (omega arith)) (omega arith)
]

either_within : (n i : ℕ) (b : Bool) (c d : Command) → i + width c ≤ n → i + width d ≤ n → i + width (cond b c d) ≤ n
either_within n i true c d h k = h
either_within n i false c d h k = k

pub within : (r : List ℕ) (i : ℕ) {c : Command} → c ≡ command_at r i → i ≤ length r → i + width c ≤ length r
within r i here h =
    rw here
    (either_within (length r) i (eqb (get_or r i 0) 0x53) _ _ (whole_within r i (slides (named_at r (i + 1)) (get_or r (i + 6) 0)) h)
    (either_within (length r) i (eqb (get_or r i 0) 0x58) _ _ (whole_within r i (removes (named_at r (i + 1))) h)
    (either_within (length r) i (eqb (get_or r i 0) 0x50) _ _ (whole_within r i (pins (named_at r (i + 1))) h)
    (either_within (length r) i (eqb (get_or r i 0) 0x45) _ _ (whole_within r i ends h)
    (omega arith)))))

-- the answer at a command, with `later` the answer from a place on
abbrev step : List ℕ → ℕ → (ℕ → Answer) → Command → Answer
step r i later c = elim c [
  | slides stick offset ↦ later (i + 7)
  | removes stick ↦ later (i + 6)
  | pins stick ↦ later (i + 6)
  | ends ↦ ask_at (i + 1) Malformed (eqb (i + 1) (length r))
  | wrong ↦ No Malformed i
]

step_same : (r : List ℕ) (i : ℕ) (c : Command) (f g : ℕ → Answer) → f (i + 7) ≡ g (i + 7) → f (i + 6) ≡ g (i + 6)
    → step r i f c ≡ step r i g c
step_same r i (slides s o) f g h k = h
step_same r i (removes s) f g h k = k
step_same r i (pins s) f g h k = k
step_same r i ends f g h k = refl
step_same r i wrong f g h k = refl

module _ (r : List ℕ) where
  fuel : (n m i : ℕ) → length r < i + n → length r < i + m → well_formed r n i ≡ well_formed r m i
  unfolding well_formed
  fuel zero zero i h k = refl
  fuel zero (suc m) i h k = sym (ap (step r i (well_formed r m)) (at_none r i (omega arith)))
  fuel (suc n) zero i h k = ap (step r i (well_formed r n)) (at_none r i (omega arith))
  fuel (suc n) (suc m) i h k =
      step_same r i (command_at r i) (well_formed r n) (well_formed r m)
      (fuel n m (i + 7) (omega arith) (omega arith)) (fuel n m (i + 6) (omega arith) (omega arith))

  pub formed-all : formed_from r 0 ≡ roll_answer r
  unfolding formed_from roll_answer
  formed-all = refl

  module _ (i : ℕ) where
    formed-step : formed_from r i ≡ step r i (formed_from r) (command_at r i)
    unfolding formed_from
    formed-step =
        fuel (length r + 1) (suc (length r + 1)) i (omega arith) (omega arith)

    pub formed-slide : {s : Named} {o : ℕ} → command_at r i ≡ slides s o → formed_from r (i + 7) ≡ formed_from r i
    formed-slide e = sym (formed-step ∙ ap (step r i (formed_from r)) e)

    pub formed-removal : {s : Named} → command_at r i ≡ removes s → formed_from r (i + 6) ≡ formed_from r i
    formed-removal e = sym (formed-step ∙ ap (step r i (formed_from r)) e)

    pub formed-pin : {s : Named} → command_at r i ≡ pins s → formed_from r (i + 6) ≡ formed_from r i
    formed-pin e = sym (formed-step ∙ ap (step r i (formed_from r)) e)

    pub formed-end : command_at r i ≡ ends → ask_at (i + 1) Malformed (eqb (i + 1) (length r)) ≡ formed_from r i
    formed-end e = sym (formed-step ∙ ap (step r i (formed_from r)) e)

    pub formed-wrong : command_at r i ≡ wrong → No Malformed i ≡ formed_from r i
    formed-wrong e = sym (formed-step ∙ ap (step r i (formed_from r)) e)

    -- past a command that the code read, which is no end
    pub formed-next : (c : declared) → written c ≡ command_at r i → (c ≡ End → ⊥)
        → formed_from r (i + width (written c)) ≡ formed_from r i
    formed-next (Slide s o) here on = formed-slide (sym here)
    formed-next (Remove s) here on = formed-removal (sym here)
    formed-next (Pin s) here on = formed-pin (sym here)
    formed-next End here on = absurd (on refl)
