-- What the answers of the four calls say, read off their promises, and what the program's bytes are by the questions on command and sides.
use mathlib.Core.Path.{◌≡◌, sym, ap, ◌∙◌}
use mathlib.Core.Bool.{Bool, true, false, cond}
use mathlib.Core.List.{List}
use Prim.Native.Nat.{ℕ, ◌-◌, ◌≤◌}
use native.Mathlib.Omega.{arith}
use borrow.Author.Tests.{ne_eqb}
use lib.Dec.{eqb}
use lib.ListN.{length, take, drop, length-drop}
use lib.Seq.{take_all}
use Rattle.grid.specs.Layer.{Layer, layer_of, size_of}
use Rattle.std.specs.Prelude.{Result, Ok, Err}
use Rattle.std.specs.Result.{result_unwrap_or}
use Rattle.grid.specs.Questions.{Answer, Yes, number_of, first_no}
use Rattle.grid.specs.declared.refusal.Refused.{Refused}
use Rattle.grid.proofs.Answers.{number-within}
use Rattle.held.specs.Questions.{held_questions}
use Rattle.trace.specs.Trace as Trace
use Rattle.smooth.specs.Call as Smooth
use Rattle.smooth.specs.declared.settling.Settling.{Settling}
use Rattle.smooth.proofs.Held.{smooth-leaves}
use Rattle.simplify.specs.Call as Simplify
use Rattle.simplify.specs.declared.tries.RunCounts.{RunCounts}
use Rattle.simplify.proofs.Outcomes.{simplify-leaves}
use Rattle.sheet.specs.Written as Sheet
use Rattle.sheet.specs.Written.{sheet_of}
use Rattle.sheet.proofs.Answered.{written-done}
use Rattle.slicing.specs.Slice.{command_length, whole_command, number_at, sides_fit, refused_bytes, pass_limit, tolerance, refined, bytes_after, layer_bytes, slice_of, stored, outcome}

-- Smooth and then Simplify: t, t₁ and t₂ are the tables before, between and after
pub refined-is : (L : Layer) (t t₁ t₂ : List ℕ) (s : Result Settling Refused) (r : Result RunCounts Refused)
    → Smooth.outcome s t₁ ≡ Smooth.smooth_of L pass_limit t → Simplify.outcome r t₂ ≡ Simplify.simplify_of L tolerance t₁ → t₂ ≡ refined L t
unfolding refined
refined-is L t t₁ t₂ s r smoothed simplified =
    simplify-leaves L t₁ tolerance r simplified
    ∙ ap (λ (u : List ℕ). (Simplify.simplify_of L tolerance u).table) (smooth-leaves L pass_limit t s smoothed)

-- the outcome of Trace, by its answer r, and the bytes after it
module _ (L : Layer) (t : List ℕ) (r : Answer) (o : Trace.Outcome) (asked : Trace.outcome r t ≡ o) where
  pub traced-done : r ≡ Yes → record { refusal = 0; place = 0; table = t } ≡ o
  traced-done e = rw e at asked

  pub bytes-done : r ≡ Yes → sheet_of L (refined L t) ≡ bytes_after L o
  unfolding bytes_after
  bytes-done e = ap (bytes_after L) (traced-done e)

  pub bytes-refused : {n : Refused} → r ≡ Err n → refused_bytes (number_of n.question) ≡ bytes_after L o
  unfolding bytes_after
  bytes-refused {n} e =
      let number = number_of n.question in
      let some : eqb number 0 ≡ false = ne_eqb number 0 (λ z. omega (arith, number-within n.question)) in
      sym (ap (λ (b : Bool). cond b (sheet_of L (refined L t)) (refused_bytes number)) some) ∙ ap (bytes_after L) (rw e at asked)

-- what follows the command
pub after-command : (input : List ℕ) → take (length input - command_length) (drop command_length input) ≡ drop command_length input
after-command input = take_all (length input - command_length) (drop command_length input) (omega (arith, length-drop command_length input))

-- writing the sheet of a layer that passes 1 to 7, to an output that holds it, is done
module _ (L : Layer) (t out : List ℕ) (yes-7 : first_no (held_questions L t) ≡ Yes) (room : length (sheet_of L t) ≤ length out) where
  pub written_is : {out' : List ℕ} (r : Result ℕ Refused) → Sheet.outcome r out' ≡ Sheet.write_of L t out
      → outcome (result_unwrap_or r 0) out' ≡ stored out (sheet_of L t)
  written_is (Ok n) asked = ap (λ (o : Sheet.Outcome). outcome o.written o.output) (asked ∙ written-done L t out yes-7 room)
  written_is (Err n) asked =
      let none : number_of n.question ≡ 0 = ap (λ (o : Sheet.Outcome). o.refusal) (asked ∙ written-done L t out yes-7 room) in
      absurd (omega (arith, number-within n.question, none))

-- The command and the sides

module _ (input : List ℕ) where
  pub no-command : whole_command input ≡ false → slice_of input ≡ refused_bytes 2
  unfolding slice_of
  no-command h = rw h

  module _ (w h : ℕ) (command : whole_command input ≡ true) (is-w : w ≡ number_at input 1) (is-h : h ≡ number_at input 3) where
    -- after the command the sides are asked
    by-sides : (b : Bool) → sides_fit (size_of w h) ≡ b → slice_of input ≡ cond b (layer_bytes (layer_of (size_of w h) (drop command_length input))) (refused_bytes 1)
    unfolding slice_of
    by-sides b e = rw (command, ← is-w, ← is-h, e)

    pub bad-sides : sides_fit (size_of w h) ≡ false → slice_of input ≡ refused_bytes 1
    bad-sides e = by-sides false e

    pub good-sides : sides_fit (size_of w h) ≡ true → slice_of input ≡ layer_bytes (layer_of (size_of w h) (drop command_length input))
    good-sides e = by-sides true e
