-- What a view shows, by the answer of questions 1 to 4, and what is read through it.
use mathlib.Core.Path.{◌≡◌, refl, ap, sym, ◌∙◌}
use mathlib.Core.Bool.{Bool, false}
use mathlib.Core.List.{[]}
use Prim.Native.Nat.{ℕ, ◌<◌, ◌≤◌, ◌+◌, ◌*◌, ◌/◌, ◌%◌, ◌^◌}
use native.Mathlib.Omega.{arith}
use borrow.Author.Tests.{lt-ltb, le-ltb}
use lib.Dec.{eqb}
use lib.ListN.{get_or}
use Rattle.std.specs.Prelude.{Option, Some, None, Result, Ok, Err}
use Rattle.grid.specs.Layer.{Layer, layer_of, size_of, sample, bit}
use Rattle.grid.specs.Questions.{Answer, Yes, first_no, if_all_yes, layer_questions, number_of}
use Rattle.grid.specs.declared.refusal.Refused.{Refused}
use Rattle.grid.proofs.Answers.{number-within, same-number}
use Rattle.view.specs.View.{Shown, number_in, place_in, view_of, sample_or_outside, outcome, sample_of}
use Rattle.view.specs.declared.viewing.Sampled.{Sampled}

-- the record that a making gives, by the answer
abbrev pub shown_by : Layer → Answer → Shown
shown_by L answer =
    if_all_yes answer
    (λ q place. record { layer = layer_of (size_of 0 0) []; number = number_of q; place = place })
    (record { layer = L; number = 0; place = 0 })

pub view-is : (L : Layer) (answer : Answer) → answer ≡ first_no (layer_questions L) → shown_by L answer ≡ view_of L
unfolding view_of
view-is L answer e = ap (shown_by L) e

-- the sample of a layer, by the answer
abbrev sampled_by : Layer → ℕ → ℕ → Answer → Sampled
sampled_by L c r answer =
    if_all_yes answer
    (λ q place. record { number = number_of q; place = place; inside = false })
    (record { number = 0; place = 0; inside = sample_or_outside L c r })

-- what a view gives at a sample
abbrev pub gives : Shown → ℕ → ℕ → Sampled
gives v c r = record { number = v.number; place = v.place; inside = sample_or_outside v.layer c r }

gives-by : (L : Layer) (c r : ℕ) (answer : Answer) → gives (shown_by L answer) c r ≡ sampled_by L c r answer
unfolding sample_or_outside
gives-by L c r Yes = refl
gives-by L c r (Err e) = rw (le-ltb c 0 (omega arith))

-- a sample read through the view of a layer is the layer's
pub gives-is : (L : Layer) (c r : ℕ) → gives (view_of L) c r ≡ sample_of L c r
unfolding view_of sample_of
gives-is L c r = gives-by L c r (first_no (layer_questions L))

module _ (L : Layer) (c r : ℕ) {l : Layer} {refused : Option Refused}
    (e : record { layer = l; number = number_in refused; place = place_in refused } ≡ view_of L) where
  pub made-gives : {inside : Bool} → refused ≡ None → inside ≡ sample_or_outside l c r → outcome (Ok inside) ≡ sample_of L c r
  made-gives made i =
      (λ k. record { number = number_in (sym made k); place = place_in (sym made k); inside = i k })
      ∙ ap (λ (v : Shown). gives v c r) e ∙ gives-is L c r

  pub refused-gives : {x : Refused} → refused ≡ Some x → outcome (Err x) ≡ sample_of L c r
  unfolding view_of sample_of
  refused-gives {x = x} not_made =
      by (first_no (layer_questions L))
      (ap number_in (sym not_made) ∙ ap (λ (v : Shown). v.number) e)
      (ap place_in (sym not_made) ∙ ap (λ (v : Shown). v.place) e)
    where
      by : (answer : Answer) → number_of x.question ≡ (shown_by L answer).number → x.place ≡ (shown_by L answer).place
          → outcome (Err x) ≡ sampled_by L c r answer
      by Yes n p = let h = number-within x.question in absurd (omega arith)
      by (Err y) n p = λ k. record { number = n k; place = p k; inside = false }

-- an outcome tells the answer
pub one-outcome : (a b : Result Bool Refused) → outcome a ≡ outcome b → a ≡ b
one-outcome (Ok x) (Ok y) e = ap (λ (s : Sampled). Ok s.inside) e
one-outcome (Ok x) (Err y) e =
    let h = number-within y.question in
    let n = ap (λ (s : Sampled). s.number) e in
    absurd (omega arith)
one-outcome (Err x) (Ok y) e =
    let h = number-within x.question in
    let n = ap (λ (s : Sampled). s.number) e in
    absurd (omega arith)
one-outcome (Err x) (Err y) e =
    let q = same-number x.question y.question (ap (λ (s : Sampled). s.number) e) in
    λ k. Err (record { question = q k; place = (e k).place })

-- the number and place that a view shows tell its refusal
pub one-refused : (a b : Option Refused) → number_in a ≡ number_in b → place_in a ≡ place_in b → a ≡ b
one-refused None None n p = refl
one-refused None (Some y) n p = let h = number-within y.question in absurd (omega arith)
one-refused (Some x) None n p = let h = number-within x.question in absurd (omega arith)
one-refused (Some x) (Some y) n p =
    let q = same-number x.question y.question n in
    λ k. Some (record { question = q k; place = p k })

-- a sample by the byte that it stands in, and one off the grid
module _ (L : Layer) (c r : ℕ) where
  pub on-grid : {byte : ℕ} → c < L.size.width → r < L.size.height → byte ≡ get_or L.bitmap (r * ((L.size.width + 7) / 8) + c / 8) 0
      → eqb (byte / 2 ^ (c % 8) % 2) 1 ≡ sample_or_outside L c r
  unfolding sample_or_outside sample bit
  on-grid column row e = rw (lt-ltb c L.size.width column, lt-ltb r L.size.height row, e)

  pub past-columns : L.size.width ≤ c → false ≡ sample_or_outside L c r
  unfolding sample_or_outside
  past-columns column = rw (le-ltb c L.size.width column)

  pub past-rows : c < L.size.width → L.size.height ≤ r → false ≡ sample_or_outside L c r
  unfolding sample_or_outside
  past-rows column row = rw (lt-ltb c L.size.width column, le-ltb r L.size.height row)
