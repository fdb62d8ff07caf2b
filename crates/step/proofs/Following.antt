-- The sticks that follow one, tested one after the other: what a loop over a test of them cites, whatever the test is.
use mathlib.Core.Path.{◌≡◌, refl, sym, ◌∙◌, ap}
use mathlib.Core.Bool.{Bool, true, false, ◌&&◌}
use mathlib.Core.List.{[], ◌∷◌}
use Prim.Native.Nat.{ℕ, zero, suc, ◌-◌, ◌≤◌, ◌<◌}
use native.Mathlib.Omega.{arith}
use Rattle.arith.specs.Lists.{each}
use Rattle.grid.specs.Layer.{Layer}
use Rattle.grid.specs.Edges.{is_stick}
use Rattle.grid.specs.Questions.{Sound}
use Rattle.grid.specs.declared.edge.Edge.{Edge}
use Rattle.step.specs.Walk.{next, following}
use Rattle.step.proofs.Walks.{next-stick}

pub on-next : {L : Layer} (sound : Sound L) (e : Edge) {e' : Edge} → is_stick L e ≡ true → e' ≡ next L e → is_stick L e' ≡ true
on-next {L} sound e stick step = rw step (next-stick L sound e stick)

-- none follows, or one and those that follow it
pub following-none : (L : Layer) (n : ℕ) (e : Edge) → n ≤ 0 → following L n e ≡ []
following-none L zero e over = refl
following-none L (suc n) e over = absurd (omega arith)

pub following-more : (L : Layer) (n : ℕ) (e : Edge) {e' : Edge} → 0 < n → e' ≡ next L e → following L n e ≡ e' ∷ following L (n - 1) e'
following-more L zero e some step = absurd (omega arith)
following-more L (suc n) e some step = let m : suc n - 1 ≡ n = omega arith in rw (m, step)

-- A test of all of them: what the test of the `left` that follow `at` says is what the test of all says
pub record TestsLeft (L : Layer) (test : Edge → Bool) (answer : Bool) (at : Edge) (left : ℕ) : Type 0 where
  pub stick : is_stick L at ≡ true
  pub same : each test (following L left at) ≡ answer

module _ {L : Layer} {test : Edge → Bool} {answer : Bool} {at : Edge} {left : ℕ} (here : TestsLeft L test answer at left) where
  module _ {at' : Edge} (some : 0 < left) (step : at' ≡ next L at) where
    one-test : each test (following L left at) ≡ (test at' && each test (following L (left - 1) at'))
    one-test = ap (each test) (following-more L left at some step)

    pub tests-no : test at' ≡ false → false ≡ answer
    tests-no fails = sym (one-test ∙ ap (λ (b : Bool). b && each test (following L (left - 1) at')) fails) ∙ here.same

    pub tests-turn : Sound L → test at' ≡ true → TestsLeft L test answer at' (left - 1)
    tests-turn sound holds =
        record {
          stick = on-next sound at here.stick step;
          same = sym (one-test ∙ ap (λ (b : Bool). b && each test (following L (left - 1) at')) holds) ∙ here.same;
        }

  pub tests-end : left ≤ 0 → true ≡ answer
  tests-end over = sym (ap (each test) (following-none L left at over)) ∙ here.same
