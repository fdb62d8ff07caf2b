-- Walks along a contour: steps taken together, how many lead round it, and what the loops along a run cite. Each has a record for what holds
-- where the loop stands, with the sticks that are left, and laws for one more turn and for the end.
use mathlib.Core.Path.{◌≡◌, refl, sym, ◌∙◌, ap}
use mathlib.Core.Bool.{true}
use mathlib.Core.List.{List, [], foldl}
use Prim.Native.Nat.{ℕ, ◌+◌, ◌-◌, ◌≤◌, ◌<◌}
use native.Mathlib.Omega.{arith}
use lib.ListN.{length}
use Rattle.arith.specs.Lists.{each}
use Rattle.grid.specs.Layer.{Layer}
use Rattle.grid.specs.Edges.{edge_count, is_stick}
use Rattle.grid.specs.Questions.{Sound}
use Rattle.grid.specs.declared.edge.Edge.{Edge}
use Rattle.grid.proofs.Numbers.{edges-small}
use Rattle.step.specs.Walk.{next, following}
use Rattle.step.proofs.Following.{on-next, following-none, following-more, TestsLeft}
use Rattle.contour.specs.Walk.{ahead}
use Rattle.contour.specs.Contours.{walk_of}
use Rattle.contour.proofs.Orbit.{ahead-add, ahead-one, round}
use Rattle.contour.proofs.Sticks.{laws}
use Rattle.chord.specs.Points.{Position}
use Rattle.table.specs.Vertices.{offset_at}
use Rattle.table.specs.Stores.{without}
use Rattle.table.specs.Lent.{LentAt}
use Rattle.table.specs.declared.entry.Entry.TheVariants.{Removed}
use Rattle.table.proofs.Stores.{store_length}
use Rattle.drawn.specs.Drawn.{vertex}
use Rattle.run.specs.Runs.{stick_after, between, chord_passes, passes, HasSticks, RunLent}

-- Steps

module _ (L : Layer) (f : Edge) where
  pub no_steps : f ≡ stick_after L 0 f
  unfolding ahead
  no_steps = refl

  -- steps from f to `at` and on from there to r, and those from f to r
  pub steps_on : {at r : Edge} (p q : ℕ) → at ≡ stick_after L p f → r ≡ stick_after L q at → r ≡ stick_after L (p + q) f
  steps_on p q here on = on ∙ ap (stick_after L q) here ∙ sym (ahead-add (walk_of L) p q f)

  -- one step more
  pub step-more : {at r : Edge} (k : ℕ) → at ≡ stick_after L k f → r ≡ next L at → r ≡ stick_after L (k + 1) f
  unfolding ahead
  step-more k here step = steps_on k 1 here step

  pub steps-from : {at r : Edge} (p q : ℕ) → at ≡ stick_after L p f → r ≡ stick_after L (p + q) f → r ≡ stick_after L q at
  steps-from p q here there = there ∙ ahead-add (walk_of L) p q f ∙ ap (stick_after L q) (sym here)

  pub steps-rest : {at r : Edge} (p n : ℕ) → p ≤ n → at ≡ stick_after L p f → r ≡ stick_after L n f → r ≡ stick_after L (n - p) at
  steps-rest p n less here there =
      let sum : n ≡ p + (n - p) = omega arith in
      steps-from p (n - p) here (there ∙ ap (λ (k : ℕ). stick_after L k f) sum)

  pub stick-on : {at : Edge} (n : ℕ) → Sound L → is_stick L f ≡ true → at ≡ stick_after L n f → is_stick L at ≡ true
  stick-on n sound stick here = rw here (ahead-one (walk_of L) (laws L sound) n f stick)

-- A contour of n sticks: n steps lead back, and it has no more than there are edges

module _ {L : Layer} {f : Edge} {n : ℕ} (contour : HasSticks L f n) where
  pub once-round : f ≡ stick_after L n f
  once-round =
      sym (ap (λ (k : ℕ). stick_after L k f) contour.all ∙ (round (walk_of L) (laws L contour.sound) f contour.stick).back)

  pub most-sticks : n ≤ 2095104
  most-sticks =
      omega (
        arith,
        contour.all,
        (round (walk_of L) (laws L contour.sound) f contour.stick).within,
        edges-small L.size contour.sound.whole.sized,
      )

-- What code that works on a run is given of its two ends

module _ {L : Layer} {t : List ℕ} {e end : Edge} {n : ℕ} (given : RunLent L t e end n) where
  pub lent-start : LentAt L t e
  lent-start = record { sound = given.sound; exact = given.exact; stick = given.stick }

  pub lent-end : LentAt L t end
  lent-end = record { sound = given.sound; exact = given.exact; stick = stick-on L e n given.sound given.stick given.ends }

-- The sticks between the ends of a run

pub between_none : (L : Layer) (e : Edge) (n : ℕ) → n ≤ 1 → between L e n ≡ []
between_none L e n over = following-none L (n - 1) e (omega arith)

-- whether a run passes: the test of all sticks between, by the vertices p and q at its ends
pub tests-start : {L : Layer} {t : List ℕ} {e end : Edge} {n : ℕ} (tolerance : ℕ) (p q : Position) → RunLent L t e end n
    → p ≡ vertex L t e → q ≡ vertex L t end → TestsLeft L (chord_passes L t tolerance p q) (passes L t tolerance e n) e (n - 1)
unfolding passes
tests-start {L} {t} {e} {end} {n} tolerance p q given at_p at-q =
    let to : q ≡ vertex L t (stick_after L n e) = at-q ∙ ap (vertex L t) given.ends in
    record { stick = given.stick; same = λ i. each (chord_passes L t tolerance (at_p i) (to i)) (between L e n) }

-- The removal of all of them: when k - 1 are removed, removing those that are left, from here, removes all

pub record RemovalsLeft (L : Layer) (t₀ : List ℕ) (e : Edge) (n : ℕ) (t : List ℕ) (at : Edge) (k : ℕ) : Type 0 where
  pub stick : is_stick L at ≡ true
  pub same_length : length t ≡ length t₀
  pub same : foldl (without L) t (following L (n - k) at) ≡ foldl (without L) t₀ (between L e n)

module _ {L : Layer} {t₀ : List ℕ} {e : Edge} {n : ℕ} {t : List ℕ} {at : Edge} {k : ℕ} (here : RemovalsLeft L t₀ e n t at k) where
  module _ (sound : Sound L) {at' : Edge} (step : at' ≡ next L at) where
    pub removals-lent : length t₀ ≡ edge_count L.size → LentAt L t at'
    removals-lent exact =
        record { sound = sound; exact = here.same_length ∙ exact; stick = on-next sound at here.stick step }

    pub removals-turn : k < n → {t' : List ℕ} → t' ≡ without L t at' → RemovalsLeft L t₀ e n t' at' (k + 1)
    removals-turn more is =
        let one : n - (k + 1) ≡ n - k - 1 = omega arith in
        record {
          stick = on-next sound at here.stick step;
          same_length = ap length is ∙ store_length L t at' (Removed (offset_at L t at')) ∙ here.same_length;
          same = rw (one, is) (sym (ap (foldl (without L) t) (following-more L (n - k) at (omega arith) step)) ∙ here.same);
        }

  pub removals-end : n ≤ k → t ≡ foldl (without L) t₀ (between L e n)
  removals-end over = sym (ap (foldl (without L) t) (following-none L (n - k) at (omega arith))) ∙ here.same
