-- Runs that pass: a single edge does, and the chord of one that does crosses each stick between. The inner sticks of a run that is no longer
-- than its contour differ from each other and from its ends.
use mathlib.Core.Path.{◌≡◌, sym, ◌∙◌, ap}
use mathlib.Core.Logic.{◌≢◌}
use mathlib.Core.Bool.{Bool, true}
use mathlib.Core.List.{List}
use Prim.Native.Nat.{ℕ, zero, suc, ◌-◌, ◌≤◌, ◌<◌}
use native.Mathlib.Decide.{dec_lt}
use native.Mathlib.Omega.{arith}
use lib.ListN.{length}
use Rattle.arith.proofs.Booleans.{and_split}
use Rattle.arith.specs.Lists.{each}
use Rattle.grid.specs.Layer.{Layer}
use Rattle.grid.specs.Edges.{is_stick}
use Rattle.grid.specs.Questions.{Sound}
use Rattle.grid.specs.declared.edge.Edge.{Edge}
use Rattle.step.specs.Walk.{next, following}
use Rattle.contour.specs.Walk.{ahead}
use Rattle.contour.specs.Contours.{walk_of, contour_of}
use Rattle.contour.proofs.Orbit.{round}
use Rattle.contour.proofs.Sticks.{laws}
use Rattle.chord.specs.Crossing.{crosses}
use Rattle.drawn.specs.Drawn.{vertex}
use Rattle.run.specs.Runs.{stick_after, passes, chord_passes}
use Rattle.run.proofs.Steps.{between_none}

-- a test of each of the k sticks that follow e
each-following : (L : Layer) (g : Edge → Bool) (k : ℕ) (e : Edge) → each g (following L k e) ≡ true
    → (j : ℕ) → 0 < j → j ≤ k → g (stick_after L j e) ≡ true
unfolding ahead
each-following L g zero e h j a b = absurd (omega arith)
each-following L g (suc k) e h zero a b = absurd (omega arith)
each-following L g (suc k) e h (suc zero) a b = (and_split (g (next L e)) (each g (following L k (next L e))) h).0
each-following L g (suc k) e h (suc (suc j)) a b =
    each-following L g k (next L e) (and_split (g (next L e)) (each g (following L k (next L e))) h).1 (suc j) (omega arith) (omega arith)

module _ (L : Layer) (t : List ℕ) (tolerance : ℕ) (e : Edge) (n : ℕ) where
  -- a single edge passes
  pub passes-short : n ≤ 1 → passes L t tolerance e n ≡ true
  unfolding passes
  passes-short h = ap (each (chord_passes L t tolerance (vertex L t e) (vertex L t (stick_after L n e)))) (between_none L e n h)

  pub passes-crosses : passes L t tolerance e n ≡ true
      → (j : ℕ) → 0 < j → j < n → crosses (vertex L t e) (vertex L t (stick_after L n e)) (stick_after L j e) ≡ true
  unfolding passes
  passes-crosses h j a b =
      let p = vertex L t e in
      let q = vertex L t (stick_after L n e) in
      (and_split (crosses p q (stick_after L j e)) _
      (and_split _ _ (each-following L (chord_passes L t tolerance p q) (n - 1) e h j a (omega arith))).0).0

-- the inner sticks of a run are met once
abbrev pub Apart : Layer → Edge → ℕ → Type 0
Apart L e n = (i j : ℕ) → 0 < i → i < n → j ≤ n → i ≢ j → stick_after L i e ≢ stick_after L j e

module _ (L : Layer) (sound : Sound L) where
  pub contour-apart : (f : Edge) → is_stick L f ≡ true → Apart L f (length (contour_of L f))
  unfolding ahead
  contour-apart f stick i j a b c d q =
      let r = round (walk_of L) (laws L sound) f stick in
      elim (dec_lt i j) [
        | yes l ↦ elim (dec_lt j (length (contour_of L f))) [
          | yes k ↦ r.apart i j l k q
          | no g ↦
              let end : j ≡ length (contour_of L f) = omega arith in
              r.apart 0 i a b (sym (q ∙ ap (λ (k : ℕ). stick_after L k f) end ∙ r.back))
        ]
        | no g ↦ elim (dec_lt j i) [ yes l ↦ r.apart j i l b (sym q) | no k ↦ d (omega arith) ]
      ]

  -- so for a run no longer than its contour
  pub run-apart : (e : Edge) (n : ℕ) → is_stick L e ≡ true → n ≤ length (contour_of L e) → Apart L e n
  run-apart e n stick most i j a b c = contour-apart e stick i j a (omega arith) (omega arith)
