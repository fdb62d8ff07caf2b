-- A run passes the test exactly if, over points, its chord crosses each stick between and the point there is within T of the vertex, and no
-- vertex there is pinned.
use mathlib.Core.Path.{◌≡◌, sym, ◌∙◌, ap}
use mathlib.Core.Logic.{◌↔◌}
use mathlib.Core.Bool.{true, not, ◌&&◌}
use mathlib.Core.List.{List}
use Prim.Native.Nat.{ℕ, zero, suc, ◌-◌, ◌≤◌, ◌<◌}
use native.Mathlib.Omega.{arith}
use borrow.Author.Tests.{not-true}
use lib.ListN.{length}
use Rattle.arith.specs.Booleans.{as_number}
use Rattle.arith.proofs.Booleans.{both-sides, and_split}
use Rattle.grid.specs.Layer.{Layer}
use Rattle.grid.specs.Edges.{is_stick}
use Rattle.grid.specs.Questions.{Sound}
use Rattle.grid.specs.declared.edge.Edge.{Edge}
use Rattle.grid.specs.Questions.{Yes}
use Rattle.step.specs.Walk.{next, following}
use Rattle.contour.specs.Walk.{ahead, occurrences}
use Rattle.contour.specs.Contours.{walk_of, contour_of, same_edge}
use Rattle.contour.proofs.Orbit.{ahead-one}
use Rattle.contour.proofs.Sticks.{laws, same-edge}
use Rattle.chord.specs.Points.{Position, CrossesWithin}
use Rattle.chord.specs.Crossing.{crosses, slides_within}
use Rattle.chord.proofs.Tolerance.{crosses-within-is}
use Rattle.table.specs.Entries.{entries_answer}
use Rattle.table.specs.Vertices.{pinned_at, offset_at}
use Rattle.drawn.specs.Drawn.{vertex}
use Rattle.drawn.proofs.Vertices.{vertices-of}
use Rattle.held.proofs.HeldFacts.{each_at}
use Rattle.held.proofs.Holding.{each_all}
use Rattle.run.specs.Runs.{stick_after, between, chord_passes, passes}
use Rattle.run.specs.Meaning.{BetweenSticks, PassedOver, RunPasses}
use Rattle.run.proofs.Passing.{Apart, run-apart}

-- a stick among the k that follow e is one of the first k steps on
following-at : (L : Layer) (k : ℕ) (e u : Edge) → 0 < occurrences (walk_of L) u (following L k e)
    → (j : ℕ) × (0 < j) × (j ≤ k) × (stick_after L j e ≡ u)
unfolding occurrences ahead
following-at L zero e u o = absurd (omega arith)
following-at L (suc k) e u o = both-sides (same_edge u (next L e)) {P = (j : ℕ) × (0 < j) × (j ≤ suc k) × (stick_after L j e ≡ u)}
    (λ s. (1, omega arith, omega arith, sym (same-edge u (next L e) s)))
    (λ s.
    let j = following-at L k (next L e) u (omega (arith, ap as_number s)) in
    (suc j.0, omega arith, omega (arith, j.2), j.3))

module _ (L : Layer) (sound : Sound L) (t : List ℕ) (entries : entries_answer L t ≡ Yes) (tolerance : ℕ) (e : Edge) (n : ℕ)
    (stick : is_stick L e ≡ true) where
  -- of a run whose inner sticks differ from its ends
  pub apart-passes-is : Apart L e n → (passes L t tolerance e n ≡ true) ↔ RunPasses L t tolerance e n
  unfolding passes ahead
  apart-passes-is apart = (
    λ h u b. (here u b).0 (each_at L (chord_passes L t tolerance p q) (between L e n) h u b),
    λ h. each_all L (chord_passes L t tolerance p q) (between L e n) (λ u b. (here u b).1 (h u b)),
  )
    where
      end : Edge
      end = stick_after L n e

      p : Position
      p = vertex L t e

      q : Position
      q = vertex L t end

      over : (u : Edge) → BetweenSticks L e n u
          → ((crosses p q u && slides_within tolerance p q u (offset_at L t u)) ≡ true) ↔ CrossesWithin tolerance p q u (offset_at L t u)
      over u b =
          let j = following-at L (n - 1) e u b in
          let v = vertices-of L t sound entries e stick in
          let w = vertices-of L t sound entries end (ahead-one (walk_of L) (laws L sound) n e stick) in
          crosses-within-is tolerance u e end (offset_at L t e) (offset_at L t end) (offset_at L t u)
          (λ s. apart j.0 0 j.1 (omega (arith, j.2)) (omega arith) (λ i. omega (arith, j.1)) (j.3 ∙ sym s))
          (λ s. apart j.0 n j.1 (omega (arith, j.2)) (omega arith) (λ i. omega (arith, j.1, j.2)) (j.3 ∙ sym s))
          v.after_start v.before_end w.after_start w.before_end

      here : (u : Edge) → BetweenSticks L e n u → (chord_passes L t tolerance p q u ≡ true) ↔ PassedOver L t tolerance p q u
      here u b = (
        λ h.
            let both = and_split _ (not (pinned_at L t u)) h in
            record { within = (over u b).0 both.0; unpinned = not-true _ both.1 },
        λ h. rw ((over u b).1 h.within, h.unpinned),
      )

  -- on a sound layer, with a table that passes question 6, and for a run that is no longer than its contour
  pub run-passes-is : n ≤ length (contour_of L e) → (passes L t tolerance e n ≡ true) ↔ RunPasses L t tolerance e n
  run-passes-is most = apart-passes-is (run-apart L sound e n stick most)
