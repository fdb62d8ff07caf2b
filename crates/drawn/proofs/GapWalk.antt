-- The removed sticks between a stick and the next kept one, ahead or back. On a sound layer the walk from a stick that is not removed comes
-- back to it, so it meets one that is not removed within a round: the fuel of the definitions never runs out, and the gap is a run of the walk.
-- Every law is over the step, `next L` or `prev L`, and the step that undoes it, which make a walk that keeps the laws of walks.
use mathlib.Core.Path.{◌≡◌, refl, sym, ◌∙◌, ap, subst}
use mathlib.Core.Logic.{◌⊎◌, inl, inr}
use mathlib.Core.Bool.{Bool, true, false, true≢false, not}
use mathlib.Core.List.{List, ◌∷◌}
use Prim.Native.Nat.{ℕ, zero, suc, ◌+◌, ◌-◌, ◌≤◌, ◌<◌}
use native.Mathlib.Nat.{eq-or-lt_of_le}
use native.Mathlib.Numerals.{add-one}
use native.Mathlib.Decide.{dec_lt}
use native.Mathlib.Omega.{arith}
use borrow.Author.Count.{below_more}
use borrow.Author.Tests.{not-true, not-false}
use lib.ListN.{length}
use Rattle.arith.specs.Ranges.{least_from}
use Rattle.arith.proofs.Finite.{least-from}
use Rattle.grid.specs.Layer.{Layer}
use Rattle.grid.specs.Edges.{edge_count, is_stick}
use Rattle.grid.specs.declared.edge.Edge.{Edge}
use Rattle.contour.specs.Walk.{Walk, Laws, OnContour, contour, ahead, Round}
use Rattle.contour.proofs.Orbit.{run, ahead-next, ahead-one, length_run, round}
use Rattle.contour.proofs.Members.{on-ahead, on_one}
use Rattle.table.specs.Vertices.{removed_at}
pub use Rattle.drawn.specs.Ways.{walk_by, forth, back}
use Rattle.drawn.specs.Neighbours.{removed_from, kept_from, NeighbourFound}
use Rattle.drawn.proofs.Gaps.{gap-over, gap_here, kept-over, kept_here}

module _ (step undo : Edge → Edge) (L : Layer) (t : List ℕ) where
  abbrev walk : Walk
  walk = walk_by step undo L

  -- the k sticks that follow e are removed, and the one after them is not
  pub record Gap (e : Edge) (k : ℕ) : Type 0 where
    pub removed : (j : ℕ) → j < k → removed_at L t (ahead walk (suc j) e) ≡ true
    pub ends : removed_at L t (ahead walk (suc k) e) ≡ false

  gap-next : (e : Edge) (k : ℕ) → Gap e (suc k) → Gap (step e) k
  unfolding ahead
  gap-next e k gap = record { removed = λ j l. gap.removed (suc j) (omega arith); ends = gap.ends }

  -- with any more fuel
  pub gap-run : (n k : ℕ) (e : Edge) → k ≤ n → Gap e k → removed_from step L t n e ≡ run walk k (step e)
  unfolding run ahead
  gap-run n zero e h gap = gap_here step L t n e gap.ends
  gap-run zero (suc k) e h gap = absurd (omega arith)
  gap-run (suc n) (suc k) e h gap =
      gap-over step L t n e (gap.removed 0 (omega arith))
      ∙ ap (λ (l : List Edge). step e ∷ l) (gap-run n k (step e) (omega arith) (gap-next e k gap))

  pub gap-end : (n k : ℕ) (e : Edge) → k ≤ n → Gap e k → kept_from step L t n e ≡ ahead walk (suc k) e
  unfolding ahead
  gap-end n zero e h gap = kept_here step L t n e gap.ends
  gap-end zero (suc k) e h gap = absurd (omega arith)
  gap-end (suc n) (suc k) e h gap =
      kept-over step L t n e (gap.removed 0 (omega arith)) ∙ gap-end n k (step e) (omega arith) (gap-next e k gap)

  -- A walk from e over removed sticks: it is at x after `gap` of them.
  pub record Passed (e x : Edge) (gap : ℕ) : Type 0 where
    pub met : ahead walk gap e ≡ x
    pub removed : (j : ℕ) → j < gap → removed_at L t (ahead walk (suc j) e) ≡ true
    pub within : gap < length (contour walk e)

-- the walk is back at e after a round
round-of : {step undo : Edge → Edge} (L : Layer) (law : Laws (walk_by step undo L)) {e : Edge} → is_stick L e ≡ true
    → Round (walk_by step undo L) e (length (contour (walk_by step undo L) e))
round-of {step} {undo} L law {e} stick = round (walk_by step undo L) law e stick

module _ {step undo : Edge → Edge} {t : List ℕ} (L : Layer) (law : Laws (walk_by step undo L)) {e : Edge} (stick : is_stick L e ≡ true) where
  pub passed_start : Passed step undo L t e e 0
  unfolding ahead
  passed_start = record { met = refl; removed = λ j h. absurd (omega arith); within = (round-of L law stick).some }

  module _ {x : Edge} {gap : ℕ} (p : Passed step undo L t e x gap) where
    pub passed_here : is_stick L x ≡ true
    passed_here = subst (λ y. is_stick L y ≡ true) p.met (ahead-one (walk_by step undo L) law gap e stick)

    pub passed-below : gap < edge_count L.size
    passed-below = omega (arith, p.within, (round-of L law stick).within)

    module _ {x' : Edge} (by : x' ≡ step x) where
      ahead_of : ahead (walk_by step undo L) (suc gap) e ≡ x'
      unfolding ahead
      ahead_of = ahead-next (walk_by step undo L) gap e ∙ ap step p.met ∙ sym by

      pub passed-stick : is_stick L x' ≡ true
      passed-stick = subst (λ y. is_stick L y ≡ true) ahead_of (ahead-one (walk_by step undo L) law (suc gap) e stick)

      -- the next one is removed, so it is not e again
      pub passed-turn : removed_at L t e ≡ false → removed_at L t x' ≡ true → Passed step undo L t e x' (gap + 1)
      passed-turn stays r =
          record { met = rw (add-one gap) ahead_of; removed = below_more _ _ p.removed here; within = more (eq-or-lt_of_le p.within) }
        where
          here : removed_at L t (ahead (walk_by step undo L) (suc gap) e) ≡ true
          here = ap (removed_at L t) ahead_of ∙ r

          more : (suc gap ≡ length (contour (walk_by step undo L) e)) ⊎ (suc gap < length (contour (walk_by step undo L) e)) → gap + 1 < length (contour (walk_by step undo L) e)
          more (inl q) =
              absurd (true≢false (sym here ∙ ap (λ (n : ℕ). removed_at L t (ahead (walk_by step undo L) n e)) q ∙ ap (removed_at L t) (round-of L law stick).back ∙ stays))
          more (inr l) = omega arith

      -- it is not removed: it is the next kept stick
      module _ (r : removed_at L t x' ≡ false) where
        gap_of : Gap step undo L t e gap
        gap_of = record { removed = p.removed; ends = ap (removed_at L t) ahead_of ∙ r }

        passed-end : x' ≡ kept_from step L t (edge_count L.size) e
        passed-end = sym (gap-end step undo L t (edge_count L.size) gap e (omega (arith, passed-below)) gap_of ∙ ahead_of)

        passed_length : gap ≡ length (removed_from step L t (edge_count L.size) e)
        passed_length =
            sym (ap length (gap-run step undo L t (edge_count L.size) gap e (omega (arith, passed-below)) gap_of) ∙ length_run (walk_by step undo L) gap (step e))

        pub passed-last :
            NeighbourFound L (kept_from step L t (edge_count L.size) e) (removed_from step L t (edge_count L.size) e)
            (record { stick = x'; gap = gap })
        passed-last = record { kept = passed-end; gap = passed_length; stick = passed-stick }

module _ (step undo : Edge → Edge) (L : Layer) (t : List ℕ) (law : Laws (walk_by step undo L)) (e : Edge) (stick : is_stick L e ≡ true) where
  -- a gap that is found ends within a round
  module _ (stays : removed_at L t e ≡ false) where
    removed-ahead : ℕ → Bool
    removed-ahead j = not (removed_at L t (ahead (walk_by step undo L) (suc j) e))

    pub some-gap : (k : ℕ) × (k < length (contour (walk_by step undo L) e)) × Gap step undo L t e k
    unfolding removed-ahead
    some-gap =
        let n = length (contour (walk_by step undo L) e) in
        let l = least-from removed-ahead 0 n in
        let k = least_from removed-ahead 0 n in
        let whole : suc (n - 1) ≡ n = omega (arith, (round-of L law stick).some) in
        let returned : removed_at L t (ahead (walk_by step undo L) (suc (n - 1)) e) ≡ false =
        ap (λ (m : ℕ). removed_at L t (ahead (walk_by step undo L) m e)) whole ∙ ap (removed_at L t) (round-of L law stick).back ∙ stays in
        let below : k < n = elim (dec_lt k n) [
          | yes y ↦ y
          | no g ↦ absurd (true≢false (sym (ap not returned) ∙ l.before (n - 1) (omega arith) (omega (arith, (round-of L law stick).some))))
        ] in (
          k,
          below,
          record { removed = λ j h. not-false _ (l.before j (omega arith) h); ends = not-true _ (l.here (omega arith)) },
        )

    end_is : kept_from step L t (edge_count L.size) e ≡ ahead (walk_by step undo L) (suc some-gap.0) e
    end_is = let g = some-gap in gap-end step undo L t (edge_count L.size) g.0 e (omega (arith, g.1, (round-of L law stick).within)) g.2

    -- where the walk ends: at a stick of the contour that is not removed
    pub end_stays : removed_at L t (kept_from step L t (edge_count L.size) e) ≡ false
    end_stays = ap (removed_at L t) end_is ∙ some-gap.2.ends

    pub end_on : OnContour (walk_by step undo L) e (kept_from step L t (edge_count L.size) e)
    end_on = subst (OnContour (walk_by step undo L) e) (sym end_is) (on-ahead (walk_by step undo L) law e (suc some-gap.0) stick)

    pub end-stick : is_stick L (kept_from step L t (edge_count L.size) e) ≡ true
    end-stick = on_one (walk_by step undo L) law e (kept_from step L t (edge_count L.size) e) stick end_on
