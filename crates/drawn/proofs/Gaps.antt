-- A walk from a stick over removed ones: where it stops, and that more fuel changes nothing if it stops at a stick that is not removed.
use mathlib.Core.Path.{◌≡◌, refl, sym, ◌∙◌, ap}
use mathlib.Core.Bool.{true, false, true≢false}
use mathlib.Core.List.{List, [], ◌∷◌}
use Prim.Native.Nat.{ℕ, zero, suc, ◌≤◌}
use native.Mathlib.Omega.{arith}
use Rattle.arith.proofs.Booleans.{both-sides}
use Rattle.grid.specs.Layer.{Layer}
use Rattle.grid.specs.declared.edge.Edge.{Edge}
use Rattle.table.specs.Vertices.{kept_at, removed_at, entry_at}
use Rattle.table.proofs.Entries.{exclusive}
use Rattle.drawn.specs.Neighbours.{removed_from, kept_from}

pub kept-not-removed : (L : Layer) (t : List ℕ) (e : Edge) → kept_at L t e ≡ true → removed_at L t e ≡ false
unfolding kept_at removed_at
kept-not-removed L t e h = exclusive (entry_at L t e) h

pub not-both : (L : Layer) (t : List ℕ) (e : Edge) → kept_at L t e ≡ true → removed_at L t e ≡ true → ⊥
not-both L t e k r = true≢false (sym r ∙ kept-not-removed L t e k)

-- k steps on
unfoldable pub stepped : (Edge → Edge) → ℕ → Edge → Edge
stepped step zero e = e
stepped step (suc k) e = stepped step k (step e)

module _ (step : Edge → Edge) (L : Layer) (t : List ℕ) where
  -- one step: over a removed stick, or to the one where it stops
  pub kept-over : (n : ℕ) (e : Edge) → removed_at L t (step e) ≡ true → kept_from step L t (suc n) e ≡ kept_from step L t n (step e)
  unfolding kept_from
  kept-over n e h = rw (h, kept_from)

  pub kept_here : (n : ℕ) (e : Edge) → removed_at L t (step e) ≡ false → kept_from step L t n e ≡ step e
  unfolding kept_from
  kept_here zero e h = refl
  kept_here (suc n) e h = rw (h, kept_from)

  pub gap-over : (n : ℕ) (e : Edge) → removed_at L t (step e) ≡ true → removed_from step L t (suc n) e ≡ step e ∷ removed_from step L t n (step e)
  unfolding removed_from
  gap-over n e h = rw (h, removed_from)

  pub gap_here : (n : ℕ) (e : Edge) → removed_at L t (step e) ≡ false → removed_from step L t n e ≡ []
  unfolding removed_from
  gap_here zero e h = refl
  gap_here (suc n) e h = rw (h, removed_from)

  -- more fuel changes neither, once it stops at a stick that is not removed
  pub kept-fuel : (n : ℕ) (e : Edge) → removed_at L t (kept_from step L t n e) ≡ false → kept_from step L t (suc n) e ≡ kept_from step L t n e
  unfolding kept_from
  kept-fuel zero e h = kept_here 1 e h
  kept-fuel (suc n) e h = both-sides (removed_at L t (step e))
      (λ r. kept-over (suc n) e r ∙ kept-fuel n (step e) (rw (kept-over n e r) at h) ∙ sym (kept-over n e r))
      (λ r. kept_here (suc (suc n)) e r ∙ sym (kept_here (suc n) e r))

  pub gap-fuel : (n : ℕ) (e : Edge) → removed_at L t (kept_from step L t n e) ≡ false → removed_from step L t (suc n) e ≡ removed_from step L t n e
  unfolding removed_from kept_from
  gap-fuel zero e h = gap_here 1 e h
  gap-fuel (suc n) e h = both-sides (removed_at L t (step e))
      (λ r. gap-over (suc n) e r ∙ ap (λ (l : List Edge). step e ∷ l) (gap-fuel n (step e) (rw (kept-over n e r) at h)) ∙ sym (gap-over n e r))
      (λ r. gap_here (suc (suc n)) e r ∙ sym (gap_here (suc n) e r))

  -- a stick within reach that is not removed makes it stop at one that is not
  pub stops : (n k : ℕ) (e : Edge) → k ≤ n → removed_at L t (stepped step (suc k) e) ≡ false → removed_at L t (kept_from step L t n e) ≡ false
  unfolding stepped kept_from
  stops zero zero e l h = h
  stops zero (suc k) e l h = absurd (omega arith)
  stops (suc n) zero e l h = rw (kept_here (suc n) e h) h
  stops (suc n) (suc k) e l h = both-sides (removed_at L t (step e))
      (λ r. rw (kept-over n e r) (stops n k (step e) (omega arith) h))
      (λ r. rw (kept_here (suc n) e r) r)

-- two tables that remove the same sticks have the same gaps, whatever the offsets
module _ (step : Edge → Edge) (L : Layer) (t t' : List ℕ) (same : (e : Edge) → removed_at L t' e ≡ removed_at L t e) where
  pub kept_same : (n : ℕ) (e : Edge) → kept_from step L t' n e ≡ kept_from step L t n e
  unfolding kept_from
  kept_same zero e = refl
  kept_same (suc n) e = both-sides (removed_at L t (step e))
      (λ r. kept-over step L t' n e (same (step e) ∙ r) ∙ kept_same n (step e) ∙ sym (kept-over step L t n e r))
      (λ r. kept_here step L t' (suc n) e (same (step e) ∙ r) ∙ sym (kept_here step L t (suc n) e r))

  pub gap_same : (n : ℕ) (e : Edge) → removed_from step L t' n e ≡ removed_from step L t n e
  unfolding removed_from
  gap_same zero e = refl
  gap_same (suc n) e = both-sides (removed_at L t (step e))
      (λ r. gap-over step L t' n e (same (step e) ∙ r) ∙ ap (λ (l : List Edge). step e ∷ l) (gap_same n (step e)) ∙ sym (gap-over step L t n e r))
      (λ r. gap_here step L t' (suc n) e (same (step e) ∙ r) ∙ sym (gap_here step L t (suc n) e r))
