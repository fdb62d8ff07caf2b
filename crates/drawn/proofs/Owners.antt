-- Which drawn edge passes a stick. The drawn edge that starts at p owns p and the removed sticks that follow p up to the next kept one; each
-- stick has one owner, and each kept vertex ends one drawn edge.
use mathlib.Core.Path.{◌≡◌, refl, ap, sym, subst, ◌∙◌}
use mathlib.Core.Bool.{Bool, true}
use mathlib.Core.List.{List}
use Prim.Native.Nat.{ℕ, zero, suc}
use Rattle.arith.proofs.Booleans.{both-sides, and_split}
use Rattle.arith.specs.Lists.{each}
use Rattle.grid.specs.Layer.{Layer}
use Rattle.grid.specs.Edges.{is_stick, edge_count}
use Rattle.grid.specs.Questions.{Sound}
use Rattle.grid.specs.declared.edge.Edge.{Edge}
use Rattle.step.specs.Walk.{next, prev}
use Rattle.step.proofs.Walks.{next-stick, prev_next}
use Rattle.contour.specs.Contours.{walk_of}
use Rattle.contour.specs.Walk.{ahead}
use Rattle.contour.proofs.Orbit.{ahead-next}
use Rattle.contour.proofs.Members.{on-self}
use Rattle.contour.proofs.Sticks.{laws}
use Rattle.chord.specs.Crossing.{crosses}
use Rattle.table.specs.Vertices.{kept_at, removed_at}
use Rattle.drawn.specs.Neighbours.{removed_from, kept_from, gap_after, next_kept}
use Rattle.drawn.proofs.Gaps.{not-both, kept-over, kept_here, gap-over}
use Rattle.drawn.specs.Drawn.{vertex, edge_crosses, Drawn}
use Rattle.drawn.proofs.Vertices.{Vertices, kept_of, next_drawn}

-- the drawn edge that starts at p passes u: it starts there, or u is removed and comes next after a stick that it passes
pub data Owns (L : Layer) (t : List ℕ) (p : Edge) : Edge → Type 0 where
  begins : {u : Edge} → p ≡ u → Owns L t p u
  goes_on : {e u : Edge} → Owns L t p e → next L e ≡ u → removed_at L t u ≡ true → Owns L t p u

module _ (L : Layer) (t : List ℕ) (sound : Sound L) where
  pub next-injective : (e f : Edge) → is_stick L e ≡ true → is_stick L f ≡ true → next L e ≡ next L f → e ≡ f
  next-injective e f he hf s = sym (prev_next L sound e he) ∙ ap (prev L) s ∙ prev_next L sound f hf

  pub owns-stick : {p u : Edge} → is_stick L p ≡ true → Owns L t p u → is_stick L u ≡ true
  owns-stick h (begins e) = rw (sym e) h
  owns-stick h (goes_on {e = e} o n r) = rw (sym n) (next-stick L sound e (owns-stick h o))

  pub owns-trans : {p u e : Edge} → Owns L t p u → Owns L t u e → Owns L t p e
  owns-trans {p} o (begins s) = subst (Owns L t p) s o
  owns-trans o (goes_on n s r) = goes_on (owns-trans o n) s r

  -- the only kept one that it owns is its start
  pub owns-kept : {p u : Edge} → Owns L t p u → kept_at L t u ≡ true → p ≡ u
  owns-kept (begins e) k = e
  owns-kept {u = u} (goes_on o n r) k = absurd (not-both L t u k r)

  -- each stick has one owner
  pub owner-unique : {p q u : Edge} → Drawn L t p → Drawn L t q → Owns L t p u → Owns L t q u → p ≡ q
  owner-unique {p} {q} {u} dp dq (begins e) o = e ∙ sym (owns-kept o (subst (λ (x : Edge). kept_at L t x ≡ true) e dp.kept))
  owner-unique {p} {q} {u} dp dq (goes_on {e = e} o n r) (begins f) =
      absurd (not-both L t u (subst (λ (x : Edge). kept_at L t x ≡ true) f dq.kept) r)
  owner-unique {p} {q} {u} dp dq (goes_on {e = e} o n r) (goes_on {e = e'} o' n' r') =
      let same : e ≡ e' = next-injective e e' (owns-stick dp.stick o) (owns-stick dq.stick o') (n ∙ sym n') in
      owner-unique dp dq o (subst (Owns L t q) (sym same) o')

  -- the last stick that it owns: the next one is where it ends
  last-from : (p : Edge) (n : ℕ) (e : Edge) → Owns L t p e
      → (u : Edge) × Owns L t p u × (next L u ≡ kept_from (next L) L t n e)
  unfolding kept_from
  last-from p zero e o = (e, o, refl)
  last-from p (suc n) e o = both-sides (removed_at L t (next L e))
      (λ r. rw (kept-over (next L) L t n e r) (last-from p n (next L e) (goes_on o refl r)))
      (λ r. (e, o, sym (kept_here (next L) L t (suc n) e r)))

  pub last-owned : (p : Edge) → (u : Edge) × Owns L t p u × (next L u ≡ next_kept L t p)
  last-owned p = last-from p (edge_count L.size) p (begins refl)

  -- so each kept vertex ends one drawn edge
  pub next_kept-injective : (p q : Edge) → Drawn L t p → Drawn L t q → next_kept L t p ≡ next_kept L t q → p ≡ q
  next_kept-injective p q dp dq s =
      let a = last-owned p in
      let b = last-owned q in
      let same : a.0 ≡ b.0 = next-injective a.0 b.0 (owns-stick dp.stick a.1) (owns-stick dq.stick b.1) (a.2 ∙ s ∙ sym b.2) in
      owner-unique dp dq a.1 (subst (Owns L t q) (sym same) b.1)

  module _ (vertices : Vertices L t) where
    -- a drawn edge ends at a kept vertex
    pub end-drawn : (p : Edge) → Drawn L t p → Drawn L t (next_kept L t p)
    end-drawn p d = next_drawn L t sound vertices p p d.stick (on-self (walk_of L) (laws L sound) p d.stick) d.kept

    -- each stick that comes k steps after a kept vertex has an owner
    pub owner : (k : ℕ) (x : Edge) → Drawn L t x → (p : Edge) × Drawn L t p × Owns L t p (ahead (walk_of L) k x)
    unfolding ahead
    owner zero x d = (x, d, begins refl)
    owner (suc k) x d =
        let before = owner k x d in
        let p : Edge = before.0 in
        let u = ahead (walk_of L) k x in
        let here : next L u ≡ ahead (walk_of L) k (next L x) = sym (ahead-next (walk_of L) k x) in
        subst (λ (y : Edge). (p : Edge) × Drawn L t p × Owns L t p y) here
        (both-sides (removed_at L t (next L u)) {P = (p : Edge) × Drawn L t p × Owns L t p (next L u)}
        (λ r. (p, before.1, goes_on before.2 refl r))
        (λ r. (next L u, kept_of L t sound vertices (next L u) (next-stick L sound u (owns-stick before.1.stick before.2)) r, begins refl)))

    -- a test that all removed sticks between the ends of the drawn edge pass is passed by each removed one that it owns
    module _ (p : Edge) (d : Drawn L t p) (g : Edge → Bool) (all : each g (gap_after L t p) ≡ true) where
      -- what is left of it at a stick: where it ends, and what passes the test
      record Left (e : Edge) : Type 0 where
        fuel : ℕ
        to : kept_from (next L) L t fuel e ≡ next_kept L t p
        all_left : each g (removed_from (next L) L t fuel e) ≡ true

      step : (n : ℕ) (e u : Edge) → next L e ≡ u → removed_at L t u ≡ true → kept_from (next L) L t n e ≡ next_kept L t p
          → each g (removed_from (next L) L t n e) ≡ true → Left u × (g u ≡ true)
      unfolding kept_from
      step zero e u n r to rest = absurd (not-both L t u (rw (sym n ∙ to) (end-drawn p d).kept) r)
      step (suc m) e u n r to rest =
          let r' : removed_at L t (next L e) ≡ true = rw n r in
          let both = and_split (g (next L e)) (each g (removed_from (next L) L t m (next L e))) (rw (gap-over (next L) L t m e r') at rest) in
          subst (λ (u : Edge). Left u × (g u ≡ true)) n
          (record { fuel = m; to = sym (kept-over (next L) L t m e r') ∙ to; all_left = both.1 }, both.0)

      left : {u : Edge} → Owns L t p u → Left u
      left (begins e) = subst Left e (record { fuel = edge_count L.size; to = refl; all_left = all })
      left {u} (goes_on {e = e} o n r) = let l = left o in (step l.fuel e u n r l.to l.all_left).0

      pub owned-passes : {u : Edge} → Owns L t p u → removed_at L t u ≡ true → g u ≡ true
      owned-passes {u} (begins e) r = absurd (not-both L t u (subst (λ (x : Edge). kept_at L t x ≡ true) e d.kept) r)
      owned-passes {u} (goes_on {e = e} o n r) _ = let l = left o in (step l.fuel e u n r l.to l.all_left).1

    -- so if it crosses all removed sticks between its ends, it crosses the removed ones that it owns
    pub owned-crossed : (p : Edge) → Drawn L t p → edge_crosses L t p ≡ true → {u : Edge} → Owns L t p u → removed_at L t u ≡ true
        → crosses (vertex L t p) (vertex L t (next_kept L t p)) u ≡ true
    unfolding edge_crosses
    owned-crossed p d over o r = owned-passes p d (crosses (vertex L t p) (vertex L t (next_kept L t p))) over o r
