-- One removed stick more: what that does to the drawn edges. The two at the vertex that is removed become one, and all others stay as they are.
use mathlib.Core.Path.{◌≡◌, sym, subst, ◌∙◌}
use mathlib.Core.Logic.{◌⊎◌, inl, inr, ◌≢◌}
use mathlib.Core.Bool.{true, false}
use mathlib.Core.List.{List}
use Prim.Native.Nat.{ℕ}
use Rattle.arith.proofs.Booleans.{both-sides}
use Rattle.grid.specs.Layer.{Layer}
use Rattle.grid.specs.Edges.{is_stick}
use Rattle.grid.specs.Questions.{Sound}
use Rattle.grid.specs.declared.edge.Edge.{Edge}
use Rattle.step.specs.Walk.{next}
use Rattle.contour.specs.Contours.{walk_of, same_edge}
use Rattle.contour.proofs.Orbit.{unlike}
use Rattle.contour.proofs.Sticks.{laws, same-edge}
use Rattle.chord.specs.Crossing.{crosses}
use Rattle.table.specs.Vertices.{removed_at}
use Rattle.drawn.specs.Neighbours.{next_kept}
use Rattle.drawn.proofs.Gaps.{not-both, kept-not-removed}
use Rattle.drawn.specs.Drawn.{vertex, edge_crosses, Drawn}
use Rattle.drawn.proofs.Vertices.{Vertices, kept_of}
use Rattle.drawn.proofs.Owners.{Owns, begins, goes_on, owns-stick, owns-kept, owns-trans, last-owned, end-drawn, owned-crossed}
use Rattle.drawn.proofs.Neighbours.{ends_at, crosses-all}

-- t' removes the kept vertex of u, and of the other sticks those that t removes
pub record OneMore (L : Layer) (t t' : List ℕ) (u : Edge) : Type 0 where
  pub was_drawn : Drawn L t u
  pub now_removed : removed_at L t' u ≡ true
  pub others : (e : Edge) → is_stick L e ≡ true → e ≢ u → removed_at L t' e ≡ removed_at L t e

module _ (L : Layer) (t t' : List ℕ) (sound : Sound L) (vertices : Vertices L t) (vertices' : Vertices L t')
    (u : Edge) (more : OneMore L t t' u) where
  was-other : (e : Edge) → removed_at L t e ≡ true → e ≢ u
  was-other e r s = not-both L t u more.was_drawn.kept (subst (λ (x : Edge). removed_at L t x ≡ true) s r)

  -- the other kept vertices are kept
  pub still-drawn : (p : Edge) → Drawn L t p → p ≢ u → Drawn L t' p
  still-drawn p d n =
      kept_of L t' sound vertices' p d.stick (more.others p d.stick n ∙ kept-not-removed L t p d.kept)

  -- a drawn edge owns what it owned,
  pub still-owns : {p e : Edge} → is_stick L p ≡ true → Owns L t p e → Owns L t' p e
  still-owns h (begins s) = begins s
  still-owns {e = e} h (goes_on o n r) =
      let stick = owns-stick L t sound h (goes_on o n r) in
      goes_on (still-owns h o) n (more.others e stick (was-other e r) ∙ r)

  -- and ends where it ended,
  pub next-as-before : (p : Edge) → Drawn L t p → p ≢ u → next_kept L t p ≢ u → next_kept L t' p ≡ next_kept L t p
  next-as-before p d n m =
      let l = last-owned L t sound p in
      let q = end-drawn L t sound vertices p d in
      let stays : removed_at L t' (next L l.0) ≡ false =
      rw l.2 (more.others (next_kept L t p) q.stick m ∙ kept-not-removed L t (next_kept L t p) q.kept) in
      ends_at L t' sound vertices' (still-drawn p d n) (still-owns d.stick l.1) stays ∙ l.2

  -- except the one that ended at u: it goes on to where the one from u ended
  pub next-over-removed : (p : Edge) → Drawn L t p → p ≢ u → next_kept L t p ≡ u → next_kept L t u ≢ u → next_kept L t' p ≡ next_kept L t u
  next-over-removed p d n e m =
      let du = more.was_drawn in
      let l = last-owned L t sound p in
      let k = last-owned L t sound u in
      let q = end-drawn L t sound vertices u du in
      let to-u : Owns L t' p u = goes_on (still-owns d.stick l.1) (l.2 ∙ e) more.now_removed in
      let stays : removed_at L t' (next L k.0) ≡ false =
      rw k.2 (more.others (next_kept L t u) q.stick m ∙ kept-not-removed L t (next_kept L t u) q.kept) in
      ends_at L t' sound vertices' (still-drawn p d n) (owns-trans L t' sound to-u (still-owns du.stick k.1)) stays ∙ k.2

  -- what a drawn edge owns now it owned before, or it ended at u and the one from u owned it
  pub owned-before : {p e : Edge} → Drawn L t p → Owns L t' p e → Owns L t p e ⊎ ((next_kept L t p ≡ u) × Owns L t u e)
  owned-before d (begins s) = inl (begins s)
  owned-before {p} {e} d (goes_on {e = x} o n r) = both-sides (same_edge e u)
      (λ s. at-u (same-edge e u s) (owned-before d o))
      (λ s. onward (unlike (walk_of L) (laws L sound) e u s) (owned-before d o))
    where
      at-u : e ≡ u → Owns L t p x ⊎ ((next_kept L t p ≡ u) × Owns L t u x) → Owns L t p e ⊎ ((next_kept L t p ≡ u) × Owns L t u e)
      at-u s (inl b) =
          let stop : removed_at L t (next L x) ≡ false = rw (n ∙ s) (kept-not-removed L t u more.was_drawn.kept) in
          inr (ends_at L t sound vertices d b stop ∙ n ∙ s, begins (sym s))
      at-u s (inr b) = inr (b.0, begins (sym s))

      onward : e ≢ u → Owns L t p x ⊎ ((next_kept L t p ≡ u) × Owns L t u x) → Owns L t p e ⊎ ((next_kept L t p ≡ u) × Owns L t u e)
      onward m (inl b) = inl (goes_on b n (sym (more.others e (owns-stick L t' sound d.stick (goes_on o n r)) m) ∙ r))
      onward m (inr b) = inr (b.0, goes_on b.1 n (sym (more.others e (owns-stick L t' sound d.stick (goes_on o n r)) m) ∙ r))

  -- so if no vertex has moved, each other drawn edge crosses what it crossed
  pub crosses-as-before : ((e : Edge) → vertex L t' e ≡ vertex L t e) → (p : Edge) → Drawn L t p → p ≢ u → next_kept L t p ≢ u
      → edge_crosses L t p ≡ true → edge_crosses L t' p ≡ true
  crosses-as-before unmoved p d n m over = crosses-all L t' sound vertices' p (λ e o r. here e (owned-before d o) r)
    where
      -- what it owns and is removed now was removed: it is not the start
      start : (e : Edge) → Owns L t p e → removed_at L t' e ≡ true → removed_at L t e ≡ false → ⊥
      start e b r g =
          let s : p ≡ e = owns-kept L t sound b (kept_of L t sound vertices e (owns-stick L t sound d.stick b) g).kept in
          not-both L t' p (still-drawn p d n).kept (rw s r)

      here : (e : Edge) → Owns L t p e ⊎ ((next_kept L t p ≡ u) × Owns L t u e) → removed_at L t' e ≡ true
          → crosses (vertex L t' p) (vertex L t' (next_kept L t' p)) e ≡ true
      here e (inr b) r = absurd (m b.0)
      here e (inl b) r =
          rw (unmoved p, next-as-before p d n m, unmoved (next_kept L t p))
          (both-sides (removed_at L t e) (λ g. owned-crossed L t sound vertices p d over b g) (λ g. absurd (start e b r g)))
