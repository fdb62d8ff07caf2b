-- Question 7 says what the paper says, over points: "A layer is held if each contour has three kept vertices or more and each drawn edge
-- crosses every removed stick between its ends." (Its test of crossing agrees with the sentence over points, since kept and removed sticks differ.)
use mathlib.Core.Path.{◌≡◌, refl, ap, sym, subst}
use mathlib.Core.Logic.{◌↔◌, ◌≢◌}
use mathlib.Core.Bool.{Bool, true, false}
use mathlib.Core.List.{List}
use Prim.Native.Nat.{ℕ, zero, suc, ◌<◌}
use native.Mathlib.Omega.{arith}
use borrow.Author.Tests.{leb-true, le-leb}
use lib.Dec.{leb}
use Rattle.arith.specs.Booleans.{as_number}
use Rattle.arith.proofs.Booleans.{both-sides}
use Rattle.grid.specs.Layer.{Layer}
use Rattle.grid.specs.Edges.{edge_count}
use Rattle.grid.specs.Questions.{Sound}
use Rattle.grid.specs.declared.edge.Edge.{Edge}
use Rattle.grid.specs.Questions.{Yes}
use Rattle.step.specs.Walk.{next}
use Rattle.contour.specs.Walk.{occurrences}
use Rattle.contour.specs.Contours.{walk_of, contour_of, same_edge}
use Rattle.contour.proofs.Sticks.{same-edge}
use Rattle.chord.specs.Points.{Crosses}
use Rattle.chord.specs.Crossing.{crosses}
use Rattle.chord.proofs.Regions.{crosses-is}
use Rattle.table.specs.Vertices.{kept_at, removed_at, offset_at}
use Rattle.drawn.specs.Neighbours.{removed_from, gap_after, next_kept}
use Rattle.drawn.proofs.Gaps.{not-both, gap-over, gap_here}
use Rattle.drawn.specs.Drawn.{vertex, Drawn, BetweenEnds}
use Rattle.drawn.proofs.Vertices.{Vertices}
use Rattle.drawn.proofs.Owners.{Owns, begins, goes_on, end-drawn, owned-passes, owned-crossed}
use Rattle.drawn.proofs.Neighbours.{crosses-all}
use Rattle.held.specs.Held.{held_answer, HeldLayer}
use Rattle.held.proofs.HeldFacts.{held_of, among-some}
use Rattle.held.proofs.Holding.{each_all, layer-held}

-- u is removed and the drawn edge from p owns it, which says that u is between the ends of that edge
pub record OwnedRemoved (L : Layer) (t : List ℕ) (p u : Edge) : Type 0 where
  pub owned : Owns L t p u
  pub removed : removed_at L t u ≡ true

module _ (L : Layer) (t : List ℕ) (sound : Sound L) (vertices : Vertices L t) where
  from-gap : (p : Edge) (n : ℕ) (e u : Edge) → Owns L t p e → 0 < occurrences (walk_of L) u (removed_from (next L) L t n e) → OwnedRemoved L t p u
  unfolding removed_from occurrences
  from-gap p zero e u o h = absurd (omega arith)
  from-gap p (suc n) e u o h = go (λ o' h'. from-gap p n (next L e) u o' h') (removed_at L t (next L e)) refl
    where
      go : (Owns L t p (next L e) → 0 < occurrences (walk_of L) u (removed_from (next L) L t n (next L e)) → OwnedRemoved L t p u)
          → (b : Bool) → removed_at L t (next L e) ≡ b → OwnedRemoved L t p u
      go later true r =
          let o' = goes_on o refl r in
          let h' = rw (gap-over (next L) L t n e r) at h in
          both-sides (same_edge u (next L e))
          (λ s. subst (OwnedRemoved L t p) (sym (same-edge u (next L e) s)) (record { owned = o'; removed = r }))
          (λ s. later o' (omega (arith, h', ap as_number s)))
      go later false r = let h' = rw (gap_here (next L) L t (suc n) e r) at h in absurd (omega arith)

  pub between-owned : (p u : Edge) → BetweenEnds L t p u → OwnedRemoved L t p u
  between-owned p u h = from-gap p (edge_count L.size) p u (begins refl) h

  pub owned-between : (p u : Edge) → Drawn L t p → OwnedRemoved L t p u → BetweenEnds L t p u
  owned-between p u d w =
      leb-true 1 (occurrences (walk_of L) u (gap_after L t p))
      (owned-passes L t sound vertices p d (λ y. leb 1 (occurrences (walk_of L) y (gap_after L t p)))
      (each_all L (λ y. leb 1 (occurrences (walk_of L) y (gap_after L t p))) (gap_after L t p) (λ y o. le-leb 1 _ o)) w.owned w.removed)

  -- for a removed stick between the ends the test of crossing is its meaning
  pub crossing_is : (p u : Edge) → Drawn L t p → removed_at L t u ≡ true
      → (crosses (vertex L t p) (vertex L t (next_kept L t p)) u ≡ true) ↔ Crosses (vertex L t p) (vertex L t (next_kept L t p)) u
  crossing_is p u d r =
      let q = next_kept L t p in
      let dq = end-drawn L t sound vertices p d in
      let vp = vertices p d.stick in
      let vq = vertices q dq.stick in
      crosses-is u p q (offset_at L t p) (offset_at L t q) (other p d.kept) (other q dq.kept)
      vp.after_start vp.before_end vq.after_start vq.before_end
    where
      other : (e : Edge) → kept_at L t e ≡ true → e ≢ u
      other e k s = not-both L t u (subst (λ (x : Edge). kept_at L t x ≡ true) s k) r

  pub held-is : (held_answer L t ≡ Yes) ↔ HeldLayer L t
  held-is = (to, from)
    where
      to : held_answer L t ≡ Yes → HeldLayer L t
      to yes-7 =
          let held = held_of L t sound yes-7 in
          record {
            three = held.three;
            crossed = λ p u d b.
                let w = between-owned p u b in
                (crossing_is p u d w.removed).0 (owned-crossed L t sound vertices p d (held.crossed p d) w.owned w.removed);
          }

      from : HeldLayer L t → held_answer L t ≡ Yes
      from h =
          layer-held L t sound vertices
          (λ p d. crosses-all L t sound vertices p (λ u o r.
          (crossing_is p u d r).1 (h.crossed p u d (owned-between p u d (record { owned = o; removed = r })))))
          (λ f one. among-some L (kept_at L t) (contour_of L f) (omega (arith, h.three f one)))
