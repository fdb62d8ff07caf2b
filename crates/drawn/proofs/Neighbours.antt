-- The kept vertices before and after a stick: on kept ones `next_kept` and `previous_kept` undo each other; of a removed one they are the ends
-- of the drawn edge that owns it. So 'each drawn edge crosses every removed stick between its ends' is said of each removed stick.
use mathlib.Core.Path.{◌≡◌, refl, ap, sym, subst, ◌∙◌}
use mathlib.Core.Bool.{true, false}
use mathlib.Core.List.{List}
use Prim.Native.Nat.{ℕ, zero, suc, ◌≤◌, ◌<◌}
use native.Mathlib.Omega.{arith}
use lib.ListN.{length}
use Rattle.arith.proofs.Booleans.{both-sides}
use Rattle.arith.specs.Lists.{each}
use Rattle.grid.specs.Layer.{Layer}
use Rattle.grid.specs.Edges.{is_stick, edge_count}
use Rattle.grid.specs.Questions.{Sound}
use Rattle.grid.specs.declared.edge.Edge.{Edge}
use Rattle.step.specs.Walk.{next, prev}
use Rattle.step.proofs.Walks.{prev-stick, prev_next, next_prev}
use Rattle.contour.specs.Walk.{OnContour, ahead, Round}
use Rattle.contour.specs.Contours.{walk_of, contour_of}
use Rattle.contour.proofs.Orbit.{round, ahead-next, ahead-one}
use Rattle.contour.proofs.Members.{place, on-self, on-next, on-swap}
use Rattle.contour.proofs.Sticks.{laws}
use Rattle.chord.specs.Crossing.{crosses}
use Rattle.table.specs.Vertices.{kept_at, removed_at}
use Rattle.drawn.specs.Neighbours.{removed_from, next_kept, previous_kept}
use Rattle.drawn.proofs.Gaps.{kept-not-removed, not-both, stepped, kept-over, kept_here, kept-fuel, gap-over, gap_here, stops}
use Rattle.drawn.specs.Drawn.{vertex, edge_crosses, Drawn}
use Rattle.drawn.proofs.Vertices.{Vertices, next-over, next_here}
use Rattle.drawn.proofs.Owners.{Owns, begins, goes_on, owns-stick, last-owned, owner, owned-crossed}

module _ (L : Layer) (t : List ℕ) (sound : Sound L) (vertices : Vertices L t) where
  -- k steps back undo k steps ahead
  back-ahead : (k : ℕ) (y : Edge) → is_stick L y ≡ true → stepped (prev L) k (ahead (walk_of L) k y) ≡ y
  unfolding stepped ahead
  back-ahead zero y stick = refl
  back-ahead (suc k) y stick =
      ap (stepped (prev L) k)
      (ap (prev L) (ahead-next (walk_of L) k y) ∙ prev_next L sound (ahead (walk_of L) k y) (ahead-one (walk_of L) (laws L sound) k y stick))
      ∙ back-ahead k y stick

  -- going back from a stick on the contour of a kept vertex y stops at one that is not removed
  module _ (y x : Edge) (dy : Drawn L t y) (on : OnContour (walk_of L) y x) where
    kept-before : (k : ℕ) × (k ≤ edge_count L.size) × (removed_at L t (stepped (prev L) (suc k) x) ≡ false)
    unfolding ahead
    kept-before =
        let law = laws L sound in
        let p = place (walk_of L) law y x dy.stick on in
        go p.0 (length (contour_of L y)) p.1 p.2 (round (walk_of L) law y dy.stick)
      where
        y-not : (k : ℕ) → ahead (walk_of L) k y ≡ x → removed_at L t (stepped (prev L) k x) ≡ false
        y-not k m = rw (ap (stepped (prev L) k) (sym m) ∙ back-ahead k y dy.stick) (kept-not-removed L t y dy.kept)

        go : (k n : ℕ) → k < n → ahead (walk_of L) k y ≡ x → Round (walk_of L) y n
            → (k : ℕ) × (k ≤ edge_count L.size) × (removed_at L t (stepped (prev L) (suc k) x) ≡ false)
        go k zero l m r = absurd (omega arith)
        go zero (suc n) l m r = (n, omega (arith, r.within), y-not (suc n) (r.back ∙ m))
        go (suc k) (suc n) l m r = (k, omega (arith, r.within), y-not (suc k) m)

    previous-over : removed_at L t (prev L x) ≡ true → previous_kept L t x ≡ previous_kept L t (prev L x)
    previous-over r =
        let k = kept-before in
        sym (kept-fuel (prev L) L t (edge_count L.size) x (stops (prev L) L t (edge_count L.size) k.0 x k.1 k.2))
        ∙ kept-over (prev L) L t (edge_count L.size) x r

  -- what a drawn edge owns is on the contour of its start
  owns-on : {p u : Edge} → is_stick L p ≡ true → Owns L t p u → OnContour (walk_of L) p u
  owns-on {p} h (begins e) = subst (OnContour (walk_of L) p) e (on-self (walk_of L) (laws L sound) p h)
  owns-on {p} h (goes_on {e = e} o n r) = subst (OnContour (walk_of L) p) n (on-next (walk_of L) (laws L sound) p e h (owns-on h o))

  -- the kept vertex before the stick after one that it owns is its start
  previous-of : {p e : Edge} → Drawn L t p → Owns L t p e → previous_kept L t (next L e) ≡ p
  previous-of {p} {e} d (begins s) =
      let back : prev L (next L e) ≡ p = prev_next L sound e (subst (λ (x : Edge). is_stick L x ≡ true) s d.stick) ∙ sym s in
      kept_here (prev L) L t (edge_count L.size) (next L e) (rw back (kept-not-removed L t p d.kept)) ∙ back
  previous-of {p} {e} d (goes_on {e = e'} o n r) =
      let here = goes_on o n r in
      let stick = owns-stick L t sound d.stick here in
      let back : prev L (next L e) ≡ e = prev_next L sound e stick in
      previous-over p (next L e) d (on-next (walk_of L) (laws L sound) p e d.stick (owns-on d.stick here)) (rw back r)
      ∙ ap (previous_kept L t) (back ∙ sym n)
      ∙ previous-of d o

  -- the ends of the drawn edge that owns a removed stick are the kept vertices before and after it
  pub owner-previous : {p u : Edge} → Drawn L t p → Owns L t p u → removed_at L t u ≡ true → previous_kept L t u ≡ p
  owner-previous {p} {u} d (begins s) r = absurd (not-both L t u (subst (λ (x : Edge). kept_at L t x ≡ true) s d.kept) r)
  owner-previous d (goes_on o n _) r = ap (previous_kept L t) (sym n) ∙ previous-of d o

  pub owner-next : {p u : Edge} → Drawn L t p → Owns L t p u → next_kept L t u ≡ next_kept L t p
  owner-next d (begins s) = ap (next_kept L t) (sym s)
  owner-next {p} {u} d (goes_on {e = e} o n r) =
      let on = on-swap (walk_of L) (laws L sound) p e d.stick (owns-on d.stick o) in
      ap (next_kept L t) (sym n)
      ∙ sym (next-over L t sound vertices e p (owns-stick L t sound d.stick o) on d.kept (rw n r))
      ∙ owner-next d o

  -- if the stick after one that it owns is not removed, it ends there
  pub ends_at : {p e : Edge} → Drawn L t p → Owns L t p e → removed_at L t (next L e) ≡ false → next_kept L t p ≡ next L e
  ends_at {p} {e} d o r =
      let stick = owns-stick L t sound d.stick o in
      let on = on-swap (walk_of L) (laws L sound) p e d.stick (owns-on d.stick o) in
      sym (owner-next d o) ∙ next_here L t sound vertices e p stick on d.kept r

  -- on kept vertices the two undo each other
  pub previous-next : (p : Edge) → Drawn L t p → previous_kept L t (next_kept L t p) ≡ p
  previous-next p d = let l = last-owned L t sound p in ap (previous_kept L t) (sym l.2) ∙ previous-of d l.1

  -- the drawn edge that ends at a kept vertex
  pub record Arrives (q : Edge) : Type 0 where
    pub from : Edge
    pub drawn : Drawn L t from
    pub ends : next_kept L t from ≡ q

  pub arrives : (q : Edge) → Drawn L t q → Arrives q
  arrives q d =
      let law = laws L sound in
      let e = prev L q in
      let se = prev-stick L sound q d.stick in
      let forth : OnContour (walk_of L) e q = subst (OnContour (walk_of L) e) (next_prev L sound q d.stick) (on-next (walk_of L) law e e se (on-self (walk_of L) law e se)) in
      let k = place (walk_of L) law q e d.stick (on-swap (walk_of L) law e q se forth) in
      let own = owner L t sound vertices k.0 q d in
      let p : Edge = own.0 in
      let o : Owns L t p e = subst (Owns L t p) k.2 own.2 in
      let here = next_prev L sound q d.stick in
      record {
        from = p;
        drawn = own.1;
        ends = ends_at own.1 o (rw here (kept-not-removed L t q d.kept)) ∙ here;
      }

  pub previous-drawn : (q : Edge) → Drawn L t q → Drawn L t (previous_kept L t q)
  previous-drawn q d =
      let a = arrives q d in
      subst (Drawn L t) (sym (ap (previous_kept L t) (sym a.ends) ∙ previous-next a.from a.drawn)) a.drawn

  pub next-previous : (q : Edge) → Drawn L t q → next_kept L t (previous_kept L t q) ≡ q
  next-previous q d =
      let a = arrives q d in
      ap (next_kept L t) (ap (previous_kept L t) (sym a.ends) ∙ previous-next a.from a.drawn) ∙ a.ends

  -- a drawn edge crosses every removed stick between its ends exactly if it crosses each removed stick that it owns (Owners.owned-crossed)
  pub crosses-all : (p : Edge) → ((u : Edge) → Owns L t p u → removed_at L t u ≡ true → crosses (vertex L t p) (vertex L t (next_kept L t p)) u ≡ true)
      → edge_crosses L t p ≡ true
  unfolding edge_crosses removed_from
  crosses-all p h = from (edge_count L.size) p (begins refl)
    where
      from : (n : ℕ) (e : Edge) → Owns L t p e
          → each (crosses (vertex L t p) (vertex L t (next_kept L t p))) (removed_from (next L) L t n e) ≡ true
      from zero e o = refl
      from (suc n) e o = both-sides (removed_at L t (next L e))
          (λ r. let o' = goes_on o refl r in rw (gap-over (next L) L t n e r, h (next L e) o' r) (from n (next L e) o'))
          (λ r. rw (gap_here (next L) L t (suc n) e r))

  -- and the same said of the removed stick
  pub crossed-between : {p u : Edge} → Drawn L t p → edge_crosses L t p ≡ true → Owns L t p u → removed_at L t u ≡ true
      → crosses (vertex L t (previous_kept L t u)) (vertex L t (next_kept L t u)) u ≡ true
  crossed-between {p} {u} d over o r =
      rw (owner-previous d o r, owner-next d o) (owned-crossed L t sound vertices p d over o r)
