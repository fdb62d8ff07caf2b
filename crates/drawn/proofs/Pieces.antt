-- The points of a drawn edge. On each stick that it passes it has one point: the vertex of a kept one, the crossing point of a removed one.
-- Every point of it is one of these, or lies between two that follow each other, and so in a link that the drawn edge owns.
use mathlib.Core.Path.{◌≡◌, refl, sym, subst, ◌∙◌}
use mathlib.Core.Logic.{◌⊎◌, inl, inr}
use mathlib.Core.Bool.{Bool, true, false, cond}
use mathlib.Core.List.{List}
use Prim.Native.Nat.{ℕ, zero, suc, ◌+◌, ◌*◌, ◌<◌}
use native.Mathlib.Decide.{dec_le}
use native.Mathlib.Omega.{arith}
use Rattle.arith.proofs.Booleans.{both-sides}
use Rattle.grid.specs.Layer.{Layer}
use Rattle.grid.specs.Edges.{is_stick, edge_count}
use Rattle.grid.specs.Questions.{Sound}
use Rattle.grid.specs.declared.edge.Edge.{Edge}
use Rattle.step.specs.Walk.{next}
use Rattle.chord.specs.Points.{Position, Point, point}
use Rattle.chord.specs.Crossing.{off}
use Rattle.chord.proofs.Homogeneous.{Homogeneous, weighted, Proportional, proportional-sym, proportional-trans, coordinates}
use Rattle.chord.proofs.Weights.{Weights, on→weights}
use Rattle.chord.proofs.EdgePoints.{Within, within-proportional}
use Rattle.chord.proofs.Meetings.{crossing, total-some}
use Rattle.chord.proofs.Crossings.{crosses→parted, crosses→within}
use Rattle.chord.proofs.Order.{NotAfter, Place, first, second, inner, place}
use Rattle.chord.proofs.Regions.{vertex-within}
use Rattle.table.specs.Vertices.{kept_at, removed_at, offset_at}
use Rattle.drawn.specs.Neighbours.{kept_from, next_kept}
use Rattle.drawn.proofs.Gaps.{not-both, kept-over, kept_here}
use Rattle.drawn.specs.Drawn.{vertex, edge_crosses, Drawn, OnDrawn}
use Rattle.drawn.proofs.Vertices.{Vertices}
use Rattle.drawn.proofs.Owners.{Owns, begins, goes_on, owns-stick, end-drawn, owned-crossed}
use Rattle.drawn.proofs.CellLinks.{InLink, in-link}

-- a mean with all the weight at one end is that end
pub first-end : (p q : Position) → Proportional (weighted 1 0 p q) (coordinates (point p))
first-end p q = record { x_is = omega arith; y_is = omega arith }

pub second-end : (p q : Position) → Proportional (weighted 0 1 p q) (coordinates (point q))
second-end p q = record { x_is = omega arith; y_is = omega arith }

-- where the drawn edge from p meets a stick that it passes
abbrev pub point_on : Layer → List ℕ → Edge → Edge → Homogeneous
point_on L t p u =
    cond (kept_at L t u) (coordinates (point (vertex L t u))) (crossing (vertex L t p) (vertex L t (next_kept L t p)) u)

-- it passes the stick u, at its ends or between them
abbrev pub Touches : Layer → List ℕ → Edge → Edge → Type 0
Touches L t p u = Owns L t p u ⊎ (next_kept L t p ≡ u)

-- its point there, by its weights
pub record Mark (L : Layer) (t : List ℕ) (p u : Edge) : Type 0 where
  pub touched : Touches L t p u
  pub α : ℕ
  pub β : ℕ
  pub some : 0 < α + β
  pub inside : Within u (weighted α β (vertex L t p) (vertex L t (next_kept L t p)))
  pub is : Proportional (weighted α β (vertex L t p) (vertex L t (next_kept L t p))) (point_on L t p u)

-- where a point of the drawn edge from p lies: on a stick that it passes, or in a link that it owns
pub data Lies (L : Layer) (t : List ℕ) (p : Edge) (h : Homogeneous) : Type 0 where
  on_stick : (u : Edge) → Touches L t p u → Within u h → Proportional h (point_on L t p u) → Lies L t p h
  on_link : (e : Edge) → Owns L t p e → InLink L e h → Lies L t p h

module _ (L : Layer) (t : List ℕ) (sound : Sound L) (vertices : Vertices L t) where
  pub vertex-inside : (e : Edge) → is_stick L e ≡ true → Within e (coordinates (point (vertex L t e)))
  vertex-inside e stick = let v = vertices e stick in vertex-within e (offset_at L t e) v.after_start v.before_end

  module _ (p : Edge) (d : Drawn L t p) (over : edge_crosses L t p ≡ true) where
    abbrev q : Edge
    q = next_kept L t p

    abbrev P : Position
    P = vertex L t p

    abbrev Q : Position
    Q = vertex L t q

    ends : Drawn L t q
    ends = end-drawn L t sound vertices p d

    pub mark-start : Mark L t p p
    mark-start =
        record {
          touched = inl (begins refl);
          α = 1;
          β = 0;
          some = omega arith;
          inside = within-proportional p (omega arith) (proportional-sym (first-end P Q)) (vertex-inside p d.stick);
          is = rw d.kept (first-end P Q);
        }

    pub mark-end : (u : Edge) → q ≡ u → Mark L t p u
    mark-end u e =
        record {
          touched = inr e;
          α = 0;
          β = 1;
          some = omega arith;
          inside =
              subst (λ (x : Edge). Within x (weighted 0 1 P Q)) e
              (within-proportional q (omega arith) (proportional-sym (second-end P Q)) (vertex-inside q ends.stick));
          is = subst (λ (x : Edge). Proportional (weighted 0 1 P Q) (point_on L t p x)) e (rw ends.kept (second-end P Q));
        }

    pub mark-over : (u : Edge) → Owns L t p u → removed_at L t u ≡ true → Mark L t p u
    mark-over u o r =
        let c = owned-crossed L t sound vertices p d over o r in
        record {
          touched = inl o;
          α = off u Q;
          β = off u P;
          some = total-some P Q u (crosses→parted P Q u c);
          inside = crosses→within P Q u c;
          is = both-sides (kept_at L t u) (λ k. absurd (not-both L t u k r)) (λ k. rw k (record { x_is = refl; y_is = refl }));
        }

    -- each point of the drawn edge lies between two marks that follow each other
    pub record Piece (h : Homogeneous) : Type 0 where
      pub at : Edge
      pub owned : Owns L t p at
      pub here : Mark L t p at
      pub there : Mark L t p (next L at)
      pub between : Place (weighted here.α here.β P Q) (weighted there.α there.β P Q) h

    -- the last piece, up to where the drawn edge ends
    piece-last : {z : Point} (w : Weights z P Q) (e : Edge) → Owns L t p e → (m : Mark L t p e) → next L e ≡ q
        → NotAfter m.α m.β w.α w.β → Piece (coordinates z)
    unfolding mark-end
    piece-last w e o m to after =
        record { at = e; owned = o; here = m; there = mark-end (next L e) (sym to); between = place m.α m.β 0 1 w after (omega arith) }

    piece-from : {z : Point} (w : Weights z P Q) (n : ℕ) (e : Edge) → Owns L t p e → (m : Mark L t p e) → kept_from (next L) L t n e ≡ q
        → NotAfter m.α m.β w.α w.β → Piece (coordinates z)
    unfolding kept_from
    piece-from w zero e o m to after = piece-last w e o m to after
    piece-from {z} w (suc n) e o m to after =
        go (λ o' m' to' after'. piece-from w n (next L e) o' m' to' after') (removed_at L t (next L e)) refl
      where
        go : ((o' : Owns L t p (next L e)) (m' : Mark L t p (next L e)) → kept_from (next L) L t n (next L e) ≡ q
            → NotAfter m'.α m'.β w.α w.β → Piece (coordinates z))
            → (b : Bool) → removed_at L t (next L e) ≡ b → Piece (coordinates z)
        go onward true r =
            let o' = goes_on o refl r in
            let m' = mark-over (next L e) o' r in
            elim (dec_le (w.β * m'.α) (m'.β * w.α)) [
              | yes l ↦ record { at = e; owned = o; here = m; there = m'; between = place m.α m.β m'.α m'.β w after l }
              | no l ↦ onward o' m' (sym (kept-over (next L) L t n e r) ∙ to) (omega arith)
            ]
        go onward false r = piece-last w e o m (sym (kept_here (next L) L t (suc n) e r) ∙ to) after

    pub piece : {z : Point} → OnDrawn L t p z → Piece (coordinates z)
    unfolding mark-start
    piece o = let w = on→weights o in piece-from w (edge_count L.size) p (begins refl) mark-start refl (omega arith)

    at_mark : {h : Homogeneous} (u : Edge) (m : Mark L t p u) → 0 < h.d → Proportional h (weighted m.α m.β P Q) → Lies L t p h
    at_mark u m n s =
        on_stick u m.touched (within-proportional u n (proportional-sym s) m.inside) (proportional-trans m.some s m.is)

    pub lies : {z : Point} → OnDrawn L t p z → Lies L t p (coordinates z)
    lies {z} o =
        let c = piece o in
        let e : Edge = c.at in
        elim c.between [
          | first s ↦ at_mark e c.here z.above s
          | second s ↦ at_mark (next L e) c.there z.above s
          | inner i ↦ on_link e c.owned (in-link L sound e (owns-stick L t sound d.stick c.owned) c.here.inside c.there.inside i)
        ]
