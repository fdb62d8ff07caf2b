-- Two drawn edges share no point, except that neighbours share their common vertex. On the segment between two adjacent samples drawn edges
-- have one point if the samples differ, and none if they agree.
use mathlib.Core.Path.{◌≡◌, refl, sym, subst, ◌∙◌}
use mathlib.Core.Logic.{◌⊎◌, inl, inr, ◌≢◌}
use mathlib.Core.Bool.{true, false, true≢false}
use mathlib.Core.List.{List}
use Prim.Native.Nat.{ℕ}
use native.Mathlib.Omega.{arith}
use Rattle.arith.proofs.Booleans.{both-sides}
use Rattle.grid.specs.Layer.{Layer}
use Rattle.grid.specs.Edges.{is_stick}
use Rattle.grid.specs.Questions.{Sound}
use Rattle.grid.specs.declared.edge.Edge.{Edge}
use Rattle.contour.specs.Contours.{walk_of}
use Rattle.contour.proofs.Members.{place, on-swap, on_one}
use Rattle.contour.proofs.Sticks.{laws}
use Rattle.chord.specs.Points.{start, end, Point, point, Same, On}
use Rattle.chord.proofs.Homogeneous.{Homogeneous, Proportional, proportional-sym, proportional-trans, coordinates, Plain, proportional→same}
use Rattle.chord.proofs.Weights.{on→weights, weights→on}
use Rattle.chord.proofs.EdgePoints.{within→closed, on→closed, closed→on}
use Rattle.chord.proofs.Meetings.{crossing, total-some}
use Rattle.chord.proofs.Crossings.{crosses→parted, crosses→Crosses}
use Rattle.chord.proofs.Regions.{edge-cell-apart, edges-apart}
use Rattle.table.specs.Vertices.{kept_at, removed_at}
use Rattle.drawn.specs.Neighbours.{next_kept}
use Rattle.drawn.proofs.Gaps.{not-both}
use Rattle.drawn.specs.Drawn.{vertex, Drawn, OnDrawn}
use Rattle.drawn.proofs.Vertices.{Vertices, kept_of}
use Rattle.drawn.proofs.Owners.{Owns, owns-stick, owns-kept, owner-unique, next_kept-injective, end-drawn, owner, owned-crossed}
use Rattle.drawn.proofs.CellLinks.{links-apart}
use Rattle.drawn.proofs.Pieces.{first-end, point_on, Touches, Lies, on_stick, on_link, vertex-inside, lies}
use Rattle.held.proofs.HeldFacts.{HeldFacts}
use Rattle.faithful.specs.Faithful.{AtJoint, Passes}

plain_of : {z : Point} (L : Layer) (t : List ℕ) (p : Edge) → OnDrawn L t p z → Plain z
plain_of L t p o = (on→weights o).is_plain

module _ (L : Layer) (t : List ℕ) (sound : Sound L) (vertices : Vertices L t) where
  -- a stick that a drawn edge passes: a kept one is its start or its end, a removed one is its own
  touches-stick : {p u : Edge} → Drawn L t p → Touches L t p u → is_stick L u ≡ true
  touches-stick d (inl o) = owns-stick L t sound d.stick o
  touches-stick {p} d (inr e) = subst (λ (x : Edge). is_stick L x ≡ true) e (end-drawn L t sound vertices p d).stick

  touches-kept : {p u : Edge} → Touches L t p u → kept_at L t u ≡ true → (p ≡ u) ⊎ (next_kept L t p ≡ u)
  touches-kept (inl o) k = inl (owns-kept L t sound o k)
  touches-kept (inr e) k = inr e

  touches-removed : {p u : Edge} → Drawn L t p → Touches L t p u → removed_at L t u ≡ true → Owns L t p u
  touches-removed d (inl o) r = o
  touches-removed {p} {u} d (inr e) r =
      absurd (not-both L t u (subst (λ (x : Edge). kept_at L t x ≡ true) e (end-drawn L t sound vertices p d).kept) r)

  -- two drawn edges that pass one stick: the same edge, or neighbours
  module _ (p q : Edge) (dp : Drawn L t p) (dq : Drawn L t q) (differ : p ≢ q) where
    joint : {z : Point} (u : Edge) → Plain z → kept_at L t u ≡ true → Proportional (coordinates z) (point_on L t p u)
        → (p ≡ u) ⊎ (next_kept L t p ≡ u) → (q ≡ u) ⊎ (next_kept L t q ≡ u) → AtJoint L t p q z ⊎ AtJoint L t q p z
    joint {z} u f k s a b = by a b
      where
        same : Same z (point (vertex L t u))
        same = proportional→same f (record { x_plain = refl; y_plain = refl }) (rw k at s)

        by : (p ≡ u) ⊎ (next_kept L t p ≡ u) → (q ≡ u) ⊎ (next_kept L t q ≡ u) → AtJoint L t p q z ⊎ AtJoint L t q p z
        by (inl a) (inl b) = absurd (differ (a ∙ sym b))
        by (inl a) (inr b) = inr (record { joined = b ∙ sym a; common = subst (λ (x : Edge). Same z (point (vertex L t x))) (sym a) same })
        by (inr a) (inl b) = inl (record { joined = a ∙ sym b; common = subst (λ (x : Edge). Same z (point (vertex L t x))) (sym b) same })
        by (inr a) (inr b) = absurd (differ (next_kept-injective L t sound p q dp dq (a ∙ sym b)))

    pub at-one-stick : {z : Point} (u : Edge) → Plain z → Touches L t p u → Touches L t q u → Proportional (coordinates z) (point_on L t p u)
        → AtJoint L t p q z ⊎ AtJoint L t q p z
    at-one-stick u f a b s = both-sides (removed_at L t u)
        (λ r. absurd (differ (owner-unique L t sound dp dq (touches-removed dp a r) (touches-removed dq b r))))
        (λ r. let k = (kept_of L t sound vertices u (touches-stick dp a) r).kept in joint u f k s (touches-kept a k) (touches-kept b k))

  module _ (held : HeldFacts L t) where
    lies_at : (p : Edge) → Drawn L t p → {z : Point} → OnDrawn L t p z → Lies L t p (coordinates z)
    lies_at p d o = lies L t sound vertices p d (held.crossed p d) o

    pub drawn-apart : (p q : Edge) → Drawn L t p → Drawn L t q → p ≢ q → (z : Point) → OnDrawn L t p z → OnDrawn L t q z
        → AtJoint L t p q z ⊎ AtJoint L t q p z
    drawn-apart p q dp dq differ z op oq = by (lies_at p dp op) (lies_at q dq oq)
      where
        by : Lies L t p (coordinates z) → Lies L t q (coordinates z) → AtJoint L t p q z ⊎ AtJoint L t q p z
        by (on_stick u a w s) (on_stick v b y _) =
            at-one-stick p q dp dq differ u (plain_of L t p op) a (subst (Touches L t q) (edges-apart (within→closed y) w) b) s
        by (on_stick u a w s) (on_link e o i) = absurd (edge-cell-apart (within→closed w) i.in-its-cell)
        by (on_link e o i) (on_stick u a w s) = absurd (edge-cell-apart (within→closed w) i.in-its-cell)
        by (on_link e o i) (on_link f n j) =
            let same = links-apart L sound e f (owns-stick L t sound dp.stick o) (owns-stick L t sound dq.stick n) i j in
            absurd (differ (owner-unique L t sound dp dq o (subst (Owns L t q) (sym same) n)))

    -- a point of a drawn edge between two adjacent samples is its point on the stick between them
    record OnStick (p e : Edge) (h : Homogeneous) : Type 0 where
      touched : Touches L t p e
      is : Proportional h (point_on L t p e)

    between-samples : (p e : Edge) → Drawn L t p → (z : Point) → OnDrawn L t p z → On z (start e) (end e) → OnStick p e (coordinates z)
    between-samples p e d z o s = by (lies_at p d o)
      where
        by : Lies L t p (coordinates z) → OnStick p e (coordinates z)
        by (on_stick u a w i) =
            subst (λ (x : Edge). OnStick p x (coordinates z)) (sym (edges-apart (on→closed e s) w)) (record { touched = a; is = i })
        by (on_link f n i) = absurd (edge-cell-apart (on→closed e s) i.in-its-cell)

    pub never-passed : (e : Edge) → is_stick L e ≡ false → (z : Point) → ¬ Passes L t e z
    never-passed e n z w =
        let a = between-samples w.from e w.drawn z w.on_drawn w.on_segment in
        true≢false (sym (touches-stick w.drawn a.touched) ∙ n)

    pub passed-once : (e : Edge) → is_stick L e ≡ true → (z w : Point) → Passes L t e z → Passes L t e w → Same z w
    passed-once e stick z w a b =
        let i = between-samples a.from e a.drawn z a.on_drawn a.on_segment in
        let j = between-samples b.from e b.drawn w b.on_drawn b.on_segment in
        proportional→same (plain_of L t a.from a.on_drawn) (plain_of L t b.from b.on_drawn)
        (both-sides (removed_at L t e) (when-removed i j) (when-kept i j))
      where
        when-kept : OnStick a.from e (coordinates z) → OnStick b.from e (coordinates w) → removed_at L t e ≡ false
            → Proportional (coordinates z) (coordinates w)
        when-kept i j r =
            let k = (kept_of L t sound vertices e stick r).kept in
            proportional-trans (omega arith) (rw k at i.is) (proportional-sym (rw k at j.is))

        when-removed : OnStick a.from e (coordinates z) → OnStick b.from e (coordinates w) → removed_at L t e ≡ true
            → Proportional (coordinates z) (coordinates w)
        when-removed i j r =
            let o = touches-removed a.drawn i.touched r in
            let same = owner-unique L t sound a.drawn b.drawn o (touches-removed b.drawn j.touched r) in
            let c = owned-crossed L t sound vertices a.from a.drawn (held.crossed a.from a.drawn) o r in
            let P = vertex L t a.from in
            let Q = vertex L t (next_kept L t a.from) in
            let n = both-sides (kept_at L t e) {P = kept_at L t e ≡ false} (λ k. absurd (not-both L t e k r)) (λ k. k) in
            proportional-trans {k = crossing P Q e} (total-some P Q e (crosses→parted P Q e c)) (rw n at i.is)
            (proportional-sym (rw n at (rw (sym same) at j.is)))

    pub passed : (e : Edge) → is_stick L e ≡ true → (z : Point) × Passes L t e z
    passed e stick = both-sides (removed_at L t e) when-removed when-kept
      where
        when-kept : removed_at L t e ≡ false → (z : Point) × Passes L t e z
        when-kept r = (
          point (vertex L t e),
          record {
            from = e;
            drawn = kept_of L t sound vertices e stick r;
            on_drawn =
                weights→on (record {
                  is_plain = record { x_plain = refl; y_plain = refl };
                  α = 1;
                  β = 0;
                  some = omega arith;
                  is_mean = proportional-sym (first-end (vertex L t e) (vertex L t (next_kept L t e)));
                });
            on_segment = closed→on e (record { x_plain = refl; y_plain = refl }) (within→closed (vertex-inside L t sound vertices e stick));
          },
        )

        when-removed : removed_at L t e ≡ true → (z : Point) × Passes L t e z
        when-removed r =
            let law = laws L sound in
            let s = held.some_kept e stick in
            let x : Edge = s.0 in
            let dx : Drawn L t x = record { stick = on_one (walk_of L) law e x stick s.1; kept = s.2 } in
            let k = place (walk_of L) law x e dx.stick (on-swap (walk_of L) law e x stick s.1) in
            let own = owner L t sound vertices k.0 x dx in
            let p : Edge = own.0 in
            let o : Owns L t p e = subst (Owns L t p) k.2 own.2 in
            let c = owned-crossed L t sound vertices p own.1 (held.crossed p own.1) o r in
            let at = crosses→Crosses (vertex L t p) (vertex L t (next_kept L t p)) e c in
            (at.at, record { from = p; drawn = own.1; on_drawn = at.meets.on_first; on_segment = at.meets.on_second })
