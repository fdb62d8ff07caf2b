-- Edits of a held layer. A slide or a removal leaves it held if the redrawn edges cross every removed stick between their ends, since all
-- others are as before. A removal whose edge crosses them leaves more than three kept vertices on its contour, so that question 13 is never
-- answered no. A pin redraws none.
use mathlib.Core.Path.{◌≡◌, ap, sym, subst, ◌∙◌}
use mathlib.Core.Logic.{◌≢◌}
use mathlib.Core.Bool.{true, false}
use mathlib.Core.List.{List}
use Prim.Native.Nat.{ℕ, ◌≤◌}
use native.Mathlib.Omega.{arith}
use lib.ListN.{length}
use Rattle.arith.proofs.Booleans.{both-sides}
use Rattle.arith.specs.Lists.{among}
use Rattle.grid.specs.Layer.{Layer}
use Rattle.grid.specs.Edges.{is_stick, edge_count}
use Rattle.grid.specs.Questions.{Sound}
use Rattle.grid.specs.declared.edge.Edge.{Edge}
use Rattle.grid.specs.Questions.{Yes}
use Rattle.contour.specs.Walk.{OnContour}
use Rattle.contour.specs.Contours.{walk_of, contour_of, same_edge}
use Rattle.contour.proofs.Orbit.{unlike}
use Rattle.contour.proofs.First.{first_one}
use Rattle.contour.proofs.Members.{on_one}
use Rattle.contour.proofs.Sticks.{laws, same-edge}
use Rattle.table.specs.Vertices.{kept_at}
use Rattle.table.specs.Stores.{slid, without, pinned}
use Rattle.table.proofs.Entries.{Inside}
use Rattle.drawn.specs.Neighbours.{next_kept, previous_kept}
use Rattle.drawn.proofs.Gaps.{kept-not-removed, not-both}
use Rattle.drawn.specs.Drawn.{edge_crosses, Drawn}
use Rattle.drawn.proofs.Vertices.{Vertices, kept_of}
use Rattle.drawn.proofs.Owners.{end-drawn}
use Rattle.drawn.proofs.Neighbours.{previous-next, next-previous, previous-drawn}
use Rattle.drawn.proofs.SideLemma.{not-one, not-two}
use Rattle.drawn.proofs.FourKept.{kept_from-on, four-kept}
use Rattle.drawn.proofs.Removal.{OneMore, still-drawn, next-as-before, next-over-removed, crosses-as-before}
use Rattle.drawn.proofs.Stores.{slide-kept, slide-next, slide-after, slide-vertex, slide-vertices, removal-vertex, removal-vertices, removal-more, pin-kept, pin-next, pin-after, pin-vertex, pin-vertices}
use Rattle.held.specs.Held.{held_answer}
use Rattle.held.proofs.HeldFacts.{HeldFacts, held_of}
use Rattle.held.proofs.Holding.{layer-held}

module _ (L : Layer) (sound : Sound L) (t : List ℕ) (exact : length t ≡ edge_count L.size) (vertices : Vertices L t)
    (yes-7 : held_answer L t ≡ Yes) (u : Edge) (drawn : Drawn L t u) where
  held : HeldFacts L t
  held = held_of L t sound yes-7

  differ : {e f : Edge} → same_edge e f ≡ false → e ≢ f
  differ {e} {f} s = unlike (walk_of L) (laws L sound) e f s

  -- only the drawn edge from the kept vertex before u ends at u
  only-previous : (p : Edge) → Drawn L t p → next_kept L t p ≡ u → p ≡ previous_kept L t u
  only-previous p d e = sym (previous-next L t sound vertices p d) ∙ ap (previous_kept L t) e

  -- A slide

  module _ (o : ℕ) (inside : Inside o) where
    abbrev moved : List ℕ
    moved = slid L t u o

    -- an edge that neither starts nor ends at u
    slide-same : (p : Edge) → Drawn L t p → p ≢ u → next_kept L t p ≢ u → edge_crosses L moved p ≡ edge_crosses L t p
    unfolding edge_crosses
    slide-same p d n m =
        let q = end-drawn L t sound vertices p d in
        rw (
          slide-next L sound t exact u drawn o inside p,
          slide-after L sound t exact u drawn o inside p,
          slide-vertex L sound t exact u drawn o inside p d.stick n,
          slide-vertex L sound t exact u drawn o inside (next_kept L t p) q.stick m,
        )

    module _ (before : edge_crosses L moved (previous_kept L t u) ≡ true) (after : edge_crosses L moved u ≡ true) where
      slide-crosses : (p : Edge) → Drawn L moved p → edge_crosses L moved p ≡ true
      slide-crosses p d' =
          let d : Drawn L t p = record { stick = d'.stick; kept = sym (slide-kept L sound t exact u drawn o inside p) ∙ d'.kept } in
          both-sides (same_edge p u)
          (λ s. rw (same-edge p u s) after)
          (λ s. both-sides (same_edge p (previous_kept L t u))
          (λ q. rw (same-edge p (previous_kept L t u) q) before)
          (λ q. slide-same p d (differ s) (λ e. differ q (only-previous p d e)) ∙ held.crossed p d))

      pub slide-held : held_answer L (slid L t u o) ≡ Yes
      slide-held =
          layer-held L moved sound (slide-vertices L sound t exact u drawn o inside vertices) slide-crosses (λ f h.
          let k = held.some_kept f (first_one (walk_of L) (laws L sound) f h) in
          (k.0, k.1, slide-kept L sound t exact u drawn o inside k.0 ∙ k.2))

  -- A removal

  vertices' : Vertices L (without L t u)
  vertices' = removal-vertices L sound t exact u drawn vertices

  more : OneMore L t (without L t u) u
  more = removal-more L sound t exact u drawn vertices

  -- u is not the only kept vertex of its contour
  next-other : next_kept L t u ≢ u
  next-other = not-one L t sound vertices u drawn (held.crossed u drawn)

  previous-other : previous_kept L t u ≢ u
  previous-other e = next-other (sym (ap (next_kept L t) e) ∙ next-previous L t sound vertices u drawn)

  left : (p : Edge) → Drawn L t p → p ≢ u → Drawn L (without L t u) p
  left = still-drawn L t (without L t u) sound vertices vertices' u more

  -- the drawn edge from the kept vertex before u ends at the one after u now
  pub removal-next : next_kept L (without L t u) (previous_kept L t u) ≡ next_kept L t u
  removal-next =
      next-over-removed L t (without L t u) sound vertices vertices' u more (previous_kept L t u)
      (previous-drawn L t sound vertices u drawn) previous-other (next-previous L t sound vertices u drawn) next-other

  module _ (over : edge_crosses L (without L t u) (previous_kept L t u) ≡ true) where
    removal-crosses : (p : Edge) → Drawn L (without L t u) p → edge_crosses L (without L t u) p ≡ true
    removal-crosses p d' =
        let n : p ≢ u = λ s. not-both L (without L t u) u (subst (λ (x : Edge). kept_at L (without L t u) x ≡ true) s d'.kept) more.now_removed in
        let d : Drawn L t p =
        kept_of L t sound vertices p d'.stick (sym (more.others p d'.stick n) ∙ kept-not-removed L (without L t u) p d'.kept) in
        both-sides (same_edge p (previous_kept L t u))
        (λ q. rw (same-edge p (previous_kept L t u) q) over)
        (λ q. crosses-as-before L t (without L t u) sound vertices vertices' u more (removal-vertex L sound t exact u drawn vertices) p d n
        (λ e. differ q (only-previous p d e)) (held.crossed p d))

    -- each contour has a kept vertex left: on that of u the next one
    some_left : (f : Edge) → is_stick L f ≡ true → (x : Edge) × OnContour (walk_of L) f x × (kept_at L (without L t u) x ≡ true)
    some_left f stick =
        let k = held.some_kept f stick in
        let x : Edge = k.0 in
        both-sides (same_edge x u) {P = (x : Edge) × OnContour (walk_of L) f x × (kept_at L (without L t u) x ≡ true)}
        (λ s. (
          next_kept L t u,
          kept_from-on L t sound vertices f stick (edge_count L.size) u (subst (OnContour (walk_of L) f) (same-edge x u s) k.1),
          (left (next_kept L t u) (end-drawn L t sound vertices u drawn) next-other).kept,
        ))
        (λ s. (x, k.1, (left x (record { stick = on_one (walk_of L) (laws L sound) f x stick k.1; kept = k.2 }) (differ s)).kept))

    pub removal-held : held_answer L (without L t u) ≡ Yes
    removal-held =
        layer-held L (without L t u) sound vertices' removal-crosses (λ f h. some_left f (first_one (walk_of L) (laws L sound) f h))

    -- question 13: by the number of kept vertices left,
    pub removal-three : 3 ≤ among (kept_at L (without L t u)) (contour_of L u)
    removal-three =
        let k = some_left u drawn.stick in
        omega (arith, four-kept L (without L t u) sound vertices' u drawn.stick k.0 k.1 k.2 (λ p o d. removal-crosses p d))

    -- and by a walk of two gaps: the kept vertices before and after u differ, and there is a third
    pub removal-second : previous_kept L t u ≢ next_kept L t u
    removal-second e =
        let P = previous_kept L t u in
        not-one L (without L t u) sound vertices' P (left P (previous-drawn L t sound vertices u drawn) previous-other) over (removal-next ∙ sym e)

    pub removal-third : next_kept L t (next_kept L t u) ≢ previous_kept L t u
    removal-third e =
        let P = previous_kept L t u in
        let N = next_kept L t u in
        let t' = without L t u in
        let dN = end-drawn L t sound vertices u drawn in
        let dP' = left P (previous-drawn L t sound vertices u drawn) previous-other in
        let as_before : next_kept L t' N ≡ next_kept L t N =
        next-as-before L t t' sound vertices vertices' u more N dN next-other (λ s. previous-other (sym e ∙ s)) in
        not-two L t' sound vertices' P dP' over (removal-crosses (next_kept L t' P) (end-drawn L t' sound vertices' P dP'))
        (ap (next_kept L t') removal-next ∙ as_before ∙ e)

  -- A pin: every drawn edge is as before

  pin-crosses : (p : Edge) → edge_crosses L (pinned L t u) p ≡ edge_crosses L t p
  unfolding edge_crosses
  pin-crosses p = rw (
    pin-next L sound t exact u drawn vertices p,
    pin-after L sound t exact u drawn vertices p,
    pin-vertex L sound t exact u drawn vertices p,
    pin-vertex L sound t exact u drawn vertices (next_kept L t p),
  )

  pub pin-held : held_answer L (pinned L t u) ≡ Yes
  pin-held =
      let same = pin-kept L sound t exact u drawn vertices in
      layer-held L (pinned L t u) sound (pin-vertices L sound t exact u drawn vertices)
      (λ p d. pin-crosses p ∙ held.crossed p (record { stick = d.stick; kept = sym (same p) ∙ d.kept }))
      (λ f h.
      let k = held.some_kept f (first_one (walk_of L) (laws L sound) f h) in
      (k.0, k.1, same k.0 ∙ k.2))
