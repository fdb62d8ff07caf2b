-- The side lemma: if a drawn edge crosses the removed sticks between its ends, its end lies strictly ahead of the line of the stick where it
-- starts, in the direction in which the walk crosses that stick, and its start strictly behind the line of the stick where it ends. So a
-- kept vertex lies strictly between its two kept neighbours in its own across coordinate, and it takes four drawn edges or more to
-- come back to a vertex (counted on a contour in FourKept).
use mathlib.Core.Path.{◌≡◌, refl, ap, sym, subst, ◌∙◌}
use mathlib.Core.Logic.{◌⊎◌, inl, inr, ◌≢◌}
use mathlib.Core.Bool.{Bool, true, false, cond, not}
use mathlib.Core.List.{List}
use Prim.Native.Nat.{ℕ, ◌+◌, ◌*◌, ◌<◌}
use native.Mathlib.Nat.{lt_of_mul-lt-mul_left}
use native.Mathlib.Omega.{arith}
use Rattle.arith.proofs.Booleans.{both-sides}
use Rattle.grid.specs.Layer.{Layer}
use Rattle.grid.specs.Edges.{is_stick, edge_count}
use Rattle.grid.specs.Questions.{Sound}
use Rattle.grid.specs.declared.edge.Edge.{Edge}
use Rattle.step.specs.Cells.{edge_on, edge_of}
use Rattle.step.specs.Walk.{upward, beside, next}
use Rattle.step.specs.declared.cell.CellSide.{CellSide}
use Rattle.step.specs.declared.cell.Side.{Side}
use Rattle.step.specs.declared.cell.Side.TheVariants.{South, East, North, West}
use Rattle.step.proofs.Walks.{is_upper, behind-next}
use Rattle.chord.specs.Points.{Position}
use Rattle.chord.specs.Crossing.{across, line, parted}
use Rattle.chord.proofs.Homogeneous.{Homogeneous, weighted, across_of, across-weighted}
use Rattle.chord.proofs.EdgePoints.{Within, across-position}
use Rattle.chord.proofs.Meetings.{sides→parted}
use Rattle.table.specs.Vertices.{removed_at, offset_at}
use Rattle.drawn.specs.Neighbours.{next_kept}
use Rattle.drawn.proofs.Gaps.{kept_here}
use Rattle.drawn.specs.Drawn.{vertex, edge_crosses, Drawn}
use Rattle.drawn.proofs.Vertices.{Vertices, kept_of}
use Rattle.drawn.proofs.Owners.{Owns, begins, goes_on, owns-stick, owns-kept, last-owned, end-drawn}
use Rattle.drawn.proofs.CellLinks.{entering, leaving, as-entered, as-left, other-side}
use Rattle.drawn.proofs.Pieces.{Mark, mark-start, mark-end, mark-over}

-- n lies strictly beyond m, upward or downward
abbrev pub Beyond : Bool → ℕ → ℕ → Type 0
Beyond true m n = m < n
Beyond false m n = n < m

-- a position strictly ahead of the line of a stick, in the direction in which the walk crosses it, and strictly behind it
abbrev pub Ahead : Layer → Edge → Position → Type 0
Ahead L e x = Beyond (upward L e) (line e) (across e x)

abbrev pub Behind : Layer → Edge → Position → Type 0
Behind L e x = Beyond (not (upward L e)) (line e) (across e x)

-- a point strictly inside another side of a cell lies strictly beyond the line of this one, where the cell is
beyond-side : (c r : ℕ) (s u : Side) → s ≢ u → {h : Homogeneous} → Within (edge_on c r u) h
    → Beyond (is_upper s) (line (edge_on c r s) * h.d) (across_of (edge_on c r s) h)
beyond-side c r South South n w = absurd (n refl)
beyond-side c r South East n w = omega arith
beyond-side c r South North n w = omega arith
beyond-side c r South West n w = omega arith
beyond-side c r East South n w = omega arith
beyond-side c r East East n w = absurd (n refl)
beyond-side c r East North n w = omega arith
beyond-side c r East West n w = omega arith
beyond-side c r North South n w = omega arith
beyond-side c r North East n w = omega arith
beyond-side c r North North n w = absurd (n refl)
beyond-side c r North West n w = omega arith
beyond-side c r West South n w = omega arith
beyond-side c r West East n w = omega arith
beyond-side c r West North n w = omega arith
beyond-side c r West West n w = absurd (n refl)

beside-upper : (e : Edge) (upper : Bool) → is_upper (beside e upper).side ≡ upper
beside-upper e upper = by e.vertical upper
  where
    by : (v upper : Bool) → is_upper (beside (record { vertical = v; column = e.column; row = e.row }) upper).side ≡ upper
    by true true = refl
    by true false = refl
    by false true = refl
    by false false = refl

-- if the mean of u and v lies beyond l, where one of them is, so does the other
second-beyond : (b : Bool) (α β l v : ℕ) → Beyond b (l * (α + β)) (α * l + β * v) → Beyond b l v
second-beyond true α β l v h = lt_of_mul-lt-mul_left β (omega arith)
second-beyond false α β l v h = lt_of_mul-lt-mul_left β (omega arith)

first-beyond : (b : Bool) (α β l v : ℕ) → Beyond b (l * (α + β)) (α * v + β * l) → Beyond b l v
first-beyond true α β l v h = lt_of_mul-lt-mul_left α (omega arith)
first-beyond false α β l v h = lt_of_mul-lt-mul_left α (omega arith)

-- what is beyond in one direction is not beyond in the other, and two of three numbers in a row go on in one direction
not-both-ways : (b : Bool) (m n : ℕ) → Beyond b m n → Beyond (not b) m n → ⊥
not-both-ways true m n h k = omega arith
not-both-ways false m n h k = omega arith

no-turn : (b d : Bool) (m n x : ℕ) → Beyond b m n → Beyond (not b) m x → Beyond (not d) n m → Beyond d n x → ⊥
no-turn true true m n x h i j k = omega arith
no-turn true false m n x h i j k = omega arith
no-turn false true m n x h i j k = omega arith
no-turn false false m n x h i j k = omega arith

not_itself : (b : Bool) (m : ℕ) → Beyond b m m → ⊥
not_itself true m h = omega arith
not_itself false m h = omega arith

module _ (L : Layer) (t : List ℕ) (sound : Sound L) (vertices : Vertices L t) where
  -- the vertex of a stick lies on its line: its across coordinate, seen from a stick of the same kind
  across-vertex : (e f : Edge) → e.vertical ≡ f.vertical → across e (vertex L t f) ≡ line f
  across-vertex e f k = ap (λ (v : Bool). cond v (vertex L t f).x (vertex L t f).y) k ∙ across-position f (offset_at L t f)

  -- a point on the next stick lies ahead of this one's line, and a point on this one behind the next one's
  ahead_of : (e : Edge) → is_stick L e ≡ true → {h : Homogeneous} → Within (next L e) h → Beyond (upward L e) (line e * h.d) (across_of e h)
  ahead_of e stick {h} w =
      let c = (entering L e).column in
      let r = (entering L e).row in
      let there = subst (λ (x : Edge). Within x h) (sym (as-left L sound e stick)) w in
      let b = beyond-side c r (entering L e).side (leaving L e).side (other-side L sound e stick) there in
      subst (λ (x : Edge). Beyond (upward L e) (line x * h.d) (across_of x h)) (as-entered L sound e stick)
      (rw (beside-upper e (upward L e)) at b)

  behind-of : (e : Edge) → is_stick L e ≡ true → {h : Homogeneous} → Within e h
      → Beyond (not (upward L (next L e))) (line (next L e) * h.d) (across_of (next L e) h)
  behind-of e stick {h} w =
      let c = (entering L e).column in
      let r = (entering L e).row in
      let here = subst (λ (x : Edge). Within x h) (sym (as-entered L sound e stick)) w in
      let b = beyond-side c r (leaving L e).side (entering L e).side (λ s. other-side L sound e stick (sym s)) here in
      let up : is_upper (leaving L e).side ≡ not (upward L (next L e)) =
      ap (λ (p : CellSide). is_upper p.side) (sym (behind-next L sound e stick)) ∙ beside-upper (next L e) (not (upward L (next L e))) in
      subst (λ (x : Edge). Beyond (not (upward L (next L e))) (line x * h.d) (across_of x h)) (as-left L sound e stick)
      (subst (λ (u : Bool). Beyond u (line (edge_of (leaving L e)) * h.d) (across_of (edge_of (leaving L e)) h)) up b)

  module _ (p : Edge) (d : Drawn L t p) (over : edge_crosses L t p ≡ true) where
    mark-owned : (u : Edge) → Owns L t p u → Mark L t p u
    mark-owned u o = both-sides (removed_at L t u)
        (λ r. mark-over L t sound vertices p d over u o r)
        (λ r. subst (Mark L t p) (owns-kept L t sound o (kept_of L t sound vertices u (owns-stick L t sound d.stick o) r).kept)
        (mark-start L t sound vertices p d over))

    mark-next : Mark L t p (next L p)
    mark-next = both-sides (removed_at L t (next L p))
        (λ r. mark-over L t sound vertices p d over (next L p) (goes_on (begins refl) refl r) r)
        (λ r. mark-end L t sound vertices p d over (next L p) (kept_here (next L) L t (edge_count L.size) p r))

    -- the end lies ahead of where it starts
    pub side-ahead : Ahead L p (vertex L t (next_kept L t p))
    side-ahead =
        let m = mark-next in
        let P = vertex L t p in
        let Q = vertex L t (next_kept L t p) in
        let b = ahead_of p d.stick m.inside in
        second-beyond (upward L p) m.α m.β (line p) (across p Q)
        (subst (λ (a : ℕ). Beyond (upward L p) (line p * (m.α + m.β)) (m.α * a + m.β * across p Q)) (across-vertex p p refl)
        (rw (across-weighted p m.α m.β P Q) at b))

    -- and the start behind where it ends
    pub side-behind : Behind L (next_kept L t p) (vertex L t p)
    side-behind =
        let l = last-owned L t sound p in
        let e : Edge = l.0 in
        let m = mark-owned e l.1 in
        let q = next_kept L t p in
        let b = behind-of e (owns-stick L t sound d.stick l.1) m.inside in
        let b' : Beyond (not (upward L q)) (line q * (m.α + m.β)) (across_of q (weighted m.α m.β (vertex L t p) (vertex L t q))) =
        subst (λ (x : Edge). Beyond (not (upward L x)) (line x * (m.α + m.β)) (across_of x (weighted m.α m.β (vertex L t p) (vertex L t q)))) l.2 b in
        first-beyond (not (upward L q)) m.α m.β (line q) (across q (vertex L t p))
        (subst (λ (a : ℕ). Beyond (not (upward L q)) (line q * (m.α + m.β)) (m.α * across q (vertex L t p) + m.β * a)) (across-vertex q q refl)
        (rw (across-weighted q m.α m.β (vertex L t p) (vertex L t q)) at b'))

    -- so a drawn edge does not end where it starts
    pub not-one : next_kept L t p ≢ p
    not-one e =
        not_itself (upward L p) (line p)
        (subst (λ (a : ℕ). Beyond (upward L p) (line p) a) (across-vertex p p refl) (subst (λ (x : Edge). Ahead L p (vertex L t x)) e side-ahead))

  -- two drawn edges, one after the other
  module _ (p : Edge) (d : Drawn L t p) (over : edge_crosses L t p ≡ true) (over' : edge_crosses L t (next_kept L t p) ≡ true) where
    abbrev q : Edge
    q = next_kept L t p

    dq : Drawn L t q
    dq = end-drawn L t sound vertices p d

    -- a kept vertex lies strictly between its two kept neighbours, in its own across coordinate
    pub between-neighbours : parted (vertex L t p) (vertex L t (next_kept L t q)) q ≡ true
    between-neighbours = sides→parted (vertex L t p) (vertex L t (next_kept L t q)) q (by (upward L q) (side-behind p d over) (side-ahead q dq over'))
      where
        by : (b : Bool) → Beyond (not b) (line q) (across q (vertex L t p)) → Beyond b (line q) (across q (vertex L t (next_kept L t q)))
            → ((across q (vertex L t p) < line q) × (line q < across q (vertex L t (next_kept L t q))))
            ⊎ ((across q (vertex L t (next_kept L t q)) < line q) × (line q < across q (vertex L t p)))
        by true x y = inl (x, y)
        by false x y = inr (y, x)

    -- the second does not end where the first starts
    pub not-two : next_kept L t q ≢ p
    not-two e =
        not-both-ways (upward L q) (line q) (across q (vertex L t p))
        (subst (λ (x : Edge). Ahead L q (vertex L t x)) e (side-ahead q dq over')) (side-behind p d over)

  -- nor does a third: of three sticks two are of one kind, and each would lie strictly between the other and the third
  same_kind : (a b c : Edge) → a.vertical ≡ b.vertical
      → Ahead L a (vertex L t b) → Behind L a (vertex L t c) → Behind L b (vertex L t a) → Ahead L b (vertex L t c) → ⊥
  same_kind a b c k h i j l =
      no-turn (upward L a) (upward L b) (line a) (line b) (across a (vertex L t c))
      (subst (λ (n : ℕ). Beyond (upward L a) (line a) n) (across-vertex a b k) h)
      i
      (subst (λ (n : ℕ). Beyond (not (upward L b)) (line b) n) (across-vertex b a (sym k)) j)
      (subst (λ (v : Bool). Beyond (upward L b) (line b) (cond v (vertex L t c).x (vertex L t c).y)) (sym k) l)

  two-of-three : (u v w : Bool) → (u ≡ v) ⊎ ((v ≡ w) ⊎ (w ≡ u))
  two-of-three true true w = inl refl
  two-of-three true false true = inr (inr refl)
  two-of-three true false false = inr (inl refl)
  two-of-three false true true = inr (inl refl)
  two-of-three false true false = inr (inr refl)
  two-of-three false false w = inl refl

  pub not_three : (p : Edge) → Drawn L t p → edge_crosses L t p ≡ true → edge_crosses L t (next_kept L t p) ≡ true
      → edge_crosses L t (next_kept L t (next_kept L t p)) ≡ true → next_kept L t (next_kept L t (next_kept L t p)) ≢ p
  not_three a da oa ob oc e =
      let b = next_kept L t a in
      let c = next_kept L t b in
      let db = end-drawn L t sound vertices a da in
      let dc = end-drawn L t sound vertices b db in
      let a-b = side-ahead a da oa in
      let b-a = side-behind a da oa in
      let b-c = side-ahead b db ob in
      let c-b = side-behind b db ob in
      let c-a : Ahead L c (vertex L t a) = subst (λ (x : Edge). Ahead L c (vertex L t x)) e (side-ahead c dc oc) in
      let a_c : Behind L a (vertex L t c) = subst (λ (x : Edge). Behind L x (vertex L t c)) e (side-behind c dc oc) in
      elim (two-of-three a.vertical b.vertical c.vertical) [
        | inl k ↦ same_kind a b c k a-b a_c b-a b-c
        | inr (inl k) ↦ same_kind b c a k b-c b-a c-b c-a
        | inr (inr k) ↦ same_kind c a b k c-a c-b a_c a-b
      ]
