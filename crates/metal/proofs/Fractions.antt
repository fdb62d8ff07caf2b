-- Where the drawn edges meet the sticks, as fractions brought to one denominator M. The polygon with these vertices, one on every stick of a contour,
-- and that of the contour's drawn edges have the same area: the points on one drawn edge are collinear, so what the polygon's edges between its
-- ends add is what the drawn edge adds, which telescopes along the walk.
use mathlib.Core.Path.{◌≡◌, refl, sym, subst, ap, ◌∙◌}
use mathlib.Core.Logic.{◌⊎◌, inl, inr}
use mathlib.Core.Bool.{Bool, true, false, cond}
use mathlib.Core.List.{List, [], ◌∷◌}
use Prim.Native.Nat.{ℕ, zero, suc, ◌+◌, ◌*◌, ◌-◌, ◌<◌}
use native.Mathlib.Nat.{eq_of_mul-eq-mul_left, mul-lt-mul_of_pos_left, mul-pos}
use native.Mathlib.Omega.{arith}
use lib.ListN.{length}
use Rattle.arith.specs.Booleans.{as_number}
use Rattle.arith.proofs.Booleans.{both-sides}
use Rattle.arith.specs.Levels.{total}
use Rattle.grid.specs.Layer.{Layer}
use Rattle.grid.specs.Edges.{is_stick}
use Rattle.grid.specs.Questions.{Sound}
use Rattle.grid.specs.declared.edge.Edge.{Edge}
use Rattle.step.specs.Walk.{next}
use Rattle.step.proofs.Walks.{next-stick}
use Rattle.contour.specs.Walk.{first, occurrences, walked, ahead}
use Rattle.contour.specs.Contours.{walk_of, contour_of, same_edge}
use Rattle.contour.proofs.Orbit.{run, round, contour-run}
use Rattle.contour.proofs.Members.{place, on_one, on-swap}
use Rattle.contour.proofs.First.{first_one}
use Rattle.contour.proofs.Sticks.{laws, same-edge, same_self}
use Rattle.contour.proofs.Theorems.{permutation}
use Rattle.chord.specs.Points.{Position}
use Rattle.chord.specs.Crossing.{base, off}
use Rattle.chord.proofs.Homogeneous.{Homogeneous, weighted, proportional-sym, along_of}
use Rattle.chord.proofs.EdgePoints.{Within, within-proportional}
use Rattle.chord.proofs.Crossings.{crosses→within}
use Rattle.table.specs.Vertices.{kept_at, removed_at}
use Rattle.drawn.specs.Neighbours.{next_kept, previous_kept}
use Rattle.drawn.specs.Drawn.{vertex, Drawn, Ends, drawn_from, drawn_among, drawn_of}
use Rattle.drawn.proofs.Gaps.{not-both, kept-not-removed}
use Rattle.drawn.proofs.Vertices.{Vertices, vertices-of, kept_of}
use Rattle.drawn.proofs.Owners.{Owns, goes_on, owner, owns-kept, owns-stick}
use Rattle.drawn.proofs.Neighbours.{owner-previous, owner-next, ends_at, crossed-between}
use Rattle.drawn.proofs.Pieces.{first-end, vertex-inside}
use Rattle.held.specs.Questions.{Accepted}
use Rattle.held.proofs.HeldFacts.{HeldFacts, held_of}
use Rattle.polygon.specs.Polygon.{x_at, y_at, added, taken, AllOffsets}

-- what some drawn edges add to twice the area, and take from it
abbrev pub added_along : Layer → List ℕ → List Ends → ℕ
added_along L t ds = total (λ d. (vertex L t d.from).x * (vertex L t d.to).y) ds

abbrev pub taken_along : Layer → List ℕ → List Ends → ℕ
taken_along L t ds = total (λ d. (vertex L t d.to).x * (vertex L t d.from).y) ds

-- of a polygon M times as large, with a vertex on each stick at the offset o: what the edges of the contour that starts at f add less what they take
-- is M × M times what its drawn edges do
abbrev pub Balanced : Layer → List ℕ → ℕ → (Edge → ℕ) → Edge → Type 0
Balanced L t M o f =
    added L (256 * M) o f + M * M * taken_along L t (drawn_of L t f) ≡ taken L (256 * M) o f + M * M * added_along L t (drawn_of L t f)

-- ---- one denominator

-- a number that all the numbers d e of a list's edges divide
record Shares (L : Layer) (d : Edge → ℕ) (l : List Edge) : Type 0 where
  M : ℕ
  some : 0 < M
  share : Edge → ℕ
  is : (e : Edge) → 0 < occurrences (walk_of L) e l → share e * d e ≡ M

shares : (L : Layer) (d : Edge → ℕ) (l : List Edge) → ((e : Edge) → 0 < occurrences (walk_of L) e l → 0 < d e) → Shares L d l
unfolding occurrences
shares L d [] above = record { M = 1; some = omega arith; share = λ e. 1; is = λ e o. absurd (omega arith) }
shares L d (x ∷ l) above =
    let later = shares L d l (λ e o. above e (omega arith)) in
    let here : 0 < d x = above x (omega (arith, ap as_number (same_self x))) in
    record {
      M = later.M * d x;
      some = mul-pos later.some here;
      share = λ e. cond (same_edge e x) later.M (later.share e * d x);
      is = λ e o. both-sides (same_edge e x)
          (λ s. rw s (ap (λ (y : Edge). later.M * d y) (same-edge e x s)))
          (λ s. rw s (omega (arith, ap (λ m. m * d x) (later.is e (omega (arith, ap as_number s))))));
    }

-- ---- collinear points

-- z and w are means of p and q with the weights a, b and c, d: from z to w and on to q is as from z to q. Said of the means as they are multiplied
-- out; each side multiplied by both sums of weights; and the points themselves.
mean-identity : (a b c d px py qx qy : ℕ)
    → (a * px + b * qx) * (c * py + d * qy) + (a + b) * (c * px + d * qx) * qy + (c + d) * qx * (a * py + b * qy)
    ≡ (c * px + d * qx) * (a * py + b * qy) + (a + b) * qx * (c * py + d * qy) + (c + d) * (a * px + b * qx) * qy
mean-identity a b c d px py qx qy = omega arith

out-left : (D E qx qy zx zy wx wy : ℕ)
    → D * E * (zx * wy + wx * qy + qx * zy) ≡ D * zx * (E * wy) + D * (E * wx) * qy + E * qx * (D * zy)
out-left D E qx qy zx zy wx wy = omega arith

out-right : (D E qx qy zx zy wx wy : ℕ)
    → E * wx * (D * zy) + D * qx * (E * wy) + E * (D * zx) * qy ≡ D * E * (wx * zy + qx * wy + zx * qy)
out-right D E qx qy zx zy wx wy = omega arith

collinear : (a b c d px py qx qy zx zy wx wy : ℕ) → 0 < a + b → 0 < c + d
    → (a + b) * zx ≡ a * px + b * qx → (a + b) * zy ≡ a * py + b * qy
    → (c + d) * wx ≡ c * px + d * qx → (c + d) * wy ≡ c * py + d * qy
    → zx * wy + wx * qy + qx * zy ≡ wx * zy + qx * wy + zx * qy
collinear a b c d px py qx qy zx zy wx wy m n zx-is zy-is wx-is wy-is =
    eq_of_mul-eq-mul_left ((a + b) * (c + d)) (mul-pos m n) _ _
    (out-left (a + b) (c + d) qx qy zx zy wx wy
    ∙ rw (zx-is, zy-is, wx-is, wy-is) (mean-identity a b c d px py qx qy)
    ∙ out-right (a + b) (c + d) qx qy zx zy wx wy)

-- w is M times p: from z to w, and on to M times q, is as from z to w and the edge from p to q besides
kept-identity : (M zx zy wx wy px py qx qy : ℕ) → wx ≡ M * px → wy ≡ M * py
    → zx * wy + wx * (M * qy) + M * px * zy + M * M * (qx * py) ≡ wx * zy + M * qx * wy + zx * (M * py) + M * M * (px * qy)
kept-identity M zx zy wx wy px py qx qy wx-is wy-is = rw (wx-is, wy-is) (omega arith)

-- ---- where the drawn edge meets a stick

-- the ends of the drawn edge that passes a stick, and the point where it does, by its weights: the vertex of a kept one, the crossing point of a
-- removed one
module _ (L : Layer) (t : List ℕ) where
  abbrev start_of : Edge → Edge
  start_of e = cond (kept_at L t e) e (previous_kept L t e)

  abbrev end_of : Edge → Position
  end_of e = vertex L t (next_kept L t e)

  abbrev start_weight : Edge → ℕ
  start_weight e = cond (kept_at L t e) 1 (off e (end_of e))

  abbrev end_weight : Edge → ℕ
  end_weight e = cond (kept_at L t e) 0 (off e (vertex L t (previous_kept L t e)))

  abbrev spot : Edge → Homogeneous
  spot e = weighted (start_weight e) (end_weight e) (vertex L t (start_of e)) (end_of e)

-- its coordinate along the stick at denominator M, less where the stick begins
module _ (M s d b a : ℕ) (some : 0 < M) (is : s * d ≡ M) (after : b * d < a) (before : a < (b + 256) * d) where
  share-some : 0 < s
  share-some = by s is
    where
      by : (s : ℕ) → s * d ≡ M → 0 < s
      by zero e = absurd (omega arith)
      by (suc s) e = omega arith

  offset-within : (0 < s * a - M * b) × (s * a - M * b < 256 * M)
  offset-within =
      let low = mul-lt-mul_of_pos_left after share-some in
      let high = mul-lt-mul_of_pos_left before share-some in
      let at = ap (λ m. m * b) is in
      (omega arith, omega arith)

  offset-is : d * (M * b + (s * a - M * b)) ≡ M * a
  offset-is =
      let low = mul-lt-mul_of_pos_left after share-some in
      let at = ap (λ m. m * b) is in
      let sum : M * b + (s * a - M * b) ≡ s * a = omega arith in
      rw sum (omega (arith, ap (λ m. m * a) is))

-- from along the stick and across it to x and y
both-coordinates : (v : Bool) (M d c r o hx hy : ℕ)
    → d * (M * (256 * cond v r c) + o) ≡ M * cond v hy hx → cond v hx hy ≡ 256 * cond v c r * d
    → (d * (256 * M * c + cond v 0 o) ≡ M * hx) × (d * (256 * M * r + cond v o 0) ≡ M * hy)
both-coordinates true M d c r o hx hy along across = (omega (arith, ap (λ m. M * m) across), omega arith)
both-coordinates false M d c r o hx hy along across = (omega arith, omega (arith, ap (λ m. M * m) across))

module _ (L : Layer) (t : List ℕ) (sound : Sound L) (vertices : Vertices L t) (held : HeldFacts L t) where
  either_way : (x : Edge) → is_stick L x ≡ true → (kept_at L t x ≡ true) ⊎ ((kept_at L t x ≡ false) × (removed_at L t x ≡ true))
  either_way x stick = both-sides (removed_at L t x)
      (λ r. inr (both-sides (kept_at L t x) (λ k. absurd (not-both L t x k r)) (λ k. k), r))
      (λ r. inl (kept_of L t sound vertices x stick r).kept)

  -- the drawn edge that passes a stick
  passed : (x : Edge) → is_stick L x ≡ true → (p : Edge) × Drawn L t p × Owns L t p x
  passed x stick =
      let law = laws L sound in
      let k = held.some_kept x stick in
      let y : Edge = k.0 in
      let y-stick = on_one (walk_of L) law x y stick k.1 in
      let at = place (walk_of L) law y x y-stick (on-swap (walk_of L) law x y stick k.1) in
      subst (λ (u : Edge). (p : Edge) × Drawn L t p × Owns L t p u) at.2
      (owner L t sound vertices at.0 y (record { stick = y-stick; kept = k.2 }))

  start_is : {p x : Edge} → Drawn L t p → Owns L t p x → start_of L t x ≡ p
  start_is {p} {x} d o = elim (either_way x (owns-stick L t sound d.stick o)) [
    | inl k ↦ rw k (sym (owns-kept L t sound o k))
    | inr k ↦ rw k.0 (owner-previous L t sound vertices d o k.1)
  ]

  -- the point lies strictly inside the stick
  spot-inside : (x : Edge) → is_stick L x ≡ true → Within x (spot L t x)
  spot-inside x stick = elim (either_way x stick) [
    | inl k ↦
        let alone = proportional-sym (first-end (vertex L t x) (end_of L t x)) in
        rw k (within-proportional x (omega arith) alone (vertex-inside L t sound vertices x stick))
    | inr k ↦
        let own = passed x stick in
        rw k.0 (crosses→within _ _ x (crossed-between L t sound vertices own.1 (held.crossed own.0 own.1) own.2 k.1))
  ]

  spot-some : (x : Edge) → is_stick L x ≡ true → 0 < (spot L t x).d
  spot-some x stick = let w = spot-inside x stick in omega arith

  -- ---- the sticks at denominator M

  module _ (M : ℕ) (some : 0 < M) (share : Edge → ℕ) (is : (e : Edge) → is_stick L e ≡ true → share e * (spot L t e).d ≡ M) where
    -- the offset of the vertex on a stick
    unfoldable o : Edge → ℕ
    o e = share e * along_of e (spot L t e) - M * base e

    within : (x : Edge) → is_stick L x ≡ true → (0 < o x) × (o x < 256 * M)
    unfolding o
    within x stick =
        let w = spot-inside x stick in
        offset-within M (share x) (spot L t x).d (base x) (along_of x (spot L t x)) some (is x stick) w.after w.before

    abbrev X : Edge → ℕ
    X x = x_at (256 * M) o x

    abbrev Y : Edge → ℕ
    Y x = y_at (256 * M) o x

    -- the vertex on x is the mean of those of p and q
    record Mean (x p q : Edge) : Type 0 where
      x_is : (spot L t x).d * X x ≡ start_weight L t x * (M * (vertex L t p).x) + end_weight L t x * (M * (vertex L t q).x)
      y_is : (spot L t x).d * Y x ≡ start_weight L t x * (M * (vertex L t p).y) + end_weight L t x * (M * (vertex L t q).y)

    mean : (x : Edge) → is_stick L x ≡ true → Mean x (start_of L t x) (next_kept L t x)
    unfolding o
    mean x stick =
        let w = spot-inside x stick in
        let h = spot L t x in
        let along = offset-is M (share x) h.d (base x) (along_of x h) some (is x stick) w.after w.before in
        let both = both-coordinates x.vertical M h.d x.column x.row (o x) h.x h.y along w.on_line in
        record { x_is = both.0 ∙ out _ _ _ _; y_is = both.1 ∙ out _ _ _ _ }
      where
        out : (a b p q : ℕ) → M * (a * p + b * q) ≡ a * (M * p) + b * (M * q)
        out a b p q = omega arith

    mean-owned : {p x : Edge} → Drawn L t p → Owns L t p x → is_stick L x ≡ true → Mean x p (next_kept L t p)
    mean-owned {p} {x} d own stick =
        subst (λ (y : Edge). Mean x y (next_kept L t p)) (start_is d own)
        (subst (Mean x (start_of L t x)) (owner-next L t sound vertices d own) (mean x stick))

    mean-kept : (x : Edge) → is_stick L x ≡ true → kept_at L t x ≡ true → (X x ≡ M * (vertex L t x).x) × (Y x ≡ M * (vertex L t x).y)
    mean-kept x stick k =
        let x_is = rw k at (mean x stick).x_is in
        let y_is = rw k at (mean x stick).y_is in
        (omega arith, omega arith)

    -- ---- one step, and all

    -- what the drawn edge from x adds and takes, if x is kept
    abbrev drawn_adds : Edge → ℕ
    drawn_adds x = cond (kept_at L t x) (M * M * ((vertex L t x).x * (end_of L t x).y)) 0

    abbrev drawn_takes : Edge → ℕ
    drawn_takes x = cond (kept_at L t x) (M * M * ((end_of L t x).x * (vertex L t x).y)) 0

    -- From the vertex on x to that on the next stick, and on to where the drawn edge there ends, at r, is as from x to where its own drawn edge
    -- ends, at q, but for the drawn edge that starts at the next stick, if one does.
    abbrev Step : Edge → Edge → Edge → Type 0
    Step x q r =
        X x * Y (next L x) + X (next L x) * (M * (vertex L t r).y) + M * (vertex L t q).x * Y x + drawn_takes (next L x)
        ≡ X (next L x) * Y x + M * (vertex L t r).x * Y (next L x) + X x * (M * (vertex L t q).y) + drawn_adds (next L x)

    module _ (x : Edge) (stick : is_stick L x ≡ true) {p : Edge} (d : Drawn L t p) (own : Owns L t p x) where
      abbrev x' : Edge
      x' = next L x

      stick' : is_stick L x' ≡ true
      stick' = next-stick L sound x stick

      step-removed : (kept_at L t x' ≡ false) → removed_at L t x' ≡ true → Step x (next_kept L t p) (next_kept L t p)
      step-removed k r =
          let q : Edge = next_kept L t p in
          let z = mean-owned d own stick in
          let w = mean-owned d (goes_on own refl r) stick' in
          let c = collinear (start_weight L t x) (end_weight L t x) (start_weight L t x') (end_weight L t x')
          (M * (vertex L t p).x) (M * (vertex L t p).y) (M * (vertex L t q).x) (M * (vertex L t q).y) (X x) (Y x) (X x') (Y x')
          (spot-some x stick) (spot-some x' stick') z.x_is z.y_is w.x_is w.y_is in
          rw k (ap (λ m. m + 0) c)

      step_kept : kept_at L t x' ≡ true → Step x x' (next_kept L t x')
      step_kept k =
          let w = mean-kept x' stick' k in
          rw k (kept-identity M (X x) (Y x) (X x') (Y x') (vertex L t x').x (vertex L t x').y (end_of L t x').x (end_of L t x').y w.0 w.1)

    step : (x : Edge) → is_stick L x ≡ true → Step x (next_kept L t x) (next_kept L t (next L x))
    step x stick =
        let own = passed x stick in
        let p : Edge = own.0 in
        let d = own.1 in
        let end : next_kept L t x ≡ next_kept L t p = owner-next L t sound vertices d own.2 in
        elim (either_way (next L x) (next-stick L sound x stick)) [
          | inl k ↦
              let here = end ∙ ends_at L t sound vertices d own.2 (kept-not-removed L t (next L x) k) in
              subst (λ (q : Edge). Step x q (next_kept L t (next L x))) (sym here) (step_kept x stick d own.2 k)
          | inr k ↦
              let end' = owner-next L t sound vertices d (goes_on own.2 refl k.1) in
              subst (λ (q : Edge). Step x q (next_kept L t (next L x))) (sym end)
              (subst (Step x (next_kept L t p)) (sym end') (step-removed x stick d own.2 k.0 k.1))
        ]

    -- what the edge from the vertex on x to where its drawn edge ends adds and takes, less what the drawn edge from x does
    abbrev rises : Edge → ℕ
    rises x = X x * (M * (end_of L t x).y) + drawn_takes x

    abbrev falls : Edge → ℕ
    falls x = M * (end_of L t x).x * Y x + drawn_adds x

    telescope : (n : ℕ) (x : Edge) → is_stick L x ≡ true
        → total (λ e. X e * Y (next L e)) (run (walk_of L) n x) + rises (ahead (walk_of L) n x) + falls x + total drawn_takes (run (walk_of L) n x)
        ≡ total (λ e. X (next L e) * Y e) (run (walk_of L) n x) + falls (ahead (walk_of L) n x) + rises x + total drawn_adds (run (walk_of L) n x)
    unfolding run ahead
    telescope zero x stick = omega arith
    telescope (suc n) x stick =
        omega (arith, step x stick, telescope n (next L x) (next-stick L sound x stick))

    drawn-total : (g : Ends → ℕ) (l : List Edge)
        → total (λ x. cond (kept_at L t x) (M * M * g (drawn_from L t x)) 0) l ≡ M * M * total g (drawn_among L t l)
    drawn-total g [] = omega arith
    drawn-total g (x ∷ l) =
        let later = drawn-total g l in
        both-sides (kept_at L t x) (λ k. rw k (omega arith)) (λ k. rw k (omega arith))

    balance : (f : Edge) → is_stick L f ≡ true → Balanced L t M o f
    balance f f-stick =
        let law = laws L sound in
        let whole = telescope (length (contour_of L f)) f f-stick in
        omega (
          arith,
          rw (sym (contour-run (walk_of L) law f f-stick), (round (walk_of L) law f f-stick).back) at whole,
          drawn-total (λ d. (vertex L t d.from).x * (vertex L t d.to).y) (contour_of L f),
          drawn-total (λ d. (vertex L t d.to).x * (vertex L t d.from).y) (contour_of L f),
        )

-- a polygon M times as large with a vertex on each stick of the layer, so balanced for every contour
pub record Scaled (L : Layer) (t : List ℕ) : Type 0 where
  pub M : ℕ
  pub o : Edge → ℕ
  pub within : AllOffsets L (256 * M) o
  pub balanced : (f : Edge) → first (walk_of L) f ≡ true → Balanced L t M o f

pub scaled : (L : Layer) (t : List ℕ) → Accepted L t → Scaled L t
scaled L t accepted =
    let sound = accepted.sound in
    let vertices = vertices-of L t sound accepted.entries in
    let held = held_of L t sound accepted.held in
    let above : (e : Edge) → 0 < occurrences (walk_of L) e (walked (walk_of L)) → 0 < (spot L t e).d =
    λ e on. both-sides (is_stick L e) (spot-some L t sound vertices held e) (λ n. absurd (omega (arith, permutation L sound e, ap as_number n))) in
    let s = shares L (λ e. (spot L t e).d) (walked (walk_of L)) above in
    let is : (e : Edge) → is_stick L e ≡ true → s.share e * (spot L t e).d ≡ s.M =
    λ e stick. s.is e (omega (arith, permutation L sound e, ap as_number stick)) in
    record {
      M = s.M;
      o = o L t sound vertices held s.M s.some s.share is;
      within = within L t sound vertices held s.M s.some s.share is;
      balanced = λ f is-first.
          balance L t sound vertices held s.M s.some s.share is f (first_one (walk_of L) (laws L sound) f is-first);
    }
