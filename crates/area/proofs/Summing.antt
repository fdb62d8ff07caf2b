-- The sum along one contour. The walk stands at a stick; what is summed up to there, what the drawn edge from the last kept vertex to the
-- next one adds, and what the drawn edges that start later add, make the whole.
use mathlib.Core.Path.{◌≡◌, refl, sym, ◌∙◌, ap}
use mathlib.Core.Bool.{true, false}
use mathlib.Core.List.{List, [], ◌∷◌, map}
use Prim.Native.Nat.{ℕ, ◌+◌, ◌*◌, ◌^◌, ◌≤◌, ◌<◌}
use native.Mathlib.Omega.{arith}
use lib.IntN.{ℤ, pos, nat_abs, ◌+ℤ◌, +ℤ_assoc, +ℤ_idl, +ℤ_idr}
use lib.ListN.{length}
use Rattle.arith.proofs.Booleans.{both-sides}
use Rattle.std.specs.Prelude.{Option, Some, None}
use Rattle.grid.specs.Layer.{Layer}
use Rattle.grid.specs.Edges.{is_stick}
use Rattle.grid.specs.Questions.{Sound}
use Rattle.grid.specs.declared.edge.Edge.{Edge}
use Rattle.grid.proofs.Numbers.{edges-small}
use Rattle.step.specs.Walk.{next}
use Rattle.contour.specs.Walk.{Laws, rest, OnContour}
use Rattle.contour.proofs.Orbit.{round}
use Rattle.contour.specs.Contours.{walk_of, contour_of, same_edge, AtOn}
use Rattle.contour.specs.Remaining.{left_from}
use Rattle.contour.proofs.Loop.{Due, start, due-next, rest_more, rest-last}
use Rattle.contour.proofs.Laps.{OnLap, on_lap, lap-turn, lap-due, due-stick}
use Rattle.contour.proofs.Sticks.{laws, same-edge}
use Rattle.table.specs.Vertices.{entry_at, kept_at, offset_at}
use Rattle.table.specs.declared.entry.Entry.{Entry}
use Rattle.table.specs.Lent.{LentAt}
use Rattle.chord.specs.Runs.{NearEdge}
use Rattle.table.proofs.Lent.{has-entry}
use Rattle.drawn.proofs.Runs.{in-grid-near}
use Rattle.drawn.specs.Drawn.{vertex, drawn_among}
use Rattle.drawn.specs.Neighbours.{next_kept}
use Rattle.drawn.proofs.Vertices.{vertices-of}
use Rattle.drawn.proofs.DrawnEdges.{kept_from_here, next_kept-from}
use Rattle.held.proofs.HeldFacts.{held_of}
use Rattle.area.specs.declared.walk.Trail.{Trail}
use Rattle.area.specs.declared.walk.Walked.{Walked}
use Rattle.shoelace.specs.Adds.{cross, edge_adds, HeldStick}
use Rattle.area.specs.Areas.{sum_of, twice_area}
use Rattle.area.specs.Measuring.{leads, begins, closing, NearTrail, past_vertex, past, AreaFound}

-- where a walk along the contour of f stands: at the first of the sticks that are left, or back at f
abbrev pub at_head : Edge → List Edge → Edge
at_head f [] = f
at_head f (x ∷ left) = x

module _ {L : Layer} (sound : Sound L) where
  rest-head : {f x : Edge} → Due (walk_of L) f x → at_head f (rest (walk_of L) x f) ≡ x
  rest-head {f} {x} due = both-sides (same_edge (next L x) f)
      (λ s. rw (rest-last (walk_of L) (laws L sound) f x (next L x) due refl s) refl)
      (λ s. rw (rest_more (walk_of L) (laws L sound) f x (next L x) due refl s) refl)

  -- the stick after one that came is where the walk stands then
  next-from : (f : Edge) → is_stick L f ≡ true → (at : Option Edge) → AtOn L f at → {x : Edge} {left : List Edge} → left_from L f at ≡ x ∷ left
      → at_head f left ≡ next L x
  next-from f first None on e = absurd cc
  next-from f first (Some y) on {x} {left} is =
      let due : Due (walk_of L) f y = record { start_one = first; on = on y refl } in
      both-sides (same_edge (next L y) f)
      (λ s.
      let one = sym (rest-last (walk_of L) (laws L sound) f y (next L y) due refl s) ∙ is in
      let same : y ≡ x = cc in
      let none : [] ≡ left = cc in
      sym (ap (at_head f) none) ∙ sym (same-edge (next L y) f s) ∙ ap (next L) same)
      (λ s.
      let more = sym (rest_more (walk_of L) (laws L sound) f y (next L y) due refl s) ∙ is in
      let same : y ≡ x = cc in
      let later : rest (walk_of L) (next L y) f ≡ left = cc in
      sym (ap (at_head f) later) ∙ rest-head (due-next (walk_of L) (laws L sound) f y (next L y) due refl) ∙ ap (next L) same)

  next-head : {f : Edge} {left left' : List Edge} {x : Edge} → OnLap L f left → left ≡ x ∷ left' → at_head f left' ≡ next L x
  next-head {f} lap e = next-from f lap.first lap.at lap.on (sym lap.is ∙ e)

-- what the drawn edges that start among some sticks add
abbrev pub sum_among : Layer → List ℕ → List Edge → ℤ
sum_among L t l = sum_of (map (edge_adds L t) (drawn_among L t l))

-- where the trail begins: at the first kept vertex of the contour, which is still to come while there is none
abbrev OnTrail : Layer → List ℕ → Edge → Edge → Option Trail → Type 0
OnTrail L t f x None = kept_from_here L t x ≡ kept_from_here L t f
OnTrail L t f x (Some trail) = trail.begin ≡ vertex L t (kept_from_here L t f)

-- The walk along the contour of f stands at x, and has the sticks `later` before it, x first unless it is back.
pub record Summed (L : Layer) (t : List ℕ) (f x : Edge) (later : List Edge) (w : Walked) : Type 0 where
  pub still : w.area +ℤ leads w.trail (vertex L t (kept_from_here L t x)) +ℤ sum_among L t later ≡ twice_area L t f
  pub on_trail : OnTrail L t f x w.trail
  pub bounded : nat_abs w.area + 2 ^ 37 * length later ≤ 2 ^ 37 * length (contour_of L f)

module _ (L : Layer) (t : List ℕ) (f : Edge) where
  -- past a kept vertex, past any other, and back at the first
  begins-on : (x : Edge) (trail : Option Trail) → kept_at L t x ≡ true → OnTrail L t f x trail
      → begins trail (vertex L t x) ≡ vertex L t (kept_from_here L t f)
  begins-on x None kept on =
      let here : kept_from_here L t x ≡ x = rw kept in
      ap (vertex L t) (sym here ∙ on)
  begins-on x (Some trail) kept on = on

  over-on : (x x' : Edge) (trail : Option Trail) → kept_from_here L t x ≡ kept_from_here L t x' → OnTrail L t f x trail → OnTrail L t f x' trail
  over-on x x' None onward on = sym onward ∙ on
  over-on x x' (Some trail) onward on = on

  closing-is : (x : Edge) (trail : Option Trail) → OnTrail L t f x trail → closing trail ≡ leads trail (vertex L t (kept_from_here L t f))
  closing-is x None on = refl
  closing-is x (Some trail) on = ap (cross trail.last) on

module _ {L : Layer} {t : List ℕ} {f : Edge} (given : HeldStick L t f) where
  next_kept-is : (x : Edge) → OnContour (walk_of L) f x → next_kept L t x ≡ kept_from_here L t (next L x)
  next_kept-is x on =
      let all = given.accepted in
      let vertices = vertices-of L t all.sound all.entries in
      let kept = (held_of L t all.sound all.held).some_kept f given.stick in
      next_kept-from L t all.sound f given.stick vertices kept.0 kept.1 kept.2 x on

  module _ {x x' : Edge} {later : List Edge} {w : Walked} (here : Summed L t f x (x ∷ later) w) (on : OnContour (walk_of L) f x)
      (step : x' ≡ next L x) where
    -- past a kept vertex
    summed_kept : kept_at L t x ≡ true → nat_abs (w.area +ℤ leads w.trail (vertex L t x)) ≤ nat_abs w.area + 2 ^ 37
        → Summed L t f x' later (past_vertex w (vertex L t x))
    summed_kept kept small =
        let v = vertex L t x in
        let before : w.area +ℤ leads w.trail v +ℤ (cross v (vertex L t (next_kept L t x)) +ℤ sum_among L t later) ≡ twice_area L t f =
        rw kept at here.still in
        record {
          still =
              +ℤ_assoc (w.area +ℤ leads w.trail v) (cross v (vertex L t (kept_from_here L t x'))) (sum_among L t later)
              ∙ (rw (next_kept-is x on, sym step) at before);
          on_trail = begins-on L t f x w.trail kept here.on_trail;
          bounded = omega (arith, here.bounded, small);
        }

    -- past any other
    summed-over : kept_at L t x ≡ false → Summed L t f x' later w
    summed-over kept =
        let onward : kept_from_here L t x ≡ kept_from_here L t x' = rw kept (next_kept-is x on ∙ ap (kept_from_here L t) (sym step)) in
        let after : w.area +ℤ leads w.trail (vertex L t (kept_from_here L t x')) +ℤ sum_among L t later ≡ twice_area L t f =
        rw (next_kept-is x on, sym step) at (rw kept at here.still) in
        record { still = after; on_trail = over-on L t f x x' w.trail onward here.on_trail; bounded = omega (arith, here.bounded) }

    -- past the stick x
    summed-past : {entry : Entry} {w' : Walked} → entry ≡ entry_at L t x → w' ≡ past w x entry → nat_abs w'.area ≤ nat_abs w.area + 2 ^ 37 → Summed L t f x' later w'
    unfolding kept_at offset_at
    summed-past {w' = w'} read is small = both-sides (kept_at L t x)
        (λ k. let by : w' ≡ past_vertex w (vertex L t x) = is ∙ rw (read, k) in
        rw by (summed_kept k (rw by at small)))
        (λ k. let by : w' ≡ w = is ∙ rw (read, k) in rw by (summed-over k))

-- what is summed when the walk is back: the closing edge is still to come
pub record Closing (L : Layer) (t : List ℕ) (f : Edge) (w : Walked) : Type 0 where
  pub whole : w.area +ℤ closing w.trail ≡ twice_area L t f
  pub bounded : nat_abs w.area ≤ 2 ^ 37 * length (contour_of L f)

-- the invariant of the loop: `left` are the sticks that are left
pub record PartSummed (L : Layer) (t : List ℕ) (f : Edge) (left : List Edge) (w : Walked) : Type 0 where
  pub lap : OnLap L f left
  pub summed : Summed L t f (at_head f left) left w
  pub near : NearTrail w.trail

module _ {L : Layer} {t : List ℕ} {f : Edge} (given : HeldStick L t f) where
  abbrev law : Laws (walk_of L)
  law = laws L given.accepted.sound

  module _ {left : List Edge} where
    pub summed-start : left ≡ contour_of L f → PartSummed L t f left (record { area = pos 0; trail = None })
    unfolding twice_area
    summed-start all =
        let sound = given.accepted.sound in
        let head : at_head f left ≡ f = ap (at_head f) all ∙ rest-head sound (start (walk_of L) law f given.stick) in
        let summed : Summed L t f f (contour_of L f) (record { area = pos 0; trail = None }) =
        record { still = +ℤ_idl (sum_among L t (contour_of L f)); on_trail = refl; bounded = omega arith } in
        record { lap = on_lap sound given.stick all; summed = rw (head, all) summed; near = tt }

    module _ {w : Walked} (part : PartSummed L t f left w) where
      pub summed-small : nat_abs w.area ≤ 2 ^ 58
      summed-small =
          let few = (round (walk_of L) law f given.stick).within in
          omega (arith, part.summed.bounded, few, edges-small L.size given.accepted.sound.whole.sized)

      -- a stick comes
      module _ {x : Edge} {left' : List Edge} (next : left ≡ x ∷ left') where
        pub summed-here : LentAt L t x
        summed-here =
            record { sound = given.accepted.sound; exact = given.accepted.exact; stick = due-stick given.accepted.sound part.lap next }

        pub summed-edge : NearEdge x
        summed-edge =
            let entry = has-entry summed-here in
            in-grid-near L.size entry.sized x entry.in-grid

        pub summed_turn : {entry : Entry} {w' : Walked} → entry ≡ entry_at L t x → w' ≡ past w x entry → nat_abs w'.area ≤ nat_abs w.area + 2 ^ 37
            → NearTrail w'.trail → PartSummed L t f left' w'
        summed_turn read is small near =
            let sound = given.accepted.sound in
            record {
              lap = lap-turn sound part.lap next;
              summed = summed-past given (rw next at part.summed) (lap-due sound part.lap next).on (next-head sound part.lap next) read is small;
              near = near;
            }

      -- none is left
      pub summed-end : left ≡ [] → Closing L t f w
      summed-end over =
          let here = rw over at part.summed in
          let without : w.area +ℤ leads w.trail (vertex L t (kept_from_here L t f)) ≡ twice_area L t f =
          sym (+ℤ_idr (w.area +ℤ leads w.trail (vertex L t (kept_from_here L t f)))) ∙ here.still in
          record {
            whole = ap (λ (z : ℤ). w.area +ℤ z) (closing-is L t f f w.trail here.on_trail) ∙ without;
            bounded = omega (arith, here.bounded);
          }

  module _ {w : Walked} (done : Closing L t f w) where
    pub closing-small : nat_abs w.area ≤ 2 ^ 58
    closing-small =
        omega (
          arith,
          done.bounded,
          (round (walk_of L) law f given.stick).within,
          edges-small L.size given.accepted.sound.whole.sized,
        )

    pub area-found : {r : ℤ} → r ≡ w.area +ℤ closing w.trail → nat_abs r ≤ nat_abs w.area + 2 ^ 37 → AreaFound L t f r
    area-found is small =
        let some : 0 < length (contour_of L f) = (round (walk_of L) law f given.stick).some in
        record { is = is ∙ done.whole; most = omega (arith, done.bounded, small, some) }

-- the number of one contour
pub area_small : {L : Layer} {t : List ℕ} {f : Edge} {area : ℤ} → HeldStick L t f → AreaFound L t f area → nat_abs area ≤ 2 ^ 59
area_small {L} {t} {f} given found =
    omega (
      arith,
      found.most,
      (round (walk_of L) (laws L given.accepted.sound) f given.stick).within,
      edges-small L.size given.accepted.sound.whole.sized,
    )
