-- The drawn edges of contours as lists. Those of one contour start at its kept vertices, each at one, and each begins where the one before
-- ended, back to the first. Those of all contours start at all kept vertices of sticks, each at one, and are as many as the kept entries; by number
-- they are the same.
use mathlib.Core.Path.{◌≡◌, refl, sym, ap, ◌∙◌}
use mathlib.Core.Bool.{true, cond}
use mathlib.Core.List.{List, [], ◌∷◌, ◌++◌, map, flatten}
use Prim.Native.Nat.{ℕ, zero, suc, ◌*◌, ◌<◌}
use native.Mathlib.Omega.{arith}
use lib.ListN.{length, get_or, length-map}
use Rattle.arith.specs.Booleans.{as_number}
use Rattle.arith.proofs.Booleans.{both-sides}
use Rattle.arith.specs.Lists.{among}
use Rattle.arith.specs.Ranges.{count}
use Rattle.arith.proofs.Finite.{sum_same, count-sum}
use Rattle.grid.specs.Layer.{Layer}
use Rattle.grid.specs.Edges.{is_stick, edge_at, edge_count}
use Rattle.grid.specs.Questions.{Sound}
use Rattle.grid.specs.declared.edge.Edge.{Edge}
use Rattle.grid.specs.Questions.{Yes}
use Rattle.grid.proofs.Numbers.{edge_at-within}
use Rattle.step.specs.Walk.{next}
use Rattle.step.proofs.Walks.{next-stick}
use Rattle.contour.specs.Walk.{occurrences, OnContour, ahead, walked}
use Rattle.contour.specs.Contours.{walk_of, sticks_by_number, contour_of, first_sticks, same_edge}
use Rattle.contour.proofs.Orbit.{run, round, contour-run}
use Rattle.contour.proofs.Members.{once, on_one, on-next, on-self, on-swap, on-trans, length-counts}
use Rattle.contour.proofs.Sticks.{laws, same-edge}
use Rattle.contour.proofs.Theorems.{permutation, sticks-once}
use Rattle.table.specs.Entries.{entry_of, entries_answer}
use Rattle.table.specs.Kept.{kept_entry}
use Rattle.table.specs.Vertices.{is_kept, kept_at, removed_at}
use Rattle.drawn.specs.Neighbours.{next_kept}
use Rattle.drawn.specs.Drawn.{Drawn, Ends, drawn_from, drawn_among, drawn_of, drawn_along, drawn_edges, drawn_by_number, starts, Leads}
use Rattle.drawn.proofs.Gaps.{not-both}
use Rattle.drawn.proofs.Vertices.{Vertices, no-vertices-of, kept_of, next-over, next_here}

module _ (L : Layer) (t : List ℕ) where
  -- Among any sticks: each drawn edge is that of its start,
  pub each-from-start : (l : List Edge) → drawn_among L t l ≡ map (drawn_from L t) (starts (drawn_among L t l))
  each-from-start [] = refl
  each-from-start (x ∷ l) = both-sides (kept_at L t x)
      (λ k. rw k (ap (λ (m : List Ends). drawn_from L t x ∷ m) (each-from-start l)))
      (λ k. rw k (each-from-start l))

  -- a stick is one as often as it stands there, if it is kept,
  pub start-counts : (y : Edge) (l : List Edge)
      → occurrences (walk_of L) y (starts (drawn_among L t l)) ≡ as_number (kept_at L t y) * occurrences (walk_of L) y l
  unfolding occurrences
  start-counts y [] = omega arith
  start-counts y (x ∷ l) =
      let here : as_number (kept_at L t y) * as_number (same_edge y x) ≡ as_number (kept_at L t x) * as_number (same_edge y x) =
      both-sides (same_edge y x)
      (λ s. ap (λ (z : Edge). as_number (kept_at L t z) * as_number (same_edge y x)) (same-edge y x s))
      (λ s. rw s (omega arith)) in
      both-sides (kept_at L t x)
      (λ k. rw k (omega (arith, start-counts y l, rw k at here)))
      (λ k. rw k (omega (arith, start-counts y l, rw k at here)))

  -- and there are as many as kept ones.
  pub drawn-length : (l : List Edge) → length (drawn_among L t l) ≡ among (kept_at L t) l
  drawn-length [] = refl
  drawn-length (x ∷ l) = both-sides (kept_at L t x) (λ k. rw k (omega (arith, drawn-length l))) (λ k. rw k (omega (arith, drawn-length l)))

  drawn-append : (l m : List Edge) → drawn_among L t (l ++ m) ≡ drawn_among L t l ++ drawn_among L t m
  drawn-append [] m = refl
  drawn-append (x ∷ l) m = both-sides (kept_at L t x)
      (λ k. rw k (ap (λ (m : List Ends). drawn_from L t x ∷ m) (drawn-append l m)))
      (λ k. rw k (drawn-append l m))

  -- those of contours, one after the other, are those of the sticks that they pass
  pub drawn-along : (order : List Edge) → drawn_along L t order ≡ drawn_among L t (flatten (map (contour_of L) order))
  unfolding flatten
  drawn-along [] = refl
  drawn-along (f ∷ order) =
      ap (λ (m : List Ends). drawn_of L t f ++ m) (drawn-along order) ∙ sym (drawn-append (contour_of L f) (flatten (map (contour_of L) order)))

-- the first kept vertex from a stick on
abbrev pub kept_from_here : Layer → List ℕ → Edge → Edge
kept_from_here L t x = cond (kept_at L t x) x (next_kept L t x)

-- Of one contour
module _ (L : Layer) (t : List ℕ) (sound : Sound L) (f : Edge) (stick : is_stick L f ≡ true) where
  -- they start at its kept vertices,
  pub starts-only : (e : Edge) → 0 < occurrences (walk_of L) e (starts (drawn_of L t f)) → Drawn L t e × OnContour (walk_of L) f e
  starts-only e o =
      let often = start-counts L t e (contour_of L f) in
      both-sides (kept_at L t e)
      (λ k.
      let on : OnContour (walk_of L) f e = omega (arith, rw k at often) in
      (record { stick = on_one (walk_of L) (laws L sound) f e stick on; kept = k }, on))
      (λ k. absurd (omega (arith, rw k at often)))

  -- each at one,
  pub starts-once : (e : Edge) → Drawn L t e → OnContour (walk_of L) f e → occurrences (walk_of L) e (starts (drawn_of L t f)) ≡ 1
  starts-once e d on =
      omega (arith, rw d.kept at (start-counts L t e (contour_of L f)), once (walk_of L) (laws L sound) f e stick)

  -- and if it has one, each begins where the one before ended, and the last ends where the first began.
  module _ (vertices : Vertices L t) (y : Edge) (on-y : OnContour (walk_of L) f y) (y_kept : kept_at L t y ≡ true) where
    -- the next kept vertex is the first from the next stick on
    pub next_kept-from : (x : Edge) → OnContour (walk_of L) f x → next_kept L t x ≡ kept_from_here L t (next L x)
    next_kept-from x on = both-sides (removed_at L t (next L x))
        (λ r. next-over L t sound vertices x y one to-y y_kept r ∙ skipped r)
        (λ r. next_here L t sound vertices x y one to-y y_kept r
        ∙ rw (kept_of L t sound vertices (next L x) (next-stick L sound x one) r).kept)
      where
        one : is_stick L x ≡ true
        one = on_one (walk_of L) (laws L sound) f x stick on

        to-y : OnContour (walk_of L) x y
        to-y = on-trans (walk_of L) (laws L sound) x f y one (on-swap (walk_of L) (laws L sound) f x stick on) on-y

        skipped : removed_at L t (next L x) ≡ true → next_kept L t (next L x) ≡ kept_from_here L t (next L x)
        skipped r = both-sides (kept_at L t (next L x)) (λ k. absurd (not-both L t (next L x) k r)) (λ k. rw k)

    leads : (n : ℕ) (x : Edge) → OnContour (walk_of L) f x
        → Leads (kept_from_here L t x) (drawn_among L t (run (walk_of L) n x)) (kept_from_here L t (ahead (walk_of L) n x))
    unfolding run ahead
    leads zero x on = refl
    leads (suc n) x on =
        let later = rw (sym (next_kept-from x on)) at (leads n (next L x) (on-next (walk_of L) (laws L sound) f x stick on)) in
        both-sides (kept_at L t x) (λ k. rw k (refl, later)) (λ k. rw k later)

    pub closes : Leads (kept_from_here L t f) (drawn_of L t f) (kept_from_here L t f)
    closes =
        let law = laws L sound in
        let whole = leads (length (contour_of L f)) f (on-self (walk_of L) law f stick) in
        rw (sym (contour-run (walk_of L) law f stick), (round (walk_of L) law f stick).back) at whole

-- Of all sticks, in any order that has each once
module _ (L : Layer) (t : List ℕ) (sound : Sound L) where
  module _ (sticks : List Edge) (each-once : (e : Edge) → occurrences (walk_of L) e sticks ≡ as_number (is_stick L e)) where
    -- they start at all kept vertices of sticks, each at one,
    starts-of-all : (e : Edge) → occurrences (walk_of L) e (starts (drawn_among L t sticks)) ≡ as_number (kept_at L t e) * as_number (is_stick L e)
    starts-of-all e = start-counts L t e sticks ∙ ap (λ (n : ℕ). as_number (kept_at L t e) * n) (each-once e)

    -- and where each entry suits its edge they are as many as the table has kept entries.
    module _ (yes-6 : entries_answer L t ≡ Yes) where
      kept_entry_lem : (k : ℕ) → k < edge_count L.size
          → as_number (kept_at L t (edge_at L.size k)) * as_number (is_stick L (edge_at L.size k)) ≡ as_number (kept_entry t k)
      unfolding kept_at
      kept_entry_lem k h =
          let w = edge_at-within L.size sound.whole.sized k h in
          let same : kept_at L t (edge_at L.size k) ≡ kept_entry t k = ap (λ (n : ℕ). is_kept (entry_of (get_or t n 0))) w.1 in
          both-sides (is_stick L (edge_at L.size k))
          (λ o. rw o (omega (arith, ap as_number same)))
          (λ o. rw o (omega (arith, ap as_number (sym same ∙ ap is_kept (no-vertices-of L t sound yes-6 (edge_at L.size k) w.0 o)))))

      all_ones : (e : Edge) → 0 < occurrences (walk_of L) e (starts (drawn_among L t sticks)) → is_stick L e ≡ true
      all_ones e h = both-sides (is_stick L e) (λ o. o) (λ o. absurd (omega (arith, rw o at (starts-of-all e))))

      many-of-all : length (drawn_among L t sticks) ≡ count (kept_entry t) (edge_count L.size)
      many-of-all =
          let drawn = drawn_among L t sticks in
          sym (length-map drawn (λ d. d.from))
          ∙ sym (length-counts (walk_of L) (laws L sound) (starts drawn) all_ones)
          ∙ sum_same (λ k. occurrences (walk_of L) (edge_at L.size k) (starts drawn)) (λ k. as_number (kept_entry t k)) (edge_count L.size)
          (λ k h. starts-of-all (edge_at L.size k) ∙ kept_entry_lem k h)
          ∙ sym (count-sum (kept_entry t) (edge_count L.size))

  -- contour by contour
  pub all-starts : (e : Edge) → occurrences (walk_of L) e (starts (drawn_edges L t)) ≡ as_number (kept_at L t e) * as_number (is_stick L e)
  all-starts e =
      ap (λ (l : List Ends). occurrences (walk_of L) e (starts l)) (drawn-along L t (first_sticks L))
      ∙ starts-of-all (walked (walk_of L)) (permutation L sound) e

  pub drawn-many : entries_answer L t ≡ Yes → length (drawn_edges L t) ≡ count (kept_entry t) (edge_count L.size)
  drawn-many yes-6 = ap length (drawn-along L t (first_sticks L)) ∙ many-of-all (walked (walk_of L)) (permutation L sound) yes-6

  -- by number: the same edges, as many
  pub number-starts : (e : Edge) → occurrences (walk_of L) e (starts (drawn_by_number L t)) ≡ as_number (kept_at L t e) * as_number (is_stick L e)
  number-starts = starts-of-all (sticks_by_number L) (sticks-once L sound)

  pub same-starts : (e : Edge) → occurrences (walk_of L) e (starts (drawn_by_number L t)) ≡ occurrences (walk_of L) e (starts (drawn_edges L t))
  same-starts e = number-starts e ∙ sym (all-starts e)

  pub number-many : entries_answer L t ≡ Yes → length (drawn_by_number L t) ≡ count (kept_entry t) (edge_count L.size)
  number-many = many-of-all (sticks_by_number L) (sticks-once L sound)
