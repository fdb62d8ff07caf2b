-- What a yes to question 6 says of each edge, stick or not, and that going on from a kept vertex ends at a kept vertex.
use mathlib.Core.Path.{◌≡◌, refl, ap, sym, ◌∙◌}
use mathlib.Core.Bool.{Bool, true, false, false≢true, ◌||◌}
use mathlib.Core.List.{List, [], ◌∷◌}
use Prim.Native.Nat.{ℕ, zero, suc, ◌≤◌, ◌<◌}
use native.Mathlib.Omega.{arith}
use borrow.Author.Tests.{not-false}
use lib.ListN.{length, get_or}
use Rattle.arith.proofs.Booleans.{both-sides}
use Rattle.grid.specs.Layer.{Layer}
use Rattle.grid.specs.Edges.{is_stick, in_grid, number, edge_count}
use Rattle.grid.specs.Questions.{Sound}
use Rattle.grid.specs.declared.edge.Edge.{Edge}
use Rattle.grid.specs.declared.refusal.Refusal.TheVariants.{WrongEntry}
use Rattle.grid.specs.Questions.{Yes}
use Rattle.grid.proofs.Answers.{each_all}
use Rattle.grid.proofs.Numbers.{number-below, edge_at-number}
use Rattle.step.specs.Walk.{next}
use Rattle.step.proofs.Walks.{next-stick}
use Rattle.contour.specs.Walk.{OnContour, ahead, Round}
use Rattle.contour.specs.Contours.{walk_of, contour_of}
use Rattle.contour.proofs.Orbit.{round}
use Rattle.contour.proofs.Members.{place}
use Rattle.contour.proofs.Sticks.{laws, stick-in}
use Rattle.table.specs.Entries.{suits, wrong_at, entries_answer}
use Rattle.table.specs.Vertices.{entry_at, kept_at, removed_at, offset_at}
use Rattle.table.specs.declared.entry.Entry.TheVariants.{Nothing}
use Rattle.table.proofs.Entries.{offset-inside, suits-vertex, suits-other}
use Rattle.drawn.specs.Neighbours.{kept_from, gap_after, next_kept}
use Rattle.drawn.proofs.Gaps.{kept-not-removed, stepped, kept-over, kept_here, gap-over, gap_here, kept-fuel, gap-fuel, stops}
use Rattle.drawn.specs.Drawn.{Drawn, VertexInside}

-- each stick has a vertex strictly inside
abbrev pub Vertices : Layer → List ℕ → Type 0
Vertices L t = (e : Edge) → is_stick L e ≡ true → VertexInside L t e

module _ (L : Layer) (t : List ℕ) (sound : Sound L) (yes-6 : entries_answer L t ≡ Yes) where
  -- the entry of an edge of the grid suits it
  pub edge-suits : (e : Edge) → in_grid L.size e ≡ true → suits (is_stick L e) (entry_at L t e) ≡ true
  unfolding entries_answer
  edge-suits e inside =
      let sized = sound.whole.sized in
      ap (λ (x : Edge). suits (is_stick L x) (entry_at L t e)) (sym (edge_at-number L.size sized e inside))
      ∙ not-false _
      (each_all WrongEntry (wrong_at L t) (edge_count L.size) yes-6 (number L.size e) (number-below L.size sized e inside))

  pub vertices-of : Vertices L t
  unfolding kept_at removed_at offset_at
  vertices-of e stick =
      let s : suits true (entry_at L t e) ≡ true = rw stick at (edge-suits e (stick-in L e stick)) in
      let i = offset-inside (get_or t (number L.size e) 0) s in
      record { kept_or_removed = suits-vertex (entry_at L t e) s; after_start = i.low; before_end = omega (arith, i.high) }

  pub no-vertices-of : (e : Edge) → in_grid L.size e ≡ true → is_stick L e ≡ false → entry_at L t e ≡ Nothing
  no-vertices-of e inside none = suits-other (entry_at L t e) (rw none at (edge-suits e inside))

or-second : (a b : Bool) → (a || b) ≡ true → b ≡ false → a ≡ true
or-second true b e f = refl
or-second false b e f = absurd (false≢true (sym f ∙ e))

module _ (L : Layer) (t : List ℕ) (sound : Sound L) (vertices : Vertices L t) where
  -- a stick that is not removed is kept
  pub kept_of : (e : Edge) → is_stick L e ≡ true → removed_at L t e ≡ false → Drawn L t e
  kept_of e stick n =
      record { stick = stick; kept = or-second (kept_at L t e) (removed_at L t e) (vertices e stick).kept_or_removed n }

  pub kept_from-stick : (n : ℕ) (e : Edge) → is_stick L e ≡ true → is_stick L (kept_from (next L) L t n e) ≡ true
  unfolding kept_from
  kept_from-stick zero e stick = next-stick L sound e stick
  kept_from-stick (suc n) e stick = both-sides (removed_at L t (next L e))
      (λ r. rw (kept-over (next L) L t n e r) (kept_from-stick n (next L e) (next-stick L sound e stick)))
      (λ r. rw (kept_here (next L) L t (suc n) e r) (next-stick L sound e stick))

  stepped-ahead : (k : ℕ) (e : Edge) → ahead (walk_of L) k e ≡ stepped (next L) k e
  unfolding ahead stepped
  stepped-ahead zero e = refl
  stepped-ahead (suc k) e = stepped-ahead k (next L e)

  -- the walk from a stick of a contour with a kept vertex reaches a kept vertex, and stops there
  module _ (e x : Edge) (stick : is_stick L e ≡ true) (on : OnContour (walk_of L) e x) (x-kept : kept_at L t x ≡ true) where
    kept-after : (k : ℕ) × (k ≤ edge_count L.size) × (removed_at L t (stepped (next L) (suc k) e) ≡ false)
    unfolding ahead
    kept-after =
        let law = laws L sound in
        let p = place (walk_of L) law e x stick on in
        let r = round (walk_of L) law e stick in
        go p.0 (length (contour_of L e)) p.1 p.2 r
      where
        x-not : (k : ℕ) → ahead (walk_of L) k e ≡ x → removed_at L t (stepped (next L) k e) ≡ false
        x-not k m = rw (sym (stepped-ahead k e) ∙ m) (kept-not-removed L t x x-kept)

        go : (k n : ℕ) → k < n → ahead (walk_of L) k e ≡ x → Round (walk_of L) e n
            → (k : ℕ) × (k ≤ edge_count L.size) × (removed_at L t (stepped (next L) (suc k) e) ≡ false)
        go k zero l m r = absurd (omega arith)
        go zero (suc n) l m r = (n, omega (arith, r.within), x-not (suc n) (r.back ∙ m))
        go (suc k) (suc n) l m r = (k, omega (arith, r.within), x-not (suc k) m)

    pub next-not-removed : removed_at L t (next_kept L t e) ≡ false
    next-not-removed = let k = kept-after in stops (next L) L t (edge_count L.size) k.0 e k.1 k.2

    pub next_drawn : Drawn L t (next_kept L t e)
    next_drawn = kept_of (next_kept L t e) (kept_from-stick (edge_count L.size) e stick) next-not-removed

    -- the next kept one, by one step
    pub next-over : removed_at L t (next L e) ≡ true → next_kept L t e ≡ next_kept L t (next L e)
    next-over r =
        sym (kept-fuel (next L) L t (edge_count L.size) e next-not-removed) ∙ kept-over (next L) L t (edge_count L.size) e r

    pub next_here : removed_at L t (next L e) ≡ false → next_kept L t e ≡ next L e
    next_here r = kept_here (next L) L t (edge_count L.size) e r

    -- and the removed sticks before it
    pub after-over : removed_at L t (next L e) ≡ true → gap_after L t e ≡ next L e ∷ gap_after L t (next L e)
    after-over r =
        sym (gap-fuel (next L) L t (edge_count L.size) e next-not-removed) ∙ gap-over (next L) L t (edge_count L.size) e r

    pub after-here : removed_at L t (next L e) ≡ false → gap_after L t e ≡ []
    after-here r = gap_here (next L) L t (edge_count L.size) e r
