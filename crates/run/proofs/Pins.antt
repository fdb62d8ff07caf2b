-- What is removed of a run that passes is pinned nowhere: every pinned entry stays as it is.
use mathlib.Core.Path.{◌≡◌, ◌∙◌}
use mathlib.Core.Bool.{true, not, ◌&&◌}
use mathlib.Core.List.{List, [], ◌∷◌, foldl}
use Prim.Native.Nat.{ℕ}
use borrow.Author.Tests.{not-true}
use Rattle.arith.specs.Lists.{each}
use Rattle.arith.proofs.Booleans.{and_split}
use Rattle.grid.specs.Layer.{Layer}
use Rattle.grid.specs.declared.edge.Edge.{Edge}
use Rattle.chord.specs.Points.{Position}
use Rattle.chord.specs.Crossing.{crosses, slides_within}
use Rattle.table.specs.Vertices.{pinned_at, offset_at}
use Rattle.table.specs.Stores.{without}
use Rattle.table.specs.Pins.{PinsStay}
use Rattle.table.specs.declared.entry.Entry.TheVariants.{Removed}
use Rattle.table.proofs.Stores.{store-elsewhere}
use Rattle.table.proofs.Pins.{pins-same, other-entry}
use Rattle.drawn.specs.Drawn.{vertex}
use Rattle.run.specs.Runs.{stick_after, between, chord_passes, passes}

module _ (L : Layer) (t₀ : List ℕ) (tolerance : ℕ) where
  -- the sticks are tested on t₀, and their vertices removed one after the other
  removed-pins : (p q : Position) (c : List Edge) → each (chord_passes L t₀ tolerance p q) c ≡ true → (t : List ℕ) → PinsStay t₀ t
      → PinsStay t₀ (foldl (without L) t c)
  removed-pins p q [] h t stay = stay
  removed-pins p q (u ∷ c) h t stay =
      let both = and_split (chord_passes L t₀ tolerance p q u) (each (chord_passes L t₀ tolerance p q) c) h in
      let over = crosses p q u && slides_within tolerance p q u (offset_at L t₀ u) in
      let unpinned = not-true (pinned_at L t₀ u) (and_split over (not (pinned_at L t₀ u)) both.0).1 in
      removed-pins p q c both.1 (without L t u)
      (record {
        same_entry = λ k pin. store-elsewhere L t u (Removed (offset_at L t u)) k (other-entry L t₀ u unpinned k pin) ∙ stay.same_entry k pin;
      })

  pub inner-pins : (e : Edge) (n : ℕ) → passes L t₀ tolerance e n ≡ true → PinsStay t₀ (foldl (without L) t₀ (between L e n))
  unfolding passes
  inner-pins e n yes-all = removed-pins (vertex L t₀ e) (vertex L t₀ (stick_after L n e)) (between L e n) yes-all t₀ pins-same
