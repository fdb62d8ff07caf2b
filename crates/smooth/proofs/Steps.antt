-- The step at one stick of a sound layer whose vertices are all kept: the segment between the neighbours meets the closed stick at a v of 0 to
-- 256, the new offset is 1 to 255, and nothing else changes; a pinned vertex is skipped.
use mathlib.Core.Path.{◌≡◌, refl, sym, subst, ap}
use mathlib.Core.Logic.{◌≢◌}
use mathlib.Core.Bool.{Bool, true, false, cond, not}
use mathlib.Core.List.{List}
use Prim.Native.Nat.{ℕ, ◌+◌, ◌*◌, ◌≤◌}
use native.Mathlib.Omega.{arith}
use lib.IntN.{pos}
use lib.ListN.{length, get_or}
use Rattle.arith.proofs.Booleans.{both-sides}
use Rattle.grid.specs.Layer.{Layer}
use Rattle.grid.specs.Edges.{number, is_stick}
use Rattle.grid.specs.Questions.{Sound}
use Rattle.grid.specs.declared.edge.Edge.{Edge}
use Rattle.step.specs.Walk.{upward, next, prev}
use Rattle.step.proofs.Walks.{next-stick, prev-stick}
use Rattle.chord.specs.Points.{Position, Point, Meets, slide}
use Rattle.chord.specs.Crossing.{base, distance, meeting, total}
use Rattle.table.specs.Vertices.{offset_in, pinned_at, offset_at}
use Rattle.table.specs.Stores.{slid}
use Rattle.table.specs.Pins.{PinsStay}
use Rattle.table.specs.declared.entry.Entry.TheVariants.{Kept}
use Rattle.table.proofs.Entries.{Inside}
use Rattle.table.proofs.AllKept.{AllKept, offset-inside}
use Rattle.table.proofs.Stores.{store-elsewhere, store_length, store-here, store-all-kept}
use Rattle.table.proofs.Pins.{pins-same, store-pins}
use Rattle.drawn.specs.Drawn.{vertex}
use Rattle.offset.specs.Offset.{rounded, Around}
use Rattle.smooth.specs.Smooth.{smoothed_at, Pass, passed, visit}
use Rattle.offset.proofs.Meeting.{meeting-inside, meets}
use Rattle.smooth.proofs.Neighbours.{Beside, next-beside, prev-beside, beside-apart}
use Rattle.offset.proofs.Offsets.{new-at, new-inside}

-- what a step does: a pinned vertex is skipped, any other is slid
module _ (L : Layer) (s : Pass) (e : Edge) where
  abbrev pub slid_to : Pass
  slid_to =
      let new : ℕ = smoothed_at L s.table e in
      passed (slid L s.table e new) (s.total + distance (offset_at L s.table e) new)

  pub visit-skips : pinned_at L s.table e ≡ true → visit L s e ≡ s
  unfolding visit
  visit-skips pin = ap (λ (b : Bool). cond b s slid_to) pin

  pub visit-slides : pinned_at L s.table e ≡ false → visit L s e ≡ slid_to
  unfolding visit
  visit-slides unpinned = ap (λ (b : Bool). cond b s slid_to) unpinned

  -- so what holds of what is left in either case holds of the step
  visit-either : (P : Pass → Type 0) → P s → (pinned_at L s.table e ≡ false → P slid_to) → P (visit L s e)
  visit-either P skipped moved = both-sides (pinned_at L s.table e)
      (λ pin. subst P (sym (visit-skips pin)) skipped)
      (λ unpinned. subst P (sym (visit-slides unpinned)) (moved unpinned))

  -- a total only grows
  pub visit-more : s.total ≤ (visit L s e).total
  visit-more = visit-either (λ r. s.total ≤ r.total) (omega arith) (λ unpinned. omega arith)

  -- it changes no other entry
  pub visit-elsewhere : (k : ℕ) → k ≢ number L.size e → get_or (visit L s e).table k 0 ≡ get_or s.table k 0
  visit-elsewhere k other =
      visit-either (λ r. get_or r.table k 0 ≡ get_or s.table k 0) refl
      (λ unpinned. store-elsewhere L s.table e (Kept (smoothed_at L s.table e)) k other)

  pub visit-length : length (visit L s e).table ≡ length s.table
  visit-length =
      visit-either (λ r. length r.table ≡ length s.table) refl
      (λ unpinned. store_length L s.table e (Kept (smoothed_at L s.table e)))

  -- and no pinned one
  pub visit-pins : PinsStay s.table (visit L s e).table
  visit-pins =
      visit-either (λ r. PinsStay s.table r.table) pins-same (store-pins L s.table e (Kept (smoothed_at L s.table e)))

module _ {L : Layer} (sound : Sound L) where
  -- the neighbours of a stick in a table whose vertices are all kept
  module _ {t : List ℕ} (kept : AllKept L t) (e : Edge) (stick : is_stick L e ≡ true) where
    pub previous-vertex : Beside (not (upward L e)) e (vertex L t (prev L e))
    previous-vertex =
        let i = offset-inside L t kept (prev L e) (prev-stick L sound e stick) in
        prev-beside L sound e stick (offset_at L t (prev L e)) i.low i.high

    pub next-vertex : Beside (upward L e) e (vertex L t (next L e))
    next-vertex =
        let i = offset-inside L t kept (next L e) (next-stick L sound e stick) in
        next-beside L sound e stick (offset_at L t (next L e)) i.low i.high

    -- they lie strictly on different sides of the stick's line, within its length along it
    pub neighbours-around : Around (vertex L t (prev L e)) (vertex L t (next L e)) e (offset_at L t e)
    neighbours-around =
        let inside = offset-inside L t kept e stick in
        record {
          apart = beside-apart (upward L e) e (vertex L t (prev L e)) (vertex L t (next L e)) previous-vertex next-vertex;
          p_from = previous-vertex.from;
          p_to = previous-vertex.to;
          q_from = next-vertex.from;
          q_to = next-vertex.to;
          low = inside.low;
          high = inside.high;
        }

    -- so v, which is meeting / total - base, lies in 0 to 256
    pub v-inside : let p : Position = vertex L t (prev L e) in
        let q : Position = vertex L t (next L e) in
        (base e * total p q e ≤ meeting p q e) × (meeting p q e ≤ (base e + 256) * total p q e)
    v-inside = meeting-inside _ _ e (offset_at L t e) neighbours-around

    -- "The segment between the neighbours meets the closed stick at v": there is a point that both have,
    pub neighbours-meet : (z : Point) × Meets z (vertex L t (prev L e)) (vertex L t (next L e)) e
    neighbours-meet = meets _ _ e (offset_at L t e) neighbours-around

    -- and with each such point, its difference from the old offset along the stick being v - old, "the new offset is old + 2/5 of (v - old)",
    -- rounded
    pub smoothed-is : (z : Point) → Meets z (vertex L t (prev L e)) (vertex L t (next L e)) e
        → pos (smoothed_at L t e) ≡ rounded (offset_at L t e) (slide z e (offset_at L t e)) z.d
    smoothed-is = new-at neighbours-around

    -- so the new offset is 1 to 255
    pub smoothed-inside : Inside (smoothed_at L t e)
    smoothed-inside = new-inside neighbours-around

  -- ---- a step

  module _ (s : Pass) (kept : AllKept L s.table) (e : Edge) (stick : is_stick L e ≡ true) where
    -- a vertex that is slid lies at its new offset
    pub slid-here : offset_at L (slid_to L s e).table e ≡ smoothed_at L s.table e
    unfolding offset_at
    slid-here =
        ap offset_in
        (store-here L sound s.table kept.whole e stick (Kept (smoothed_at L s.table e)) (smoothed-inside kept e stick))

    -- every vertex is kept, as before
    pub visit-kept : AllKept L (visit L s e).table
    visit-kept =
        visit-either L s e (λ r. AllKept L r.table) kept
        (λ unpinned.
        store-all-kept L sound s.table kept.whole e stick (Kept (smoothed_at L s.table e)) (smoothed-inside kept e stick) refl kept)

    -- the change is at most 254
    pub visit-total : (visit L s e).total ≤ s.total + 254
    visit-total =
        visit-either L s e (λ r. r.total ≤ s.total + 254) (omega arith)
        (λ unpinned. omega (arith, offset-inside L s.table kept e stick, smoothed-inside kept e stick))
