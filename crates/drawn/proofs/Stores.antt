-- What a store to the entry of a kept vertex does to the drawn edges: a slide, which changes the vertex's offset, a removal and a pin, which keep
-- it.
use mathlib.Core.Path.{◌≡◌, refl, ap, sym, subst, ◌∙◌}
use mathlib.Core.Logic.{◌≢◌}
use mathlib.Core.Bool.{true, ◌||◌}
use mathlib.Core.List.{List}
use Prim.Native.Nat.{ℕ}
use native.Mathlib.Omega.{arith}
use lib.ListN.{length}
use Rattle.arith.proofs.Booleans.{both-sides}
use Rattle.grid.specs.Layer.{Layer}
use Rattle.grid.specs.Edges.{is_stick, edge_count}
use Rattle.grid.specs.Questions.{Sound}
use Rattle.grid.specs.declared.edge.Edge.{Edge}
use Rattle.grid.specs.Questions.{Yes}
use Rattle.step.specs.Walk.{next, prev}
use Rattle.contour.specs.Contours.{walk_of, same_edge}
use Rattle.contour.proofs.Orbit.{unlike}
use Rattle.contour.proofs.Sticks.{laws, same-edge}
use Rattle.chord.specs.Points.{position}
use Rattle.table.specs.Entries.{entries_answer}
use Rattle.table.specs.Vertices.{is_kept, is_removed, offset_in, entry_at, kept_at, removed_at, offset_at}
use Rattle.table.specs.Stores.{store, slid, without, pinned}
use Rattle.table.specs.declared.entry.Entry.{Entry}
use Rattle.table.specs.declared.entry.Entry.TheVariants.{Kept, Removed, Pinned}
use Rattle.table.proofs.Entries.{Inside, inside-suits, suits-vertex, exclusive}
use Rattle.table.proofs.Stores.{store-here, store_other, store-alike, store-entries, store_length}
use Rattle.drawn.specs.Neighbours.{gap_after, gap_before, next_kept, previous_kept}
use Rattle.drawn.proofs.Gaps.{kept-not-removed, kept_same, gap_same}
use Rattle.drawn.specs.Drawn.{vertex, Drawn, VertexInside}
use Rattle.drawn.proofs.Vertices.{Vertices}
use Rattle.drawn.proofs.Removal.{OneMore}

module _ (L : Layer) (sound : Sound L) (t : List ℕ) (exact : length t ≡ edge_count L.size) (u : Edge) (drawn : Drawn L t u) where
  -- Any vertex stored

  module _ (x : Entry) (inside : Inside (offset_in x)) where
    stored-vertices : Vertices L t → Vertices L (store L.size t u x)
    unfolding kept_at removed_at offset_at
    stored-vertices vertices e stick = both-sides (same_edge e u)
        (λ s. subst (VertexInside L (store L.size t u x)) (sym (same-edge e u s))
        (made u (suits-vertex x (inside-suits x inside)) inside (store-here L sound t exact u drawn.stick x inside)))
        (λ s.
        let v = vertices e stick in
        made e v.kept_or_removed (record { low = v.after_start; high = omega (arith, v.before_end) })
        (store_other L sound t exact u drawn.stick x inside e stick (unlike (walk_of L) (laws L sound) e u s)))
      where
        made : (e : Edge) {y : Entry} → (is_kept y || is_removed y) ≡ true → Inside (offset_in y) → entry_at L (store L.size t u x) e ≡ y
            → VertexInside L (store L.size t u x) e
        made e {y} either inside q = record {
          kept_or_removed = ap (λ (y : Entry). is_kept y || is_removed y) q ∙ either;
          after_start = omega (arith, ap offset_in q, inside.low);
          before_end = omega (arith, ap offset_in q, inside.high);
        }

  -- A kept vertex stored in place of a kept one: what is kept or removed stays so

  module _ (x : Entry) (inside : Inside (offset_in x)) (kept : is_kept x ≡ true) where
    abbrev stored : List ℕ
    stored = store L.size t u x

    stored-kept : (e : Edge) → kept_at L stored e ≡ kept_at L t e
    unfolding kept_at
    stored-kept = store-alike L sound t exact u drawn.stick x inside is_kept (kept ∙ sym drawn.kept)

    stored-removed : (e : Edge) → removed_at L stored e ≡ removed_at L t e
    unfolding removed_at
    stored-removed =
        store-alike L sound t exact u drawn.stick x inside is_removed (exclusive x kept ∙ sym (kept-not-removed L t u drawn.kept))

    stored_next : (e : Edge) → next_kept L stored e ≡ next_kept L t e
    stored_next = kept_same (next L) L t stored stored-removed (edge_count L.size)

    stored-after : (e : Edge) → gap_after L stored e ≡ gap_after L t e
    stored-after = gap_same (next L) L t stored stored-removed (edge_count L.size)

  -- A slide

  module _ (o : ℕ) (inside : Inside o) where
    pub slide-kept : (e : Edge) → kept_at L (slid L t u o) e ≡ kept_at L t e
    slide-kept = stored-kept (Kept o) inside refl

    pub slide-removed : (e : Edge) → removed_at L (slid L t u o) e ≡ removed_at L t e
    slide-removed = stored-removed (Kept o) inside refl

    pub slide-next : (e : Edge) → next_kept L (slid L t u o) e ≡ next_kept L t e
    slide-next = stored_next (Kept o) inside refl

    pub slide-after : (e : Edge) → gap_after L (slid L t u o) e ≡ gap_after L t e
    slide-after = stored-after (Kept o) inside refl

    pub slide-previous : (e : Edge) → previous_kept L (slid L t u o) e ≡ previous_kept L t e
    slide-previous = kept_same (prev L) L t (slid L t u o) slide-removed (edge_count L.size)

    pub slide-before : (e : Edge) → gap_before L (slid L t u o) e ≡ gap_before L t e
    slide-before = gap_same (prev L) L t (slid L t u o) slide-removed (edge_count L.size)

    pub slide-offset : offset_at L (slid L t u o) u ≡ o
    unfolding offset_at
    slide-offset = ap offset_in (store-here L sound t exact u drawn.stick (Kept o) inside)

    pub slide-vertex : (e : Edge) → is_stick L e ≡ true → e ≢ u → vertex L (slid L t u o) e ≡ vertex L t e
    unfolding offset_at
    slide-vertex e stick d = ap (λ (x : Entry). position e (offset_in x)) (store_other L sound t exact u drawn.stick (Kept o) inside e stick d)

    pub slide-vertices : Vertices L t → Vertices L (slid L t u o)
    slide-vertices = stored-vertices (Kept o) inside

    pub slide-entries : entries_answer L t ≡ Yes → entries_answer L (slid L t u o) ≡ Yes
    slide-entries = store-entries L sound t exact u drawn.stick (Kept o) inside

    pub slide-length : length (slid L t u o) ≡ edge_count L.size
    slide-length = store_length L t u (Kept o) ∙ exact

  -- A removal and a pin keep the offset

  module _ (vertices : Vertices L t) where
    inside : Inside (offset_at L t u)
    inside = let v = vertices u drawn.stick in record { low = v.after_start; high = omega (arith, v.before_end) }

    -- A removal: no vertex moves

    abbrev gone : Entry
    gone = Removed (offset_at L t u)

    pub removal-vertex : (e : Edge) → vertex L (without L t u) e ≡ vertex L t e
    unfolding offset_at
    removal-vertex e = ap (position e) (store-alike L sound t exact u drawn.stick gone inside offset_in refl e)

    pub removal-vertices : Vertices L (without L t u)
    removal-vertices = stored-vertices gone inside vertices

    pub removal-more : OneMore L t (without L t u) u
    unfolding removed_at
    removal-more = record {
      was_drawn = drawn;
      now_removed = ap is_removed (store-here L sound t exact u drawn.stick gone inside);
      others = λ e stick d. ap is_removed (store_other L sound t exact u drawn.stick gone inside e stick d);
    }

    pub removal-entries : entries_answer L t ≡ Yes → entries_answer L (without L t u) ≡ Yes
    removal-entries = store-entries L sound t exact u drawn.stick gone inside

    pub removal-length : length (without L t u) ≡ edge_count L.size
    removal-length = store_length L t u gone ∙ exact

    -- A pin

    abbrev fixed : Entry
    fixed = Pinned (offset_at L t u)

    pub pin-kept : (e : Edge) → kept_at L (pinned L t u) e ≡ kept_at L t e
    pin-kept = stored-kept fixed inside refl

    pub pin-next : (e : Edge) → next_kept L (pinned L t u) e ≡ next_kept L t e
    pin-next = stored_next fixed inside refl

    pub pin-after : (e : Edge) → gap_after L (pinned L t u) e ≡ gap_after L t e
    pin-after = stored-after fixed inside refl

    pub pin-vertex : (e : Edge) → vertex L (pinned L t u) e ≡ vertex L t e
    unfolding offset_at
    pin-vertex e = ap (position e) (store-alike L sound t exact u drawn.stick fixed inside offset_in refl e)

    pub pin-vertices : Vertices L (pinned L t u)
    pin-vertices = stored-vertices fixed inside vertices

    pub pin-entries : entries_answer L t ≡ Yes → entries_answer L (pinned L t u) ≡ Yes
    pin-entries = store-entries L sound t exact u drawn.stick fixed inside

    pub pin-length : length (pinned L t u) ≡ edge_count L.size
    pin-length = store_length L t u fixed ∙ exact
