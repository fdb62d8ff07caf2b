-- One contour walked once: its kept vertices counted, or its items written, and what the outputs hold when the walk is back.
use mathlib.Core.Path.{◌≡◌, refl, sym, ap, ◌∙◌}
use mathlib.Core.Bool.{Bool, true, false}
use mathlib.Core.List.{List, [], ◌∷◌, foldl}
use Prim.Native.Nat.{ℕ, ◌+◌, ◌≤◌}
use native.Mathlib.Omega.{arith}
use lib.ListN.{length}
use Rattle.arith.specs.Booleans.{as_number}
use Rattle.arith.proofs.Lists.{among-most}
use Rattle.grid.specs.Layer.{Layer}
use Rattle.grid.specs.declared.edge.Edge.{Edge}
use Rattle.grid.proofs.Numbers.{edges-small}
use Rattle.contour.specs.Contours.{walk_of, contour_of}
use Rattle.contour.proofs.Orbit.{round}
use Rattle.contour.proofs.Laps.{OnLap, on_lap, due-stick, lap-turn}
use Rattle.contour.proofs.Sticks.{laws}
use Rattle.chord.specs.Points.{position}
use Rattle.table.specs.Vertices.{is_kept, offset_in, entry_at, kept_at, offset_at}
use Rattle.table.specs.declared.entry.Entry.{Entry}
use Rattle.table.specs.Lent.{LentAt}
use Rattle.drawn.specs.Drawn.{vertex, drawn_among, drawn_of}
use Rattle.drawn.proofs.DrawnEdges.{drawn-length}
use Rattle.item.specs.Items.{point_in_samples, item_to}
use Rattle.polyline.specs.Items.{items_to, contour_items}
use Rattle.item.specs.Writing.{Buffers, write_item, Room}
use Rattle.item.specs.declared.item.Item.{Item}
use Rattle.item.specs.declared.item.Point.{Point}
use Rattle.item.proofs.Writing.{room-first, room_next}

-- the items for the kept vertices of a list of sticks, by whether the move is still due
abbrev pub items_among : Layer → List ℕ → Bool → List Edge → List Item
items_among L t due l = items_to L t due (drawn_among L t l)

-- The work on the stick x, from b to b': its item is written if its vertex is kept, and else nothing; the items after it are left.
pub record StickWritten (L : Layer) (t : List ℕ) (x : Edge) (due : Bool) (b : Buffers) (due' : Bool) (b' : Buffers) : Type 0 where
  pub same : (l : List Edge) → foldl write_item b (items_among L t due (x ∷ l)) ≡ foldl write_item b' (items_among L t due' l)
  pub room : (l : List Edge) → Room b (items_among L t due (x ∷ l)) → Room b' (items_among L t due' l)

module _ (L : Layer) (t : List ℕ) (x : Edge) (due : Bool) where
  left-kept : kept_at L t x ≡ true → (l : List Edge)
      → items_among L t due (x ∷ l) ≡ item_to due (point_in_samples (vertex L t x)) ∷ items_among L t false l
  left-kept k l = rw k

  left-none : kept_at L t x ≡ false → (l : List Edge) → items_among L t due (x ∷ l) ≡ items_among L t due l
  left-none k l = rw k

module _ {L : Layer} {t : List ℕ} {x : Edge} {due : Bool} {b : Buffers} where
  pub written-kept : {item : Item} {b' : Buffers} → kept_at L t x ≡ true → item ≡ item_to due (point_in_samples (vertex L t x))
      → b' ≡ write_item b item → StickWritten L t x due b false b'
  written-kept k item-is w =
      rw (w, item-is)
      (record {
        same = λ l. ap (foldl write_item b) (left-kept L t x due k l);
        room = λ l r. room_next b (item_to due (point_in_samples (vertex L t x))) (items_among L t false l) (rw (left-kept L t x due k l) at r);
      })

  pub written_none : kept_at L t x ≡ false → StickWritten L t x due b due b
  written_none k = record {
    same = λ l. ap (foldl write_item b) (left-none L t x due k l);
    room = λ l r. rw (left-none L t x due k l) at r;
  }

-- what the entry of the stick x says, and the item that leads to its vertex
module _ (L : Layer) (t : List ℕ) (x : Edge) {entry : Entry} (is : entry ≡ entry_at L t x) where
  pub kept-is : {b : Bool} → b ≡ is_kept entry → kept_at L t x ≡ b
  unfolding kept_at
  kept-is e = sym (e ∙ ap is_kept is)

  pub item-is : (due : Bool) {o : ℕ} {p : Point} {item : Item} → o ≡ offset_in entry → p ≡ point_in_samples (position x o) → item ≡ item_to due p
      → item ≡ item_to due (point_in_samples (vertex L t x))
  unfolding offset_at
  item-is due o p i = i ∙ ap (item_to due) p ∙ ap (λ (n : ℕ). item_to due (point_in_samples (position x n))) (o ∙ ap offset_in is)

-- A walk round the contour of f, begun with b₀, stands with b: what is still to be written makes the whole.
pub record PartWritten (L : Layer) (t : List ℕ) (f : Edge) (left : List Edge) (due : Bool) (b b₀ : Buffers) : Type 0 where
  pub lap : OnLap L f left
  pub still : foldl write_item b (items_among L t due left) ≡ foldl write_item b₀ (contour_items L t f)
  pub room : Room b (items_among L t due left)

module _ {L : Layer} {t : List ℕ} {f : Edge} (given : LentAt L t f) {b₀ : Buffers} where
  pub writes_start : Room b₀ (contour_items L t f) → {left : List Edge} → left ≡ contour_of L f → PartWritten L t f left true b₀ b₀
  writes_start room all = rw all (record { lap = on_lap given.sound given.stick refl; still = refl; room = room })

  module _ {left : List Edge} {due : Bool} {b : Buffers} (g : PartWritten L t f left due b b₀) where
    module _ {x : Edge} {left' : List Edge} (next : left ≡ x ∷ left') where
      pub writes-here : LentAt L t x
      writes-here = record { sound = given.sound; exact = given.exact; stick = due-stick given.sound g.lap next }

      -- there is room for the item of a kept vertex
      pub writes-room : kept_at L t x ≡ true → Room b (item_to due (point_in_samples (vertex L t x)) ∷ [])
      writes-room k = room-first b _ _ (rw (next, left-kept L t x due k left') at g.room)

      pub writes-turn : {due' : Bool} {b' : Buffers} → StickWritten L t x due b due' b' → PartWritten L t f left' due' b' b₀
      writes-turn {due'} {b'} w = record {
        lap = lap-turn given.sound g.lap next;
        still = sym (w.same left') ∙ (rw next at g.still);
        room = w.room left' (rw next at g.room);
      }

-- A walk round the contour of f stands with n kept vertices counted: those still to come make all
pub record PartTallied (L : Layer) (t : List ℕ) (f : Edge) (left : List Edge) (n : ℕ) : Type 0 where
  pub lap : OnLap L f left
  pub tallied : n + length (drawn_among L t left) ≡ length (drawn_of L t f)

module _ {L : Layer} {t : List ℕ} {f : Edge} (given : LentAt L t f) where
  pub tally-start : {left : List Edge} → left ≡ contour_of L f → PartTallied L t f left 0
  tally-start all = rw all (record { lap = on_lap given.sound given.stick refl; tallied = omega arith })

  module _ {left : List Edge} {n : ℕ} (g : PartTallied L t f left n) where
    -- no more than the layer has sticks
    pub tally-few : n ≤ 2095104
    tally-few =
        omega (
          arith,
          g.tallied,
          drawn-length L t (contour_of L f),
          among-most (kept_at L t) (contour_of L f),
          (round (walk_of L) (laws L given.sound) f given.stick).within,
          edges-small L.size given.sound.whole.sized,
        )

    module _ {x : Edge} {left' : List Edge} (next : left ≡ x ∷ left') where
      pub tally-here : LentAt L t x
      tally-here = record { sound = given.sound; exact = given.exact; stick = due-stick given.sound g.lap next }

      pub tally-turn : {n' : ℕ} → n' ≡ n + as_number (kept_at L t x) → PartTallied L t f left' n'
      tally-turn work = record {
        lap = lap-turn given.sound g.lap next;
        tallied =
            omega (
              arith,
              work,
              g.tallied,
              ap (λ (m : List Edge). length (drawn_among L t m)) next,
              drawn-length L t (x ∷ left'),
              drawn-length L t left',
            );
      }

    pub tally-end : left ≡ [] → n ≡ length (drawn_of L t f)
    tally-end over = omega (arith, g.tallied, ap (λ (m : List Edge). length (drawn_among L t m)) over)
