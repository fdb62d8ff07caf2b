-- Items written out one after the other: what room they need, and what the outputs then hold.
use mathlib.Core.Path.{◌≡◌, refl, sym, ap, ◌∙◌}
use mathlib.Core.Logic.{◌⊎◌, inl, inr}
use mathlib.Core.List.{List, [], ◌∷◌, ◌++◌, flatten, foldl}
use Prim.Native.Nat.{ℕ, suc, ◌+◌, ◌≤◌}
use native.Mathlib.Nat.{add-zero, zero-add}
use native.Mathlib.Numerals.{add-one}
use native.Mathlib.Omega.{arith}
use lib.ListN.{length, length-append, set, length-set}
use lib.Seq.{sets, length-sets}
use Rattle.item.specs.Items.{byte_of, floats_in, bytes_of, floats_of}
use Rattle.item.specs.Writing.{Buffers, buffers_of, at_start, write_item, Room}
use Rattle.item.specs.declared.item.Item.{Item}
use Rattle.item.specs.declared.item.Item.TheVariants.{Move, Line}
use Rattle.item.specs.declared.item.Written.{Written}
use Rattle.std.specs.Prelude.{Float}

pub room_floats : (b : Buffers) (item : Item) → Room b (item ∷ []) → b.at.floats + length (floats_in item) ≤ length b.points
unfolding flatten
room_floats b item room = omega (arith, room.floats, length-append (floats_in item) [])

-- what the outputs are after an item of a known kind, at the places that come then
pub written : (items : List ℕ) (points : List Float) (at : Written) {item known : Item} → item ≡ known
    → {points' : List Float} → points' ≡ sets points at.floats (floats_in known)
    → {f : ℕ} → f ≡ at.floats + length (floats_in known)
    → buffers_of (set items at.items (byte_of known)) points' (record { items = at.items + 1; floats = f })
    ≡ write_item (buffers_of items points at) item
written items points at {known = known} is p f =
    (λ i. buffers_of (set items at.items (byte_of known)) (p i) (record { items = at.items + 1; floats = f i }))
    ∙ ap (write_item (buffers_of items points at)) (sym is)

-- for the two floats of an item that has a point
pub room-point : {b : Buffers} {item : Item} {x y : Float} → Room b (item ∷ []) → (item ≡ Move x y) ⊎ (item ≡ Line x y)
    → b.at.floats + 2 ≤ length b.points
unfolding flatten
room-point room is = elim is [
  | inl e ↦ omega (arith, room.floats, ap (λ (i : Item). length (floats_of (i ∷ []))) e)
  | inr e ↦ omega (arith, room.floats, ap (λ (i : Item). length (floats_of (i ∷ []))) e)
]

-- an item written leaves room for the others
pub room-first : (b : Buffers) (item : Item) (l : List Item) → Room b (item ∷ l) → Room b (item ∷ [])
unfolding flatten
room-first b item l room = record {
  bytes = omega (arith, room.bytes);
  floats = omega (arith, room.floats, length-append (floats_in item) (floats_of l), length-append (floats_in item) []);
}

pub room_next : (b : Buffers) (item : Item) (l : List Item) → Room b (item ∷ l) → Room (write_item b item) l
unfolding flatten
room_next b item l room = record {
  bytes = omega (arith, room.bytes, length-set b.items b.at.items (byte_of item));
  floats = omega (arith, room.floats, length-append (floats_in item) (floats_of l), length-sets b.points b.at.floats (floats_in item));
}

-- the outputs are as long as before
pub record AsLong (b b₀ : Buffers) : Type 0 where
  pub items : length b.items ≡ length b₀.items
  pub points : length b.points ≡ length b₀.points

long-by : (l : List Item) (b : Buffers) → AsLong (foldl write_item b l) b
long-by [] b = record { items = refl; points = refl }
long-by (item ∷ l) b =
    let later = long-by l (write_item b item) in
    record {
      items = later.items ∙ length-set b.items b.at.items (byte_of item);
      points = later.points ∙ length-sets b.points b.at.floats (floats_in item);
    }

pub fold-long : (b₀ : Buffers) (l : List Item) {b : Buffers} → b ≡ foldl write_item b₀ l → AsLong b b₀
fold-long b₀ l e = rw e (long-by l b₀)

-- Two lists of items, one after the other

pub floats-append : (l m : List Item) → length (floats_of (l ++ m)) ≡ length (floats_of l) + length (floats_of m)
unfolding flatten
floats-append [] m = omega arith
floats-append (item ∷ l) m =
    omega (
      arith,
      floats-append l m,
      length-append (floats_in item) (floats_of l),
      length-append (floats_in item) (floats_of (l ++ m)),
    )

pub room-left : (b : Buffers) (l m : List Item) → Room b (l ++ m) → Room b l
room-left b l m room = record {
  bytes = omega (arith, room.bytes, length-append l m);
  floats = omega (arith, room.floats, floats-append l m);
}

pub room-right : (l m : List Item) (b : Buffers) → Room b (l ++ m) → Room (foldl write_item b l) m
room-right [] m b room = room
room-right (item ∷ l) m b room = room-right l m (write_item b item) (room_next b item (l ++ m) room)

-- All of it at once

sets-append : {A : Type 0} (vs ws l : List A) (i : ℕ) → sets l i (vs ++ ws) ≡ sets (sets l i vs) (i + length vs) ws
sets-append [] ws l i = rw add-zero
sets-append (v ∷ vs) ws l i =
    let e : suc i + length vs ≡ i + suc (length vs) = omega arith in
    sets-append vs ws (set l i v) (suc i) ∙ ap (λ (k : ℕ). sets (sets (set l i v) (suc i) vs) k ws) e

pub fold_is : (l : List Item) (b : Buffers)
    → foldl write_item b l
    ≡ buffers_of (sets b.items b.at.items (bytes_of l)) (sets b.points b.at.floats (floats_of l))
    (record { items = b.at.items + length (bytes_of l); floats = b.at.floats + length (floats_of l) })
unfolding flatten
fold_is [] b = rw (add-zero b.at.items, add-zero b.at.floats)
fold_is (item ∷ l) b =
    let e : b.at.items + 1 + length (bytes_of l) ≡ b.at.items + suc (length (bytes_of l)) = omega arith in
    let f : b.at.floats + length (floats_in item) + length (floats_of l) ≡ b.at.floats + length (floats_in item ++ floats_of l) =
    omega (arith, length-append (floats_in item) (floats_of l)) in
    let s : sets (set b.items b.at.items (byte_of item)) (b.at.items + 1) (bytes_of l)
    ≡ sets (set b.items b.at.items (byte_of item)) (suc b.at.items) (bytes_of l) = rw add-one in
    let p = sets-append (floats_in item) (floats_of l) b.points b.at.floats in
    fold_is l (write_item b item) ∙ (λ i. buffers_of (s i) (sym p i) (record { items = e i; floats = f i }))

pub fold_start : (items : List ℕ) (points : List Float) (l : List Item)
    → foldl write_item (buffers_of items points at_start) l
    ≡ buffers_of (sets items 0 (bytes_of l)) (sets points 0 (floats_of l))
    (record { items = length (bytes_of l); floats = length (floats_of l) })
fold_start items points l =
    let n = zero-add (length (bytes_of l)) in
    let m = zero-add (length (floats_of l)) in
    fold_is l (buffers_of items points at_start)
    ∙ (λ i. buffers_of (sets items 0 (bytes_of l)) (sets points 0 (floats_of l)) (record { items = n i; floats = m i }))
