-- How the scan for first sticks changes the set, and what it keeps true.
use Rattle.std.specs.Prelude.{◌≡◌, Bool, true, false, cond, not, List, ℕ, ◌+◌, ◌-◌, ◌*◌, min, ◌≤◌, ◌<◌, length}
use Rattle.grid.specs.Layer.{Layer}
use Rattle.grid.specs.Edges.{is_stick, number, kind_start}
use Rattle.grid.specs.Questions.{Sound}
use Rattle.grid.specs.declared.layer.Size.{Size}
use Rattle.grid.specs.declared.edge.Edge.{Edge}
use Rattle.bitset.specs.Sets.{words, has, with_number}
use Rattle.contour.specs.Walk.{Walk, first, seen}
use Rattle.contour.specs.Contours.{walk_of}

-- the bit of a stick is set as the walk passes it; vertical sticks have none
abbrev pub mark_edge : Size → List ℕ → Edge → List ℕ
mark_edge size t e = cond e.vertical t (with_number t (number size e))

-- what marking the contour of f is given
pub record Markable (L : Layer) (t : List ℕ) (f : Edge) : Type 0 where
  pub sound : Sound L
  pub stick : is_stick L f ≡ true
  pub sized : length t ≡ words

abbrev pub horizontal : Edge → Bool
horizontal e = not e.vertical

-- The scan stands at p: below p a bit says that the element is first, from p on that it counts and its contour begins below p.
pub record Marked (w : Walk) (carries : w.Element → Bool) (p : ℕ) (bit_at : ℕ → Bool) : Type 0 where
  pub below : (k : ℕ) → k < p → k < w.many → carries (w.at k) ≡ true → bit_at k ≡ first w (w.at k)
  pub from : (k : ℕ) → p ≤ k → k < w.many → carries (w.at k) ≡ true → bit_at k ≡ seen w p (w.at k)

-- what holds of the set while the scan of a sound layer stands at edge number p
pub record Scanned (L : Layer) (p : ℕ) (t : List ℕ) : Type 0 where
  pub sound : Sound L
  pub sized : length t ≡ words
  pub marked : Marked (walk_of L) horizontal p (has t)
  pub above : (k : ℕ) → kind_start L.size true ≤ k → has t k ≡ false

-- it stands at column c of row r, or at the row's end
pub record ScannedTo (L : Layer) (r c : ℕ) (t : List ℕ) : Type 0 where
  pub row_below : r < L.size.height
  pub scanned : Scanned L (r * (L.size.width - 1) + min c (L.size.width - 1)) t

-- it stands at the stick at column c of row r
pub record ScannedAt (L : Layer) (c r : ℕ) (t : List ℕ) : Type 0 where
  pub stick : is_stick L (record { vertical = false; column = c; row = r }) ≡ true
  pub scanned : Scanned L (r * (L.size.width - 1) + c) t
