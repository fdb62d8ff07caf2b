-- What the loops of the scan keep: along a contour that is marked, along the sticks of a byte, and from row to row.
use mathlib.Core.Path.{◌≡◌, ap, sym, ◌∙◌}
use mathlib.Core.Bool.{true, false}
use mathlib.Core.List.{List, foldl, [], ◌∷◌}
use Prim.Native.Nat.{ℕ, ◌+◌, ◌-◌, ◌*◌, ◌/◌, ◌^◌, ◌≤◌, ◌<◌}
use native.Mathlib.Omega.{arith}
use lib.ListN.{length}
use Rattle.arith.specs.Ranges.{least}
use Rattle.grid.specs.Layer.{Layer, bit, stride}
use Rattle.grid.specs.Edges.{is_stick, StickBits}
use Rattle.grid.specs.Questions.{Sound}
use Rattle.grid.specs.declared.edge.Edge.{Edge}
use Rattle.grid.proofs.Samples.{last_byte}
use Rattle.bitset.specs.Bits.{OneTaken}
use Rattle.bitset.specs.declared.ones.Ones.{Ones}
use Rattle.bitset.specs.Sets.{words, set_bits, Empty, with_number}
use Rattle.step.proofs.Walks.{stick-within}
use Rattle.contour.specs.Contours.{contour_of}
use Rattle.contour.specs.Sets.{FirstSet}
use Rattle.contour.specs.Marking.{mark_edge, Markable, Scanned, ScannedTo, ScannedAt}
use Rattle.contour.proofs.Laps.{OnLap, on_lap, due-stick, lap-turn}
use Rattle.contour.proofs.Firsts.{fold-turn, fold_end}
use Rattle.contour.proofs.Bytes.{Left, left-start, left-found, left-next, left-done}
use Rattle.contour.proofs.Scans.{horizontal-number, place-below, mark-horizontal, length-mark, same_place, scan-skip, scan-start, scan-end}

-- Along the contour of f, which is marked in the set t₀: the walk stands at e, and marking what is left of it in t marks the whole

pub record PartMarked (L : Layer) (t₀ : List ℕ) (f : Edge) (t : List ℕ) (left : List Edge) : Type 0 where
  pub sized : length t ≡ words
  pub lap : OnLap L f left
  pub still : foldl (mark_edge L.size) t left ≡ foldl (mark_edge L.size) t₀ (contour_of L f)

module _ {L : Layer} {t₀ : List ℕ} {f : Edge} where
  pub marks-start : Markable L t₀ f → {left : List Edge} → left ≡ contour_of L f → PartMarked L t₀ f t₀ left
  marks-start given e =
      record { sized = given.sized; lap = on_lap given.sound given.stick e; still = ap (foldl (mark_edge L.size) t₀) e }

  module _ {t : List ℕ} {left : List Edge} (m : PartMarked L t₀ f t left) where
    module _ (sound : Sound L) {e : Edge} {left' : List Edge} (next : left ≡ e ∷ left') where
      marks-stick : is_stick L e ≡ true
      marks-stick = due-stick sound m.lap next

      -- a horizontal stick has a bit, which the work sets
      pub marks-place : e.vertical ≡ false → e.row * (L.size.width - 1) + e.column < set_bits
      marks-place flat = rw (horizontal-number L.size e flat) at (place-below L sound e marks-stick flat)

      pub marks-flat : e.vertical ≡ false → with_number t (e.row * (L.size.width - 1) + e.column) ≡ mark_edge L.size t e
      marks-flat flat = sym (ap (with_number t) (horizontal-number L.size e flat)) ∙ sym (mark-horizontal L.size t e flat)

      pub marks-turn : {t' : List ℕ} → t' ≡ mark_edge L.size t e → PartMarked L t₀ f t' left'
      marks-turn work =
          record {
            sized = ap length work ∙ length-mark L sound t e m.sized marks-stick;
            lap = lap-turn sound m.lap next;
            still = rw work (fold-turn (mark_edge L.size) t _ next m.still);
          }

    pub marks-end : left ≡ [] → t ≡ foldl (mark_edge L.size) t₀ (contour_of L f)
    marks-end over = fold_end (mark_edge L.size) t _ over m.still

-- Along the byte `at` of row r: the scan stands at column c, and x has the bits of the columns from there on

pub record ByteScanned (L : Layer) (at r : ℕ) (t : List ℕ) (x c : ℕ) : Type 0 where
  pub within : c ≤ 8 * at + 8
  pub left : Left L false at r c x
  pub to : ScannedTo L r c t

module _ {L : Layer} {at r : ℕ} {t : List ℕ} where
  pub byte-start : {x y : ℕ} → ScannedTo L r (8 * at) t → StickBits L false at r x → (y ≡ x) × (y < 256) → ByteScanned L at r t y (8 * at)
  byte-start {x} {y} to bits wide =
      record { within = omega arith; left = rw wide.0 (left-start L false at r x bits (omega (arith, wide))); to = to }

  module _ {x c : ℕ} (b : ByteScanned L at r t x c) where
    module _ {z : ℕ} (lowest : (z ≡ least (bit x) 64) × (z < 64)) where
      found : (c + z < 8 * at + 8)
          × (is_stick L (record { vertical = false; column = c + z; row = r }) ≡ true)
          × ((k : ℕ) → c ≤ k → k < c + z → is_stick L (record { vertical = false; column = k; row = r }) ≡ false)
      found = left-found L false at r c x b.left z lowest.0 lowest.1

      pub byte-room : c + z < 8 * at + 8
      byte-room = found.0

      -- the lowest bit is the next stick,
      pub byte-stick : ScannedAt L (c + z) r t
      byte-stick =
          let at-stick = (scan-skip b.to (c + z) (omega arith) found.2).scanned in
          let inner = (stick-within L at-stick.sound _ found.1).column_below in
          record { stick = found.1; scanned = same_place (omega arith) at-stick }

      -- and once it is scanned those above it are left
      pub byte-turn : {t' : List ℕ} → Scanned L (r * (L.size.width - 1) + (c + z) + 1) t' → ByteScanned L at r t' (x / 2 ^ z / 2) (c + (z + 1))
      byte-turn s =
          let inner = (stick-within L s.sound _ found.1).column_below in
          record {
            within = omega (arith, byte-room);
            left = left-next L false at r c x b.left z;
            to = record { row_below = b.to.row_below; scanned = same_place (omega arith) s };
          }

    pub byte_last : x ≡ 0 → ScannedTo L r (8 * (at + 1)) t
    byte_last none =
        let end : 8 * at + 8 ≡ 8 * (at + 1) = omega arith in
        rw end at (scan-skip b.to (8 * at + 8) b.within (left-done L false at r c x b.left none))

-- the same as the bits of the byte come, one after the other
module _ {L : Layer} {at r : ℕ} {t : List ℕ} {s : Ones} (b : ByteScanned L at r t s.left (8 * at + s.at)) where
  module _ {n z : ℕ} {s' : Ones} (taken : OneTaken s n s' z) where
    pub one-stick : ScannedAt L (8 * at + n) r t
    one-stick =
        let place : 8 * at + s.at + z ≡ 8 * at + n = omega (arith, taken.here) in
        rw place at (byte-stick b (taken.lowest, taken.below))

    pub one-turn : {t' : List ℕ} → Scanned L (r * (L.size.width - 1) + (8 * at + n) + 1) t' → ByteScanned L at r t' s'.left (8 * at + s'.at)
    one-turn {t'} scanned =
        let place : 8 * at + n ≡ 8 * at + s.at + z = omega (arith, taken.here) in
        let next : 8 * at + s'.at ≡ 8 * at + s.at + (z + 1) = omega (arith, taken.next) in
        rw (taken.left, next) (byte-turn b (taken.lowest, taken.below) (rw place at scanned))

-- From row to row

pub record RowsScanned (L : Layer) (t : List ℕ) (r : ℕ) : Type 0 where
  pub within : r ≤ L.size.height
  pub scanned : Scanned L (r * (L.size.width - 1)) t

module _ {L : Layer} {t : List ℕ} where
  pub rows_start : Sound L → Empty t → RowsScanned L t 0
  rows_start sound empty = record { within = omega arith; scanned = same_place (omega arith) (scan-start L sound t empty) }

  module _ {r : ℕ} where
    pub row-start : RowsScanned L t r → r < L.size.height → ScannedTo L r 0 t
    row-start rows less = record { row_below = less; scanned = same_place (omega arith) rows.scanned }

    -- the bytes of a row reach its end
    pub row_last : {at : ℕ} → ScannedTo L r (8 * at) t → stride L.size ≤ at → Scanned L ((r + 1) * (L.size.width - 1)) t
    row_last to all =
        let last = last_byte L.size to.scanned.sound.whole.sized in
        same_place (omega arith) to.scanned

    pub rows-turn : r < L.size.height → Scanned L ((r + 1) * (L.size.width - 1)) t → RowsScanned L t (r + 1)
    rows-turn less s = record { within = omega arith; scanned = s }

    pub rows_last : RowsScanned L t r → L.size.height ≤ r → FirstSet L t
    rows_last rows all =
        let end : r ≡ L.size.height = omega (arith, rows.within) in
        scan-end L rows.scanned.sound t (rw end at rows.scanned)
