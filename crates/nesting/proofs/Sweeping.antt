-- What the sweep keeps: over a stick, along the sticks of a byte, and along a row; and where it may begin.
use mathlib.Core.Path.{◌≡◌, refl, ap, sym, ◌∙◌, subst}
use mathlib.Core.Bool.{Bool, true, false, not, beq}
use mathlib.Core.List.{List}
use Prim.Native.Nat.{ℕ, zero, suc, ◌+◌, ◌-◌, ◌*◌, ◌/◌, ◌%◌, ◌^◌, min, ◌≤◌, ◌<◌}
use native.Mathlib.Nat.{add-zero, div-add-mod'}
use native.Mathlib.Omega.{arith}
use Rattle.bitset.specs.Bits.{OneTaken}
use Rattle.bitset.specs.declared.ones.Ones.{Ones}
use Rattle.arith.specs.Ranges.{least}
use Rattle.arith.proofs.Booleans.{beq-yes, beq-no}
use Rattle.grid.specs.Layer.{Layer, bit, sample, stride}
use Rattle.grid.specs.Edges.{is_stick, StickBits}
use Rattle.grid.specs.Questions.{Sized, Sound}
use Rattle.grid.specs.declared.edge.Edge.{Edge}
use Rattle.grid.proofs.Numbers.{WithinGrid}
use Rattle.step.proofs.Walks.{stick-within, stick-sample}
use Rattle.contour.proofs.Bytes.{Left, left-start, left-found, left-shift, left-next, left-done}
use Rattle.bitset.specs.Sets.{has, set_bits}
use Rattle.contour.proofs.Scans.{place-below, horizontal-number}
use Rattle.winding.specs.Turns.{east, contours_around}
use Rattle.winding.proofs.Counts.{around-same, around-more, around-less, around-few, around-west}
use Rattle.nesting.specs.Bores.{BoreSet}
use Rattle.nesting.specs.Sweeps.{Counted, Swept, SweptAt}
use Rattle.nesting.specs.declared.sweep.Sweep.{Sweep}

module _ {L : Layer} (sound : Sound L) (r : ℕ) where
  -- no stick for n columns
  along : (n c : ℕ) → ((k : ℕ) → c ≤ k → k < c + n → is_stick L (east k r) ≡ false) → contours_around L (c + n) r ≡ contours_around L c r
  along zero c none = ap (λ (k : ℕ). contours_around L k r) (add-zero c)
  along (suc n) c none =
      let e : c + suc n ≡ c + n + 1 = omega arith in
      ap (λ (k : ℕ). contours_around L k r) e
      ∙ around-same sound (c + n) r (none (c + n) (omega arith) (omega arith))
      ∙ along n c (λ k a b. none k a (omega arith))

  pub none_between : {c d : ℕ} → c ≤ d → ((k : ℕ) → c ≤ k → k < d → is_stick L (east k r) ≡ false)
      → contours_around L d r ≡ contours_around L c r
  none_between {c} {d} h none =
      let e : c + (d - c) ≡ d = omega arith in
      subst (λ (k : ℕ). contours_around L k r ≡ contours_around L c r) e
      (along (d - c) c (λ k a b. none k a (omega arith)))

-- Over a stick

other : (a b : Bool) → not a ≡ b → a ≡ not b
other true b e = ap not e
other false b e = ap not e

module _ {L : Layer} {s : List ℕ} (bores : BoreSet L s) {w : Sweep} (here : SweptAt L w) where
  pub here-within : WithinGrid L.size (east w.column w.row)
  here-within = stick-within L bores.sound (east w.column w.row) here.stick

  pub here_place : w.row * (L.size.width - 1) + w.column < set_bits
  here_place =
      rw (horizontal-number L.size (east w.column w.row) refl) at (place-below L bores.sound (east w.column w.row) here.stick refl)

  pub here-few : w.around < 512
  here-few = omega (arith, here.counted, around-few bores.sound w.column w.row (omega (arith, here-within.column_below)) (omega (arith, here-within.row_below)))

  -- inside and on a bore, or neither: one more is around; else one less
  module _ {inside bore : Bool} (is-inside : inside ≡ sample L w.column w.row) (is-bore : bore ≡ has s (w.row * (L.size.width - 1) + w.column)) where
    pub crossed-more : beq inside bore ≡ true → w.around + 1 ≡ contours_around L (w.column + 1) w.row
    crossed-more e =
        let one : contours_around L (w.column + 1) w.row ≡ contours_around L w.column w.row + 1 =
        around-more bores.sound w.column w.row here.stick
        (sym is-inside ∙ beq-yes inside bore e ∙ is-bore ∙ bores.says w.column w.row here.stick) in
        omega (arith, here.counted)

    pub crossed-less : beq inside bore ≡ false → w.around ≡ contours_around L (w.column + 1) w.row + 1
    crossed-less e =
        let one : contours_around L w.column w.row ≡ contours_around L (w.column + 1) w.row + 1 =
        around-less bores.sound w.column w.row here.stick
        (sym is-inside ∙ other inside _ (beq-no inside bore e ∙ is-bore ∙ bores.says w.column w.row here.stick)) in
        omega (arith, here.counted)

-- Along the sticks of byte `at`: x has the bits of the columns from c on

pub record ByteSwept (L : Layer) (at r end x c n : ℕ) : Type 0 where
  pub left : Left L false at r c x
  pub in_byte : c ≤ 8 * at + 8
  pub reach : c ≤ end
  pub counted : n ≡ contours_around L c r

byte_of : (c : ℕ) → 8 * (c / 8) + c % 8 ≡ c
byte_of c = omega (arith, div-add-mod' c 8)

module _ {L : Layer} {end : ℕ} where
  -- the byte is one of the row
  pub byte-within : {w : Sweep} → Sized L.size → Swept L w end → w.column / 8 < stride L.size
  byte-within sized swept = omega (arith, swept.reach, swept.within, sized)

  pub byte-start : {w : Sweep} {x y : ℕ} → Swept L w end → StickBits L false (w.column / 8) w.row x → y ≡ x → y < 256
      → ByteSwept L (w.column / 8) w.row end (y / 2 ^ (w.column % 8)) w.column w.around
  byte-start {w} {x} {y} swept bits same wide =
      record {
        left =
            subst (λ (k : ℕ). Left L false (w.column / 8) w.row k (y / 2 ^ (w.column % 8))) (byte_of w.column)
            (rw same (left-shift L false (w.column / 8) w.row (8 * (w.column / 8)) x (left-start L false (w.column / 8) w.row x bits (omega arith)) (w.column % 8)));
        in_byte = omega (arith, byte_of w.column);
        reach = swept.reach;
        counted = swept.counted;
      }

module _ {L : Layer} {r end : ℕ} where
  module _ {at : ℕ} {x c n : ℕ} (b : ByteSwept L at r end x c n) {z : ℕ} (lowest : z ≡ least (bit x) 64) (low : z < 64) where
    found : (c + z < 8 * at + 8)
        × (is_stick L (east (c + z) r) ≡ true)
        × ((k : ℕ) → c ≤ k → k < c + z → is_stick L (east k r) ≡ false)
    found = left-found L false at r c x b.left z lowest low

    pub byte-room : c + z < 8 * at + 8
    byte-room = found.0

    module _ (sound : Sound L) where
      -- the lowest bit is the next stick: if it is not past the end the sweep stands at it,
      pub byte-stick : SweptAt L (record { row = r; column = c + z; around = n })
      byte-stick =
          record { stick = found.1; counted = b.counted ∙ sym (none_between sound r (omega arith) found.2) }

      -- and if it is past the end there is none up to there
      pub byte_past : end ≤ c + z → n ≡ contours_around L (min (8 * at + 8) end) r
      byte_past past =
          let e : end ≡ min (8 * at + 8) end = omega (arith, byte-room) in
          b.counted
          ∙ sym (none_between sound r b.reach (λ k a h. found.2 k a (omega arith)))
          ∙ ap (λ (k : ℕ). contours_around L k r) e

    pub byte-turn : {m : ℕ} → c + z < end → m ≡ contours_around L (c + z + 1) r
        → ByteSwept L at r end (x / 2 ^ z / 2) (c + z + 1) m
    byte-turn less counted =
        let e : c + (z + 1) ≡ c + z + 1 = omega arith in
        record {
          left = subst (λ (k : ℕ). Left L false at r k (x / 2 ^ z / 2)) e (left-next L false at r c x b.left z);
          in_byte = omega (arith, byte-room);
          reach = omega arith;
          counted = counted;
        }

  pub byte_last : {at x c n : ℕ} → ByteSwept L at r end x c n → Sound L → x ≡ 0 → n ≡ contours_around L (min (8 * at + 8) end) r
  byte_last {at} {x} {c} b sound none =
      b.counted
      ∙ sym (none_between sound r (omega (arith, b.reach, b.in_byte)) (λ k a h. left-done L false at r c x b.left none k a (omega arith)))

-- the same as the bits of the byte come, one after the other, of which the first is that of column c
module _ {L : Layer} {r end at n : ℕ} (c : ℕ) {s : Ones} (b : ByteSwept L at r end s.left (c + s.at) n) {k z : ℕ} {s' : Ones} (taken : OneTaken s k s' z) where
  place : c + s.at + z ≡ c + k
  place = omega (arith, taken.here)

  pub one-stick : Sound L → SweptAt L (record { row = r; column = c + k; around = n })
  one-stick sound = rw place at (byte-stick b taken.lowest taken.below sound)

  pub one_past : Sound L → end ≤ c + k → n ≡ contours_around L (min (8 * at + 8) end) r
  one_past sound past = byte_past b taken.lowest taken.below sound (omega (arith, place))

  pub one-turn : {m : ℕ} → c + k < end → m ≡ contours_around L (c + k + 1) r → ByteSwept L at r end s'.left (c + s'.at) m
  one-turn less counted =
      let next : c + s'.at ≡ c + s.at + z + 1 = omega (arith, taken.next) in
      rw (taken.left, next) (byte-turn b taken.lowest taken.below (omega (arith, place)) (rw (sym place) at counted))

-- Along the row, from byte to byte

module _ {L : Layer} {w : Sweep} {end : ℕ} (swept : Swept L w end) where
  pub row-turn : {m d : ℕ} → w.column < end → m ≡ contours_around L (min (8 * (w.column / 8) + 8) end) w.row
      → d ≡ min (8 * (w.column / 8) + 8) end → Swept L (record { row = w.row; column = d; around = m }) end
  row-turn less counted is =
      record {
        row_below = swept.row_below;
        reach = omega arith;
        within = swept.within;
        counted = counted ∙ sym (ap (λ (k : ℕ). contours_around L k w.row) is);
      }

  pub row_last : end ≤ w.column → w.around ≡ contours_around L end w.row
  row_last past =
      let e : w.column ≡ end = omega (arith, swept.reach) in
      swept.counted ∙ ap (λ (k : ℕ). contours_around L k w.row) e

-- Where a sweep to the west end of a stick may begin

module _ {L : Layer} (sound : Sound L) (e : Edge) (stick : is_stick L e ≡ true) where
  west : (e.column < L.size.width) × (e.row < L.size.height)
  west = stick-sample L sound e.vertical e.column e.row stick

  -- at the row's border, which no contour is around
  pub from-border : {w : Sweep} → w ≡ record { row = e.row; column = 0; around = 0 } → Swept L w e.column
  from-border is = rw is (record {
    row_below = west.1;
    reach = omega arith;
    within = west.0;
    counted = sym (around-west sound e.row west.1);
  })

  -- farther west in the row
  pub from-west : {w at : Sweep} → w ≡ at → Counted L at → at.row ≡ e.row → at.column ≤ e.column → Swept L w e.column
  from-west is counted row reach =
      rw is (record { row_below = rw row west.1; reach = reach; within = west.0; counted = counted })
