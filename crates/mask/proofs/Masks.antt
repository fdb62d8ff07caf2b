-- Bits of the bytes of a row, and of a byte against another: where they mark the sticks.
use mathlib.Core.Path.{◌≡◌, ap, ap₂, sym, ◌∙◌}
use mathlib.Core.Bool.{true, false, xor, and-false}
use Prim.Native.Nat.{ℕ, zero, suc, ◌+◌, ◌-◌, ◌*◌, ◌/◌, ◌%◌, ◌^◌, ◌≤◌, ◌<◌}
use native.Mathlib.Decide.{dec_lt}
use native.Mathlib.Omega.{arith}
use borrow.Author.Tests.{ltb-false, lt-ltb, le-ltb}
use lib.Arith.{digits_mod}
use lib.Bits.{bit_xor}
use lib.Dec.{eqb, ltb}
use Rattle.grid.specs.Layer.{Layer, stride, row_byte, bit, sample, follows}
use Rattle.grid.specs.Edges.{is_stick, StickBits}
use Rattle.grid.specs.Questions.{Whole, Sound}
use Rattle.grid.proofs.Samples.{byte-below}
use Rattle.grid.proofs.Borders.{east, on-border}
use Rattle.grid.proofs.Bits.{bit-xor, bit_past}

-- a byte moved down by one bit, with a bit of the next byte on top
below-eight : (P : ℕ → Type 0) → P 0 → P 1 → P 2 → P 3 → P 4 → P 5 → P 6 → (b : ℕ) → b < 7 → P b
below-eight P p0 p1 p2 p3 p4 p5 p6 zero h = p0
below-eight P p0 p1 p2 p3 p4 p5 p6 (suc zero) h = p1
below-eight P p0 p1 p2 p3 p4 p5 p6 (suc (suc zero)) h = p2
below-eight P p0 p1 p2 p3 p4 p5 p6 (suc (suc (suc zero))) h = p3
below-eight P p0 p1 p2 p3 p4 p5 p6 (suc (suc (suc (suc zero)))) h = p4
below-eight P p0 p1 p2 p3 p4 p5 p6 (suc (suc (suc (suc (suc zero))))) h = p5
below-eight P p0 p1 p2 p3 p4 p5 p6 (suc (suc (suc (suc (suc (suc zero)))))) h = p6
below-eight P p0 p1 p2 p3 p4 p5 p6 (suc (suc (suc (suc (suc (suc (suc b))))))) h = absurd (omega arith)

shifted : (x y b : ℕ) → x < 256 → b < 7 → (x / 2 + 128 * (y % 2)) / 2 ^ b % 2 ≡ x / 2 ^ (b + 1) % 2
shifted x y b h l =
    below-eight (λ (b : ℕ). (x / 2 + 128 * (y % 2)) / 2 ^ b % 2 ≡ x / 2 ^ (b + 1) % 2)
    (omega arith) (omega arith) (omega arith) (omega arith) (omega arith) (omega arith) (omega arith) b l

bit_shifted : (x y b : ℕ) → x < 256 → b < 7 → bit (x / 2 + 128 * (y % 2)) b ≡ bit x (b + 1)
unfolding bit
bit_shifted x y b h l = ap (λ (k : ℕ). eqb k 1) (shifted x y b h l)

bit-carried : (x y : ℕ) → x < 256 → bit (x / 2 + 128 * (y % 2)) 7 ≡ bit y 0
unfolding bit
bit-carried x y h =
    let e : (x / 2 + 128 * (y % 2)) / 2 ^ 7 % 2 ≡ y / 2 ^ 0 % 2 = omega arith in
    ap (λ (k : ℕ). eqb k 1) e

-- a bit of a row's byte is a sample
pub sample-bit : (L : Layer) (at b r : ℕ) → b < 8 → sample L (8 * at + b) r ≡ bit (row_byte L at r) b
unfolding sample
sample-bit L at b r h =
    let d : (8 * at + b) / 8 ≡ at = omega arith in
    let m : (8 * at + b) % 8 ≡ b = omega arith in
    rw (d, m)

module _ (L : Layer) (whole : Whole L) (at r : ℕ) (byte : row_byte L at r < 256) (at_less : at < stride L.size) where
  -- the byte moved down by one sample, for the two ways in which it is made
  follows-inner : (y b : ℕ) → b < 7 → bit (row_byte L at r / 2 + 128 * (y % 2)) b ≡ follows L (8 * at + b) r
  follows-inner y b h =
      let next : 8 * at + b + 1 ≡ 8 * at + (b + 1) = omega arith in
      let less : 8 * at + b + 1 < 8 * stride L.size = omega arith in
      bit_shifted (row_byte L at r) y b byte h
      ∙ sym (sample-bit L at (b + 1) r (omega arith))
      ∙ rw (lt-ltb (8 * at + b + 1) (8 * stride L.size) less, next)

  follows-carried : at + 1 < stride L.size → bit (row_byte L at r / 2 + 128 * (row_byte L (at + 1) r % 2)) 7 ≡ follows L (8 * at + 7) r
  follows-carried h =
      let next : 8 * at + 7 + 1 ≡ 8 * (at + 1) + 0 = omega arith in
      let less : 8 * at + 7 + 1 < 8 * stride L.size = omega arith in
      bit-carried (row_byte L at r) (row_byte L (at + 1) r) byte
      ∙ sym (sample-bit L (at + 1) 0 r (omega arith))
      ∙ rw (lt-ltb (8 * at + 7 + 1) (8 * stride L.size) less, next)

  follows-none : stride L.size ≤ at + 1 → bit (row_byte L at r / 2) 7 ≡ follows L (8 * at + 7) r
  unfolding bit
  follows-none h =
      let none : row_byte L at r / 2 / 2 ^ 7 % 2 ≡ 0 = omega (arith, byte) in
      let past : 8 * stride L.size ≤ 8 * at + 7 + 1 = omega arith in
      rw (none, le-ltb (8 * at + 7 + 1) (8 * stride L.size) past)

  pub follows-joined : at + 1 < stride L.size → (b : ℕ) → b < 8
      → bit (row_byte L at r / 2 + 128 * (row_byte L (at + 1) r % 2)) b ≡ follows L (8 * at + b) r
  follows-joined h b l = elim (dec_lt b 7) [
    | yes less ↦ follows-inner (row_byte L (at + 1) r) b less
    | no g ↦ let e : b ≡ 7 = omega arith in rw e (follows-carried h)
  ]

  pub follows-ended : stride L.size ≤ at + 1 → (b : ℕ) → b < 8 → bit (row_byte L at r / 2) b ≡ follows L (8 * at + b) r
  follows-ended h b l = elim (dec_lt b 7) [
    | yes less ↦
        let alone : row_byte L at r / 2 ≡ row_byte L at r / 2 + 128 * (0 % 2) = omega arith in
        ap (λ (x : ℕ). bit x b) alone ∙ follows-inner 0 b less
    | no g ↦ let e : b ≡ 7 = omega arith in rw e (follows-none h)
  ]

module _ (L : Layer) (sound : Sound L) where
  -- past the width a row holds no inside sample
  pub sample-spare : (c r : ℕ) → L.size.width ≤ c → c < 8 * stride L.size → r < L.size.height → sample L c r ≡ false
  unfolding sample
  sample-spare c r w h hr =
      let j = c / 8 in
      let within : j < stride L.size = omega arith in
      let x = row_byte L j r in
      let none = rw (digits_mod r within) at (sound.spare (r * stride L.size + j) (byte-below L sound.whole j r within hr)) in
      bit_past x (L.size.width - 8 * j) (c % 8) (omega (arith, ltb-false 0 (x / 2 ^ (L.size.width - 8 * j)) none)) (omega arith)

  sample-last : (c r : ℕ) → L.size.width ≤ c + 1 → c < 8 * stride L.size → r < L.size.height → sample L c r ≡ false
  sample-last c r w h hr = elim (dec_lt c L.size.width) [
    | yes l ↦ sym (on-border L c r (east L c r (omega arith))) ∙ sound.border c r l hr
    | no g ↦ sample-spare c r (omega arith) h hr
  ]

  follows-last : (c r : ℕ) → L.size.width ≤ c + 1 → r < L.size.height → follows L c r ≡ false
  follows-last c r w hr = elim (dec_lt (c + 1) (8 * stride L.size)) [
    | yes l ↦ rw (sample-spare (c + 1) r w l hr) (and-false (ltb (c + 1) (8 * stride L.size)))
    | no g ↦ rw (le-ltb (c + 1) (8 * stride L.size) (omega arith))
  ]

  -- a row against its shifted self marks the horizontal sticks
  horizontal-stick : (c r : ℕ) → c < 8 * stride L.size → r < L.size.height
      → xor (sample L c r) (follows L c r) ≡ is_stick L (record { vertical = false; column = c; row = r })
  unfolding is_stick xor
  horizontal-stick c r h hr = elim (dec_lt c (L.size.width - 1)) [
    | yes l ↦
        rw (lt-ltb c (L.size.width - 1) l, lt-ltb r L.size.height hr, lt-ltb (c + 1) (8 * stride L.size) (omega arith))
    | no g ↦
        let past : L.size.width ≤ c + 1 = omega arith in
        rw (le-ltb c (L.size.width - 1) (omega arith), follows-last c r past hr, sample-last c r past h hr)
  ]

  -- a row against the next marks the vertical ones
  vertical-stick : (c r : ℕ) → c < 8 * stride L.size → r + 1 < L.size.height
      → xor (sample L c r) (sample L c (r + 1)) ≡ is_stick L (record { vertical = true; column = c; row = r })
  unfolding is_stick xor
  vertical-stick c r h hr = elim (dec_lt c L.size.width) [
    | yes l ↦ rw (lt-ltb c L.size.width l, lt-ltb r (L.size.height - 1) (omega arith))
    | no g ↦
        rw (
          le-ltb c L.size.width (omega arith),
          sample-spare c r (omega arith) h (omega arith),
          sample-spare c (r + 1) (omega arith) h hr,
        )
  ]

  module _ (at r : ℕ) (at_less : at < stride L.size) where
    pub marks-horizontal : r < L.size.height → (s : ℕ) → ((b : ℕ) → b < 8 → bit s b ≡ follows L (8 * at + b) r)
        → StickBits L false at r (bit_xor (row_byte L at r) s)
    marks-horizontal hr s f = record {
      ones = λ b h.
          bit-xor (row_byte L at r) s b
          ∙ ap₂ xor (sym (sample-bit L at b r h)) (f b h)
          ∙ horizontal-stick (8 * at + b) r (omega arith) hr;
    }

    pub marks-vertical : r + 1 < L.size.height → StickBits L true at r (bit_xor (row_byte L at r) (row_byte L at (r + 1)))
    marks-vertical hr = record {
      ones = λ b h.
          bit-xor (row_byte L at r) (row_byte L at (r + 1)) b
          ∙ ap₂ xor (sym (sample-bit L at b r h)) (sym (sample-bit L at b (r + 1) h))
          ∙ vertical-stick (8 * at + b) r (omega arith) hr;
    }
