-- The bits of a byte of a row that are left to be scanned, from column c on: the lowest that is set is the next stick.
use mathlib.Core.Path.{◌≡◌, ap, sym, ◌∙◌}
use mathlib.Core.Bool.{Bool, true, false, ◌&&◌}
use Prim.Native.Nat.{ℕ, ◌+◌, ◌-◌, ◌*◌, ◌/◌, ◌^◌, ◌≤◌, ◌<◌}
use native.Mathlib.Decide.{dec_lt}
use native.Mathlib.Omega.{arith}
use borrow.Author.Tests.{lt-ltb, le-ltb, ltb-true}
use lib.Dec.{ltb}
use Rattle.arith.proofs.Booleans.{and_split}
use Rattle.arith.specs.Ranges.{least}
use Rattle.arith.proofs.Ranges.{least_from-holds, least_from-below}
use Rattle.grid.specs.Layer.{Layer, bit}
use Rattle.grid.specs.Edges.{stick_in, StickBits}
use Rattle.grid.proofs.Bits.{bit-shift, bit-zero, bit-end}

module _ (L : Layer) (vertical : Bool) where
  -- x has the bits of the columns from c on, up to the byte's end, of the edges of a kind
  abbrev pub Left : ℕ → ℕ → ℕ → ℕ → Type 0
  Left at r c x =
      (b : ℕ) → bit x b ≡ (ltb (c + b) (8 * at + 8) && stick_in L vertical r (c + b))

  pub left-start : (at r x : ℕ) → StickBits L vertical at r x → x < 256 → Left at r (8 * at) x
  left-start at r x m l b = elim (dec_lt b 8) [
    | yes h ↦ m.ones b h ∙ rw (lt-ltb (8 * at + b) (8 * at + 8) (omega arith))
    | no g ↦ bit-end 8 x b l (omega arith) ∙ rw (le-ltb (8 * at + b) (8 * at + 8) (omega arith))
  ]

  module _ (at r c x : ℕ) (left : Left at r c x) where
    clear_at : (k : ℕ) → c ≤ k → k < 8 * at + 8 → bit x (k - c) ≡ false → stick_in L vertical r k ≡ false
    clear_at k l h e =
        let q : c + (k - c) ≡ k = omega arith in
        sym (ap (λ (b : Bool). b && stick_in L vertical r k) (lt-ltb k (8 * at + 8) h)) ∙ sym (rw q at (left (k - c))) ∙ e

    -- the lowest is a stick, and there is none before it
    pub left-found : (z : ℕ) → z ≡ least (bit x) 64 → z < 64
        → (c + z < 8 * at + 8) × (stick_in L vertical r (c + z) ≡ true) × ((k : ℕ) → c ≤ k → k < c + z → stick_in L vertical r k ≡ false)
    left-found z e l =
        let set : bit x z ≡ true = rw (sym e) at (least_from-holds (bit x) 0 64 (omega (arith, e))) in
        let both = and_split (ltb (c + z) (8 * at + 8)) (stick_in L vertical r (c + z)) (sym (left z) ∙ set) in
        let less = ltb-true (c + z) (8 * at + 8) both.0 in (
          less,
          both.1,
          λ k a b. clear_at k a (omega arith) (least_from-below (bit x) 0 64 (k - c) (omega arith) (omega (arith, e))),
        )

    -- those from k columns further on
    pub left-shift : (k : ℕ) → Left at r (c + k) (x / 2 ^ k)
    left-shift k b =
        let q : c + (k + b) ≡ c + k + b = omega arith in
        bit-shift x k b ∙ (rw q at (left (k + b)))

    pub left-next : (z : ℕ) → Left at r (c + (z + 1)) (x / 2 ^ z / 2)
    left-next z b =
        let e : z + (1 + b) ≡ z + 1 + b = omega arith in
        let q : c + (z + 1 + b) ≡ c + (z + 1) + b = omega arith in
        bit-shift (x / 2 ^ z) 1 b ∙ bit-shift x z (1 + b) ∙ ap (bit x) e ∙ (rw q at (left (z + 1 + b)))

    pub left-done : x ≡ 0 → (k : ℕ) → c ≤ k → k < 8 * at + 8 → stick_in L vertical r k ≡ false
    left-done e k l h = clear_at k l h (ap (λ (y : ℕ). bit y (k - c)) e ∙ bit-zero (k - c))
