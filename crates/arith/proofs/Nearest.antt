-- The laws of `Rattle.arith.specs.Nearest`: each rounding is fixed by its bounds, and every other law is read off them, but for the mirror
-- law, which is read off the definition.
use mathlib.Core.Path.{◌≡◌, refl, sym, ap}
use mathlib.Core.Logic.{inl, inr}
use Prim.Native.Nat.{ℕ, zero, suc, ◌+◌, ◌*◌, ◌-◌, ◌/◌, ◌≤◌, ◌<◌}
use native.Mathlib.Nat.{mul-div-le, lt-mul-div-succ, div-eq_of_lt, div-zero}
use native.Mathlib.Omega.{arith}
use lib.IntN.{ℤ, pos, negsuc, neg_ℤ, neg_ℤ-neg_ℤ, ◌+ℤ◌, ◌-ℤ◌, ◌*ℤ◌}
use lib.Signed.{◌≤ℤ◌, ◌<ℤ◌, ≤ℤ_refl}
use Rattle.arith.proofs.Integers.{ints, at, viaℕ, toℕ, arithℤ, add_parts, ≤ℤ-antisymm, ≤ℤ-or->, *ℤ-mono, *ℤ-cancel-<, *ℤ-cancel-≤}
use Rattle.arith.specs.Nearest.{nearest, nearest_to, IsHalf, floor_div, nearest_up}

-- ---- mirrored about the number to which halves go

nothing-near : (d : ℕ) → (0 + (d - 1)) / (2 * d) ≡ 0
nothing-near zero = div-zero 0
nothing-near (suc d) = div-eq_of_lt (omega arith)

-- with halves toward zero
nearest-odd : (n : ℤ) (d : ℕ) → nearest (neg_ℤ n) d ≡ neg_ℤ (nearest n d)
unfolding nearest
nearest-odd (pos zero) d = rw (nothing-near d) refl
nearest-odd (pos (suc a)) d = refl
nearest-odd (negsuc a) d = sym (neg_ℤ-neg_ℤ (pos ((2 * suc a + (d - 1)) / (2 * d))))

-- n / d and k / d lie as far from c on its two sides, and so do the numbers that they go to
pub nearest-mirror : (c n k : ℤ) (d : ℕ) → n +ℤ k ≡ pos d *ℤ (c +ℤ c) → nearest_to c n d +ℤ nearest_to c k d ≡ c +ℤ c
unfolding nearest_to
nearest-mirror c n k d e =
    let m : ℤ = n -ℤ pos d *ℤ c in
    let across : k -ℤ pos d *ℤ c ≡ neg_ℤ m =
    viaℕ (search (ints, at n, at k, at c) depth 9) (omega (arith, toℕ e (search (ints, at n, at k, at c)))) in
    let z : ℤ = nearest m d in
    rw (across, nearest-odd m d) (viaℕ (search (ints, at z, at c)) (omega arith))

-- ---- what fixes it

-- n / d lies between z - 1/2 and z + 1/2, and if it is one of these, z lies toward c from it
pub record IsNearestTo (c n : ℤ) (d : ℕ) (z : ℤ) : Type 0 where
  pub low : (pos d *ℤ (pos 2 *ℤ z -ℤ pos 1)) ≤ℤ (pos 2 *ℤ n)
  pub high : (pos 2 *ℤ n) ≤ℤ (pos d *ℤ (pos 2 *ℤ z +ℤ pos 1))
  pub raised : pos 2 *ℤ n ≡ pos d *ℤ (pos 2 *ℤ z -ℤ pos 1) → z ≤ℤ c
  pub lowered : pos 2 *ℤ n ≡ pos d *ℤ (pos 2 *ℤ z +ℤ pos 1) → c ≤ℤ z

-- it meets the bounds
from_zero : (n : ℤ) {d : ℕ} → 0 < d → IsNearestTo (pos 0) n d (nearest n d)
unfolding nearest
from_zero (pos a) {d} h =
    let t = 2 * a + (d - 1) in
    let m = 2 * d in
    let some : 0 < m = omega arith in
    let below = mul-div-le t m in
    let above = lt-mul-div-succ t some in
    record {
      low = viaℕ (search ints) (omega arith);
      high = viaℕ (search ints) (omega arith);
      raised = λ e. absurd (omega (arith, toℕ e (search ints)));
      lowered = λ e. omega arithℤ;
    }
from_zero (negsuc a) {d} h =
    let t = 2 * suc a + (d - 1) in
    let m = 2 * d in
    let some : 0 < m = omega arith in
    let below = mul-div-le t m in
    let above = lt-mul-div-succ t some in
    record {
      low = viaℕ (search ints depth 9) (omega arith);
      high = viaℕ (search ints depth 9) (omega arith);
      raised = λ e. viaℕ (search ints) (omega arith);
      lowered = λ e. absurd (omega (arith, toℕ e (search ints depth 9)));
    }

pub nearest-is : (c n : ℤ) {d : ℕ} → 0 < d → IsNearestTo c n d (nearest_to c n d)
unfolding nearest_to
nearest-is c n {d} h =
    let z : ℤ = nearest (n -ℤ pos d *ℤ c) d in
    let f = from_zero (n -ℤ pos d *ℤ c) h in
    record {
      low = viaℕ (search (ints, at n, at c, at z) depth 9) (omega (arith, toℕ f.low (search (ints, at n, at c, at z) depth 9)));
      high = viaℕ (search (ints, at n, at c, at z) depth 9) (omega (arith, toℕ f.high (search (ints, at n, at c, at z) depth 9)));
      raised = λ e.
          let below = f.raised (viaℕ (search (ints, at n, at c, at z) depth 9) (omega (arith, toℕ e (search (ints, at n, at c, at z) depth 9)))) in
          omega (arithℤ, add_parts z c);
      lowered = λ e.
          let above = f.lowered (viaℕ (search (ints, at n, at c, at z) depth 9) (omega (arith, toℕ e (search (ints, at n, at c, at z) depth 9)))) in
          omega (arithℤ, add_parts z c);
    }

-- and nothing else does
none_below : {c n z w : ℤ} {d : ℕ} → IsNearestTo c n d z → IsNearestTo c n d w → z ≤ℤ w
none_below {c} {n} {z} {w} {d} f g = elim (≤ℤ-or-> z w) [
  | inl below ↦ below
  | inr above ↦
      let apart : (pos 2 *ℤ w +ℤ pos 1) ≤ℤ (pos 2 *ℤ z -ℤ pos 1) = viaℕ (search (ints, at z, at w)) (omega arithℤ) in
      let times-d = *ℤ-mono (pos d) (omega arithℤ) apart in
      let low : z ≤ℤ c = f.raised (omega (arithℤ, f.low, g.high)) in
      let high : c ≤ℤ w = g.lowered (omega (arithℤ, f.low, g.high)) in
      omega arithℤ
]

pub nearest-only : (c n : ℤ) {d : ℕ} {z : ℤ} → 0 < d → IsNearestTo c n d z → z ≡ nearest_to c n d
nearest-only c n h f = ≤ℤ-antisymm (none_below f (nearest-is c n h)) (none_below (nearest-is c n h) f)

-- "a half toward c": half way from k to the next number
pub half_down : (c n k : ℤ) {d : ℕ} → 0 < d → pos 2 *ℤ n ≡ pos d *ℤ (pos 2 *ℤ k +ℤ pos 1) → c ≤ℤ k → nearest_to c n d ≡ k
half_down c n k {d} h e l = sym (nearest-only c n h record {
  low = viaℕ (search (ints, at n, at k) depth 9) (omega (arith, toℕ e (search (ints, at n, at k) depth 9)));
  high = omega (arithℤ, e);
  raised = λ e'. absurd (omega (arith, toℕ e (search (ints, at n, at k) depth 9), toℕ e' (search (ints, at n, at k) depth 9)));
  lowered = λ e'. l;
})

pub half_up : (c n k : ℤ) {d : ℕ} → 0 < d → pos 2 *ℤ n ≡ pos d *ℤ (pos 2 *ℤ k +ℤ pos 1) → k <ℤ c → nearest_to c n d ≡ k +ℤ pos 1
half_up c n k {d} h e l = sym (nearest-only c n h record {
  low = viaℕ (search (ints, at n, at k) depth 9) (omega (arith, toℕ e (search (ints, at n, at k) depth 9)));
  high = viaℕ (search (ints, at n, at k) depth 9) (omega (arith, toℕ e (search (ints, at n, at k) depth 9)));
  raised = λ e'. omega (arithℤ, add_parts k (pos 1));
  lowered = λ e'. absurd (omega (arith, toℕ e (search (ints, at n, at k) depth 9), toℕ e' (search (ints, at n, at k) depth 9)));
})

-- ---- a fraction written in another way

cancel : (c : ℕ) {x y : ℤ} → 0 < c → pos c *ℤ x ≡ pos c *ℤ y → x ≡ y
cancel c h e = ≤ℤ-antisymm (*ℤ-cancel-≤ (pos c) (omega arithℤ) (omega (arithℤ, e))) (*ℤ-cancel-≤ (pos c) (omega arithℤ) (omega (arithℤ, e)))

-- n / d and k / b are one fraction, and twice it is x
twice-scaled : (n k x : ℤ) (d b : ℕ) → 0 < d → n *ℤ pos b ≡ k *ℤ pos d → pos 2 *ℤ n ≡ pos d *ℤ x → pos 2 *ℤ k ≡ pos b *ℤ x
twice-scaled n k x d b h e f =
    let same = toℕ e (search (ints, at n, at k)) in
    let times-b = toℕ (ap (λ y. pos b *ℤ y) f) (search (ints, at n, at x)) in
    cancel d h (viaℕ (search (ints, at k, at x)) (omega arith))

pub half-scaled : (n k : ℤ) (d b : ℕ) → 0 < d → n *ℤ pos b ≡ k *ℤ pos d → IsHalf n d → IsHalf k b
half-scaled n k d b h e (z, f) = (z, twice-scaled n k (pos 2 *ℤ z +ℤ pos 1) d b h e f)

pub nearest-scaled : (c n k : ℤ) (d b : ℕ) → 0 < d → 0 < b → n *ℤ pos b ≡ k *ℤ pos d → nearest_to c n d ≡ nearest_to c k b
nearest-scaled c n k d b h l e =
    let z : ℤ = nearest_to c n d in
    let f = nearest-is c n h in
    let same = toℕ e (search (ints, at n, at k)) in
    let low = toℕ (*ℤ-mono (pos b) (omega arithℤ) f.low) (search (ints, at n, at z) depth 9) in
    let high = toℕ (*ℤ-mono (pos b) (omega arithℤ) f.high) (search (ints, at n, at z) depth 9) in
    nearest-only c k l record {
      low = *ℤ-cancel-≤ (pos d) (omega arithℤ) (viaℕ (search (ints, at k, at z) depth 9) (omega arith));
      high = *ℤ-cancel-≤ (pos d) (omega arithℤ) (viaℕ (search (ints, at k, at z) depth 9) (omega arith));
      raised = λ e'. f.raised (twice-scaled k n (pos 2 *ℤ z -ℤ pos 1) b d l (sym e) e');
      lowered = λ e'. f.lowered (twice-scaled k n (pos 2 *ℤ z +ℤ pos 1) b d l (sym e) e');
    }

-- ---- with a half upward

-- t / m rounded down, by the two bounds that fix it
pub record Floor (t : ℤ) (m : ℕ) (z : ℤ) : Type 0 where
  pub low : (pos m *ℤ z) ≤ℤ t
  pub high : t <ℤ (pos m *ℤ (z +ℤ pos 1))

floor-is : (t : ℤ) {m : ℕ} → 0 < m → Floor t m (floor_div t m)
unfolding floor_div
floor-is (pos a) {m} h = record {
  low = viaℕ (search ints) (omega (arith, mul-div-le a m));
  high = viaℕ (search ints) (omega (arith, lt-mul-div-succ a h));
}
floor-is (negsuc a) {m} h = record {
  low = viaℕ (search ints) (omega (arith, lt-mul-div-succ a h));
  high = viaℕ (search ints) (omega (arith, mul-div-le a m));
}

floor-mono : {t u z w : ℤ} {m : ℕ} → Floor t m z → Floor u m w → t ≤ℤ u → z ≤ℤ w
floor-mono {t} {u} {z} {w} {m} f g h =
    let l : (pos m *ℤ z) <ℤ (pos m *ℤ (w +ℤ pos 1)) = omega (arithℤ, f.low, g.high) in
    let k : z <ℤ (w +ℤ pos 1) = *ℤ-cancel-< (pos m) (omega arithℤ) l in
    omega (arithℤ, add_parts w (pos 1))

floor-only : {t z : ℤ} {m : ℕ} → 0 < m → Floor t m z → z ≡ floor_div t m
floor-only {t} h f = ≤ℤ-antisymm (floor-mono f (floor-is t h) (≤ℤ_refl t)) (floor-mono (floor-is t h) f (≤ℤ_refl t))

-- "a half upward": half way from k to the next number it goes to the next
pub half-upward : (n k : ℤ) {d : ℕ} → 0 < d → pos 2 *ℤ n ≡ pos d *ℤ (pos 2 *ℤ k +ℤ pos 1) → nearest_up n d ≡ k +ℤ pos 1
unfolding nearest_up
half-upward n k {d} h e =
    let some : 0 < 2 * d = omega arith in
    let half = toℕ e (search (ints, at n, at k) depth 9) in
    sym (floor-only {t = pos 2 *ℤ n +ℤ pos d} some record {
      low = viaℕ (search (ints, at n, at k) depth 9) (omega arith);
      high = viaℕ (search (ints, at n, at k) depth 9) (omega arith);
    })

-- a half toward c by a quotient rounded down: of n / d and a half, and above c, where s is 1, of n / d and just less than a half
pub nearest-floor : (c n : ℤ) (s : ℕ) {d : ℕ} → 0 < d → s ≤ 1 → (s ≡ 0 → n ≤ℤ (c *ℤ pos d)) → (s ≡ 1 → (c *ℤ pos d) <ℤ n)
    → floor_div (pos 2 *ℤ n +ℤ pos d -ℤ pos s) (2 * d) ≡ nearest_to c n d
nearest-floor c n s {d} h few up_to_lem above =
    let some : 0 < 2 * d = omega arith in
    let t : ℤ = pos 2 *ℤ n +ℤ pos d -ℤ pos s in
    let z : ℤ = floor_div t (2 * d) in
    let f = floor-is t some in
    let least = toℕ f.low (search (ints, at n, at z) depth 9) in
    let most = toℕ f.high (search (ints, at n, at z) depth 9) in
    nearest-only c n h record {
      low = viaℕ (search (ints, at n, at z) depth 9) (omega arith);
      high = viaℕ (search (ints, at n, at z) depth 9) (omega arith);
      raised = λ e.
          let half = toℕ e (search (ints, at n, at z) depth 9) in
          let l = toℕ (up_to_lem (omega arith)) (search (ints, at n, at c)) in
          let k : (pos 2 *ℤ z -ℤ pos 1) ≤ℤ (pos 2 *ℤ c) =
          *ℤ-cancel-≤ (pos d) (omega arithℤ) (viaℕ (search (ints, at z, at c) depth 9) (omega arith)) in
          viaℕ (search (ints, at z, at c)) (omega (arith, toℕ k (search (ints, at z, at c))));
      lowered = λ e.
          let half = toℕ e (search (ints, at n, at z) depth 9) in
          let l = toℕ (above (omega arith)) (search (ints, at n, at c)) in
          let k : (pos 2 *ℤ c) <ℤ (pos 2 *ℤ z +ℤ pos 1) =
          *ℤ-cancel-< (pos d) (omega arithℤ) (viaℕ (search (ints, at z, at c) depth 9) (omega arith)) in
          viaℕ (search (ints, at z, at c)) (omega (arith, toℕ k (search (ints, at z, at c))));
    }

-- where there is no half, it makes no difference where a half goes
pub same-upward : (c n : ℤ) {d : ℕ} → 0 < d → (IsHalf n d → ⊥) → nearest_to c n d ≡ nearest_up n d
unfolding nearest_up
same-upward c n {d} h no-half =
    let z : ℤ = nearest_to c n d in
    let f = nearest-is c n h in
    let strict : (pos 2 *ℤ n) <ℤ (pos d *ℤ (pos 2 *ℤ z +ℤ pos 1)) = elim (≤ℤ-or-> (pos d *ℤ (pos 2 *ℤ z +ℤ pos 1)) (pos 2 *ℤ n)) [
      | inl l ↦ absurd (no-half (z, ≤ℤ-antisymm f.high l))
      | inr l ↦ l
    ] in
    let some : 0 < 2 * d = omega arith in
    floor-only {t = pos 2 *ℤ n +ℤ pos d} some record {
      low = viaℕ (search (ints, at n, at z) depth 9) (omega (arith, toℕ f.low (search (ints, at n, at z) depth 9)));
      high = viaℕ (search (ints, at n, at z) depth 9) (omega (arith, toℕ strict (search (ints, at n, at z) depth 9)));
    }
