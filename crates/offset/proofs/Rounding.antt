-- The rounding of the new offset, by what it must do: it gives the nearest whole number, a half goes toward 128, mirrored about 128 it gives the
-- mirrored number, it does not depend on how the fraction is written, and an offset of 1 to 255 drawn to a v of 0 to 256 stays 1 to 255.
use mathlib.Core.Path.{◌≡◌, ap}
use Prim.Native.Nat.{ℕ, ◌+◌, ◌*◌, ◌≤◌, ◌<◌}
use native.Mathlib.Nat.{mul-le-mul_right}
use native.Mathlib.Omega.{arith}
use lib.IntN.{ℤ, pos, neg_ℤ, nat_abs, ◌+ℤ◌, ◌-ℤ◌, ◌*ℤ◌}
use lib.Signed.{◌≤ℤ◌, ◌<ℤ◌}
use Rattle.arith.proofs.Integers.{ints, at, viaℕ, toℕ, arithℤ, add_parts, nat_abs-parts, *ℤ-cancel-<}
use Rattle.arith.specs.Nearest.{IsHalf, nearest_up}
use Rattle.arith.proofs.Nearest.{IsNearestTo, nearest-is, nearest-mirror, nearest-scaled, half_down, half_up, same-upward}
use Rattle.offset.specs.Offset.{unrounded, middle, rounded}

twice-size : (y : ℤ) (m : ℕ) → neg_ℤ (pos m) ≤ℤ (pos 2 *ℤ y) → (pos 2 *ℤ y) ≤ℤ pos m → 2 * nat_abs y ≤ m
twice-size y m l u = omega (arith, nat_abs-parts y, toℕ l (search (ints, at y)), toℕ u (search (ints, at y)))

module _ (old : ℕ) (n : ℤ) (d : ℕ) (some : 0 < d) where
  rounded-near : IsNearestTo middle (unrounded old n d) (5 * d) (rounded old n d)
  unfolding rounded
  rounded-near = nearest-is middle (unrounded old n d) (omega arith)

  -- "rounded once to the nearest whole number": it is at most a half away,
  pub rounded-nearest : 2 * nat_abs (unrounded old n d -ℤ pos (5 * d) *ℤ rounded old n d) ≤ 5 * d
  rounded-nearest =
      let z : ℤ = rounded old n d in
      let f = rounded-near in
      twice-size (unrounded old n d -ℤ pos (5 * d) *ℤ z) (5 * d)
      (viaℕ (search (ints, at n, at z) depth 9) (omega (arith, toℕ f.low (search (ints, at n, at z) depth 9))))
      (viaℕ (search (ints, at n, at z) depth 9) (omega (arith, toℕ f.high (search (ints, at n, at z) depth 9))))

  -- "A half in the smoothing step is now rounded toward 128": half way from k to the next, from 128 on it goes to k, and below 128 to the next
  pub rounded-half-down : (k : ℤ) → pos 2 *ℤ unrounded old n d ≡ pos (5 * d) *ℤ (pos 2 *ℤ k +ℤ pos 1) → middle ≤ℤ k → rounded old n d ≡ k
  unfolding rounded
  rounded-half-down k e h = half_down middle (unrounded old n d) k (omega arith) e h

  pub rounded-half-up : (k : ℤ) → pos 2 *ℤ unrounded old n d ≡ pos (5 * d) *ℤ (pos 2 *ℤ k +ℤ pos 1) → k <ℤ middle
      → rounded old n d ≡ k +ℤ pos 1
  unfolding rounded
  rounded-half-up k e h = half_up middle (unrounded old n d) k (omega arith) e h

  -- where there is no half, it is the rounding with a half upward
  pub rounded-upward : (IsHalf (unrounded old n d) (5 * d) → ⊥) → rounded old n d ≡ nearest_up (unrounded old n d) (5 * d)
  unfolding rounded
  rounded-upward no-half = same-upward middle (unrounded old n d) (omega arith) no-half

  -- an offset of 1 to 255, and v = m / d of 0 to 256
  pub rounded-inside : (m : ℕ) → pos (old * d) +ℤ n ≡ pos m → m ≤ 256 * d → 1 ≤ old → old ≤ 255
      → (pos 1 ≤ℤ rounded old n d) × (rounded old n d ≤ℤ pos 255)
  rounded-inside m e v lo hi =
      let z : ℤ = rounded old n d in
      let f = rounded-near in
      let r = toℕ e (search (ints, at n)) in
      let l = mul-le-mul_right d lo in
      let h = mul-le-mul_right d hi in
      let above : (pos (2 * (5 * d)) *ℤ pos 1) <ℤ (pos (2 * (5 * d)) *ℤ (z +ℤ pos 1)) =
      viaℕ (search (ints, at z)) (omega (arith, toℕ f.high (search (ints, at n, at z) depth 9))) in
      let below : (pos (2 * (5 * d)) *ℤ z) <ℤ (pos (2 * (5 * d)) *ℤ pos 256) =
      viaℕ (search (ints, at z)) (omega (arith, toℕ f.low (search (ints, at n, at z) depth 9))) in
      let a : pos 1 <ℤ (z +ℤ pos 1) = *ℤ-cancel-< (pos (2 * (5 * d))) (omega arithℤ) above in
      let b : z <ℤ pos 256 = *ℤ-cancel-< (pos (2 * (5 * d))) (omega arithℤ) below in
      (omega (arithℤ, add_parts z (pos 1)), omega arithℤ)

-- an offset and v, each mirrored about 128, are rounded to the number mirrored about 128
pub rounded-mirror : (old old' : ℕ) (n : ℤ) (d : ℕ) → old + old' ≡ 256 → rounded old n d +ℤ rounded old' (neg_ℤ n) d ≡ pos 256
unfolding rounded
rounded-mirror old old' n d e =
    nearest-mirror middle (unrounded old n d) (unrounded old' (neg_ℤ n) d) (5 * d)
    (viaℕ (search (ints, at n) depth 9) (omega (arith, ap (λ k. 5 * d * k) e)))

-- v - old written n / d and k / c
pub unrounded-scaled : (old : ℕ) (n k : ℤ) (d c : ℕ) → n *ℤ pos c ≡ k *ℤ pos d
    → unrounded old n d *ℤ pos (5 * c) ≡ unrounded old k c *ℤ pos (5 * d)
unrounded-scaled old n k d c e =
    viaℕ (search (ints, at n, at k) depth 9) (omega (arith, toℕ e (search (ints, at n, at k))))

pub rounded-scaled : (old : ℕ) (n k : ℤ) (d c : ℕ) → 0 < d → 0 < c → n *ℤ pos c ≡ k *ℤ pos d → rounded old n d ≡ rounded old k c
unfolding rounded
rounded-scaled old n k d c l h e =
    nearest-scaled middle (unrounded old n d) (unrounded old k c) (5 * d) (5 * c) (omega arith) (omega arith) (unrounded-scaled old n k d c e)
