-- The new offset of a vertex whose neighbours lie strictly on different sides of its stick's line and within the stick's length along it:
-- the rounded fraction, and 1 to 255 again.
use mathlib.Core.Path.{◌≡◌, sym, ◌∙◌}
use Prim.Native.Nat.{ℕ, ◌+◌, ◌*◌, ◌-◌, ◌≤◌, ◌<◌}
use native.Mathlib.Omega.{arith}
use lib.IntN.{ℤ, pos, nat_abs, ◌+ℤ◌}
use lib.Signed.{◌≤ℤ◌}
use Rattle.arith.proofs.Integers.{ints, at, viaℕ, toℕ, arithℤ, nat_abs-parts}
use Rattle.arith.specs.Integers.{positive_part}
use Rattle.grid.specs.declared.edge.Edge.{Edge}
use Rattle.chord.specs.Points.{Position, Point, Meets, slide}
use Rattle.chord.specs.Crossing.{base, meeting, total}
use Rattle.chord.proofs.Meetings.{sides→parted, total-some}
use Rattle.table.proofs.Entries.{Inside}
use Rattle.offset.specs.Offset.{rounded, spread, shift, signed_by, new_offset, Around}
use Rattle.offset.proofs.Rounding.{rounded-inside, rounded-scaled}
use Rattle.offset.proofs.Meeting.{spread-is, shift_is, meeting-inside, meets_at}

-- v - o is n / t and b + v is m / t, so v is (m - b·t) / t
from-base : (b o t m : ℕ) (n : ℤ) → pos ((b + o) * t) +ℤ n ≡ pos m → b * t ≤ m → pos (o * t) +ℤ n ≡ pos (m - b * t)
from-base b o t m n e l = viaℕ (search (ints, at n)) (omega (arith, toℕ e (search (ints, at n))))

-- an integer of 1 to 255 as a natural
as-natural : (z : ℤ) → pos 1 ≤ℤ z → z ≤ℤ pos 255 → (pos (positive_part z) ≡ z) × (1 ≤ positive_part z) × (positive_part z ≤ 255)
as-natural z l h = (omega (arithℤ, nat_abs-parts z), omega (arithℤ, nat_abs-parts z), omega (arithℤ, nat_abs-parts z))

module _ {p q : Position} {e : Edge} {old : ℕ} (around : Around p q e old) where
  pub spread-some : 0 < nat_abs (spread p q e)
  spread-some =
      omega (arith, spread-is p q e old around.apart, total-some p q e (sides→parted p q e around.apart))

  new-both : (pos (new_offset p q e old) ≡ rounded old (signed_by (shift p q e old) (spread p q e)) (nat_abs (spread p q e)))
      × (1 ≤ new_offset p q e old)
      × (new_offset p q e old ≤ 255)
  unfolding new_offset
  new-both =
      let t = total p q e in
      let n = signed_by (shift p q e old) (spread p q e) in
      let d = spread-is p q e old around.apart in
      let m = meeting-inside p q e old around in
      let b = from-base (base e) old t (meeting p q e) n (shift_is p q e old around.apart) m.0 in
      let i = rounded-inside old n (nat_abs (spread p q e)) spread-some (meeting p q e - base e * t)
      (rw d b) (rw d (omega arith)) around.low around.high in
      as-natural _ i.0 i.1

  -- it is the rounded fraction
  pub new_is : pos (new_offset p q e old) ≡ rounded old (signed_by (shift p q e old) (spread p q e)) (nat_abs (spread p q e))
  new_is = new-both.0

  -- with each point that the neighbours' segment and the closed stick share, its difference from the old offset along the stick being v - old
  pub new-at : (z : Point) → Meets z p q e → pos (new_offset p q e old) ≡ rounded old (slide z e old) z.d
  new-at z m = new_is ∙ rounded-scaled old _ _ _ _ spread-some z.above (sym (meets_at p q e old around.apart z m))

  pub new-inside : Inside (new_offset p q e old)
  new-inside = record { low = new-both.1; high = new-both.2 }
