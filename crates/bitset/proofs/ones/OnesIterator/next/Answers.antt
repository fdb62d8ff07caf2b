-- `next` keeps that what is left are the bits from `at` on.
use mathlib.Core.Path.{◌≡◌}
use Prim.Native.Nat.{◌+◌, ◌-◌, ◌≤◌}
use native.Mathlib.Omega.{arith}
use Rattle.bitset.proofs.Words.{lowest-in, above-fewer}
use Rattle.bitset.proofs.ones.OnesIterator.next.Goals as goal

pub invariant_of-self : goal.invariant_of-self
invariant_of-self c =
    let s = c.args.self.now in
    let lowest = c.lowest_bit-zeros.ensures.value in
    let few : 64 - s.at ≤ 64 = omega arith in
    let below = lowest-in (64 - s.at) s.left _ few s.room c.if-self-eq0.false lowest in
    let fewer = above-fewer (64 - s.at) s.left _ few s.room c.if-self-eq0.false lowest in
    let same : 64 - s.at - (c.lowest_bit-zeros.result + 1) ≡ 64 - (s.at + c.lowest_bit-zeros.result + 1) = omega arith in
    record { within = omega (arith, below); room = rw same at fewer }
