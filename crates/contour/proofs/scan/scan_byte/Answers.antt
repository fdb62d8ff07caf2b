-- `scan_byte` meets its contract. The invariant: the bits that are left mark the sticks from there on, and the scan stands there.
-- At the start the iterator is that of `ones_of`, which has all bits of the byte.
use mathlib.Core.Path.{◌≡◌, refl, ◌∙◌}
use Prim.Native.Nat.{◌+◌, ◌*◌}
use native.Mathlib.Omega.{arith}
use Rattle.contour.proofs.Scanning.{byte-start, byte_last, one-stick, one-turn}
use Rattle.contour.proofs.scan.scan_byte.Goals as goal

pub stick_byte-requires : goal.stick_byte-requires
stick_byte-requires c = record { at_bound = c.requires.at_bound; row_bound = c.requires.scanned_to.row_below }

pub loop-b-init : goal.loop-b-init
loop-b-init c =
    let same = c.into_iter-b-iterator.ensures.into_iter_gives in
    let start : 8 * c.args.at + c.into_iter-b-iterator.result.at ≡ 8 * c.args.at = rw (same, c.ones_of-b-items.ensures.at) (omega arith) in
    let word : c.into_iter-b-iterator.result.left ≡ c.stick_byte.result = rw same (c.ones_of-b-items.ensures.left ∙ c.from.ensures) in
    rw (start, word) (byte-start c.requires.scanned_to c.stick_byte.ensures (refl, c.stick_byte.type_inv))

pub scan_stick-requires : goal.scan_stick-requires
scan_stick-requires c = one-stick c.loop-b.invariant c.in-Some.ensures.steps.1

pub loop-b-preserved : goal.loop-b-preserved
loop-b-preserved c = one-turn c.loop-b.invariant c.in-Some.ensures.steps.1 c.scan_stick.ensures

pub returns : goal.returns
returns c = byte_last c.loop-b.invariant c.in-None.ensures.steps
