-- `contours_in` meets its contract.
use mathlib.Core.Path.{◌∙◌}
use native.Mathlib.Omega.{arith}
use Rattle.arith.proofs.Ranges.{count-le}
use Rattle.bitset.specs.Sets.{set_bits, has}
use Rattle.contour.proofs.FirstSets.{counted-below, set-count}
use Rattle.contour.proofs.count.contours_in.Goals as goal

pub member_count-requires : goal.member_count-requires
member_count-requires c =
    let a = c.args.contours in
    let below = counted-below _ a.layer.sound a.firsts.now a.first_set _ c.kind_start.ensures in
    record { end_le_set_bits = below.1.0; none_above = below.1.1 }

pub returns : goal.returns
returns c =
    let a = c.args.contours in
    record {
      value = c.member_count.ensures ∙ set-count _ a.layer.sound a.firsts.now a.first_set;
      upper_bound = omega (arith, c.member_count.ensures, count-le (has a.firsts.now) set_bits);
    }
