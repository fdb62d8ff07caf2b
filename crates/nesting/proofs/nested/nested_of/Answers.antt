-- `nested_of` meets its contract: all first sticks are left, and no contour is around the border, where the sweep begins.
use mathlib.Core.Path.{sym}
use native.Mathlib.Omega.{arith}
use Rattle.contour.proofs.Firsts.{firsts-start}
use Rattle.winding.proofs.Counts.{around-west}
use Rattle.nesting.proofs.Depths.{all-first}
use Rattle.nesting.proofs.nested.nested_of.Goals as goal

pub invariant_of-result : goal.invariant_of-result
invariant_of-result c =
    let sound = c.args.nesting.contours.layer.sound in
    record {
      all_first = all-first _ (firsts-start _ c.firsts_of.ensures);
      counted = sym (around-west sound 0 (omega (arith, sound.whole.sized)));
    }
