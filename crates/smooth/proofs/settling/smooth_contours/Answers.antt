-- `smooth_contours` meets its contract. The invariant: smoothing the contours that are left, on top of what is done, smooths the layer.
-- Laws of such a loop are in Rounds; the sum of the totals stays small since each contour has at most 254 for each of its vertices.
use mathlib.Core.Path.{refl, sym, ap, ◌∙◌}
use native.Mathlib.Omega.{arith}
use Rattle.contour.specs.Remaining.{firsts_left}
use Rattle.smooth.proofs.Walking.{smoothable-kept}
use Rattle.smooth.proofs.Rounds.{smoothing-start, smoothing-here, smoothing-most, smoothing-turn, smoothing-end}
use Rattle.smooth.proofs.settling.smooth_contours.Goals as goal

pub loop-first-init : goal.loop-first-init
loop-first-init c =
    smoothing-start c.args.contours.layer.sound
    (ap firsts_left c.into_iter-first-iterator.ensures.into_iter_gives ∙ c.firsts_of-first-items.ensures)
    (smoothable-kept c.requires)

pub smooth_contour-one-requires : goal.smooth_contour-one-requires
smooth_contour-one-requires c =
    smoothing-here c.loop-first.invariant c.args.contours.layer.sound c.in-Some.ensures.steps

pub overflow_add-total : goal.overflow_add-total
overflow_add-total c =
    omega (
      arith,
      smoothing-most c.loop-first.invariant c.args.contours.layer.sound c.in-Some.ensures.steps c.smooth_contour-one.ensures,
    )

pub loop-first-preserved : goal.loop-first-preserved
loop-first-preserved c =
    smoothing-turn c.loop-first.invariant c.args.contours.layer.sound c.in-Some.ensures.steps c.smooth_contour-one.ensures
    c.max-passes.ensures refl

pub shape_of-table : goal.shape_of-table
shape_of-table c = c.loop-first.invariant.kept.whole ∙ sym c.requires.exact

pub returns : goal.returns
returns c = smoothing-end c.loop-first.invariant c.in-None.ensures.steps.0
