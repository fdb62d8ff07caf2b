-- `simplify_contours` meets its contract. The invariant: simplifying the contours that are left, on top of what is done, simplifies the layer.
-- Laws of such a loop are in Layers; the counts stay small, as a contour tries at most two runs for each of its sticks.
use mathlib.Core.Path.{ap, ◌∙◌}
use native.Mathlib.Omega.{arith}
use Rattle.contour.specs.Remaining.{firsts_left}
use Rattle.contour.proofs.Firsts.{here-stick}
use Rattle.simplify.proofs.Layers.{turns-start, turns, turned-most, turns-end}
use Rattle.simplify.proofs.contours.simplify_contours.Goals as goal

pub loop-first-init : goal.loop-first-init
loop-first-init c =
    turns-start _ _ (ap firsts_left c.into_iter-first-iterator.ensures.into_iter_gives ∙ c.firsts_of-first-items.ensures)

pub simplify_contour-one-requires : goal.simplify_contour-one-requires
simplify_contour-one-requires c =
    let inv = c.loop-first.invariant in
    let sound = c.args.contours.layer.sound in
    record {
      sound = sound;
      exact = inv.same_length ∙ c.requires.exact;
      stick = here-stick inv.firsts c.in-Some.ensures.steps sound;
    }

pub overflow_add-removed : goal.overflow_add-removed
overflow_add-removed c =
    omega (
      arith,
      turned-most c.loop-first.invariant c.in-Some.ensures.steps c.simplify_contour-one.ensures c.args.contours.layer.sound,
    )

pub overflow_add-tried : goal.overflow_add-tried
overflow_add-tried c =
    omega (
      arith,
      turned-most c.loop-first.invariant c.in-Some.ensures.steps c.simplify_contour-one.ensures c.args.contours.layer.sound,
    )

pub loop-first-preserved : goal.loop-first-preserved
loop-first-preserved c = turns c.loop-first.invariant c.in-Some.ensures.steps c.simplify_contour-one.ensures

pub shape_of-table : goal.shape_of-table
shape_of-table c = c.loop-first.invariant.same_length

pub returns : goal.returns
returns c = turns-end c.loop-first.invariant c.in-None.ensures.steps.0
