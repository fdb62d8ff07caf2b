-- `store_contours` meets its contract. The invariant: taking the commands from here on, into the table as it is, gives the described table.
-- Storing keeps it, contour by contour.
use mathlib.Core.Path.{ap, ◌∙◌}
use native.Mathlib.Omega.{arith}
use Rattle.contour.specs.Remaining.{firsts_left}
use Rattle.contour.proofs.Firsts.{here-stick}
use Rattle.reading.proofs.Storing.{filling-start, filling-room, filling-turn, filling-end}
use Rattle.reading.proofs.fill.store_contours.Goals as goal

pub loop-first-init : goal.loop-first-init
loop-first-init c =
    filling-start c.requires.empty (ap firsts_left c.into_iter-first-iterator.ensures.into_iter_gives ∙ c.firsts_of-first-items.ensures)

pub overflow_add-place : goal.overflow_add-place
overflow_add-place c = omega (arith, filling-room c.loop-first.invariant c.in-Some.ensures.steps c.requires.formed)

pub store_vertices-place-requires : goal.store_vertices-place-requires
store_vertices-place-requires c =
    let inv = c.loop-first.invariant in
    let next = c.in-Some.ensures.steps in
    let sound = c.args.contours.layer.sound in
    record {
      lent_at = record { sound = sound; exact = inv.exact; stick = here-stick inv.firsts next sound };
      room = filling-room inv next c.requires.formed;
    }

pub loop-first-preserved : goal.loop-first-preserved
loop-first-preserved c = filling-turn c.loop-first.invariant c.in-Some.ensures.steps c.store_vertices-place.ensures

pub returns : goal.returns
returns c = filling-end c.loop-first.invariant c.in-None.ensures.steps.0
