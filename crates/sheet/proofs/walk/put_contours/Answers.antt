-- `put_contours` meets its contract. The invariant: the contours that are left, stored from here on, give the whole.
use Rattle.contour.proofs.Firsts.{here-stick}
use Rattle.sheet.proofs.Contours.{contour-room, contours-turn, contours-end}
use Rattle.sheet.proofs.walk.put_contours.Goals as goal

pub put_contour-place-requires : goal.put_contour-place-requires
put_contour-place-requires c =
    let sound = c.args.contours.layer.sound in
    let next = c.in-Some.ensures.steps in
    let inv = c.loop-first.invariant in
    record {
      lent_at = record { sound = sound; exact = c.requires.lent.exact; stick = here-stick inv.firsts next sound };
      room = contour-room inv next c.requires.room;
    }

pub loop-first-preserved : goal.loop-first-preserved
loop-first-preserved c = contours-turn c.loop-first.invariant c.in-Some.ensures.steps c.put_contour-place.ensures

pub returns : goal.returns
returns c = contours-end c.loop-first.invariant c.in-None.ensures.steps.0
