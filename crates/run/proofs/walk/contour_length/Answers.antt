-- `contour_length` meets its contract: what it counts is the list of the contour's sticks, and there are no more than a layer has edges.
use mathlib.Core.Path.{refl, ap}
use mathlib.Core.Logic.{inl}
use native.Mathlib.Omega.{arith}
use lib.ListN.{length}
use Rattle.std.proofs.lemmas.Iterator.Consumers.{YieldsList-from_first, count_from_yields_List}
use Rattle.contour.specs.Remaining.{sticks_left}
use Rattle.run.proofs.Steps.{most-sticks}
use Rattle.run.proofs.walk.contour_length.Goals as goal

pub count-requires : goal.count-requires
count-requires c =
    let most = most-sticks (record { sound = c.args.layer.sound; stick = c.requires; all = refl }) in
    record { can = tt; finite = tt; fits = inl (omega (arith, most, ap length c.sticks_of.ensures)) }

pub returns : goal.returns
returns c = count_from_yields_List _ _ c.count.ensures.ran (YieldsList-from_first (λ e. e) sticks_left _ c.sticks_of.ensures)
