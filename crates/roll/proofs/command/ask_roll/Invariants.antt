use mathlib.Core.Path.{◌≡◌}
use Prim.Native.Nat.{◌-◌, ◌≤◌}
use Rattle.roll.specs.Commands.{formed_from, roll_answer}
use Rattle.roll.proofs.command.ask_roll.Given as goal

abbrev pub invariant-loop-at : goal.invariant-loop-at
invariant-loop-at l = (l.at ≤ l.length) × (formed_from l.roll l.at ≡ roll_answer l.roll)

abbrev pub decreases-loop-at : goal.decreases-loop-at
decreases-loop-at l = l.length - l.at
