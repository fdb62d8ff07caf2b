-- `visit` meets its contract: at a pinned vertex nothing changes, any other is slid.
use mathlib.Core.Path.{sym, ap, ◌∙◌}
use Prim.Native.Nat.{ℕ}
use lib.ListN.{set}
use Rattle.chord.specs.Crossing.{distance}
use Rattle.offset.specs.Offset.{new_offset}
use Rattle.smooth.proofs.Walking.{visited-skips, visited-slides}
use Rattle.smooth.proofs.pass.visit.Goals as goal

pub returns-then-has_pin : goal.returns-then-has_pin
returns-then-has_pin c =
    visited-skips (sym c.has_pin.ensures ∙ c.if-has_pin.true) c.offset_of-old.ensures

pub new_offset-new-requires : goal.new_offset-new-requires
new_offset-new-requires c =
    rw c.offset_of-old.ensures c.requires.movable

pub returns : goal.returns
returns c =
    let a = c.args in
    let old = c.offset_of-old.ensures in
    visited-slides (sym c.has_pin.ensures ∙ c.if-has_pin.false)
    (c.new_offset-new.ensures ∙ ap (new_offset a.p a.q a.e) old)
    (c.from-2.ensures ∙ c.abs_diff.ensures ∙ ap (λ (n : ℕ). distance n c.new_offset-new.result) old)
    (ap (set a.table.now a.at) c.from.ensures)
