-- `vertex_after` meets its contract, where the walk is back and where it goes on.
use mathlib.Core.Path.{sym, ◌∙◌}
use Rattle.reading.proofs.Vertices.{vertex-stick, vertex-next}
use Rattle.reading.proofs.holding.vertex_after.Goals as goal

pub next_stick-stick-requires : goal.next_stick-stick-requires
next_stick-stick-requires c = record { stick = vertex-stick c.args.layer.sound c.requires.vertex_expected }

pub returns-then-eq : goal.returns-then-eq
returns-then-eq c =
    let step = c.next_stick-stick.ensures in
    let back = sym c.eq.ensures ∙ c.if-eq.true in
    record { stick = step; expected = vertex-next c.args.layer.sound c.requires.vertex_expected step (rw back) }

pub returns-else-eq : goal.returns-else-eq
returns-else-eq c =
    let step = c.next_stick-stick.ensures in
    let on = sym c.eq.ensures ∙ c.if-eq.false in
    record { stick = step; expected = vertex-next c.args.layer.sound c.requires.vertex_expected step (rw on) }
