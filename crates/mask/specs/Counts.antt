-- The first two figures of Counts.
use Rattle.std.specs.Prelude.{ℕ, ◌*◌}
use Rattle.arith.specs.Ranges.{count}
use Rattle.grid.specs.Layer.{Layer, sample_at}
use Rattle.grid.specs.Edges.{edge_count, stick_at}

-- "the inside samples"
abbrev pub inside_count : Layer → ℕ
inside_count L = count (sample_at L) (L.size.height * L.size.width)

-- "and the sticks"
abbrev pub stick_count : Layer → ℕ
stick_count L = count (stick_at L) (edge_count L.size)
