-- Crossing and sliding as tests that compute, over ℕ and for both kinds of edge at once: an edge lies on a grid line; one coordinate runs
-- along the line, the other across it.
use Rattle.std.specs.Prelude.{Bool, cond, ◌&&◌, ◌||◌, ℕ, ◌+◌, ◌*◌, ◌-◌, leb, ltb}
use Rattle.grid.specs.declared.edge.Edge.{Edge}
use Rattle.chord.specs.Points.{Position}

-- the coordinates of a position along the edge and across it
abbrev pub along : Edge → Position → ℕ
along e p = cond e.vertical p.y p.x

abbrev pub across : Edge → Position → ℕ
across e p = cond e.vertical p.x p.y

-- where the edge begins on its line, and where the line lies
abbrev pub base : Edge → ℕ
base e = 256 * cond e.vertical e.row e.column

abbrev pub line : Edge → ℕ
line e = 256 * cond e.vertical e.column e.row

abbrev pub distance : ℕ → ℕ → ℕ
distance m n = (m - n) + (n - m)

-- how far a position is off the line
unfoldable pub off : Edge → Position → ℕ
off e p = distance (across e p) (line e)

-- the two positions lie strictly on different sides of the line
unfoldable pub parted : Position → Position → Edge → Bool
parted p q e =
    (ltb (across e p) (line e) && ltb (line e) (across e q)) || (ltb (across e q) (line e) && ltb (line e) (across e p))

-- the chord from p to q then meets the line at meeting / total, the mean in which each end weighs as much as the other is off the line
abbrev pub meeting : Position → Position → Edge → ℕ
meeting p q e = off e q * along e p + off e p * along e q

abbrev pub total : Position → Position → Edge → ℕ
total p q e = off e q + off e p

-- the chord from p to q crosses the edge: for an edge that neither end lies strictly inside this is `Crosses` (proofs/Crossings.antt)
unfoldable pub crosses : Position → Position → Edge → Bool
crosses p q e =
    parted p q e
    && ltb (base e * total p q e) (meeting p q e)
    && ltb (meeting p q e) ((base e + 256) * total p q e)

-- a vertex at offset o of the edge slides by at most t to the chord, for a chord that crosses the edge: this is then `SlidesWithin` of the
-- point there (proofs/Slides.antt, and with crossing together proofs/Tolerance.antt)
unfoldable pub slides_within : ℕ → Position → Position → Edge → ℕ → Bool
slides_within t p q e o = leb (distance (meeting p q e) ((base e + o) * total p q e)) (t * total p q e)
