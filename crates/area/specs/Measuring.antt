-- What the walk along a contour keeps, and what it ensures.
use Rattle.std.specs.Prelude.{◌≡◌, cond, Option, Some, None, List, ℕ, ◌*◌, ◌^◌, ◌≤◌, ℤ, pos, nat_abs, ◌+ℤ◌, length, ⊤}
use Rattle.grid.specs.Layer.{Layer}
use Rattle.grid.specs.declared.edge.Edge.{Edge}
use Rattle.contour.specs.Contours.{contour_of}
use Rattle.chord.specs.Points.{Position, position}
use Rattle.chord.specs.Runs.{Near}
use Rattle.table.specs.Vertices.{is_kept, offset_in}
use Rattle.table.specs.declared.entry.Entry.{Entry}
use Rattle.shoelace.specs.Adds.{cross}
use Rattle.area.specs.declared.walk.Trail.{Trail}
use Rattle.area.specs.declared.walk.Walked.{Walked}
use Rattle.area.specs.Areas.{twice_area}

-- The trail of a walk, none before the first kept vertex. What the edge from its last vertex to q adds, and where it begins once q is passed
abbrev pub leads : Option Trail → Position → ℤ
leads None q = pos 0
leads (Some trail) q = cross trail.last q

abbrev pub begins : Option Trail → Position → Position
begins None q = q
begins (Some trail) q = trail.begin

-- what the edge from its last vertex to its first adds
abbrev pub closing : Option Trail → ℤ
closing None = pos 0
closing (Some trail) = cross trail.last trail.begin

abbrev pub NearTrail : Option Trail → Type 0
NearTrail None = ⊤
NearTrail (Some trail) = Near trail.begin × Near trail.last

-- a walk past one more kept vertex, and past the stick e with its entry
abbrev pub past_vertex : Walked → Position → Walked
past_vertex w q =
    record { area = w.area +ℤ leads w.trail q; trail = Some (record { begin = begins w.trail q; last = q }) }

abbrev pub past : Walked → Edge → Entry → Walked
past w e entry = cond (is_kept entry) (past_vertex w (position e (offset_in entry))) w

-- twice the area of a contour, and that it fits: each of its sticks and the closing edge add at most 2^37, and n + 1 is at most 2 × n
pub record AreaFound (L : Layer) (t : List ℕ) (f : Edge) (area : ℤ) : Type 0 where
  pub is : area ≡ twice_area L t f
  pub most : nat_abs area ≤ 2 ^ 38 * length (contour_of L f)
