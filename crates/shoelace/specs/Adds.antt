-- What a drawn edge adds to twice the signed area, in 1/65,536 of a square pitch: the shoelace formula.
use Rattle.std.specs.Prelude.{◌≡◌, true, List, ℕ, ◌*◌, ℤ, pos, ◌-ℤ◌}
use Rattle.grid.specs.Layer.{Layer}
use Rattle.grid.specs.Edges.{is_stick}
use Rattle.grid.specs.declared.edge.Edge.{Edge}
use Rattle.chord.specs.Points.{Position}
use Rattle.drawn.specs.Drawn.{vertex, Ends}
use Rattle.held.specs.Questions.{Accepted}

-- "In 1/256 of the pitch, an edge adds its start's X times its end's Y, less its end's X times its start's Y" (Note 7): twice the signed
-- area of the triangle from sample (0, 0) to the start and the end
abbrev pub cross : Position → Position → ℤ
cross p q = pos (p.x * q.y) -ℤ pos (q.x * p.y)

abbrev pub edge_adds : Layer → List ℕ → Ends → ℤ
edge_adds L t d = cross (vertex L t d.from) (vertex L t d.to)

-- what code that measures is given: a stick of a layer that passed questions 1 to 7, and so is held
pub record HeldStick (L : Layer) (t : List ℕ) (e : Edge) : Type 0 where
  pub accepted : Accepted L t
  pub stick : is_stick L e ≡ true
