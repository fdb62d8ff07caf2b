-- The two ways along a contour, each a step and the step that undoes it, which make a walk that keeps the laws of walks.
use Rattle.grid.specs.Layer.{Layer}
use Rattle.grid.specs.Edges.{number, edge_at, edge_count, is_stick}
use Rattle.grid.specs.Questions.{Sound}
use Rattle.grid.specs.declared.edge.Edge.{Edge}
use Rattle.step.specs.Walk.{next, prev}
use Rattle.contour.specs.Walk.{Walk, Laws}
use Rattle.contour.specs.Contours.{same_edge}
use Rattle.contour.proofs.Sticks.{laws}

-- the walk on the sticks of a layer by a step: `walk_of L` by `next L`, and the same contours the other way round by `prev L`
abbrev pub walk_by : (Edge → Edge) → (Edge → Edge) → Layer → Walk
walk_by step undo L = record {
  Element = Edge;
  same = same_edge;
  number = number L.size;
  at = edge_at L.size;
  many = edge_count L.size;
  next = step;
  prev = undo;
  is_one = is_stick L;
}

pub forth : (L : Layer) → Sound L → Laws (walk_by (next L) (prev L) L)
forth L sound = laws L sound

pub back : (L : Layer) → Sound L → Laws (walk_by (prev L) (next L) L)
back L sound =
    let law = laws L sound in
    record {
      same_eq = law.same_eq;
      same_self = law.same_self;
      number_less = law.number_less;
      at_number = law.at_number;
      number_at = law.number_at;
      one_next = law.one_prev;
      one_prev = law.one_next;
      prev_next = law.next_prev;
      next_prev = law.prev_next;
    }
