-- The walk on a sound layer, one that passes questions 1 to 4, keeps the laws of a walk.
use mathlib.Core.Path.{◌≡◌, refl}
use mathlib.Core.Bool.{Bool, true, ◌&&◌, beq, xor}
use borrow.Author.Tests.{eqb-true, eq-eqb}
use lib.Dec.{T, eqb}
use Rattle.arith.proofs.Booleans.{and_split, beq→eq, beq-self}
use Rattle.grid.specs.Layer.{Layer}
use Rattle.grid.specs.Edges.{is_stick, in_grid, first_end, second_end}
use Rattle.grid.specs.Questions.{Sound}
use Rattle.grid.specs.declared.edge.Edge.{Edge}
use Rattle.grid.proofs.Numbers.{number-below, edge_at-number, edge_at-within}
use Rattle.step.proofs.Walks.{next-stick, prev-stick, prev_next, next_prev}
use Rattle.contour.specs.Walk.{Laws}
use Rattle.contour.specs.Contours.{walk_of, same_edge}

T_of : {b : Bool} → b ≡ true → T b
T_of e = rw e tt

pub same-edge : (e f : Edge) → same_edge e f ≡ true → e ≡ f
same-edge e f h =
    let a = and_split (beq e.vertical f.vertical) (eqb e.column f.column && eqb e.row f.row) h in
    let b = and_split (eqb e.column f.column) (eqb e.row f.row) a.1 in
    let v = beq→eq e.vertical f.vertical (T_of a.0) in
    let c = eqb-true e.column f.column b.0 in
    let r = eqb-true e.row f.row b.1 in
    λ i. record { vertical = v i; column = c i; row = r i }

pub same_self : (e : Edge) → same_edge e e ≡ true
same_self e = rw (beq-self e.vertical, eq-eqb e.column e.column refl, eq-eqb e.row e.row refl)

pub stick-in : (L : Layer) (e : Edge) → is_stick L e ≡ true → in_grid L.size e ≡ true
unfolding is_stick
stick-in L e h = (and_split (in_grid L.size e) (xor (first_end L e) (second_end L e)) h).0

pub laws : (L : Layer) → Sound L → Laws (walk_of L)
laws L sound =
    let sized = sound.whole.sized in
    record {
      same_eq = same-edge;
      same_self = same_self;
      number_less = λ e h. number-below L.size sized e (stick-in L e h);
      at_number = λ e h. edge_at-number L.size sized e (stick-in L e h);
      number_at = λ k b h. (edge_at-within L.size sized k b).1;
      one_next = next-stick L sound;
      one_prev = prev-stick L sound;
      prev_next = prev_next L sound;
      next_prev = next_prev L sound;
    }
