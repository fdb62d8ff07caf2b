-- How the drawn edges are summed in the order of the number of the stick they start from: one stick after the other, as the code goes.
use Rattle.std.specs.Prelude.{◌≡◌, Bool, true, cond, ℕ, ◌+◌, ◌*◌, ◌^◌, min, ◌≤◌, ◌<◌, ℤ, nat_abs, ◌+ℤ◌, length, set}
use mathlib.Core.List.{List, foldl}
use Rattle.std.proofs.lemmas.List.Edits.{sets}
use Rattle.grid.specs.Layer.{Layer}
use Rattle.grid.specs.Edges.{edge_columns, edge_rows, row_start, number, is_stick}
use Rattle.grid.specs.declared.layer.Size.{Size}
use Rattle.grid.specs.declared.edge.Edge.{Edge}
use Rattle.contour.specs.Walk.{numbered_from}
use Rattle.contour.specs.Contours.{walk_of}
use Rattle.table.specs.Vertices.{kept_at}
use Rattle.drawn.specs.Drawn.{drawn_from, drawn_among}
use Rattle.held.specs.Questions.{Accepted}
use Rattle.shoelace.specs.declared.sums.Running.{Running}
use Rattle.shoelace.specs.Adds.{edge_adds}
use Rattle.shoelace.specs.Sums.{sums_of, total_of}

-- the output as it is, the sum over the edges so far and how many they are
pub record State : Type 0 where
  pub output : List ℤ
  pub running : Running

abbrev pub state : List ℤ → Running → State
state output running = record { output = output; running = running }

-- a drawn edge that adds z: the sum after it goes to the next place
abbrev pub with_edge : ℤ → State → State
with_edge z s =
    let sum : ℤ = s.running.sum +ℤ z in
    record {
      output = set s.output s.running.edges sum;
      running = record { sum = sum; edges = s.running.edges + 1 };
    }

-- a stick, at which an edge starts if its vertex is kept
abbrev pub with_stick : Layer → List ℕ → State → Edge → State
with_stick L t s e = cond (kept_at L t e) (with_edge (edge_adds L t (drawn_from L t e)) s) s

-- the sticks with number p or above, ascending, and what comes of a state when they are gone through
abbrev pub sticks_from : Layer → ℕ → List Edge
sticks_from L p = numbered_from (walk_of L) (is_stick L) p

abbrev pub result_from : Layer → List ℕ → ℕ → State → State
result_from L t p s = foldl (with_stick L t) s (sticks_from L p)

-- The sticks below number p are done: they gave at most p edges, what is left to store has room, and the sum is small, as each edge adds at most 2^37.
pub record Below (L : Layer) (t : List ℕ) (p : ℕ) (s : State) : Type 0 where
  pub accepted : Accepted L t
  pub room : s.running.edges + length (drawn_among L t (sticks_from L p)) ≤ length s.output
  pub few : s.running.edges ≤ p
  pub small : nat_abs s.running.sum ≤ 2 ^ 37 * s.running.edges

-- The code has gone on from number p, with state s, to p' and s': from there the result is the same.
pub record Onward (L : Layer) (t : List ℕ) (p : ℕ) (s : State) (p' : ℕ) (s' : State) : Type 0 where
  pub below : Below L t p' s'
  pub same_length : length s'.output ≡ length s.output
  pub same : result_from L t p' s' ≡ result_from L t p s

-- the number at which the code stands in row r of a kind: that of column c, or of the row's end
abbrev pub spot : Size → Bool → ℕ → ℕ → ℕ
spot size vertical r c = row_start size vertical r + min c (edge_columns size vertical)

-- it stands there, or at the stick e
pub record InRow (L : Layer) (t : List ℕ) (vertical : Bool) (r c : ℕ) (s : State) : Type 0 where
  pub row : r < edge_rows L.size vertical
  pub below : Below L t (spot L.size vertical r c) s

pub record AtStick (L : Layer) (t : List ℕ) (e : Edge) (s : State) : Type 0 where
  pub stick : is_stick L e ≡ true
  pub below : Below L t (number L.size e) s

-- The sums after all drawn edges stand in the output, and the last of them is `total`, which fits: each edge adds at most 2^37, and there are fewer than
-- 2^21.
pub record AllSummed (L : Layer) (t : List ℕ) (found left : List ℤ) (total : ℤ) : Type 0 where
  pub put : left ≡ sets found 0 (sums_of L t)
  pub last : total ≡ total_of L t
  pub small : nat_abs total ≤ 2 ^ 58
