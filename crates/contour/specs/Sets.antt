-- The set of first sticks.
use Rattle.std.specs.Prelude.{◌≡◌, List, ℕ, length}
use Rattle.grid.specs.Layer.{Layer}
use Rattle.grid.specs.Edges.{edge_at}
use Rattle.grid.specs.Questions.{Sound}
use Rattle.bitset.specs.Sets.{words, has}
use Rattle.contour.specs.Walk.{first}
use Rattle.contour.specs.Contours.{walk_of}

-- the set is that of the first sticks of a sound layer: bit n says whether edge n is one, for every n
pub record FirstSet (L : Layer) (t : List ℕ) : Type 0 where
  pub sound : Sound L
  pub sized : length t ≡ words
  pub says : (n : ℕ) → has t n ≡ first (walk_of L) (edge_at L.size n)
