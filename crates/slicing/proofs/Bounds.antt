-- How long an answer is: a layer with sides of at most 64 has at most 8,064 grid edges. So a sheet, with 6 + 6 × contours + 2 × vertices bytes,
-- has at most 28,230 of them, since each contour has four vertices or more.
use mathlib.Core.Path.{◌≡◌}
use mathlib.Core.Bool.{true}
use mathlib.Core.List.{List, [], ◌∷◌, map, flatten}
use Prim.Native.Nat.{ℕ, ◌-◌, ◌*◌, ◌≤◌}
use native.Mathlib.Nat.{mul-le-mul}
use native.Mathlib.Omega.{arith}
use borrow.Author.Tests.{leb-true}
use lib.Dec.{leb}
use lib.ListN.{length, length-append}
use Rattle.arith.proofs.Booleans.{and_split}
use Rattle.arith.proofs.Ranges.{count-le}
use Rattle.grid.specs.Layer.{Layer}
use Rattle.grid.specs.Edges.{edge_count, stick_at}
use Rattle.grid.specs.Questions.{Yes, Sized, Sound}
use Rattle.grid.specs.declared.layer.Size.{Size}
use Rattle.grid.specs.declared.edge.Edge.{Edge}
use Rattle.contour.specs.Walk.{contour}
use Rattle.contour.specs.Contours.{walk_of, contour_of, first_sticks}
use Rattle.contour.proofs.Theorems.{total-length, AllSticks, head-stick, tail-sticks, firsts-sticks}
use Rattle.table.specs.Entries.{entries_answer}
use Rattle.drawn.proofs.FourKept.{four-sticks}
use Rattle.sheet.specs.Written.{sheet_of}
use Rattle.sheet.proofs.Counted.{sheet-length}
use Rattle.slicing.specs.Slice.{side_limit, side_fits, sides_fit, table_limit, answer_limit}

-- what a yes to the question on the sides says
side-of : (n : ℕ) → side_fits n ≡ true → (2 ≤ n) × (n ≤ side_limit)
side-of n h =
    let both = and_split (leb 2 n) (leb n side_limit) h in
    (leb-true 2 n both.0, leb-true n side_limit both.1)

pub record Small (size : Size) : Type 0 where
  pub sized : Sized size
  pub narrow : size.width ≤ side_limit
  pub low : size.height ≤ side_limit

pub small_of : (size : Size) → sides_fit size ≡ true → Small size
small_of size h =
    let both = and_split (side_fits size.width) (side_fits size.height) h in
    let w = side-of size.width both.0 in
    let k = side-of size.height both.1 in
    record {
      sized = record { wide = w.0; narrow = omega (arith, w.1); high = k.0; low = omega (arith, k.1) };
      narrow = w.1;
      low = k.1;
    }

pub edges_few : (size : Size) → Small size → edge_count size ≤ table_limit
unfolding edge_count
edges_few size small =
    let narrow = small.narrow in
    let low = small.low in
    let p = mul-le-mul {n₁ = size.width - 1} {m₁ = size.height} {n₂ = side_limit - 1} {m₂ = side_limit} (omega arith) low in
    let q = mul-le-mul {n₁ = size.width} {m₁ = size.height - 1} {n₂ = side_limit} {m₂ = side_limit - 1} narrow (omega arith) in
    omega arith

-- each contour has four sticks or more
module _ (L : Layer) (sound : Sound L) where
  contours-few : (l : List Edge) → AllSticks L l
      → 4 * length (map (contour (walk_of L)) l) ≤ length (flatten (map (contour (walk_of L)) l))
  unfolding flatten
  contours-few [] sticks = omega arith
  contours-few (f ∷ l) sticks =
      omega (
        arith,
        four-sticks L sound f (head-stick sound f l sticks),
        contours-few l (tail-sticks sound f l sticks),
        length-append (contour_of L f) (flatten (map (contour (walk_of L)) l)),
      )

  pub sheet-short : (t : List ℕ) → Small L.size → entries_answer L t ≡ Yes → length (sheet_of L t) ≤ answer_limit
  sheet-short t small suited =
      omega (
        arith,
        sheet-length L sound t suited,
        contours-few (first_sticks L) (firsts-sticks sound),
        total-length L sound,
        count-le (stick_at L) (edge_count L.size),
        edges_few L.size small,
      )
