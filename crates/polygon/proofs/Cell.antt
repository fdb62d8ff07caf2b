-- The bounds on the enclosed area in one cell, for each of the sixteen patterns. In each the area is a polynomial in the pitch and the offsets of
-- the vertices on the sides that are linked, and the bounds follow from this: lines at two such offsets cut the square of the pitch into four
-- rectangles, each of at least 1.
use mathlib.Core.Path.{◌≡◌, refl, ap}
use mathlib.Core.Bool.{Bool, true, false, xor}
use Prim.Native.Nat.{ℕ, ◌+◌, ◌*◌, ◌-◌, ◌≤◌, ◌<◌}
use native.Mathlib.Nat.{mul-le-mul}
use native.Mathlib.Omega.{arith}
use Rattle.grid.specs.declared.edge.Edge.{Edge}
use Rattle.step.specs.Cells.{Corners, cut, edge_on}
use Rattle.step.specs.declared.cell.Side.{Side}
use Rattle.step.specs.declared.cell.Side.TheVariants.{South, East, North, West}
use Rattle.polygon.proofs.CellSums.{links_in, corners_in, more_in, less_in, CellBounds}

-- the rectangles at the offsets a and b, with a' and b' as the rests of G; and a and a' times one factor, b and b' times another
record Rectangles (G m l a a' b b' : ℕ) : Type 0 where
  some : 1 ≤ a * b
  past_b : a * b + 1 ≤ a * G
  past_a : a * b + 1 ≤ G * b
  past_both : a * G + G * b + 1 ≤ G * G + a * b
  split_a : m * a + m * a' ≡ m * G
  split_b : l * b + l * b' ≡ l * G

rectangles : {G m l a a' b b' : ℕ} → 0 < a → 0 < a' → a + a' ≡ G → 0 < b → 0 < b' → b + b' ≡ G → Rectangles G m l a a' b b'
rectangles {G} {m} {l} {a} {a'} {b} {b'} a-some a'-some a-whole b-some b'-some b-whole =
    omega (
      arith,
      mul-le-mul a-some b-some,
      mul-le-mul a-some b'-some,
      mul-le-mul a'-some b-some,
      mul-le-mul a'-some b'-some,
      ap (λ n. a * n) b-whole,
      ap (λ n. a' * n) b-whole,
      ap (λ n. n * b) a-whole,
      ap (λ n. G * n) a-whole,
      ap (λ n. m * n) a-whole,
      ap (λ n. l * n) b-whole,
    )

module _ (G : ℕ) (o : Edge → ℕ) (c r : ℕ) where
  -- the vertex on a side is strictly within it
  abbrev Within : Side → Type 0
  Within s = (0 < o (edge_on c r s)) × (o (edge_on c r s) < G)

  -- by what the enclosed part of a side is multiplied
  abbrev factor : Side → ℕ
  factor South = G * r
  factor East = G * (c + 1)
  factor North = G * (r + 1)
  factor West = G * c

  linked : (s t : Side) → Within s → Within t
      → let a : ℕ = o (edge_on c r s) in
      let b : ℕ = o (edge_on c r t) in
      Rectangles G (factor s) (factor t) a (G - a) b (G - b)
  linked s t v w = rectangles v.0 (omega arith) (omega arith) w.0 (omega arith) (omega arith)

  abbrev Bounds : Corners → Bool → Type 0
  Bounds k bore = CellBounds G (links_in k) (corners_in bore k) (more_in G o c r k bore) (less_in G o c r k bore)

  -- for an outline and for a bore
  both : (sw se nw ne : Bool)
      → let k : Corners = record { sw = sw; se = se; nw = nw; ne = ne } in
      ((s : Side) → cut k s ≡ true → Within s) → Bounds k false × Bounds k true
  unfolding xor
  both true true true true v = omega arith
  both true true true false v = omega (arith, linked North East (v North refl) (v East refl))
  both true true false true v = omega (arith, linked West North (v West refl) (v North refl))
  both true true false false v = omega (arith, linked West East (v West refl) (v East refl))
  both true false true true v = omega (arith, linked South East (v South refl) (v East refl))
  both true false true false v = omega (arith, linked South North (v South refl) (v North refl))
  both true false false true v =
      omega (arith, linked South West (v South refl) (v West refl), linked North East (v North refl) (v East refl))
  both true false false false v = omega (arith, linked South West (v South refl) (v West refl))
  both false true true true v = omega (arith, linked South West (v South refl) (v West refl))
  both false true true false v =
      omega (arith, linked South East (v South refl) (v East refl), linked West North (v West refl) (v North refl))
  both false true false true v = omega (arith, linked South North (v South refl) (v North refl))
  both false true false false v = omega (arith, linked South East (v South refl) (v East refl))
  both false false true true v = omega (arith, linked West East (v West refl) (v East refl))
  both false false true false v = omega (arith, linked West North (v West refl) (v North refl))
  both false false false true v = omega (arith, linked North East (v North refl) (v East refl))
  both false false false false v = omega arith

  pub cell-bounds : (k : Corners) (bore : Bool) → ((s : Side) → cut k s ≡ true → (0 < o (edge_on c r s)) × (o (edge_on c r s) < G))
      → CellBounds G (links_in k) (corners_in bore k) (more_in G o c r k bore) (less_in G o c r k bore)
  cell-bounds k false v = (both k.sw k.se k.nw k.ne v).0
  cell-bounds k true v = (both k.sw k.se k.nw k.ne v).1
