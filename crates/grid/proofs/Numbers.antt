-- The numbers of grid edges: each edge in the grid has one below `edge_count`, and the number tells the edge.
use mathlib.Core.Path.{◌≡◌, ap, ap₂, sym, ◌∙◌}
use mathlib.Core.Bool.{Bool, true, false}
use Prim.Native.Nat.{ℕ, ◌+◌, ◌-◌, ◌*◌, ◌≤◌, ◌<◌}
use native.Mathlib.Nat.{zero-add, add_assoc, mul-le-mul, mul_comm, div-add-mod', div-lt_iff_lt-mul, mod-lt}
use native.Mathlib.Decide.{dec_lt}
use native.Mathlib.Omega.{arith}
use borrow.Author.Tests.{ltb-true, lt-ltb, le-ltb}
use lib.Arith.{digits_lt, digits_div, digits_mod}
use lib.Dec.{ltb}
use Rattle.arith.proofs.Booleans.{and_split}
use Rattle.grid.specs.Layer.{stride}
use Rattle.grid.specs.Edges.{edge_columns, edge_rows, in_grid, kind_start, row_start, number, edge_count, edge_in, edge_at}
use Rattle.grid.specs.Questions.{Sized}
use Rattle.grid.specs.declared.layer.Size.{Size}
use Rattle.grid.specs.declared.edge.Edge.{Edge}

-- what `in_grid` tests
pub record WithinGrid (size : Size) (e : Edge) : Type 0 where
  pub column_below : e.column < edge_columns size e.vertical
  pub row_below : e.row < edge_rows size e.vertical

pub within : (size : Size) (e : Edge) → in_grid size e ≡ true → WithinGrid size e
within size e h =
    let both = and_split (ltb e.column (edge_columns size e.vertical)) (ltb e.row (edge_rows size e.vertical)) h in
    record { column_below = ltb-true _ _ both.0; row_below = ltb-true _ _ both.1 }

pub in-grid : (size : Size) (e : Edge) → WithinGrid size e → in_grid size e ≡ true
in-grid size e h = rw (lt-ltb _ _ h.column_below, lt-ltb _ _ h.row_below)

module _ (size : Size) (sized : Sized size) where
  pub columns-pos : (v : Bool) → 0 < edge_columns size v
  columns-pos true = omega (arith, sized)
  columns-pos false = omega (arith, sized)

  pub columns-narrow : (v : Bool) → edge_columns size v ≤ 1024
  columns-narrow true = omega (arith, sized)
  columns-narrow false = omega (arith, sized)

  -- a column that has an edge stands in one of the row's bytes
  pub column-stride : (v : Bool) (at : ℕ) → 8 * at < edge_columns size v → at < stride size
  column-stride true at h = omega arith
  column-stride false at h = omega arith

  pub row-below-height : (v : Bool) (r : ℕ) → r < edge_rows size v → r < size.height
  row-below-height true r h = omega arith
  row-below-height false r h = h

  -- the kinds' numbers fill what is below `edge_count`, one after the other
  pub edges-split : edge_count size ≡ kind_start size true + edge_rows size true * edge_columns size true
  unfolding edge_count
  edges-split = ap₂ ◌+◌ (mul_comm (size.width - 1) size.height) (mul_comm size.width (size.height - 1))

  pub kind-below : (v : Bool) → kind_start size v + edge_rows size v * edge_columns size v ≤ edge_count size
  kind-below true = omega (arith, edges-split)
  kind-below false = omega (arith, edges-split)

  pub edges-small : edge_count size ≤ 2095104
  unfolding edge_count
  edges-small =
      let p = mul-le-mul {n₁ = size.width - 1} {m₁ = size.height} {n₂ = 1023} {m₂ = 1024} (omega (arith, sized)) (omega (arith, sized)) in
      let q = mul-le-mul {n₁ = size.width} {m₁ = size.height - 1} {n₂ = 1024} {m₂ = 1023} (omega (arith, sized)) (omega (arith, sized)) in
      omega arith

  pub samples-small : size.height * size.width ≤ 1048576
  samples-small = mul-le-mul {n₁ = size.height} {m₁ = size.width} {n₂ = 1024} {m₂ = 1024} sized.low sized.narrow

  pub rows-small : (v : Bool) (r : ℕ) → r ≤ edge_rows size v → (r ≤ 1024) × (r * edge_columns size v ≤ 2095104)
  rows-small v r h =
      let m = mul-le-mul {n₁ = r} {m₁ = edge_columns size v} {n₂ = edge_rows size v} {m₂ = edge_columns size v} h (omega arith) in
      (low v h, omega (arith, kind-below v, edges-small))
    where
      low : (v : Bool) → r ≤ edge_rows size v → r ≤ 1024
      low true h = omega (arith, sized)
      low false h = omega (arith, sized)

  -- a row's numbers
  pub row_fits : (v : Bool) (r : ℕ) → r < edge_rows size v → row_start size v r + edge_columns size v ≤ edge_count size
  row_fits v r h =
      let more : r * edge_columns size v + edge_columns size v ≤ edge_rows size v * edge_columns size v =
      let m = mul-le-mul {n₁ = r + 1} {m₁ = edge_columns size v} {n₂ = edge_rows size v} {m₂ = edge_columns size v} (omega arith) (omega arith) in omega arith in
      omega (arith, kind-below v)

  pub in-kind-below : (e : Edge) → in_grid size e ≡ true → e.row * edge_columns size e.vertical + e.column < edge_rows size e.vertical * edge_columns size e.vertical
  in-kind-below e h = digits_lt (within size e h).row_below (within size e h).column_below

  pub number-below : (e : Edge) → in_grid size e ≡ true → number size e < edge_count size
  unfolding number
  number-below e h = omega (arith, in-kind-below e h, kind-below e.vertical)

  -- within a kind, row by row
  pub edge_in-at : (v : Bool) (c r : ℕ) → c < edge_columns size v → edge_in size v (r * edge_columns size v + c) ≡ record { vertical = v; column = c; row = r }
  edge_in-at v c r h =
      λ i. record { vertical = v; column = digits_mod r h i; row = digits_div r h i }

  pub edge_in-within : (v : Bool) (k : ℕ) → k < edge_rows size v * edge_columns size v → in_grid size (edge_in size v k) ≡ true
  edge_in-within v k h =
      in-grid size (edge_in size v k)
      (record {
        column_below = mod-lt k (columns-pos v);
        row_below = (div-lt_iff_lt-mul (columns-pos v)).1 h;
      })

  pub edge_at-kind : (v : Bool) (k : ℕ) → k < edge_rows size v * edge_columns size v → edge_at size (kind_start size v + k) ≡ edge_in size v k
  unfolding edge_at
  edge_at-kind true k h =
      rw (le-ltb (kind_start size true + k) (kind_start size true) (omega arith)) (ap (edge_in size true) (omega arith))
  edge_at-kind false k h = rw (zero-add, lt-ltb k (kind_start size true) h)

  pub edge_at-row : (v : Bool) (c r : ℕ) → c < edge_columns size v → r < edge_rows size v
      → edge_at size (row_start size v r + c) ≡ record { vertical = v; column = c; row = r }
  edge_at-row v c r hc hr =
      ap (edge_at size) (add_assoc (kind_start size v) (r * edge_columns size v) c)
      ∙ edge_at-kind v (r * edge_columns size v + c) (digits_lt hr hc)
      ∙ edge_in-at v c r hc

  pub edge_at-number : (e : Edge) → in_grid size e ≡ true → edge_at size (number size e) ≡ e
  unfolding number
  edge_at-number e h =
      edge_at-kind e.vertical (e.row * edge_columns size e.vertical + e.column) (in-kind-below e h)
      ∙ edge_in-at e.vertical e.column e.row (within size e h).column_below

  -- a number tells the edge
  pub number-injective : (e f : Edge) → in_grid size e ≡ true → in_grid size f ≡ true → number size e ≡ number size f → e ≡ f
  number-injective e f he hf same = sym (edge_at-number e he) ∙ ap (edge_at size) same ∙ edge_at-number f hf

  number-edge_in : (v : Bool) (k : ℕ) → number size (edge_in size v k) ≡ kind_start size v + k
  unfolding number
  number-edge_in v k = ap (λ (m : ℕ). kind_start size v + m) (div-add-mod' k (edge_columns size v))

  -- and each number below `edge_count` is that of an edge in the grid
  pub edge_at-within : (n : ℕ) → n < edge_count size → (in_grid size (edge_at size n) ≡ true) × (number size (edge_at size n) ≡ n)
  edge_at-within n h = elim (dec_lt n (kind_start size true)) [
    | yes l ↦
        let e = rw zero-add at (edge_at-kind false n l) in
        rw e (edge_in-within false n l, number-edge_in false n ∙ zero-add n)
    | no g ↦
        let k = n - kind_start size true in
        let l : k < edge_rows size true * edge_columns size true = omega (arith, edges-split) in
        let e = rw (add_back g) at (edge_at-kind true k l) in
        rw e (edge_in-within true k l, number-edge_in true k ∙ add_back g)
  ]
    where
      add_back : ¬ (n < kind_start size true) → kind_start size true + (n - kind_start size true) ≡ n
      add_back g = omega arith
