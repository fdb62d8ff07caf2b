-- The ones of bytes, row by row and kind by kind, add up to the samples and edges of a layer.
use mathlib.Core.Path.{◌≡◌, ap, ap₂, sym, ◌∙◌}
use mathlib.Core.Bool.{Bool, true, false}
use Prim.Native.Nat.{ℕ, ◌+◌, ◌*◌, ◌≤◌, ◌<◌}
use native.Mathlib.Nat.{zero-add}
use native.Mathlib.Omega.{arith}
use borrow.Author.Tests.{le-ltb}
use lib.Arith.{digits_div, digits_mod}
use Rattle.arith.specs.Ranges.{count}
use Rattle.arith.proofs.Ranges.{count_add, count_same, count_past}
use Rattle.arith.proofs.Counting.{CountedTo, counted-turn, counted-all}
use Rattle.grid.specs.Layer.{Layer, stride, row_byte, bit, sample_in, sample_at}
use Rattle.grid.specs.Edges.{edge_columns, edge_rows, edge_count, is_stick, stick_in, stick_of, stick_at, StickBits}
use Rattle.grid.specs.Questions.{Sound}
use Rattle.mask.proofs.Masks.{sample-bit, sample-spare}
use Rattle.grid.proofs.Numbers.{edges-split, edge_in-at, edge_at-kind}

eight : (at : ℕ) → at * 8 ≡ 8 * at
eight at = omega arith

module _ {L : Layer} (sound : Sound L) where
  -- a byte more of a row
  pub inside-byte : (r : ℕ) {m at total : ℕ} → CountedTo (sample_in L r) 8 m at total → at < m
      → {x ones : ℕ} → x ≡ row_byte L at r → ones ≡ count (bit x) 8 → CountedTo (sample_in L r) 8 m (at + 1) (total + ones)
  inside-byte r {at = at} c less {x} is e =
      counted-turn c less (bit x) e (λ b h. rw (eight at, is) (sample-bit L at b r h))

  pub sticks-byte : (v : Bool) (r : ℕ) {m at total : ℕ} → CountedTo (stick_in L v r) 8 m at total → at < m
      → {x ones : ℕ} → StickBits L v at r x → ones ≡ count (bit x) 8 → CountedTo (stick_in L v r) 8 m (at + 1) (total + ones)
  sticks-byte v r {at = at} c less {x} marks e = counted-turn c less (bit x) e (λ b h. rw (eight at) (sym (marks.ones b h)))

  -- a row's bytes hold no more than its samples and edges
  pub inside-row : (r : ℕ) → r < L.size.height → {at total : ℕ} → CountedTo (sample_in L r) 8 (stride L.size) at total
      → stride L.size ≤ at → total ≡ count (sample_in L r) L.size.width
  inside-row r hr c all =
      counted-all c all
      ∙ count_past (sample_in L r) L.size.width (stride L.size * 8) (omega arith) (λ k w h. sample-spare L sound k r w (omega arith) hr)

  off-row : (v : Bool) (r c : ℕ) → edge_columns L.size v ≤ c → stick_in L v r c ≡ false
  unfolding is_stick
  off-row v r c h = rw (le-ltb c (edge_columns L.size v) h)

  columns-le : (v : Bool) → edge_columns L.size v ≤ stride L.size * 8
  columns-le true = omega arith
  columns-le false = omega arith

  pub sticks-row : (v : Bool) (r : ℕ) {at total : ℕ} → CountedTo (stick_in L v r) 8 (stride L.size) at total
      → stride L.size ≤ at → total ≡ count (stick_in L v r) (edge_columns L.size v)
  sticks-row v r c all =
      counted-all c all
      ∙ count_past (stick_in L v r) (edge_columns L.size v) (stride L.size * 8) (columns-le v) (λ k h l. off-row v r k h)

  -- a row more of a layer
  pub inside-rows : {m r total : ℕ} → CountedTo (sample_at L) L.size.width m r total → r < m
      → {more : ℕ} → more ≡ count (sample_in L r) L.size.width → CountedTo (sample_at L) L.size.width m (r + 1) (total + more)
  inside-rows {r = r} c less e = counted-turn c less (sample_in L r) e (λ k h. rw (digits_div r h, digits_mod r h))

  pub sticks-rows : (v : Bool) {m r total : ℕ} → CountedTo (stick_of L v) (edge_columns L.size v) m r total → r < m
      → {more : ℕ} → more ≡ count (stick_in L v r) (edge_columns L.size v)
      → CountedTo (stick_of L v) (edge_columns L.size v) m (r + 1) (total + more)
  sticks-rows v {r = r} c less e =
      counted-turn c less (stick_in L v r) e (λ k h. ap (is_stick L) (edge_in-at L.size sound.whole.sized v k r h))

  -- the two kinds make up the layer
  pub sticks-kinds : count (stick_at L) (edge_count L.size)
      ≡ count (stick_of L false) (edge_rows L.size false * edge_columns L.size false)
      + count (stick_of L true) (edge_rows L.size true * edge_columns L.size true)
  sticks-kinds =
      let sized = sound.whole.sized in
      let a = edge_rows L.size false * edge_columns L.size false in
      let b = edge_rows L.size true * edge_columns L.size true in
      ap (count (stick_at L)) (edges-split L.size sized)
      ∙ count_add (stick_at L) a b
      ∙ ap₂ ◌+◌
      (count_same (stick_at L) (stick_of L false) a (λ k h. ap (is_stick L) (rw zero-add at (edge_at-kind L.size sized false k h))))
      (count_same (λ k. stick_at L (a + k)) (stick_of L true) b (λ k h. ap (is_stick L) (edge_at-kind L.size sized true k h)))
