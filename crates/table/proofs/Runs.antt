-- Question 6: the first wrong entry, found in runs of eight, by rows and by kinds, is the first by number. Each loop has its record of what was
-- passed; a turn of it is a part of the search (proofs/Searching), whose test agrees with that of the whole on that part.
use mathlib.Core.Path.{◌≡◌, refl, ap, ap₂, sym, ◌∙◌}
use mathlib.Core.Bool.{Bool, true, false}
use mathlib.Core.List.{List}
use Prim.Native.Nat.{ℕ, ◌+◌, ◌-◌, ◌*◌, ◌≤◌, ◌<◌}
use native.Mathlib.Omega.{arith}
use native.Mathlib.Nat.{add_assoc, zero-add, mul-le-mul_right}
use lib.Bits.{bit_or, or_add_and, and_le_l, and_le_r}
use lib.ListN.{get_or, length, take, drop}
use Rattle.std.proofs.lemmas.List.{get_or-take, get_or-drop, length-take-le, length-drop}
use Rattle.std.specs.Prelude.{Option, Some, None}
use Rattle.arith.specs.Ranges.{least_of}
use Rattle.arith.proofs.Ranges.{found-none, found}
use Rattle.grid.specs.Layer.{Layer}
use Rattle.grid.specs.Edges.{edge_columns, edge_rows, edge_count, kind_start, row_start, is_stick}
use Rattle.grid.specs.Questions.{Yes, No}
use Rattle.grid.specs.declared.edge.Edge.{Edge}
use Rattle.grid.specs.declared.refusal.Refusal.TheVariants.{WrongEntry}
use Rattle.grid.proofs.Bits.{bit_past}
use Rattle.grid.proofs.Numbers.{edge_in-at, edge_at-kind, edges-split, edges-small}
use Rattle.table.specs.Entries.{entry_of, wrong, wrong_at, wrong_of, wrong_in, wrong_from, entries_answer}
use Rattle.table.specs.Lent.{Lent, LentRow}
use Rattle.table.proofs.Searching.{NoneBelow, none-start, none-yes, part-passed, part-found, part_no}
use Rattle.table.proofs.Pieces.{reached, Piece, pieces-few, lent-run}

-- A run of entries: where they are all 0 and there is no stick, none of them is wrong

pub neither : (a b : ℕ) → bit_or a b ≡ 0 → (a ≡ 0) × (b ≡ 0)
neither a b e = let sum = or_add_and a b in (omega (arith, and_le_r a b), omega (arith, and_le_l a b))

pub zeros-right : (run : List ℕ) {x : ℕ} → x ≡ 0 → ((k : ℕ) → k < length run → get_or run k 0 ≡ 0)
    → None ≡ least_of (wrong_from run x) (length run)
unfolding entry_of
zeros-right run {x} none zero =
    found-none (wrong_from run x) (length run) (λ k h. rw (none, bit_past 0 0 k refl (omega arith), zero k h))

-- n entries of a table, from a place on, as code lends them
abbrev taken : List ℕ → ℕ → ℕ → List ℕ
taken t from n = take (from + n - from) (drop from t)

module _ (t : List ℕ) (from n : ℕ) where
  few : from + n - from ≡ n
  few = omega arith

  length-taken : from + n ≤ length t → length (taken t from n) ≡ n
  length-taken h = rw few (length-take-le n (drop from t) (simp length-drop (omega arith)))

  get_or-taken : (b : ℕ) → b < n → get_or (taken t from n) b 0 ≡ get_or t (from + b) 0
  get_or-taken b h = rw few (get_or-take n (drop from t) b 0 h ∙ get_or-drop from t b 0)

-- A row, in pieces: no entry of those before piece `at` is wrong

pub record RowPassed (L : Layer) (t : List ℕ) (v : Bool) (r at : ℕ) : Type 0 where
  pub few : at ≤ 128
  pub passed : NoneBelow (wrong_in L t v r) (reached L.size v at)

module _ {L : Layer} {t : List ℕ} {v : Bool} {r at : ℕ} (so_far : RowPassed L t v r at) where
  pub row-end : edge_columns L.size v ≤ 8 * at → None ≡ least_of (wrong_in L t v r) (edge_columns L.size v)
  row-end over = found-none _ _ (λ j h. so_far.passed.none j (omega arith))

  module _ (given : LentRow L t v r) {start x n : ℕ} (p : Piece L v r at start x n) {b : Option ℕ}
      (e : b ≡ least_of (wrong_from (taken t (start + 8 * at) n) x) (length (taken t (start + 8 * at) n))) where
    before : NoneBelow (wrong_in L t v r) (8 * at)
    before = rw p.from so_far.passed

    lowest : b ≡ least_of (wrong_from (taken t (start + 8 * at) n) x) n
    lowest = rw (length-taken t (start + 8 * at) n (lent-run given p).within) at e

    run-same : (j : ℕ) → j < n → wrong_from (taken t (start + 8 * at) n) x j ≡ wrong_in L t v r (8 * at + j)
    run-same j h =
        ap₂ wrong (p.marks.ones j (omega (arith, p.small)))
        (get_or-taken t (start + 8 * at) n j h
        ∙ ap (λ (k : ℕ). get_or t k 0) (rw p.starts (add_assoc (row_start L.size v r) (8 * at) j)))

    pub row-found : {k : ℕ} → b ≡ Some k → Some (8 * at + k) ≡ least_of (wrong_in L t v r) (edge_columns L.size v)
    row-found some = part-found before _ run-same lowest some p.fits

    pub row-within : {k : ℕ} → b ≡ Some k → k < n
    row-within some = (found _ n lowest some).within

    pub row-turn : b ≡ None → RowPassed L t v r (at + 1)
    row-turn none = record { few = pieces-few given p; passed = rw p.to at (part-passed before _ run-same lowest none) }

-- A kind, by rows: no entry of those before row r is wrong

pub record KindPassed (L : Layer) (t : List ℕ) (v : Bool) (r : ℕ) : Type 0 where
  pub passed : NoneBelow (wrong_of L t v) (r * edge_columns L.size v)

module _ {L : Layer} {t : List ℕ} {v : Bool} {r : ℕ} (so_far : KindPassed L t v r) where
  pub kind-end : edge_rows L.size v ≤ r → None ≡ least_of (wrong_of L t v) (edge_rows L.size v * edge_columns L.size v)
  kind-end over =
      let reached = mul-le-mul_right (edge_columns L.size v) over in
      found-none _ _ (λ j h. so_far.passed.none j (omega arith))

  module _ (given : LentRow L t v r) {c : Option ℕ} (e : c ≡ least_of (wrong_in L t v r) (edge_columns L.size v)) where
    row_same : (j : ℕ) → j < edge_columns L.size v → wrong_in L t v r j ≡ wrong_of L t v (r * edge_columns L.size v + j)
    row_same j h =
        ap₂ wrong
        (ap (is_stick L) (sym (edge_in-at L.size given.sound.whole.sized v j r h)))
        (ap (λ (k : ℕ). get_or t k 0) (add_assoc (kind_start L.size v) (r * edge_columns L.size v) j))

    next : r * edge_columns L.size v + edge_columns L.size v ≡ (r + 1) * edge_columns L.size v
    next = omega arith

    pub kind-found : {k : ℕ} → c ≡ Some k
        → Some (r * edge_columns L.size v + k) ≡ least_of (wrong_of L t v) (edge_rows L.size v * edge_columns L.size v)
    kind-found some =
        let below : r + 1 ≤ edge_rows L.size v = omega (arith, given.row) in
        let up = mul-le-mul_right (edge_columns L.size v) below in
        part-found so_far.passed (wrong_in L t v r) row_same e some (omega (arith, next))

    pub kind-turn : c ≡ None → KindPassed L t v (r + 1)
    kind-turn none = record { passed = rw next at (part-passed so_far.passed (wrong_in L t v r) row_same e none) }

-- Both kinds: the horizontal edges come first

module _ {L : Layer} {t : List ℕ} (given : Lent L t) where
  abbrev edges : Bool → ℕ
  edges v = edge_rows L.size v * edge_columns L.size v

  kind-same : (v : Bool) (k : ℕ) → k < edges v → wrong_of L t v k ≡ wrong_at L t (kind_start L.size v + k)
  kind-same v k h =
      ap (λ (e : Edge). wrong (is_stick L e) (get_or t (kind_start L.size v + k) 0))
      (sym (edge_at-kind L.size given.sound.whole.sized v k h))

  split : edge_count L.size ≡ kind_start L.size true + edges true
  split = edges-split L.size given.sound.whole.sized

  none_passed : NoneBelow (wrong_at L t) 0
  none_passed = none-start

  module _ {x : Option ℕ} (low : x ≡ least_of (wrong_of L t false) (edges false)) where
    pub entries-low : {k : ℕ} → x ≡ Some k → No WrongEntry k ≡ entries_answer L t
    unfolding entries_answer
    entries-low some =
        rw zero-add at (part_no none_passed (wrong_of L t false) (kind-same false) low some {n = edge_count L.size} (omega (arith, split)) WrongEntry)

    module _ (none : x ≡ None) {y : Option ℕ} (high : y ≡ least_of (wrong_of L t true) (edges true)) where
      low-passed : NoneBelow (wrong_at L t) (kind_start L.size true)
      low-passed = rw zero-add at (part-passed none_passed (wrong_of L t false) (kind-same false) low none)

      module _ {k : ℕ} (some : y ≡ Some k) where
        pub places-few : kind_start L.size true + k ≤ 2095104
        places-few =
            omega (arith, split, (found (wrong_of L t true) (edges true) high some).within, edges-small L.size given.sound.whole.sized)

        pub entries-high : No WrongEntry (kind_start L.size true + k) ≡ entries_answer L t
        unfolding entries_answer
        entries-high = part_no low-passed (wrong_of L t true) (kind-same true) high some (omega (arith, split)) WrongEntry

      pub entries-right : y ≡ None → Yes ≡ entries_answer L t
      unfolding entries_answer
      entries-right over =
          none-yes (part-passed low-passed (wrong_of L t true) (kind-same true) high over) WrongEntry (omega (arith, split))
