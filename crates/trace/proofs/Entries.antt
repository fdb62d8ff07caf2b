-- The entries of a traced table, written one by one in a run of eight, run by run in a row, row by row in a kind, and the two kinds. A turn of
-- each loop writes the entries that come next.
use mathlib.Core.Path.{◌≡◌, refl, ap, sym, ◌∙◌}
use mathlib.Core.Bool.{Bool, true, false}
use mathlib.Core.List.{List}
use Prim.Native.Nat.{ℕ, zero, suc, ◌+◌, ◌-◌, ◌*◌, ◌<◌, ◌≤◌}
use native.Mathlib.Nat.{add_assoc, zero-add}
use native.Mathlib.Omega.{arith}
use lib.ListN.{length, get_or}
use Rattle.std.proofs.lemmas.List.{get_or-set_other, ext_get_or, places}
use borrow.Rule.Slice.PartMut.{put_mid, mid_of}
use borrow.Author.Rules.{rules}
use Rattle.std.proofs.lemmas.Grind.{common_steps}
use mathlib.Core.Logic.{◌⊎◌, inl, inr}
use native.Mathlib.Decide.{dec_lt}
use Rattle.arith.specs.Ranges.{fill}
use Rattle.arith.proofs.Ranges.{length-fill, fill-at, fill-add}
use Rattle.grid.specs.Layer.{Layer, bit}
use Rattle.grid.specs.Edges.{edge_columns, edge_rows, edge_count, kind_start, row_start, edge_at, is_stick}
use Rattle.grid.proofs.Numbers.{edge_at-row, edges-split}
use Rattle.table.specs.Lent.{Lent, LentRow}
use Rattle.table.proofs.Pieces.{reached, Piece, lent-run}
use Rattle.trace.specs.Trace.{traced, traced_entry}

-- A run: what is written to a part of the table

fill-outside : (f : ℕ → ℕ) (a n k : ℕ) (t : List ℕ) → (k < a) ⊎ (a + n ≤ k) → get_or (fill f a n t) k 0 ≡ get_or t k 0
unfolding fill
fill-outside f a zero k t out = refl
fill-outside f a (suc n) k t (inl l) =
    get_or-set_other (fill f a n t) (a + n) k (f (a + n)) 0 (λ e. omega arith) ∙ fill-outside f a n k t (inl l)
fill-outside f a (suc n) k t (inr l) =
    get_or-set_other (fill f a n t) (a + n) k (f (a + n)) 0 (λ e. omega arith) ∙ fill-outside f a n k t (inr (omega arith))

pub part-filled : (f : ℕ → ℕ) (a n : ℕ) (t ys : List ℕ) → length ys ≡ n → a + n ≤ length t → ((k : ℕ) → k < n → get_or ys k 0 ≡ f (a + k))
    → put_mid a n t ys ≡ fill f a n t
part-filled f a n t ys len within here =
    ext_get_or 0 (put_mid a n t ys) (fill f a n t) (grind (arith, common_steps, length-fill f a n t))
    (λ k h. elim (dec_lt k a) [
      | yes l ↦ (search (rules, places)) ∙ sym (fill-outside f a n k t (inl l))
      | no l ↦ elim (dec_lt k (a + n)) [
        | yes m ↦
            let at : a + (k - a) ≡ k = omega arith in
            let put : get_or (put_mid a n t ys) k 0 ≡ get_or ys (k - a) 0 = search (rules, places) in
            put ∙ here (k - a) (omega arith) ∙ sym (fill-at f a n (k - a) 0 t (omega arith) within) ∙ ap (λ (i : ℕ). get_or (fill f a n t) i 0) at
        | no m ↦ (search (rules, places)) ∙ sym (fill-outside f a n k t (inr (omega arith)))
      ]
    ])

-- A row: its piece `at` is written next

pub row-lent : {L : Layer} {t₀ t : List ℕ} {v : Bool} {r : ℕ} → LentRow L t₀ v r → length t ≡ length t₀ → LentRow L t v r
row-lent given same = record { sound = given.sound; exact = same ∙ given.exact; row = given.row }

module _ {L : Layer} {v : Bool} {r : ℕ} {t : List ℕ} {at start x n : ℕ} (lent : LentRow L t v r) (p : Piece L v r at start x n) where
  abbrev from : ℕ
  from = row_start L.size v r + 8 * at

  entry-is : (b : ℕ) → b < n → traced (bit x b) ≡ traced_entry L (from + b)
  entry-is b h =
      let edge = edge_at-row L.size lent.sound.whole.sized v (8 * at + b) r (omega (arith, p.fits)) lent.row in
      ap traced
      (p.marks.ones b (omega (arith, p.small)) ∙ ap (is_stick L) (sym (ap (edge_at L.size) (add_assoc (row_start L.size v r) (8 * at) b) ∙ edge)))

  pub row-turn : (t₀ run : List ℕ) → t ≡ fill (traced_entry L) (row_start L.size v r) (reached L.size v at) t₀
      → length run ≡ length (mid_of (start + 8 * at) (start + 8 * at + n - (start + 8 * at)) t) → ((k : ℕ) → k < length run → get_or run k 0 ≡ traced (bit x k))
      → put_mid (start + 8 * at) (start + 8 * at + n - (start + 8 * at)) t run ≡ fill (traced_entry L) (row_start L.size v r) (reached L.size v (at + 1)) t₀
  row-turn t₀ run so_far len put =
      let room = (lent-run lent p).within in
      let all : length run ≡ n = len ∙ grind (arith, common_steps) in
      let wide : from + n - from ≡ n = omega arith in
      let within : from + n ≤ length t = rw p.starts at room in
      rw (p.starts, wide)
      (part-filled (traced_entry L) from n t run all within (λ k h. put k (omega arith) ∙ entry-is k h) ∙ rw (so_far, ← p.from, fill-add, p.to))

-- A kind: its row r is written next

pub kind-turn : (L : Layer) (v : Bool) (t₀ : List ℕ) (r : ℕ) {t u : List ℕ}
    → t ≡ fill (traced_entry L) (kind_start L.size v) (r * edge_columns L.size v) t₀
    → u ≡ fill (traced_entry L) (row_start L.size v r) (edge_columns L.size v) t
    → u ≡ fill (traced_entry L) (kind_start L.size v) ((r + 1) * edge_columns L.size v) t₀
kind-turn L v t₀ r so_far e =
    let next : r * edge_columns L.size v + edge_columns L.size v ≡ (r + 1) * edge_columns L.size v = omega arith in
    e ∙ rw (so_far, fill-add, next)

-- Both kinds

pub both-kinds : {L : Layer} {t₀ t u : List ℕ} → Lent L t₀
    → t ≡ fill (traced_entry L) (kind_start L.size false) (edge_rows L.size false * edge_columns L.size false) t₀
    → u ≡ fill (traced_entry L) (kind_start L.size true) (edge_rows L.size true * edge_columns L.size true) t
    → u ≡ fill (traced_entry L) 0 (edge_count L.size) t₀
both-kinds {L} {t₀} given low high =
    let first = edge_rows L.size false * edge_columns L.size false in
    let second = edge_rows L.size true * edge_columns L.size true in
    high ∙ rw (low, edges-split L.size given.sound.whole.sized) (rw zero-add at (fill-add (traced_entry L) 0 first second t₀))
