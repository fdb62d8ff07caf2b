-- Questions 3 and 4 as the code asks them: row by row, and along a row.
use mathlib.Core.Path.{◌≡◌}
use mathlib.Core.Bool.{Bool, true, false}
use Prim.Native.Nat.{ℕ, ◌+◌, ◌-◌, ◌*◌, ◌≤◌, ◌<◌}
use native.Mathlib.Nat.{mul-le-mul}
use native.Mathlib.Omega.{arith}
use lib.Arith.{digits_lt, digits_div, digits_mod}
use lib.ListN.{get_or}
use Rattle.std.specs.Prelude.{Option, Some, None}
use Rattle.arith.specs.Ranges.{least_of}
use Rattle.arith.proofs.Ranges.{below-add, found, none-found}
use Rattle.grid.specs.Layer.{Layer, stride, row_end}
use Rattle.grid.specs.Questions.{Yes, No, ask_each, spare_set, spare_answer, border_in, border_at, border_answer, Whole}
use Rattle.grid.specs.declared.refusal.Refusal.{Refusal}
use Rattle.grid.specs.declared.refusal.Refusal.TheVariants.{SpareBits, BorderInside}
use Rattle.grid.proofs.Samples.{last_byte, spare-inner, spare-row}
use Rattle.grid.proofs.Answers.{each-no, each-yes}

-- Row by row: of the n places of each row passed, none fails

pub record RowsPassed (L : Layer) (fails : Layer → ℕ → Bool) (n row : ℕ) : Type 0 where
  pub none : (k : ℕ) → k < row * n → fails L k ≡ false

module _ {L : Layer} {fails : Layer → ℕ → Bool} {n : ℕ} where
  pub rows_start : RowsPassed L fails n 0
  rows_start = record { none = λ k h. absurd (omega arith) }

  module _ {row : ℕ} (passed : RowsPassed L fails n row) where
    rows-turn : ((j : ℕ) → j < n → fails L (row * n + j) ≡ false) → RowsPassed L fails n (row + 1)
    rows-turn more =
        record { none = λ k h. below-add (λ (k : ℕ). fails L k ≡ false) (row * n) n passed.none more k (omega arith) }

    -- the lowest that fails stands in this row, and there is none
    rows-no : (q : Refusal) (j : ℕ) → row < L.size.height → j < n → fails L (row * n + j) ≡ true
        → ((i : ℕ) → i < j → fails L (row * n + i) ≡ false) → No q (row * n + j) ≡ ask_each q (fails L) (L.size.height * n)
    rows-no q j less within fail before =
        each-no q (fails L) (L.size.height * n) (row * n + j) (digits_lt less within) fail
        (below-add (λ (k : ℕ). fails L k ≡ false) (row * n) j passed.none before)

    rows-yes : (q : Refusal) → L.size.height ≤ row → Yes ≡ ask_each q (fails L) (L.size.height * n)
    rows-yes q all =
        let reached = mul-le-mul {n₁ = L.size.height} {m₁ = n} {n₂ = row} {m₂ = n} all (omega arith) in
        each-yes q (fails L) (L.size.height * n) (λ k h. passed.none k (omega arith))

-- spare bits, which only the last byte of a row has
module _ {L : Layer} (whole : Whole L) {row : ℕ} (passed : RowsPassed L spare_set (stride L.size) row) where
  module _ (bytes : (i : ℕ) → get_or L.bitmap i 0 < 256) where
    pub spare-turn : spare_set L (row_end L.size row) ≡ false → RowsPassed L spare_set (stride L.size) (row + 1)
    spare-turn none = rows-turn passed (spare-row L whole bytes row none)

    pub spare-here : row < L.size.height → spare_set L (row_end L.size row) ≡ true → No SpareBits (row_end L.size row) ≡ spare_answer L
    unfolding spare_answer
    spare-here less set =
        rw whole.exact
        (rows-no passed SpareBits (stride L.size - 1) less (omega (arith, last_byte L.size whole.sized)) set
        (spare-inner L whole bytes row))

  pub spare-none : L.size.height ≤ row → Yes ≡ spare_answer L
  unfolding spare_answer
  spare-none all = rw whole.exact (rows-yes passed SpareBits all)

-- the border, of which column c is the lowest of a row that is inside
in_row : (L : Layer) (r c : ℕ) → c < L.size.width → (b : Bool) → border_in L r c ≡ b → border_at L (r * L.size.width + c) ≡ b
in_row L r c h b e = rw (digits_div r h, digits_mod r h) e

module _ {L : Layer} {row : ℕ} (passed : RowsPassed L border_at L.size.width row) where
  module _ {lowest : Option ℕ} (asked : lowest ≡ least_of (border_in L row) L.size.width) where
    pub border-turn : lowest ≡ None → RowsPassed L border_at L.size.width (row + 1)
    border-turn none = rows-turn passed (λ j h. in_row L row j h false (none-found (border_in L row) L.size.width asked none j h))

    pub border-here : {c : ℕ} → row < L.size.height → lowest ≡ Some c → No BorderInside (row * L.size.width + c) ≡ border_answer L
    unfolding border_answer
    border-here {c} less some =
        let here = found (border_in L row) L.size.width asked some in
        rows-no passed BorderInside c less here.within (in_row L row c here.within true here.passes)
        (λ i l. in_row L row i (omega (arith, here.within)) false (here.before i l))

  pub border-none : L.size.height ≤ row → Yes ≡ border_answer L
  unfolding border_answer
  border-none all = rows-yes passed BorderInside all
