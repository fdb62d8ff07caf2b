-- Writing and reading undo each other, said of the two calls: `write_of` and `read_of` are what the promises of `write_sheet` and `read_sheet`
-- name. proofs/RoundTrips.antt proves it.
use Rattle.std.specs.Prelude.{◌≡◌, List, ◌++◌, ℕ, ◌≤◌, ◌<◌, length, get_or, take, drop}
use Rattle.grid.specs.Layer.{Layer}
use Rattle.grid.specs.Edges.{edge_count}
use Rattle.sheet.specs.Written.{Outcome, write_of}
use Rattle.reading.specs.Reading.{read_of}

-- the sheet that a writing left: the first `written` bytes of its output
abbrev pub sheet_in : Outcome → List ℕ
sheet_in o = take o.written o.output

pub record RoundTrips : Type 0 where
  -- What an accepted writing leaves in its output, read, gives back the same table. The reading is lent a table t' of which nothing is asked
  -- but its length, "(W-1)×H + W×(H-1)".
  pub same_table : (L : Layer) (t t' out : List ℕ) → length t' ≡ edge_count L.size → (write_of L t out).refusal ≡ 0
      → read_of L t' (sheet_in (write_of L t out)) ≡ record { refusal = 0; place = 0; table = t }
  -- An accepted sheet of bytes, read and written again to an output that has room for it, is the same bytes: the output begins with them, and
  -- past them it is as before.
  pub same_bytes : (L : Layer) (t s out : List ℕ) → ((k : ℕ) → get_or s k 0 < 256) → length s ≤ length out → (read_of L t s).refusal ≡ 0
      → let again = write_of L (read_of L t s).table out in
      (again ≡ record { refusal = 0; place = 0; written = length s; output = s ++ drop (length s) out }) × (sheet_in again ≡ s)
