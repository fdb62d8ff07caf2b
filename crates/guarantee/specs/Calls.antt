-- "The list of demand 3 may be empty and has its calls in any order and number. It opens on the table as an accepted Trace or sheet reading
-- left it. Each call gets W, H and the bitmap of that opening call, and the table as the call before it left it, done, refused or stopped
-- partway through a roll." The functions of src/ make these calls and promise to leave the tables that are defined here.
use Rattle.std.specs.Prelude.{◌≡◌, Bool, true, false, not, ℕ, ◌<◌, get_or}
use mathlib.Core.List.{List, foldl}
use Rattle.arith.specs.Lists.{each}
use Rattle.grid.specs.Layer.{Layer}
use Rattle.table.specs.Pins.{PinsStay}
use Rattle.faithful.specs.Faithful.{Faithful}
use Rattle.trace.specs.Trace.{trace_of}
use Rattle.smooth.specs.Call.{smooth_of}
use Rattle.simplify.specs.Call.{simplify_of}
use Rattle.reading.specs.Reading.{read_of}
use Rattle.roll.specs.Roll.{roll_of}

-- a list of bytes: each element is below 256
abbrev pub Bytes : List ℕ → Type 0
Bytes l = (k : ℕ) → get_or l k 0 < 256

-- a sheet as it is lent, and the one that a list of bytes is
pub record Sheet : Type 0 where
  pub bytes : List ℕ
  pub below : Bytes bytes

abbrev pub sheet_from : (l : List ℕ) → Bytes l → Sheet
sheet_from l below = record { bytes = l; below = below }

-- the calls that write a table, with what each is given besides W, H, the bitmap and the table
pub data Call : Type 0 where
  trace : Call
  read : Sheet → Call
  smooth : (limit : ℕ) → Call
  simplify : (tolerance : ℕ) → Call
  roll : (commands : List ℕ) (tolerance : ℕ) → Call

-- the table that a call leaves, done, refused or stopped partway
abbrev pub after : Layer → List ℕ → Call → List ℕ
after L t trace = (trace_of L t).table
after L t (read sheet) = (read_of L t sheet.bytes).table
after L t (smooth limit) = (smooth_of L limit t).table
after L t (simplify tolerance) = (simplify_of L tolerance t).table
after L t (roll commands tolerance) = (roll_of L tolerance commands t).table

-- the table after a list of calls
abbrev pub after_all : Layer → List ℕ → List Call → List ℕ
after_all L t calls = foldl (after L) t calls

-- "an accepted Trace or sheet reading": the calls that may open a list, and that one was accepted on the table t
pub data Opening : Type 0 where
  by_trace : Opening
  by_sheet : Sheet → Opening

abbrev pub OpeningAccepted : Layer → List ℕ → Opening → Type 0
OpeningAccepted L t by_trace = (trace_of L t).refusal ≡ 0
OpeningAccepted L t (by_sheet sheet) = (read_of L t sheet.bytes).refusal ≡ 0

abbrev pub opened : Layer → List ℕ → Opening → List ℕ
opened L t by_trace = (trace_of L t).table
opened L t (by_sheet sheet) = (read_of L t sheet.bytes).table

-- Demand 3: after every list of calls the layer is faithful, that is, its contours are closed and apart, and pass between two adjacent
-- samples once where these differ and never where they agree. proofs/Guarantee.antt proves it.
abbrev pub Guarantee : Type 0
Guarantee = (L : Layer) (t : List ℕ) (opening : Opening) → OpeningAccepted L t opening → (calls : List Call)
    → Faithful L (after_all L (opened L t opening) calls)

-- Beside it, Note 5: a pinned vertex's "offset is the same after any sequence that doesn't trace or read a sheet". Trace and reading a sheet set
-- pins anew.
abbrev pub sets_pins : Call → Bool
sets_pins trace = true
sets_pins (read sheet) = true
sets_pins (smooth limit) = false
sets_pins (simplify tolerance) = false
sets_pins (roll commands tolerance) = false

-- On whatever layer and table the list begins, and whatever its calls bring: an entry that is pinned then is the same entry after it.
-- proofs/Guarantee.antt proves it.
abbrev pub PinsHold : Type 0
PinsHold = (L : Layer) (t : List ℕ) (calls : List Call) → each (λ call. not (sets_pins call)) calls ≡ true → PinsStay t (after_all L t calls)
