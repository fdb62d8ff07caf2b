-- Demand 3 over the exported functions, as a C caller makes the calls: with figures of any length, where fewer than four refuse a call before its
-- first question; and, over the same calls, that pins hold (Note 5). proofs/Exported.antt proves both.
use Rattle.std.specs.Prelude.{◌≡◌, true, not, ℕ}
use mathlib.Core.List.{List, foldl}
use Rattle.arith.specs.Lists.{each}
use Rattle.grid.specs.Layer.{Layer}
use Rattle.table.specs.Pins.{PinsStay}
use Rattle.faithful.specs.Faithful.{Faithful}
use Rattle.guarantee.specs.Calls.{Call, trace, read, smooth, simplify, roll, Opening, by_trace, by_sheet, sets_pins}
use Rattle.puzhenim.specs.Face.{Face, trace_face, read_face, smooth_face, simplify_face, roll_face}

-- what the exported function of a call returns and leaves, by the definition that its promise names; its buffer is the table
abbrev pub face_of : Layer → List ℕ → Call → List ℕ → Face (List ℕ)
face_of L t trace figures = trace_face L t figures
face_of L t (read sheet) figures = read_face L t sheet.bytes figures
face_of L t (smooth limit) figures = smooth_face L limit t figures
face_of L t (simplify tolerance) figures = simplify_face L tolerance t figures
face_of L t (roll commands tolerance) figures = roll_face L tolerance commands t figures

-- a call with the figures that it is lent, and the table that it leaves
pub record Made : Type 0 where
  pub call : Call
  pub figures : List ℕ

abbrev pub table_after : Layer → List ℕ → Made → List ℕ
table_after L t made = (face_of L t made.call made.figures).buffers

-- the call that opens a list
abbrev pub opens : Opening → Call
opens by_trace = trace
opens (by_sheet sheet) = read sheet

-- after an opening that returned 0 and every list of calls the layer is faithful
abbrev pub ExportedGuarantee : Type 0
ExportedGuarantee = (L : Layer) (t : List ℕ) (opening : Opening) (figures : List ℕ) → (face_of L t (opens opening) figures).number ≡ 0
    → (calls : List Made) → Faithful L (foldl (table_after L) (face_of L t (opens opening) figures).buffers calls)

-- on whatever layer and table, an entry that is pinned is the same after every list of calls that neither traces nor reads a sheet (Note 5)
abbrev pub ExportedPins : Type 0
ExportedPins = (L : Layer) (t : List ℕ) (calls : List Made) → each (λ made. not (sets_pins made.call)) calls ≡ true
    → PinsStay t (foldl (table_after L) t calls)
