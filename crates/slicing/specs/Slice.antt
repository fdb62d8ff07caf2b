-- The layer program, from the bytes that it reads to the bytes that it writes: "The layer program reads L, W, H and the bitmap from standard
-- input, traces, smooths (limit 100), simplifies (T 64) and writes the sheet, or hex 3F and the number as one byte."
use Rattle.std.specs.Prelude.{Bool, cond, ◌&&◌, List, [], ◌∷◌, ℕ, ◌+◌, ◌-◌, ◌*◌, ◌/◌, eqb, leb, length, get_or, drop, replicate}
use Rattle.std.proofs.lemmas.List.Edits.{sets}
use Rattle.grid.specs.Layer.{Layer, layer_of, size_of}
use Rattle.grid.specs.Edges.{edge_count}
use Rattle.grid.specs.declared.layer.Size.{Size}
use Rattle.trace.specs.Trace.{Outcome, trace_of}
use Rattle.smooth.specs.Call.{smooth_of}
use Rattle.simplify.specs.Call.{simplify_of}
use Rattle.sheet.specs.Written.{sheet_of}

-- "L (hex 4C), W, H (16 bits, low byte first)": the letter, and the five bytes that the command has
abbrev pub size_letter : ℕ
size_letter = 0x4C

abbrev pub command_length : ℕ
command_length = 5

-- the input begins with the whole command
abbrev pub whole_command : List ℕ → Bool
whole_command input = leb command_length (length input) && eqb (get_or input 0 0) size_letter

-- "16 bits, low byte first"
abbrev pub number_at : List ℕ → ℕ → ℕ
number_at input i = get_or input i 0 + 256 * get_or input (i + 1) 0

-- "L, W, H and the bitmap"
abbrev pub layer_in : List ℕ → Layer
layer_in input = layer_of (size_of (number_at input 1) (number_at input 3)) (drop command_length input)

-- "Its sides are at most 64"; that they are 2 or more is question 1
abbrev pub side_limit : ℕ
side_limit = 64

abbrev pub side_fits : ℕ → Bool
side_fits n = leb 2 n && leb n side_limit

abbrev pub sides_fit : Size → Bool
sides_fit size = side_fits size.width && side_fits size.height

-- "hex 3F and the number as one byte"
abbrev pub refusal_mark : ℕ
refusal_mark = 0x3F

abbrev pub refused_bytes : ℕ → List ℕ
refused_bytes number = refusal_mark ∷ number ∷ []

-- "smooths (limit 100), simplifies (T 64)"
abbrev pub pass_limit : ℕ
pass_limit = 100

abbrev pub tolerance : ℕ
tolerance = 64

-- the table that is written, by the traced one
unfoldable pub refined : Layer → List ℕ → List ℕ
unfolding smooth_of simplify_of
refined L t = (simplify_of L tolerance (smooth_of L pass_limit t).table).table

-- the bytes, by the outcome of Trace: "and writes the sheet, or hex 3F and the number"
unfoldable pub bytes_after : Layer → Outcome → List ℕ
unfolding refined sheet_of
bytes_after L traced =
    cond (eqb traced.refusal 0) (sheet_of L (refined L traced.table)) (refused_bytes traced.refusal)

-- the bytes of a layer that is traced in the table t; they are the same for every table of that length, since Trace looks at no entry of t
abbrev pub bytes_in : Layer → List ℕ → List ℕ
bytes_in L t = bytes_after L (trace_of L t)

unfoldable pub layer_bytes : Layer → List ℕ
unfolding bytes_after trace_of
layer_bytes L = bytes_in L (replicate (edge_count L.size) 0)

-- "Its sides are at most 64, else 1; a wrong length gives 2, an input without a whole L command too." The command is asked
-- first, then the sides; the length is the first question that Trace may answer no after them.
unfoldable pub slice_of : List ℕ → List ℕ
unfolding layer_bytes
slice_of input =
    cond (whole_command input)
    (cond (sides_fit (layer_in input).size) (layer_bytes (layer_in input)) (refused_bytes 1))
    (refused_bytes 2)

-- the longest bitmap, 64 rows of 8 bytes, and one byte more than the longest input with it, 518: the program reads no further, and no byte
-- behind that changes the answer (proofs/Reading.antt, read-enough)
abbrev pub bitmap_limit : ℕ
bitmap_limit = side_limit * (side_limit / 8)

abbrev pub input_limit : ℕ
input_limit = command_length + bitmap_limit + 1

-- how many grid edges a layer of 64 by 64 samples has, the most there can be: 8,064
abbrev pub table_limit : ℕ
table_limit = 2 * (side_limit * (side_limit - 1))

-- No answer has more bytes than a sheet with a vertex on each of these edges and a contour for every four of them: 28,230 (proofs/Accepting.antt,
-- slice-short). `slice` takes an output of exactly this length.
abbrev pub answer_limit : ℕ
answer_limit = 6 + 6 * (table_limit / 4) + 2 * table_limit

-- how many bytes were written, and the output at exit
pub record Result : Type 0 where
  pub written : ℕ
  pub output : List ℕ

-- "Outputs past the answer's end stay untouched."
abbrev pub stored : List ℕ → List ℕ → Result
stored output bytes = record { written = length bytes; output = sets output 0 bytes }

abbrev pub outcome : ℕ → List ℕ → Result
outcome written output = record { written = written; output = output }
