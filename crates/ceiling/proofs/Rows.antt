-- The program's rows: a line that is found by Counts, Trace, Roll and Simplify is that of their definitions, and on a row of one to five samples it is the
-- one that reaches the ceiling.
use mathlib.Core.Path.{◌≡◌, refl, ap, ◌∙◌}
use mathlib.Core.List.{List, [], ◌∷◌}
use Prim.Native.Nat.{ℕ, zero, suc, ◌+◌, ◌-◌, ◌*◌, ◌/◌, ◌%◌, ◌^◌, ◌≤◌}
use native.Mathlib.Nat.{one-le-pow}
use native.Mathlib.Omega.{arith}
use lib.ListN.{length, take, drop, replicate, length-replicate}
use lib.Pow.{shl_exact, pow_mono}
use Rattle.std.specs.Prelude.{Result, Ok, Err}
use Rattle.grid.specs.Layer.{Layer, layer_of, size_of}
use Rattle.grid.specs.Questions.{Answer}
use Rattle.grid.specs.declared.refusal.Refused.{Refused}
use Rattle.trace.specs.Counts.{Figures, counts_of, figures_of}
use Rattle.trace.specs.Trace as Trace
use Rattle.trace.specs.Trace.{trace_of}
use Rattle.trace.specs.declared.counting.Counted.{Counted}
use Rattle.trace.proofs.Outcomes.{trace-leaves}
use Rattle.roll.specs.Roll as Roll
use Rattle.roll.specs.Roll.{Rolled, roll_of}
use Rattle.roll.proofs.Held.{roll-leaves}
use Rattle.simplify.specs.Call as Simplify
use Rattle.simplify.specs.Call.{simplify_of}
use Rattle.simplify.specs.declared.tries.RunCounts.{RunCounts}
use Rattle.ceiling.specs.Ceiling.{contour_ceiling}
use Rattle.ceiling.specs.Reached.{samples_byte, row_entries, longest_roll, slide_roll, ReachesCeiling, line_after, row_line, ceiling_line}
use Rattle.ceiling.specs.declared.Line.{Line}
use Rattle.ceiling.proofs.Reached.{ceiling-reached}

-- a layer of three rows with this byte in its middle row
abbrev row_of : ℕ → ℕ → Layer
row_of samples byte = layer_of (size_of (samples + 2) 3) (0 ∷ byte ∷ 0 ∷ [])

-- the runs tried are the same figure whatever the table
same-tried : (r : Result RunCounts Refused) (u : List ℕ) → (Simplify.outcome r []).tried ≡ (Simplify.outcome r u).tried
same-tried (Ok counts) u = refl
same-tried (Err e) u = refl

-- t is the table at first, and t₁, t₂ and t₃ those after Trace, Roll and Simplify
pub line-is : (L : Layer) (roll t t₁ t₂ t₃ : List ℕ) (c : Result Counted Refused) (a : Answer) (b : Rolled) (r : Result RunCounts Refused) {vertices tried : ℕ}
    → figures_of c ≡ counts_of L (length t) → Trace.outcome a t₁ ≡ trace_of L t → Roll.outcome b t₂ ≡ roll_of L 0 roll t₁
    → Simplify.outcome r t₃ ≡ simplify_of L 0 t₂ → vertices ≡ (figures_of c).sticks → tried ≡ (Simplify.outcome r []).tried
    → record { vertices = vertices; tried = tried } ≡ line_after L roll t
line-is L roll t t₁ t₂ t₃ c a b r counted traced slid simplified is-vertices is-tried =
    let after = roll-leaves L 0 roll t₁ b slid ∙ ap (λ (u : List ℕ). (roll_of L 0 roll u).table) (trace-leaves L t a traced) in
    let vertices = is-vertices ∙ ap (λ (x : Figures). x.sticks) counted in
    let tried = is-tried ∙ same-tried r t₃ ∙ ap (λ (o : Simplify.Outcome). o.tried) simplified ∙ ap (λ (u : List ℕ). (simplify_of L 0 u).tried) after in
    λ i. record { vertices = vertices i; tried = tried i }

-- a layer that reaches the ceiling has the line of the ceiling
reaches-line : {n : ℕ} {L : Layer} {roll t : List ℕ} → ReachesCeiling n L roll t
    → line_after L roll (replicate (length t) 0) ≡ record { vertices = n; tried = contour_ceiling n }
reaches-line {n} {L} {roll} {t} r =
    let vertices = ap (λ (k : ℕ). (counts_of L k).sticks) (length-replicate {A = ℕ} (length t) 0) ∙ r.counted in
    let tried = ap (λ (o : Roll.Outcome). (simplify_of L 0 o.table).tried) r.table-after ∙ ap (λ (o : Simplify.Outcome). o.tried) r.answer in
    λ i. record { vertices = vertices i; tried = tried i }

-- what the code lends: the byte that it computes, the end of the longest roll, and the first entries of an array of zeros
abbrev pub lent_line : ℕ → ℕ → Line
lent_line samples byte =
    let start : ℕ = 28 - samples / 2 * 14 in
    line_after (row_of samples byte) (take (29 - start) (drop start longest_roll)) (take (5 * samples + 7 - 0) (replicate 32 0))

with_byte : (samples byte : ℕ) → byte ≡ samples_byte samples
    → line_after (row_of samples byte) (slide_roll samples) (replicate (row_entries samples) 0) ≡ row_line samples
with_byte samples byte is = ap (λ (b : ℕ). line_after (row_of samples b) (slide_roll samples) (replicate (row_entries samples) 0)) is

pub row-lines : (samples byte : ℕ) → 1 ≤ samples → samples ≤ 5 → byte ≡ samples_byte samples
    → (lent_line samples byte ≡ row_line samples) × (row_line samples ≡ ceiling_line samples)
row-lines zero byte low high is = absurd (omega arith)
row-lines (suc zero) byte low high is = (with_byte 1 byte is, reaches-line ceiling-reached.four)
row-lines (suc (suc zero)) byte low high is = (with_byte 2 byte is, reaches-line ceiling-reached.six)
row-lines (suc (suc (suc zero))) byte low high is = (with_byte 3 byte is, reaches-line ceiling-reached.eight)
row-lines (suc (suc (suc (suc zero)))) byte low high is = (with_byte 4 byte is, reaches-line ceiling-reached.ten)
row-lines (suc (suc (suc (suc (suc zero))))) byte low high is = (with_byte 5 byte is, reaches-line ceiling-reached.twelve)
row-lines (suc (suc (suc (suc (suc (suc k)))))) byte low high is = absurd (omega arith)

-- no bit of the byte is lost by the shift
pub byte-shifted : {samples : ℕ} → samples ≤ 5 → (2 * 2 ^ samples % 18446744073709551616 ≡ 2 * 2 ^ samples) × (1 ≤ 2 ^ samples) × (2 ^ samples ≤ 32)
byte-shifted {samples} high = (shl_exact 2 samples 64 (omega arith) (omega arith), one-le-pow samples 2 (omega arith), pow_mono high)
