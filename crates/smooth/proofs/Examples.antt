-- The paper's cases on smoothing, cases with pins, and a layer with two contours on which Note 3 and the paper differ, by running the
-- definitions.
use mathlib.Core.Path.{◌≡◌, refl}
use mathlib.Core.Bool.{true, false, xor}
use mathlib.Core.List.{List, [], ◌∷◌}
use Prim.Native.Nat.{ℕ, zero, suc}
use Rattle.arith.specs.Ranges.{count}
use Rattle.grid.specs.Layer.{Layer, layer_of, sample, bit}
use Rattle.grid.specs.Edges.{number, edge_count, edge_at, is_stick}
use Rattle.step.specs.Walk.{next, prev}
use Rattle.contour.specs.Walk.{firsts_among}
use Rattle.contour.proofs.Examples.{square}
use Rattle.table.specs.Entries.{entry_of}
use Rattle.table.specs.Vertices.{pinned_at, offset_at}
use Rattle.smooth.specs.Smooth.{smooth}
use Rattle.smooth.specs.Former.{former}

-- "W 3, H 3, inside (1,1)", and the table with these offsets at "entries 2, 7, 3, 10 in contour order"
abbrev pub single : Layer
single = layer_of (square 3) (0 ∷ 2 ∷ 0 ∷ [])

abbrev pub offsets : ℕ → ℕ → ℕ → ℕ → List ℕ
offsets a b c d = 0 ∷ 0 ∷ a ∷ c ∷ 0 ∷ 0 ∷ 0 ∷ b ∷ 0 ∷ 0 ∷ d ∷ 0 ∷ []

abbrev pub traced : List ℕ
traced = offsets 128 128 128 128

-- "One pass on it: 179, 179, 77, 77, total 204."
pub one_pass : smooth single 1 traced ≡ record { table = offsets 179 179 77 77; passes = 1; total = 204; settled = false }
unfolding smooth firsts_among number edge_count edge_at is_stick sample bit next prev xor entry_of pinned_at offset_at count
one_pass = refl

-- "Its tenth pass ends at 255, 255, 1, 1, total 0, settled."
pub tenth_pass : smooth single 50 traced ≡ record { table = offsets 255 255 1 1; passes = 10; total = 0; settled = true }
unfolding smooth firsts_among number edge_count edge_at is_stick sample bit next prev xor entry_of pinned_at offset_at count
tenth_pass = refl

-- "Limit 9: total 4, not settled."
pub nine-passes : smooth single 9 traced ≡ record { table = offsets 255 255 1 1; passes = 9; total = 4; settled = false }
unfolding smooth firsts_among number edge_count edge_at is_stick sample bit next prev xor entry_of pinned_at offset_at count
nine-passes = refl

-- "Limit 0: 0 passes, total 0, limit."
pub no-pass : smooth single 0 traced ≡ record { table = traced; passes = 0; total = 0; settled = false }
unfolding smooth firsts_among number edge_count edge_at is_stick sample bit next xor entry_of pinned_at count
no-pass = refl

-- "No inside sample: 0 passes, settled.", with any limit, 0 too
pub no_vertices : (limit : ℕ) → smooth (layer_of (square 3) (0 ∷ 0 ∷ 0 ∷ [])) limit (offsets 0 0 0 0) ≡ record { table = offsets 0 0 0 0; passes = 0; total = 0; settled = true }
unfolding smooth firsts_among edge_count edge_at is_stick sample bit xor count
no_vertices zero = refl
no_vertices (suc limit) = refl

-- "Smooth skips pinned vertices: they add 0 to the total and count among the vertices." (Note 5): one of the four is pinned; three are, and the
-- fourth moves by 1, which is settled as 1000×1 < 256×4; all are
pub one-pinned : smooth single 1 (offsets 128 640 128 128) ≡ record { table = offsets 179 640 77 77; passes = 1; total = 153; settled = false }
unfolding smooth firsts_among number edge_count edge_at is_stick sample bit next prev xor entry_of pinned_at offset_at count
one-pinned = refl

pub pinned-counted : smooth single 9 (offsets 254 640 640 640) ≡ record { table = offsets 255 640 640 640; passes = 1; total = 1; settled = true }
unfolding smooth firsts_among number edge_count edge_at is_stick sample bit next prev xor entry_of pinned_at offset_at count
pinned-counted = refl

pub all-pinned : smooth single 9 (offsets 640 640 640 640) ≡ record { table = offsets 640 640 640 640; passes = 1; total = 0; settled = true }
unfolding smooth firsts_among number edge_count edge_at is_stick sample bit next prev xor entry_of pinned_at offset_at count
all-pinned = refl

-- W 5, H 4, inside (1,1) and (3,1), (2,2), (3,2): a contour of four vertices, and one of eight
abbrev pub beside : Layer
beside = layer_of (record { width = 5; height = 4 }) (0 ∷ 10 ∷ 12 ∷ 0 ∷ [])

abbrev pub traced_beside : List ℕ
traced_beside =
    0 ∷ 0 ∷ 0 ∷ 0 ∷ 128 ∷ 128 ∷ 128 ∷ 128 ∷ 0 ∷ 128 ∷ 0 ∷ 128 ∷ 0 ∷ 0 ∷ 0 ∷ 0
    ∷ 0 ∷ 128 ∷ 0 ∷ 128 ∷ 0 ∷ 0 ∷ 128 ∷ 128 ∷ 0 ∷ 0 ∷ 0 ∷ 0 ∷ 128 ∷ 128 ∷ 0 ∷ []

-- The eleventh pass changes the longer contour alone, by 3: taken over the layer it is settled, as 1000×3 < 256×12; by itself the contour is not, as
-- 256×8 is less, and goes on
pub over-the-layer : let r = former beside 50 traced_beside in (r.passes ≡ 11) × (r.total ≡ 3) × (r.settled ≡ true)
unfolding former firsts_among number edge_count edge_at is_stick sample bit next prev xor entry_of pinned_at offset_at count
over-the-layer = (refl, refl, refl)

pub by-contour : let r = smooth beside 50 traced_beside in (r.passes ≡ 12) × (r.total ≡ 2) × (r.settled ≡ true)
unfolding smooth firsts_among number edge_count edge_at is_stick sample bit next prev xor entry_of pinned_at offset_at
by-contour = (refl, refl, refl)

pub by-contour-eleven : let r = smooth beside 11 traced_beside in (r.passes ≡ 11) × (r.settled ≡ false)
unfolding smooth firsts_among number edge_count edge_at is_stick sample bit next prev xor entry_of pinned_at offset_at
by-contour-eleven = (refl, refl)
