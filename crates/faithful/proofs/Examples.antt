-- `Faithful` holds of the traced single sample of the paper, and is refused by six wrong tables for it: a drawn edge over a sample, a contour
-- with two kept vertices, a stick without a vertex, a kept vertex off all sticks, a number off sticks that is no entry, and an entry too many.
-- Two other layers refuse one more each: an edge that touches a sample, and edges that meet.
use mathlib.Core.Path.{◌≡◌, refl, sym, ap, ◌∙◌}
use mathlib.Core.Logic.{inl, inr, ◌≢◌}
use mathlib.Core.Bool.{Bool, true, false, true≢false, false≢true, not, xor}
use mathlib.Core.List.{List, [], ◌∷◌, ◌++◌}
use Prim.Native.Nat.{ℕ, ◌+◌, ◌*◌, ◌<◌}
use native.Mathlib.Omega.{arith}
use lib.IntN.{pos, nat_abs}
use Rattle.arith.specs.Booleans.{as_number}
use Rattle.arith.specs.Ranges.{least_from}
use Rattle.grid.specs.Layer.{Layer, layer_of, size_of, sample, bit}
use Rattle.grid.specs.Edges.{number, edge_count, edge_at, is_stick}
use Rattle.grid.specs.Questions.{sides_answer, length_answer, spare_answer, border_answer}
use Rattle.grid.specs.declared.edge.Edge.{Edge}
use Rattle.step.specs.Walk.{next, prev}
use Rattle.contour.specs.Walk.{firsts_among}
use Rattle.chord.specs.Points.{Position, start, end, Point, point, On}
use Rattle.chord.proofs.Weights.{weights→on}
use Rattle.table.specs.Entries.{entry_of, suits, wrong, entries_answer, table_length_answer}
use Rattle.table.specs.Vertices.{kept_at, removed_at, offset_at}
use Rattle.table.specs.declared.entry.Entry.{Entry}
use Rattle.drawn.specs.Neighbours.{removed_from, kept_from, next_kept}
use Rattle.drawn.specs.Drawn.{vertex, edge_crosses, Drawn}
use Rattle.held.specs.Held.{held_contour, held_answer}
use Rattle.faithful.specs.Faithful.{Faithful, Passes}
use Rattle.faithful.proofs.Faithful.{accepted-is-faithful}

-- "W 3, H 3, inside (1,1)", with the four entries of its sticks, by number: 2, 3, 7 and 10
abbrev pub single : Layer
single = layer_of (size_of 3 3) (0 ∷ 2 ∷ 0 ∷ [])

abbrev pub entries : ℕ → ℕ → ℕ → ℕ → List ℕ
entries a b c d = 0 ∷ 0 ∷ a ∷ b ∷ 0 ∷ 0 ∷ 0 ∷ c ∷ 0 ∷ 0 ∷ d ∷ 0 ∷ []

abbrev edge : Bool → ℕ → ℕ → Edge
edge v c r = record { vertical = v; column = c; row = r }

pub traced-is-faithful : Faithful single (entries 128 128 128 128)
unfolding sides_answer length_answer spare_answer border_answer table_length_answer entries_answer held_answer held_contour edge_crosses
    firsts_among number edge_count edge_at is_stick sample bit next prev xor least_from kept_at removed_at offset_at removed_from kept_from entry_of
traced-is-faithful = accepted-is-faithful single (entries 128 128 128 128) refl

-- the points of the segment from p to q by their weights
mean : (α β : ℕ) (p q : Position) (z : Point) → z.x ≡ pos (nat_abs z.x) → z.y ≡ pos (nat_abs z.y) → 0 < α + β
    → nat_abs z.x * (α + β) ≡ (α * p.x + β * q.x) * z.d → nat_abs z.y * (α + β) ≡ (α * p.y + β * q.y) * z.d → On z p q
mean α β p q z fx fy n ex ey =
    weights→on (record {
      is_plain = record { x_plain = fx; y_plain = fy };
      α = α;
      β = β;
      some = n;
      is_mean = record { x_is = ex; y_is = ey };
    })

-- with the vertex below the sample removed, the drawn edge from the left to the right runs over the sample: the point and the sample
-- are both on it and on the stick
pub over-sample : Faithful single (entries 128 128 384 128) → ⊥
unfolding is_stick sample bit xor kept_at removed_at offset_at kept_from entry_of number edge_count next
over-sample f =
    let e = edge false 0 1 in
    let t = entries 128 128 384 128 in
    let d : Drawn single t e = record { stick = refl; kept = refl } in
    let z : Point = point (record { x = 128; y = 256 }) in
    let w : Point = point (record { x = 256; y = 256 }) in
    let P = vertex single t e in
    let Q = vertex single t (next_kept single t e) in
    let at-z : Passes single t e z = record {
      from = e;
      drawn = d;
      on_drawn = mean 1 0 P Q z refl refl (omega arith) refl refl;
      on_segment = mean 1 1 (start e) (end e) z refl refl (omega arith) refl refl;
    } in
    let at-w : Passes single t e w = record {
      from = e;
      drawn = d;
      on_drawn = mean 1 1 P Q w refl refl (omega arith) refl refl;
      on_segment = mean 0 1 (start e) (end e) w refl refl (omega arith) refl refl;
    } in
    let s = f.passes_once e refl false≢true z w at-z at-w in
    let n : ◌≡◌ {A = ℕ} 128 256 = ap nat_abs s.same_x in
    omega arith

-- two kept vertices are too few
pub two-kept : Faithful single (entries 128 128 384 384) → ⊥
unfolding firsts_among number edge_count edge_at is_stick sample bit next prev xor kept_at entry_of
two-kept f = let c = (f.closed (edge false 0 1) refl).three in omega arith

-- a stick without a vertex
pub no-vertex : Faithful single (entries 128 128 0 128) → ⊥
unfolding is_stick sample bit xor kept_at removed_at entry_of number
no-vertex f =
    let v = (f.vertices (edge true 1 0) refl).kept_or_removed in
    let n : ◌≡◌ {A = ℕ} 0 1 = ap as_number v in
    omega arith

-- the traced table with another number for the edge from (0,0) to (1,0), which is no stick
abbrev pub stray_entries : ℕ → List ℕ
stray_entries n = n ∷ 0 ∷ 128 ∷ 128 ∷ 0 ∷ 0 ∷ 0 ∷ 128 ∷ 0 ∷ 0 ∷ 128 ∷ 0 ∷ []

stray : (n : ℕ) → wrong false n ≡ true → Faithful single (stray_entries n) → ⊥
unfolding is_stick sample bit xor number
stray n w f = true≢false (sym w ∙ ap (λ (x : Entry). not (suits false x)) (f.no_vertices (edge false 0 0) refl refl))

-- a kept vertex off all sticks
pub stray-kept : Faithful single (stray_entries 5) → ⊥
unfolding entry_of
stray-kept = stray 5 refl

-- a number that stands for no vertex
pub stray-number : Faithful single (stray_entries 9999) → ⊥
unfolding entry_of
stray-number = stray 9999 refl

-- an entry more than there are edges
pub too_long : Faithful single (entries 128 128 128 128 ++ (0 ∷ [])) → ⊥
unfolding edge_count
too_long f = let n : ◌≡◌ {A = ℕ} 13 12 = f.exact in omega arith

-- "W 4, H 5", with the samples (1,1), (2,1), (1,2), (2,2) and (2,3) inside: two columns with a step at (1,2). Its ten entries by number are
-- 3, 5, 6, 8, 10, 11, 16, 17, 24 and 29; 6 and 24 are those of the two sticks at (1,2).
abbrev pub stair : Layer
stair = layer_of (size_of 4 5) (0 ∷ 6 ∷ 6 ∷ 4 ∷ 0 ∷ [])

abbrev pub stair_entries : ℕ → ℕ → List ℕ
stair_entries a b =
    0 ∷ 0 ∷ 0 ∷ 128 ∷ 0 ∷ 128 ∷ a ∷ 0 ∷ 128 ∷ 0 ∷ 128 ∷ 128 ∷ 0 ∷ 0 ∷ 0
    ∷ 0 ∷ 128 ∷ 128 ∷ 0 ∷ 0 ∷ 0 ∷ 0 ∷ 0 ∷ 0 ∷ b ∷ 0 ∷ 0 ∷ 0 ∷ 0 ∷ 128 ∷ 0 ∷ []

-- With both removed, the drawn edge past the step runs through the sample (1,2). It meets each of the two removed sticks in one point, that
-- sample, so that every stick is passed once, all contours are closed and no two drawn edges meet elsewhere; but it also passes between
-- (1,2) and (2,2), which are both inside.
pub touches-sample : Faithful stair (stair_entries 384 384) → ⊥
unfolding is_stick sample bit xor kept_at removed_at offset_at kept_from entry_of number edge_count next
touches-sample f =
    let p = edge false 1 3 in
    let e = edge false 1 2 in
    let t = stair_entries 384 384 in
    let z : Point = point (record { x = 256; y = 512 }) in
    f.passes_never e refl refl z (record {
      from = p;
      drawn = record { stick = refl; kept = refl };
      on_drawn = mean 1 1 (vertex stair t p) (vertex stair t (next_kept stair t p)) z refl refl (omega arith) refl refl;
      on_segment = mean 1 0 (start e) (end e) z refl refl (omega arith) refl refl;
    })

-- "W 5, H 4", with the samples (1,1), (1,2), (2,2), (3,2) and (3,1) inside: an arch. Its twelve entries by number are 4 to 8, 11, 17, 19, 23
-- and 27 to 29; 11 and 27 to 29 are those of the sticks over its top, and 23 is that of the one under it.
abbrev pub arch : Layer
arch = layer_of (size_of 5 4) (0 ∷ 10 ∷ 14 ∷ 0 ∷ [])

abbrev pub arch_entries : ℕ → ℕ → List ℕ
arch_entries top under =
    0 ∷ 0 ∷ 0 ∷ 0 ∷ 128 ∷ 128 ∷ 128 ∷ 128 ∷ 128 ∷ 0 ∷ 0 ∷ top ∷ 0 ∷ 0 ∷ 0 ∷ 0
    ∷ 0 ∷ 128 ∷ 0 ∷ 128 ∷ 0 ∷ 0 ∷ 0 ∷ under ∷ 0 ∷ 0 ∷ 0 ∷ top ∷ top ∷ top ∷ 0 ∷ []

-- With those over the top removed, the drawn edge from the right foot to the left shoulder runs under the arch's inner side and meets the drawn
-- edges there, which are not its neighbours. (It also misses the four sticks over the top.)
pub edges-meet : Faithful arch (arch_entries 384 192) → ⊥
unfolding is_stick sample bit xor kept_at removed_at offset_at kept_from entry_of number edge_count next
edges-meet f =
    let p = edge false 3 1 in
    let q = edge true 2 1 in
    let t = arch_entries 384 192 in
    let z : Point = record { x = pos 3968; y = pos 2560; d = 7; above = omega arith } in
    let differ : p ≢ q = λ e. let n : ◌≡◌ {A = ℕ} 3 2 = ap (λ (x : Edge). x.column) e in omega arith in
    elim (f.apart p q (record { stick = refl; kept = refl }) (record { stick = refl; kept = refl }) differ z
    (mean 4 3 (vertex arch t p) (vertex arch t (next_kept arch t p)) z refl refl (omega arith) refl refl)
    (mean 4 3 (vertex arch t q) (vertex arch t (next_kept arch t q)) z refl refl (omega arith) refl refl)) [
      | inl j ↦ (let n : ◌≡◌ {A = ℕ} 0 2 = ap (λ (x : Edge). x.column) j.joined in omega arith)
      | inr j ↦ (let n : ◌≡◌ {A = ℕ} 2 3 = ap (λ (x : Edge). x.column) j.joined in omega arith)
    ]
