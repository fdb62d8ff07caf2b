-- The new offset of one vertex, from its old offset and its two neighbours: "The segment between the neighbours meets the closed stick at v, an
-- exact fraction in 0 to 256. From signed differences of coordinates, the new offset is old + 2/5 of (v - old), rounded once to the nearest
-- whole number", and where a half goes Note 2 says. That it is this v is shown in proofs/Offsets.antt (`new-at`).
use Rattle.std.specs.Prelude.{◌⊎◌, ℕ, ◌+◌, ◌*◌, ◌≤◌, ◌<◌, ℤ, pos, negsuc, neg_ℤ, nat_abs, ◌+ℤ◌, ◌-ℤ◌, ◌*ℤ◌, ◌<ℤ◌}
use Rattle.arith.specs.Integers.{positive_part}
use Rattle.arith.specs.Nearest.{nearest_to}
use Rattle.grid.specs.declared.edge.Edge.{Edge}
use Rattle.chord.specs.Points.{Position}
use Rattle.chord.specs.Crossing.{along, across, base, line}
use Rattle.chord.specs.Runs.{Near, NearEdge}

-- "old + 2/5 of (v - old)", where v - old is n / d with a d above 0: the one fraction (5·d·old + 2·n) / (5·d), by its numerator
abbrev pub unrounded : ℕ → ℤ → ℕ → ℤ
unrounded old n d = pos (5 * d * old) +ℤ pos 2 *ℤ n

-- "rounded once to the nearest whole number", and Note 2: "A half in the smoothing step is now rounded toward 128." Its laws are in
-- proofs/Rounding.antt.
abbrev pub middle : ℤ
middle = pos 128

unfoldable pub rounded : ℕ → ℤ → ℕ → ℤ
unfolding nearest_to
rounded old n d = nearest_to middle (unrounded old n d) (5 * d)

-- What the code asks of a division: a numerator and a denominator of at most these sizes, the denominator above 0
pub record Divisible (n d : ℤ) (N D : ℕ) : Type 0 where
  pub n_size : nat_abs n ≤ N
  pub d_size : nat_abs d ≤ D
  pub above : pos 0 <ℤ d

-- For a stick e and the positions p and q of its neighbours, with coordinates along the stick's line and across it: q's difference from p
-- across the line, which is not 0 if they lie on its two sides (proofs/Offsets.antt), and v - old multiplied by it
abbrev pub spread : Position → Position → Edge → ℤ
spread p q e = pos (across e q) -ℤ pos (across e p)

abbrev pub shift : Position → Position → Edge → ℕ → ℤ
shift p q e old =
    (pos (along e p) -ℤ pos (base e) -ℤ pos old) *ℤ spread p q e
    +ℤ (pos (along e q) -ℤ pos (along e p)) *ℤ (pos (line e) -ℤ pos (across e p))

-- the numerator of n / d over the size of d: -n if d is below 0
abbrev pub signed_by : ℤ → ℤ → ℤ
signed_by n (pos d) = n
signed_by n (negsuc d) = neg_ℤ n

-- the new offset of the vertex at offset `old` of the stick e, whose neighbours are at p and q, by a rounding
abbrev pub offset_by : (ℕ → ℤ → ℕ → ℤ) → Position → Position → Edge → ℕ → ℕ
offset_by round p q e old = positive_part (round old (signed_by (shift p q e old) (spread p q e)) (nat_abs (spread p q e)))

-- and by that of Note 2, which is 1 to 255 (proofs/Offsets.antt)
unfoldable pub new_offset : Position → Position → Edge → ℕ → ℕ
unfolding rounded
new_offset = offset_by rounded

-- What the code asks, and smooth shows of the neighbours of a stick (its proofs/Steps.antt): they lie strictly on different sides of its line,
abbrev pub Astride : Position → Position → Edge → Type 0
Astride p q e = ((across e p < line e) × (line e < across e q)) ⊎ ((across e q < line e) × (line e < across e p))

-- within the stick's length along it, and the old offset is that of a vertex
pub record Around (p q : Position) (e : Edge) (old : ℕ) : Type 0 where
  pub apart : Astride p q e
  pub p_from : base e ≤ along e p
  pub p_to : along e p ≤ base e + 256
  pub q_from : base e ≤ along e q
  pub q_to : along e q ≤ base e + 256
  pub low : 1 ≤ old
  pub high : old ≤ 255

-- and all of it within the largest grid, so that no product of differences overflows
pub record Movable (p q : Position) (e : Edge) (old : ℕ) : Type 0 where
  pub p_near : Near p
  pub q_near : Near q
  pub e_near : NearEdge e
  pub around : Around p q e old
