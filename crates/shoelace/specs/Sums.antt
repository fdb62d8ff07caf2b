-- How the area of a layer grows from stick to stick: the sum after each drawn edge.
use Rattle.std.specs.Prelude.{List, [], ◌∷◌, map, ℕ, ℤ, pos, ◌+ℤ◌, length}
use Rattle.grid.specs.Layer.{Layer}
use Rattle.drawn.specs.Drawn.{drawn_by_number}
use Rattle.shoelace.specs.Adds.{edge_adds}

-- "the sum after each edge": of numbers that are added to s one after the other, the sum after each
abbrev pub sums_after : ℤ → List ℤ → List ℤ
sums_after s [] = []
sums_after s (z ∷ l) = (s +ℤ z) ∷ sums_after (s +ℤ z) l

-- "summed over drawn edges in the order of the number of the stick they start from, instead of contour by contour"
abbrev pub sums_of : Layer → List ℕ → List ℤ
sums_of L t = sums_after (pos 0) (map (edge_adds L t) (drawn_by_number L t))

-- the last of some numbers, z if there is none
abbrev pub last_of : ℤ → List ℤ → ℤ
last_of z [] = z
last_of z (y ∷ l) = last_of y l

-- "The total of Note 6 is to be summed" so: it is the last of these sums, 0 without edges. That it is "the sum over contours", as Note 6 has it, is a
-- theorem (`area` proofs/Totals.antt).
unfoldable pub total_of : Layer → List ℕ → ℤ
total_of L t = last_of (pos 0) (sums_of L t)

-- how many drawn edges there are
abbrev pub drawn_count : Layer → List ℕ → ℕ
drawn_count L t = length (drawn_by_number L t)
