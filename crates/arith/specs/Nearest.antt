-- Division of an integer by a natural above 0, rounded to the nearest whole number, with a half toward zero (`nearest`), toward a given number
-- (`nearest_to`) or upward (`nearest_up`), and rounded down (`floor_div`).
use Rattle.std.specs.Prelude.{◌≡◌, ℕ, suc, ◌+◌, ◌*◌, ◌-◌, ◌/◌, ℤ, pos, negsuc, neg_ℤ, ◌+ℤ◌, ◌-ℤ◌, ◌*ℤ◌}

-- the nearest whole number to n / d, a half toward zero
unfoldable pub nearest : ℤ → ℕ → ℤ
nearest (pos a) d = pos ((2 * a + (d - 1)) / (2 * d))
nearest (negsuc a) d = neg_ℤ (pos ((2 * suc a + (d - 1)) / (2 * d)))

-- the nearest whole number to n / d, a half toward c: the same, counted from c
unfoldable pub nearest_to : ℤ → ℤ → ℕ → ℤ
unfolding nearest
nearest_to c n d = nearest (n -ℤ pos d *ℤ c) d +ℤ c

-- n / d is exactly half way from a whole number to the next
abbrev pub IsHalf : ℤ → ℕ → Type 0
IsHalf n d = (k : ℤ) × (pos 2 *ℤ n ≡ pos d *ℤ (pos 2 *ℤ k +ℤ pos 1))

-- n / d rounded down
unfoldable pub floor_div : ℤ → ℕ → ℤ
floor_div (pos a) m = pos (a / m)
floor_div (negsuc a) m = negsuc (a / m)

-- the nearest whole number to n / d, a half upward: n / d and a half, rounded down
unfoldable pub nearest_up : ℤ → ℕ → ℤ
unfolding floor_div
nearest_up n d = floor_div (pos 2 *ℤ n +ℤ pos d) (2 * d)
