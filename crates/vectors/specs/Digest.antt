-- The digest of a table.
-- It starts at 1, and each entry in turn is mixed into it.
use Rattle.std.specs.Prelude.{ℕ, ◌+◌, ◌*◌, ◌%◌, List}
use Rattle.std.specs.List.{fold}

abbrev pub mixed : ℕ → ℕ → ℕ
mixed h x = (h * 65599 + x + 1) % 2147483647

abbrev pub digest_of : List ℕ → ℕ
digest_of xs = fold mixed 1 xs
