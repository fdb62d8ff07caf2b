-- What code that stores bytes in an output leaves.
use Rattle.std.specs.Prelude.{◌≡◌, List, ℕ, ◌+◌, length}
use Rattle.std.proofs.lemmas.List.Edits.{sets}

-- the list l stored in s from place i on, which gave s'; and the place after it, `end`
pub record Stored (s : List ℕ) (i : ℕ) (l s' : List ℕ) (end : ℕ) : Type 0 where
  pub bytes : s' ≡ sets s i l
  pub after : end ≡ i + length l
