-- `fill_table` meets its contract: a table of zeros has no entries.
use mathlib.Core.Path.{◌≡◌, refl, ap, ◌∙◌}
use mathlib.Core.List.{List, ◌∷◌}
use Prim.Native.Nat.{ℕ, zero, suc}
use lib.ListN.{replicate}
use Rattle.arith.specs.Ranges.{tabulate_from}
use Rattle.reading.proofs.fill.fill_table.Goals as goal

zeros : (i n : ℕ) → replicate n 0 ≡ tabulate_from (λ k. 0) i n
unfolding tabulate_from
zeros i zero = refl
zeros i (suc n) = ap (λ (l : List ℕ). 0 ∷ l) (zeros (suc i) n)

pub store_contours-requires-clause-empty : goal.store_contours-requires-clause-empty
store_contours-requires-clause-empty c =
    c.fill.ensures.after (λ y e. e) ∙ ap (λ (n : ℕ). replicate n 0) c.requires.table_len ∙ zeros 0 _
