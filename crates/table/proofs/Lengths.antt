-- What a yes to questions 1 to 5 says.
use mathlib.Core.Path.{◌≡◌}
use mathlib.Core.List.{List, [], ◌∷◌}
use Prim.Native.Nat.{ℕ}
use borrow.Author.Tests.{eqb-true}
use lib.ListN.{length}
use Rattle.grid.specs.Layer.{Layer}
use Rattle.grid.specs.Edges.{edge_count}
use Rattle.grid.specs.Questions.{first_no, layer_questions}
use Rattle.grid.specs.declared.refusal.Refusal.TheVariants.{TableLength}
use Rattle.grid.specs.Questions.{Yes}
use Rattle.grid.proofs.Answers.{asked, append-all, first_no-yes, sound-of}
use Rattle.table.specs.Entries.{table_length_answer, length_questions}
use Rattle.table.specs.Lent.{Lent}

pub lengths-of : (L : Layer) (t : List ℕ) → first_no (length_questions L (length t)) ≡ Yes → Lent L t
unfolding table_length_answer
lengths-of L t e =
    let answer = table_length_answer L.size (length t) in
    let both = append-all (layer_questions L) (answer ∷ []) e in
    let last = first_no-yes answer [] both.1 in
    record { sound = sound-of L both.0; exact = eqb-true (length t) (edge_count L.size) (asked TableLength _ last.0) }
