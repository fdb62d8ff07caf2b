-- Questions 1 to 7, which every call on a held layer is asked first, what a yes to all of them says, and 15 after them.
use Rattle.std.specs.Prelude.{◌≡◌, List, [], ◌∷◌, ◌++◌, ℕ, length}
use Rattle.grid.specs.Layer.{Layer}
use Rattle.grid.specs.Edges.{edge_count}
use Rattle.grid.specs.Questions.{Sound}
use Rattle.grid.specs.Questions.{Answer}
use Rattle.grid.specs.Questions.{Yes}
use Rattle.table.specs.Entries.{length_questions, entries_answer}
use Rattle.table.specs.Kept.{all_kept_answer}
use Rattle.held.specs.Held.{held_answer}

-- questions 1 to 6, and 7 after them
abbrev pub entry_questions : Layer → List ℕ → List Answer
entry_questions L t = length_questions L (length t) ++ (entries_answer L t ∷ [])

abbrev pub held_questions : Layer → List ℕ → List Answer
held_questions L t = entry_questions L t ++ (held_answer L t ∷ [])

-- 1 to 7, and "15. For Smooth and Simplify: is every vertex kept?"
abbrev pub kept_questions : Layer → List ℕ → List Answer
kept_questions L t = held_questions L t ++ (all_kept_answer L.size t ∷ [])

-- what a yes to questions 1 to 7 says
pub record Accepted (L : Layer) (t : List ℕ) : Type 0 where
  pub sound : Sound L
  pub exact : length t ≡ edge_count L.size
  pub entries : entries_answer L t ≡ Yes
  pub held : held_answer L t ≡ Yes
