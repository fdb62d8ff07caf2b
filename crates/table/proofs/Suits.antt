-- What a yes to question 6 says of a stick: its entry suits one, that is, its vertex is kept or removed.
use mathlib.Core.Path.{◌≡◌, sym, ◌∙◌, ap}
use mathlib.Core.Bool.{Bool, true}
use mathlib.Core.List.{List}
use Prim.Native.Nat.{ℕ}
use borrow.Author.Tests.{not-false}
use Rattle.grid.specs.Layer.{Layer}
use Rattle.grid.specs.Edges.{is_stick, number, edge_count}
use Rattle.grid.specs.Questions.{Sound}
use Rattle.grid.specs.declared.edge.Edge.{Edge}
use Rattle.grid.specs.declared.refusal.Refusal.TheVariants.{WrongEntry}
use Rattle.grid.specs.Questions.{Yes}
use Rattle.grid.proofs.Numbers.{number-below, edge_at-number}
use Rattle.grid.proofs.Answers.{each_all}
use Rattle.contour.proofs.Sticks.{stick-in}
use Rattle.table.specs.Entries.{suits, wrong_at, entries_answer}
use Rattle.table.specs.Vertices.{entry_at}

module _ (L : Layer) (sound : Sound L) (t : List ℕ) (yes : entries_answer L t ≡ Yes) where
  pub entry-suits : (e : Edge) → is_stick L e ≡ true → suits true (entry_at L t e) ≡ true
  unfolding entries_answer
  entry-suits e stick =
      let sized = sound.whole.sized in
      let k = number L.size e in
      let right = each_all WrongEntry (wrong_at L t) (edge_count L.size) yes k (number-below L.size sized e (stick-in L e stick)) in
      let here : is_stick L e ≡ true = stick in
      ap (λ (b : Bool). suits b (entry_at L t e)) (sym (ap (is_stick L) (edge_at-number L.size sized e (stick-in L e stick)) ∙ here))
      ∙ not-false _ right
