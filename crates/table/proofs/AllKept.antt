-- Tables in which every stick carries a kept vertex and every other entry says 'no stick': the tables that pass questions 5, 6 and 15.
use mathlib.Core.Path.{◌≡◌, sym, ◌∙◌, ap}
use mathlib.Core.Bool.{Bool, true, false, not}
use mathlib.Core.List.{List}
use Prim.Native.Nat.{ℕ, ◌<◌}
use borrow.Author.Tests.{not-false}
use lib.ListN.{length, get_or}
use Rattle.arith.proofs.Booleans.{both-sides}
use Rattle.grid.specs.Layer.{Layer}
use Rattle.grid.specs.Edges.{number, edge_count, edge_at, is_stick, stick_at}
use Rattle.grid.specs.Questions.{Sound}
use Rattle.grid.specs.declared.edge.Edge.{Edge}
use Rattle.grid.specs.declared.refusal.Refusal.TheVariants as Refusal
use Rattle.grid.specs.Questions.{Yes}
use Rattle.grid.proofs.Answers.{each_all, each-yes}
use Rattle.grid.proofs.Numbers.{number-below, edge_at-within}
use Rattle.contour.proofs.Sticks.{stick-in}
use Rattle.table.specs.Entries.{entry_of, suits, wrong, wrong_at, entries_answer}
use Rattle.table.specs.Vertices.{is_kept, is_removed, entry_at, kept_at, removed_at, offset_at}
use Rattle.table.specs.Kept.{is_removed_at, all_kept_answer}
use Rattle.table.specs.declared.entry.Entry.{Entry}
use Rattle.table.specs.declared.entry.Entry.TheVariants.{Nothing}
use Rattle.table.proofs.Entries.{Inside, exclusive, unremoved-kept, kept-suits, suits-other}
use Rattle.table.proofs.Entries as Entries
use Rattle.table.proofs.Suits.{entry-suits}

pub record AllKept (L : Layer) (t : List ℕ) : Type 0 where
  pub whole : length t ≡ edge_count L.size
  pub on_sticks : (e : Edge) → is_stick L e ≡ true → is_kept (entry_at L t e) ≡ true
  pub elsewhere : (k : ℕ) → k < edge_count L.size → stick_at L k ≡ false → entry_of (get_or t k 0) ≡ Nothing

module _ (L : Layer) (t : List ℕ) where
  -- questions 6 and 15 passed, beside question 5
  pub all-kept-of : Sound L → length t ≡ edge_count L.size → entries_answer L t ≡ Yes → all_kept_answer L.size t ≡ Yes → AllKept L t
  unfolding entries_answer all_kept_answer
  all-kept-of sound e six fifteen =
      record {
        whole = e;
        on_sticks = λ f stick.
            let below = number-below L.size sound.whole.sized f (stick-in L f stick) in
            unremoved-kept (entry_at L t f) (entry-suits L sound t six f stick)
            (each_all Refusal.SomeRemoved (is_removed_at t) (edge_count L.size) fifteen (number L.size f) below);
        elsewhere = λ k below no-stick.
            suits-other (entry_of (get_or t k 0)) (not-false _
            (sym (ap (λ (b : Bool). wrong b (get_or t k 0)) no-stick) ∙ each_all Refusal.WrongEntry (wrong_at L t) (edge_count L.size) six k below));
      }

module _ (L : Layer) (t : List ℕ) (kept : AllKept L t) where
  -- the vertex of a stick is kept, and its offset inside
  pub is-kept : (e : Edge) → is_stick L e ≡ true → kept_at L t e ≡ true
  unfolding kept_at
  is-kept = kept.on_sticks

  pub not-removed : (e : Edge) → is_stick L e ≡ true → removed_at L t e ≡ false
  unfolding removed_at
  not-removed e stick = exclusive (entry_at L t e) (kept.on_sticks e stick)

  pub offset-inside : (e : Edge) → is_stick L e ≡ true → Inside (offset_at L t e)
  unfolding offset_at
  offset-inside e stick =
      Entries.offset-inside (get_or t (number L.size e) 0) (kept-suits (entry_at L t e) (kept.on_sticks e stick))

  -- every entry by its number: it passes questions 6 and 15
  module _ (sound : Sound L) where
    on_stick : (k : ℕ) → k < edge_count L.size → stick_at L k ≡ true → is_kept (entry_of (get_or t k 0)) ≡ true
    on_stick k below s = rw (edge_at-within L.size sound.whole.sized k below).1 at (kept.on_sticks (edge_at L.size k) s)

    pub passes-entries : entries_answer L t ≡ Yes
    unfolding entries_answer
    passes-entries = sym (each-yes Refusal.WrongEntry (wrong_at L t) (edge_count L.size) λ k below. both-sides (stick_at L k)
        (λ s. rw s (ap not (kept-suits (entry_of (get_or t k 0)) (on_stick k below s))))
        (λ s. rw s (ap (λ (x : Entry). not (suits false x)) (kept.elsewhere k below s))))

    pub passes-all-kept : all_kept_answer L.size t ≡ Yes
    unfolding all_kept_answer
    passes-all-kept = sym (each-yes Refusal.SomeRemoved (is_removed_at t) (edge_count L.size) λ k below. both-sides (stick_at L k)
        (λ s. exclusive (entry_of (get_or t k 0)) (on_stick k below s))
        (λ s. ap is_removed (kept.elsewhere k below s)))
