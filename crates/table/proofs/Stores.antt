-- What a store of a vertex to the entry of a stick does to a table: the entry says that vertex, all others are as before, and the table
-- passes questions 5 and 6 as before, and 15 if the vertex is kept.
use mathlib.Core.Path.{◌≡◌, ap, sym, subst, ◌∙◌}
use mathlib.Core.Logic.{◌≢◌}
use mathlib.Core.Bool.{true, false, true≢false, not}
use mathlib.Core.List.{List}
use Prim.Native.Nat.{ℕ, ◌<◌}
use native.Mathlib.Decide.{ℕ_discrete}
use lib.ListN.{length, get_or, length-set}
use lib.Seq.{get_or-set_same, get_or-set_other}
use Rattle.grid.specs.Layer.{Layer}
use Rattle.grid.specs.Edges.{is_stick, number, edge_count, stick_at}
use Rattle.grid.specs.Questions.{Sound}
use Rattle.grid.specs.declared.edge.Edge.{Edge}
use Rattle.grid.specs.declared.refusal.Refusal.TheVariants.{WrongEntry}
use Rattle.grid.specs.Questions.{Yes}
use Rattle.grid.proofs.Answers.{each_all, each-yes}
use Rattle.grid.proofs.Numbers.{number-below, number-injective, edge_at-number}
use Rattle.contour.proofs.Sticks.{stick-in}
use Rattle.table.specs.Entries.{entry_of, encoded, suits, wrong_at, entries_answer}
use Rattle.table.specs.Vertices.{is_kept, offset_in, entry_at}
use Rattle.table.specs.Stores.{store}
use Rattle.table.specs.declared.entry.Entry.{Entry}
use Rattle.table.proofs.Entries.{Inside, entry-encoded, inside-suits}
use Rattle.table.proofs.AllKept.{AllKept}

-- the number of a stick is that of a stick
stick-number : (L : Layer) → Sound L → (e : Edge) → is_stick L e ≡ true → stick_at L (number L.size e) ≡ true
stick-number L sound e stick = ap (is_stick L) (edge_at-number L.size sound.whole.sized e (stick-in L e stick)) ∙ stick

-- every other number of the table stays
pub store-elsewhere : (L : Layer) (t : List ℕ) (u : Edge) (x : Entry) (k : ℕ) → k ≢ number L.size u
    → get_or (store L.size t u x) k 0 ≡ get_or t k 0
store-elsewhere L t u x k d = get_or-set_other t (number L.size u) k (encoded x) 0 d

pub store_length : (L : Layer) (t : List ℕ) (u : Edge) (x : Entry) → length (store L.size t u x) ≡ length t
store_length L t u x = length-set t (number L.size u) (encoded x)

module _ (L : Layer) (sound : Sound L) (t : List ℕ) (exact : length t ≡ edge_count L.size) (u : Edge) (stick : is_stick L u ≡ true)
    (x : Entry) (inside : Inside (offset_in x)) where
  abbrev stored : List ℕ
  stored = store L.size t u x

  below : number L.size u < length t
  below = rw exact (number-below L.size sound.whole.sized u (stick-in L u stick))

  pub store-here : entry_at L stored u ≡ x
  store-here = ap entry_of (get_or-set_same t (number L.size u) (encoded x) 0 below) ∙ entry-encoded x inside

  pub store_other : (e : Edge) → is_stick L e ≡ true → e ≢ u → entry_at L stored e ≡ entry_at L t e
  store_other e s d =
      ap entry_of (store-elsewhere L t u x (number L.size e) (λ q.
      d (number-injective L.size sound.whole.sized e u (stick-in L e s) (stick-in L u stick) q)))

  -- what holds of the new entry, and of each number's old one, holds of each number's new one
  each-stored : (P : ℕ → Entry → Type 0) → P (number L.size u) x → (k : ℕ) → P k (entry_of (get_or t k 0)) → P k (entry_of (get_or stored k 0))
  each-stored P here k old = elim (ℕ_discrete k (number L.size u)) [
    | yes q ↦ subst (λ (k : ℕ). P k (entry_of (get_or stored k 0))) (sym q) (subst (P (number L.size u)) (sym store-here) here)
    | no d ↦ subst (λ (n : ℕ). P k (entry_of n)) (sym (store-elsewhere L t u x k d)) old
  ]

  -- what is the same of the new entry and the old one is the same of every edge
  pub store-alike : {B : Type 0} (f : Entry → B) → f x ≡ f (entry_at L t u) → (e : Edge) → f (entry_at L stored e) ≡ f (entry_at L t e)
  store-alike f s e = each-stored (λ k y. f y ≡ f (entry_of (get_or t k 0))) s (number L.size e) (λ i. f (entry_at L t e))

  -- questions 6 and 15
  pub store-entries : entries_answer L t ≡ Yes → entries_answer L stored ≡ Yes
  unfolding entries_answer
  store-entries yes-6 = sym (each-yes WrongEntry (wrong_at L stored) (edge_count L.size) λ k h.
      each-stored (λ k y. not (suits (stick_at L k) y) ≡ false)
      (rw (stick-number L sound u stick) (ap not (inside-suits x inside)))
      k (each_all WrongEntry (wrong_at L t) (edge_count L.size) yes-6 k h))

  pub store-all-kept : is_kept x ≡ true → AllKept L t → AllKept L stored
  store-all-kept k all = record {
    whole = store_length L t u x ∙ exact;
    on_sticks = λ e s. each-stored (λ k y. is_kept y ≡ true) k (number L.size e) (all.on_sticks e s);
    elsewhere = λ k h none.
        ap entry_of (store-elsewhere L t u x k (λ q. true≢false (sym (stick-number L sound u stick) ∙ sym (ap (stick_at L) q) ∙ none)))
        ∙ all.elsewhere k h none;
  }
