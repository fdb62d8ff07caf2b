-- Pins that stay: from a table to itself and on from table to table; a store to a vertex that is not pinned leaves every pin, and so does a pin.
use mathlib.Core.Path.{◌≡◌, refl, sym, subst, ◌∙◌, ap}
use mathlib.Core.Logic.{◌≢◌}
use mathlib.Core.Bool.{true, false, true≢false}
use mathlib.Core.List.{List, [], ◌∷◌, foldl}
use Prim.Native.Nat.{ℕ}
use lib.ListN.{get_or, set}
use lib.Seq.{set-get_or}
use Rattle.arith.proofs.Booleans.{both-sides}
use Rattle.grid.specs.Layer.{Layer}
use Rattle.grid.specs.Edges.{number}
use Rattle.grid.specs.declared.edge.Edge.{Edge}
use Rattle.table.specs.Entries.{entry_of, encoded}
use Rattle.table.specs.Vertices.{is_pinned, entry_at, pinned_at, offset_at}
use Rattle.table.specs.Stores.{store, pinned}
use Rattle.table.specs.Pins.{PinsStay}
use Rattle.table.specs.declared.entry.Entry.{Entry}
use Rattle.table.specs.declared.entry.Entry.TheVariants.{Pinned}
use Rattle.table.proofs.Entries.{encoded-entry, kept-suits, pinned-kept, pinned-is}
use Rattle.table.proofs.Stores.{store-elsewhere}

pub pins-same : {t : List ℕ} → PinsStay t t
pins-same = record { same_entry = λ k pin. refl }

-- what is pinned at first is the same at each step, and so pinned at the next
pub pins-then : {t u v : List ℕ} → PinsStay t u → PinsStay u v → PinsStay t v
pins-then one other = record {
  same_entry = λ k pin.
      let same = one.same_entry k pin in
      other.same_entry k (ap (λ (n : ℕ). is_pinned (entry_of n)) same ∙ pin) ∙ same;
}

-- work done for one element of a list after the other, on something that has a table
pub pins-fold : {S A : Type 0} (table : S → List ℕ) (work : S → A → S) → ((s : S) (x : A) → PinsStay (table s) (table (work s x)))
    → (l : List A) (s : S) → PinsStay (table s) (table (foldl work s l))
pins-fold table work each [] s = pins-same
pins-fold table work each (x ∷ l) s = pins-then (each s x) (pins-fold table work each l (work s x))

module _ (L : Layer) (t : List ℕ) (e : Edge) where
  -- a vertex that is not pinned has no pinned entry
  pub other-entry : pinned_at L t e ≡ false → (k : ℕ) → is_pinned (entry_of (get_or t k 0)) ≡ true → k ≢ number L.size e
  unfolding pinned_at
  other-entry unpinned k pin q = true≢false (sym pin ∙ ap (λ (n : ℕ). is_pinned (entry_of (get_or t n 0))) q ∙ unpinned)

  -- whatever is stored there
  pub store-pins : (x : Entry) → pinned_at L t e ≡ false → PinsStay t (store L.size t e x)
  store-pins x unpinned = record { same_entry = λ k pin. store-elsewhere L t e x k (other-entry unpinned k pin) }

  -- the number of a pinned vertex is that of its offset, pinned
  pin-number : pinned_at L t e ≡ true → encoded (Pinned (offset_at L t e)) ≡ get_or t (number L.size e) 0
  unfolding pinned_at offset_at
  pin-number pin =
      sym (ap encoded (pinned-is (entry_at L t e) pin))
      ∙ encoded-entry (get_or t (number L.size e) 0) true (kept-suits (entry_at L t e) (pinned-kept (entry_at L t e) pin))

  -- "A pin on an already pinned vertex is done and alters nothing." (Note 5)
  pub pin-again : pinned_at L t e ≡ true → pinned L t e ≡ t
  pin-again pin = ap (set t (number L.size e)) (pin-number pin) ∙ set-get_or t (number L.size e) 0

  pub pin-pins : PinsStay t (pinned L t e)
  pin-pins = both-sides (pinned_at L t e)
      (λ pin. subst (PinsStay t) (sym (pin-again pin)) pins-same)
      (λ unpinned. store-pins (Pinned (offset_at L t e)) unpinned)
