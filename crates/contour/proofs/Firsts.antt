-- What a loop over contours cites. Its invariant: what is left is a list of first sticks, `FirstsLeft`, and folding over it from here gives the
-- whole fold.
use mathlib.Core.Path.{◌≡◌, sym, ap, ◌∙◌}
use mathlib.Core.Bool.{Bool, true, false}
use mathlib.Core.List.{List, [], ◌∷◌, foldl}
use Prim.Native.Nat.{ℕ, zero, suc, ◌+◌, ◌-◌, ◌≤◌, ◌<◌}
use native.Mathlib.Nat.{zero-add}
use native.Mathlib.Decide.{dec_lt}
use native.Mathlib.Omega.{arith}
use lib.ListN.{length}
use Rattle.arith.proofs.Booleans.{both-sides}
use Rattle.grid.specs.Layer.{Layer}
use Rattle.grid.specs.Edges.{edge_in, edge_at, edge_count, kind_start, is_stick}
use Rattle.grid.specs.Questions.{Sound}
use Rattle.grid.specs.declared.edge.Edge.{Edge}
use Rattle.grid.proofs.Numbers.{kind-below, edge_at-kind}
use Rattle.contour.specs.Walk.{Walk, first, numbered, firsts_among, firsts_from}
use Rattle.contour.specs.Contours.{walk_of, first_sticks}
use Rattle.bitset.specs.Sets.{next_of}
use Rattle.bitset.proofs.Sets.{next-found, next-missing}
use Rattle.std.specs.Prelude.{Option, Some, None}
use Rattle.contour.specs.Sets.{FirstSet}
use Rattle.contour.proofs.First.{first_one}
use Rattle.contour.proofs.Outer.{from_end, from_first, from-skip}
use Rattle.contour.proofs.Sticks.{laws}
use Rattle.contour.proofs.FirstSets.{none-past}

-- Lists that are folded from the front: one more is folded, or none is left

pub fold-turn : {A B : Type 0} {l l' : List A} {x : A} (step : B → A → B) (t whole : B) → l ≡ x ∷ l'
    → foldl step t l ≡ whole → foldl step (step t x) l' ≡ whole
fold-turn step t whole e inv = sym (ap (foldl step t) e) ∙ inv

pub fold_end : {A B : Type 0} {l : List A} (step : B → A → B) (t whole : B) → l ≡ [] → foldl step t l ≡ whole → t ≡ whole
fold_end step t whole e inv = sym (ap (foldl step t) e) ∙ inv

pub fewer : {A : Type 0} {l l' : List A} {x : A} → l ≡ x ∷ l' → length l' < length l
fewer e = omega (arith, ap length e)

-- the first sticks from p on are those from n on, where none is passed
skipped : (L : Layer) (p n : ℕ) → p ≤ n → ((j : ℕ) → p ≤ j → j < n → first (walk_of L) (edge_at L.size j) ≡ false)
    → firsts_from (walk_of L) p ≡ firsts_from (walk_of L) n
skipped L p n h none =
    let e : p + (n - p) ≡ n = omega arith in
    from-skip (walk_of L) (n - p) p (λ j a b. none j a (omega arith)) ∙ ap (firsts_from (walk_of L)) e

-- The first sticks that are left

-- they are those among some numbers
pub record FirstsLeft (L : Layer) (left : List Edge) : Type 0 where
  pub from : ℕ
  pub many : ℕ
  pub is : left ≡ firsts_among (walk_of L) from many

pub firsts-start : (L : Layer) {left : List Edge} → left ≡ first_sticks L → FirstsLeft L left
firsts-start L e = record { from = 0; many = edge_count L.size; is = e }

-- the first of a list of elements that pass a test passes it, and so do those after it
record Passing (w : Walk) (test : w.Element → Bool) (x : w.Element) (l : List w.Element) : Type 0 where
  pub passes : test x ≡ true
  pub from : ℕ
  pub many : ℕ
  pub later : l ≡ numbered w test from many

passing : (w : Walk) (test : w.Element → Bool) (k n : ℕ) {x : w.Element} {l : List w.Element} → numbered w test k n ≡ x ∷ l → Passing w test x l
unfolding numbered
passing w test k zero e = absurd cc
passing w test k (suc n) {x} {l} e = both-sides (test (w.at k))
    (λ t.
    let here : w.at k ∷ numbered w test (k + 1) n ≡ x ∷ l = rw t at e in
    let same : w.at k ≡ x = cc in
    let rest : numbered w test (k + 1) n ≡ l = cc in
    record { passes = rw (sym same) t; from = k + 1; many = n; later = sym rest })
    (λ t. passing w test (k + 1) n (rw t at e))

module _ {L : Layer} {left left' : List Edge} {e : Edge} (firsts : FirstsLeft L left) (next : left ≡ e ∷ left') where
  head : Passing (walk_of L) (first (walk_of L)) e left'
  unfolding firsts_among
  head = passing (walk_of L) (first (walk_of L)) firsts.from firsts.many (sym firsts.is ∙ next)

  pub here-first : first (walk_of L) e ≡ true
  here-first = head.passes

  pub here-stick : Sound L → is_stick L e ≡ true
  here-stick sound = first_one (walk_of L) (laws L sound) e here-first

  pub firsts-turn : FirstsLeft L left'
  unfolding firsts_among
  firsts-turn = let h = head in record { from = h.from; many = h.many; is = h.later }

-- How they are found in the set

module _ {L : Layer} {s : List ℕ} (set : FirstSet L s) (p : ℕ) {x : Option ℕ} (e : x ≡ next_of s p (kind_start L.size true)) where
  pub firsts-within : {n : ℕ} → x ≡ Some n → n + 1 ≤ kind_start L.size true
  firsts-within some = let found = next-found s p (kind_start L.size true) e some in omega (arith, found.0)

  pub firsts-some : {n : ℕ} → x ≡ Some n → {f : Edge} → f ≡ edge_in L.size false n
      → firsts_from (walk_of L) p ≡ f ∷ firsts_from (walk_of L) (n + 1)
  firsts-some {n} some {f} here =
      let found = next-found s p (kind_start L.size true) e some in
      let at = rw zero-add at (edge_at-kind L.size set.sound.whole.sized false n found.0) in
      skipped L p n found.1.from (λ j a b. sym (set.says j) ∙ found.1.before j a b)
      ∙ from_first (walk_of L) n (omega (arith, found.0, kind-below L.size set.sound.whole.sized false)) (sym (set.says n) ∙ found.1.here (omega (arith, found.0)))
      ∙ ap (λ (g : Edge). g ∷ firsts_from (walk_of L) (n + 1)) (at ∙ sym here)

  pub firsts-none : p ≤ kind_start L.size true → x ≡ None → firsts_from (walk_of L) p ≡ []
  firsts-none within none =
      let end : ℕ = p + edge_count L.size in
      skipped L p end (omega arith)
      (λ j a b. elim (dec_lt j (kind_start L.size true)) [
        | yes y ↦ sym (set.says j) ∙ next-missing s p (kind_start L.size true) e none j a y
        | no g ↦ none-past L set.sound s set j (omega arith)
      ])
      ∙ from_end (walk_of L) end (omega arith)
