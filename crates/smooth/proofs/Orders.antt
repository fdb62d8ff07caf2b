-- Contours may be smoothed in any order: "as no contour's vertex is a neighbour of another's, that order must be shown not to matter" (Note 3).
-- And what smoothing a layer does to a contour and answers is what smoothing each contour alone does, from the table as it was lent.
use mathlib.Core.Path.{◌≡◌, refl, sym, ◌∙◌, ap}
use mathlib.Core.Logic.{◌≢◌}
use mathlib.Core.Bool.{Bool, true, ◌&&◌, and_assoc, and_comm}
use mathlib.Core.List.{List, [], ◌∷◌, foldl}
use Prim.Native.Nat.{ℕ, ◌≤◌, ◌<◌}
use native.Mathlib.Omega.{arith}
use lib.ListN.{length}
use Rattle.arith.specs.Booleans.{as_number}
use Rattle.arith.proofs.Booleans.{both-sides}
use Rattle.grid.specs.Layer.{Layer}
use Rattle.grid.specs.Edges.{edge_count, is_stick}
use Rattle.grid.specs.Questions.{Sound}
use Rattle.grid.specs.declared.edge.Edge.{Edge}
use Rattle.contour.specs.Walk.{occurrences, first, OnContour}
use Rattle.contour.specs.Contours.{walk_of, first_sticks, EachFirstOnce}
use Rattle.contour.proofs.First.{first_one}
use Rattle.contour.proofs.Sticks.{laws}
use Rattle.contour.proofs.Orders.{reordered, first-sticks-once}
use Rattle.table.proofs.Local.{entry, Local, agree-other, local-commute}
use Rattle.table.proofs.InTurn.{PartDone, part-start, part-first, part-here, part-turn}
use Rattle.smooth.specs.Smooth.{Smoothed, smooth_contour, no_contour, with_contour, in_turn, smooth}
use Rattle.smooth.specs.Call.{asked, smooth_of}
use Rattle.smooth.proofs.Held.{same-call}
use Rattle.smooth.proofs.Passes.{smooth_next, smooth-is}
use Rattle.smooth.proofs.Locality.{SameAnswer, smooth_contour-length, smooth_contour-agree, smooth_contour-local}

swap-last : (a b c : Bool) → (a && b && c) ≡ (a && c && b)
swap-last a b c = and_assoc a b c ∙ ap (λ (d : Bool). a && d) (and_comm b c) ∙ sym (and_assoc a c b)

with-same : {s s' r r' : Smoothed} → SameAnswer s s' → SameAnswer r r' → SameAnswer (with_contour s r) (with_contour s' r')
with-same a b =
    record {
      same_passes = omega (arith, a.same_passes, b.same_passes);
      same_total = omega (arith, a.same_total, b.same_total);
      same_settled = rw (a.same_settled, b.same_settled) refl;
    }

module _ (L : Layer) (sound : Sound L) (limit : ℕ) where
  -- f is the first stick of a contour
  abbrev pub IsFirst : Edge → Type 0
  IsFirst f = first (walk_of L) f ≡ true

  first-stick : (f : Edge) → IsFirst f → is_stick L f ≡ true
  first-stick = first_one (walk_of L) (laws L sound)

  is-first : (f : Edge) {n : ℕ} → 0 < n → n ≤ as_number (first (walk_of L) f) → IsFirst f
  is-first f some most = both-sides (first (walk_of L) f) (λ y. y) (λ n. absurd (omega (arith, ap as_number n)))

  next-length : (s : Smoothed) (f : Edge) → IsFirst f → length (smooth_next L limit s f).table ≡ length s.table
  next-length s f is = smooth_contour-length L sound f (first-stick f is) limit s.table

  -- of two contours it does not matter which is smoothed first
  pub contours-commute : (f g : Edge) → IsFirst f → IsFirst g → f ≢ g → (s : Smoothed) → length s.table ≡ edge_count L.size
      → smooth_next L limit (smooth_next L limit s f) g ≡ smooth_next L limit (smooth_next L limit s g) f
  contours-commute f g first-f first-g differ s whole =
      let t : List ℕ = s.table in
      let F : List ℕ → Smoothed = λ u. smooth_contour L limit u f in
      let G : List ℕ → Smoothed = λ u. smooth_contour L limit u g in
      let stick-f = first-stick f first-f in
      let stick-g = first-stick g first-g in
      let local-f = smooth_contour-local L sound f stick-f limit in
      let local-g = smooth_contour-local L sound g stick-g limit in
      let tables : (G (F t).table).table ≡ (F (G t).table).table =
      local-commute L sound f g first-f first-g differ _ _ local-f local-g t whole in
      let at_g = (smooth_contour-agree L sound g stick-g limit (agree-other L sound f g first-f first-g differ _ local-f t whole)).answer in
      let back : g ≢ f = λ q. differ (sym q) in
      let at_f = (smooth_contour-agree L sound f stick-f limit (agree-other L sound g f first-g first-f back _ local-g t whole)).answer in
      let one : Smoothed = smooth_next L limit (smooth_next L limit s f) g in
      let other : Smoothed = smooth_next L limit (smooth_next L limit s g) f in
      let passes : one.passes ≡ other.passes = omega (arith, at_g.same_passes, at_f.same_passes) in
      let total : one.total ≡ other.total = omega (arith, at_g.same_total, at_f.same_total) in
      let settled : one.settled ≡ other.settled =
      rw (at_g.same_settled, at_f.same_settled) (swap-last s.settled (F t).settled (G t).settled) in
      λ i. record { table = tables i; passes = passes i; total = total i; settled = settled i }

  -- "that order must be shown not to matter": any order of the contours gives what their own order gives, the table and the answer
  pub any_order : (t : List ℕ) → length t ≡ edge_count L.size → (order : List Edge) → EachFirstOnce L order
      → in_turn (smooth_contour L limit) t order ≡ smooth L limit t
  unfolding in_turn smooth
  any_order t whole order once =
      reordered (walk_of L) (laws L sound) (smooth_next L limit) (λ s. length s.table ≡ edge_count L.size) IsFirst
      (λ s f sized is. next-length s f is ∙ sized)
      (λ s f g sized is_f is-g differ. contours-commute f g is_f is-g differ s sized)
      order (first_sticks L)
      (λ f o. is-first f o (omega (arith, once f)))
      (λ f. once f ∙ sym (first-sticks-once L sound f))
      (no_contour t) whole

  -- ---- each contour alone

  -- the answers of the contours, each smoothed alone from one table, put together; the table is no part of that
  abbrev pub each_alone : List ℕ → Smoothed
  each_alone t = foldl (λ s f. with_contour s (smooth_contour L limit t f)) (no_contour t) (first_sticks L)

  -- smoothing a contour, from table to table
  abbrev smooth_table : Edge → List ℕ → List ℕ
  smooth_table f u = (smooth_contour L limit u f).table

  locally : (f : Edge) → IsFirst f → Local L f (smooth_table f)
  locally f is = smooth_contour-local L sound f (first-stick f is) limit

  module _ (t : List ℕ) (whole : length t ≡ edge_count L.size) where
    -- where smoothing the layer stands when the contours of a list are left, and the answer so far is that of the others, each smoothed alone
    record Part (l : List Edge) (s r : Smoothed) : Type 0 where
      tables : PartDone sound smooth_table locally t l s.table
      answer : SameAnswer s r

    part-all : (l : List Edge) (s r : Smoothed) → Part l s r
        → Part [] (foldl (smooth_next L limit) s l) (foldl (λ q f. with_contour q (smooth_contour L limit t f)) r l)
    part-all [] s r p = p
    part-all (f ∷ l) s r p =
        let now = smooth_contour-agree L sound f (first-stick f (part-first p.tables)) limit (part-here p.tables) in
        part-all l _ _ (record { tables = part-turn p.tables; answer = with-same p.answer now.answer })

    smoothed-all : Part [] (smooth L limit t) (each_alone t)
    smoothed-all =
        rw (smooth-is L limit t)
        (part-all (first_sticks L) (no_contour t) (no_contour t)
        (record {
          tables = part-start sound smooth_table locally t whole;
          answer = record { same_passes = refl; same_total = refl; same_settled = refl };
        }))

    -- each contour ends as if it had been smoothed alone, from the table as it was lent
    pub contour-alone : (f : Edge) → IsFirst f → (e : Edge) → OnContour (walk_of L) f e
        → entry L (smooth L limit t).table e ≡ entry L (smooth_contour L limit t f).table e
    unfolding occurrences
    contour-alone f first-f e on = (smoothed-all.tables.done f first-f refl).same_entry e on

    -- so the answer is "the largest number of passes of any contour, the sum of their last totals, and settled if all are", of the contours each
    -- smoothed alone
    pub answer-alone : SameAnswer (smooth L limit t) (each_alone t)
    answer-alone = smoothed-all.answer

-- the same of the call, whatever is lent
pub same-in-any-order : (L : Layer) (limit : ℕ) (t : List ℕ) (order : List Edge) → EachFirstOnce L order
    → asked L t (in_turn (smooth_contour L limit) t order) ≡ smooth_of L limit t
unfolding smooth_of
same-in-any-order L limit t order once =
    same-call L t (in_turn (smooth_contour L limit) t order) (smooth L limit t) λ sound kept. any_order L sound limit t kept.whole order once
