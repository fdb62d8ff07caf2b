-- The set of sticks on bores, while the contours are gone through: a horizontal stick has its bit set if it is on a bore that is done.
use mathlib.Core.Path.{◌≡◌, refl, ap, sym, ◌∙◌, subst}
use mathlib.Core.Bool.{Bool, true, false, true≢false, cond, not, ◌&&◌}
use mathlib.Core.List.{List, [], ◌∷◌, foldl}
use Prim.Native.Nat.{ℕ, ◌+◌, ◌≤◌, ◌<◌}
use native.Mathlib.Omega.{arith}
use borrow.Author.Tests.{ne_eqb}
use lib.Dec.{eqb}
use Rattle.arith.specs.Booleans.{as_number}
use Rattle.arith.proofs.Booleans.{both-sides}
use Rattle.grid.specs.Layer.{Layer}
use Rattle.grid.specs.Edges.{is_stick, number, edge_at, edge_count}
use Rattle.grid.specs.Questions.{Sound}
use Rattle.grid.specs.declared.edge.Edge.{Edge}
use Rattle.bitset.specs.Sets.{has, Empty}
use Rattle.bitset.proofs.Sets.{has-none}
use Rattle.contour.specs.Walk.{first, occurrences}
use Rattle.contour.specs.Contours.{walk_of, same_edge, contour_of, first_sticks}
use Rattle.contour.specs.Marking.{mark_edge, horizontal, Markable}
use Rattle.contour.proofs.First.{first_one}
use Rattle.contour.proofs.Firsts.{FirstsLeft, firsts-start, firsts-turn, here-first}
use Rattle.contour.proofs.Orbit.{same_true, same_false}
use Rattle.contour.proofs.Sticks.{laws, same_self}
use Rattle.contour.proofs.Theorems.{AllSticks, contour-sticks}
use Rattle.contour.proofs.Orders.{first-sticks-once}
use Rattle.contour.proofs.Marking.{bits-ok, bits-kept, bits-set}
use Rattle.contour.proofs.Scans.{Kept, marks, horizontal-number}
use Rattle.winding.specs.Turns.{east, is_bore, is_on, first_of, on_bore}
use Rattle.winding.proofs.Contours.{on-is, off, on-only, on-first_of, first_of-first}
use Rattle.nesting.specs.Bores.{mark_bore, BoreSet}

-- the contour of e is none of those that are left
abbrev done : Layer → List Edge → Edge → Bool
done L left e = eqb (occurrences (walk_of L) (first_of L e) left) 0

-- of the contours those of these first sticks are left
pub record BoresMarked (L : Layer) (left : List Edge) (s : List ℕ) : Type 0 where
  pub firsts : FirstsLeft L left
  pub kept : Kept L s
  pub most : (y : Edge) → occurrences (walk_of L) y left ≤ occurrences (walk_of L) y (first_sticks L)
  pub says : (e : Edge) → is_stick L e ≡ true → e.vertical ≡ false → has s (number L.size e) ≡ (on_bore L e && done L left e)

and_no : (a : Bool) {b : Bool} → b ≡ false → (a && b) ≡ false
and_no true e = e
and_no false e = refl

and_yes : (a : Bool) {b : Bool} → b ≡ true → (a && b) ≡ a
and_yes true e = e
and_yes false e = refl

module _ {L : Layer} (sound : Sound L) where
  pub bores-start : {left : List Edge} {s : List ℕ} → left ≡ first_sticks L → Empty s → BoresMarked L left s
  bores-start {left} {s} all empty = record {
    firsts = firsts-start L all;
    kept = (empty.sized, λ k h. has-none s empty k);
    most = λ y. omega (arith, ap (occurrences (walk_of L) y) all);
    says = λ e stick flat. has-none s empty (number L.size e) ∙ sym (and_no (on_bore L e) (undone e stick));
  }
    where
      undone : (e : Edge) → is_stick L e ≡ true → done L left e ≡ false
      undone e stick =
          let once = first-sticks-once L sound (first_of L e) ∙ ap as_number (first_of-first sound e stick) in
          ap (λ (n : ℕ). eqb n 0) (ap (occurrences (walk_of L) (first_of L e)) all ∙ once)

  -- One contour marked: the bits of its horizontal sticks are set, and no other is changed

  module _ (f : Edge) (is-first : first (walk_of L) f ≡ true) (s : List ℕ) (kept : Kept L s) where
    abbrev marked : List ℕ
    marked = foldl (mark_edge L.size) s (contour_of L f)

    ones : AllSticks L (contour_of L f)
    ones = contour-sticks sound f (first_one (walk_of L) (laws L sound) f is-first)

    mark-ok : Kept L marked
    mark-ok = bits-ok (walk_of L) (laws L sound) horizontal (marks L sound) (contour_of L f) s ones kept

    module _ (e : Edge) (stick : is_stick L e ≡ true) where
      less : number L.size e < edge_count L.size
      less = (laws L sound).number_less e stick

      back : edge_at L.size (number L.size e) ≡ e
      back = (laws L sound).at_number e stick

      mark_on : is_on L f e ≡ true → e.vertical ≡ false → has marked (number L.size e) ≡ true
      mark_on on flat =
          bits-set (walk_of L) (laws L sound) horizontal (marks L sound) (contour_of L f) s ones kept (number L.size e) less
          (ap horizontal back ∙ ap not flat)
          (subst (λ (y : Edge). 0 < occurrences (walk_of L) y (contour_of L f)) (sym back) (on-is L f e on))

      mark-off : is_on L f e ≡ false → has marked (number L.size e) ≡ has s (number L.size e)
      mark-off away =
          bits-kept (walk_of L) (laws L sound) horizontal (marks L sound) (contour_of L f) s ones kept (number L.size e) less
          (ap (λ (y : Edge). occurrences (walk_of L) y (contour_of L f)) back ∙ (off L f e).0 away)

  -- A turn: f is the first of those that are left

  module _ {left left' : List Edge} {f : Edge} {s s' : List ℕ} (m : BoresMarked L left s) (next : left ≡ f ∷ left')
      (work : s' ≡ mark_bore L s f) where
    is-first : first (walk_of L) f ≡ true
    is-first = here-first m.firsts next

    -- how often a stick stands in what was left
    counts : (y : Edge) → occurrences (walk_of L) y left ≡ as_number (same_edge y f) + occurrences (walk_of L) y left'
    unfolding occurrences
    counts y = ap (occurrences (walk_of L) y) next

    work-bore : is_bore L f ≡ true → s' ≡ foldl (mark_edge L.size) s (contour_of L f)
    work-bore b = work ∙ ap (λ (x : Bool). cond x (foldl (mark_edge L.size) s (contour_of L f)) s) b

    work_none : is_bore L f ≡ false → s' ≡ s
    work_none b = work ∙ ap (λ (x : Bool). cond x (foldl (mark_edge L.size) s (contour_of L f)) s) b

    module _ (e : Edge) (stick : is_stick L e ≡ true) (flat : e.vertical ≡ false) where
      abbrev g : Edge
      g = first_of L e

      -- e is on f: f is done now, and the bit, which was clear, says whether it is a bore
      own-done : g ≡ f → done L left' e ≡ true
      own-done own =
          let once = first-sticks-once L sound f ∙ ap as_number is-first in
          let none : occurrences (walk_of L) f left' ≡ 0 =
          omega (arith, counts f, m.most f, ap as_number (same_self f)) in
          ap (λ (y : Edge). eqb (occurrences (walk_of L) y left') 0) own ∙ ap (λ (n : ℕ). eqb n 0) none

      own-clear : g ≡ f → has s (number L.size e) ≡ false
      own-clear own =
          m.says e stick flat
          ∙ and_no (on_bore L e) (ne_eqb (occurrences (walk_of L) g left) 0 (λ z. omega (arith, z, counts g, ap as_number (same_true (walk_of L) (laws L sound) own))))

      said-own : is_on L f e ≡ true → has s' (number L.size e) ≡ (on_bore L e && done L left' e)
      said-own on =
          let own : g ≡ f = on-only sound f is-first e on in
          let is : on_bore L e ≡ is_bore L f = rw stick (ap (is_bore L) own) in
          both-sides (is_bore L f)
          (λ b. ap (λ (x : List ℕ). has x (number L.size e)) (work-bore b) ∙ mark_on f is-first s m.kept e stick on flat ∙ sym b)
          (λ b. ap (λ (x : List ℕ). has x (number L.size e)) (work_none b) ∙ own-clear own ∙ sym b)
          ∙ sym is ∙ sym (and_yes (on_bore L e) (own-done own))

      -- e is on another contour: its bit is as before
      said-other : is_on L f e ≡ false → has s' (number L.size e) ≡ (on_bore L e && done L left' e)
      said-other away =
          let apart : same_edge g f ≡ false =
          same_false (walk_of L) (laws L sound) (λ q. true≢false (sym (subst (λ (y : Edge). is_on L y e ≡ true) q (on-first_of sound e stick)) ∙ away)) in
          let counted : occurrences (walk_of L) g left ≡ occurrences (walk_of L) g left' =
          omega (arith, counts g, ap as_number apart) in
          both-sides (is_bore L f)
          (λ b. ap (λ (x : List ℕ). has x (number L.size e)) (work-bore b) ∙ mark-off f is-first s m.kept e stick away)
          (λ b. ap (λ (x : List ℕ). has x (number L.size e)) (work_none b))
          ∙ m.says e stick flat ∙ ap (λ (n : ℕ). on_bore L e && eqb n 0) counted

    pub bores-turn : BoresMarked L left' s'
    bores-turn = record {
      firsts = firsts-turn m.firsts next;
      kept = both-sides (is_bore L f) (λ b. rw (work-bore b) (mark-ok f is-first s m.kept)) (λ b. rw (work_none b) m.kept);
      most = λ y. omega (arith, counts y, m.most y);
      says = λ e stick flat. both-sides (is_on L f e) (said-own e stick flat) (said-other e stick flat);
    }

  -- none is left
  pub bores-end : {left : List Edge} {s : List ℕ} → BoresMarked L left s → left ≡ [] → BoreSet L s
  unfolding occurrences
  bores-end {s = s} m none = record {
    sound = sound;
    sized = m.kept.0;
    says = λ c r stick.
        sym (ap (has s) (horizontal-number L.size (east c r) refl))
        ∙ m.says (east c r) stick refl
        ∙ and_yes (on_bore L (east c r)) (ap (λ (l : List Edge). eqb (occurrences (walk_of L) (first_of L (east c r)) l) 0) none);
  }

  pub bores-markable : {left left' : List Edge} {f : Edge} {s : List ℕ} → BoresMarked L left s → left ≡ f ∷ left' → Markable L s f
  bores-markable {f = f} m next =
      record { sound = sound; stick = first_one (walk_of L) (laws L sound) f (here-first m.firsts next); sized = m.kept.0 }
