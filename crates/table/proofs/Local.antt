-- Contours do not touch each other's entries: what it means that two tables agree on a contour, that a step is local to one (it changes no
-- entry off the contour, and what it does depends on the entries there alone), and that the steps of two contours commute.
use mathlib.Core.Path.{◌≡◌, sym, subst, ◌∙◌, ap}
use mathlib.Core.Logic.{◌≢◌, ◌⊎◌, inl, inr}
use mathlib.Core.Bool.{true}
use mathlib.Core.List.{List}
use Prim.Native.Nat.{ℕ, ◌<◌}
use native.Mathlib.Nat.{eq-zero-or-pos}
use native.Mathlib.Decide.{ℕ_discrete}
use native.Mathlib.Omega.{arith}
use lib.ListN.{length, get_or, set, length-set}
use lib.Seq.{get_or-set_same, get_or-set_other, ext_get_or}
use Rattle.grid.specs.Layer.{Layer}
use Rattle.grid.specs.Edges.{number, edge_at, edge_count, is_stick}
use Rattle.grid.specs.Questions.{Sound}
use Rattle.grid.specs.declared.edge.Edge.{Edge}
use Rattle.grid.proofs.Numbers.{number-below, edge_at-within}
use Rattle.contour.specs.Walk.{occurrences, first, OnContour}
use Rattle.contour.specs.Contours.{walk_of, contour_of}
use Rattle.contour.proofs.Orbit.{number-inj}
use Rattle.contour.proofs.Members.{on_one}
use Rattle.contour.proofs.First.{first_one}
use Rattle.contour.proofs.Sticks.{laws, stick-in}
use Rattle.contour.proofs.Theorems.{on-no-other}
use Rattle.table.specs.Entries.{entry_of}
use Rattle.table.specs.Vertices.{is_pinned, offset_in, pinned_at, offset_at}

-- the number that stands for an edge
abbrev pub entry : Layer → List ℕ → Edge → ℕ
entry L t e = get_or t (number L.size e) 0

-- two tables with the same entries on the contour of f
pub record Agree (L : Layer) (f : Edge) (t u : List ℕ) : Type 0 where
  pub whole₁ : length t ≡ edge_count L.size
  pub whole₂ : length u ≡ edge_count L.size
  pub same_entry : (e : Edge) → OnContour (walk_of L) f e → entry L t e ≡ entry L u e

pub agree_then : {L : Layer} {f : Edge} {t u v : List ℕ} → Agree L f t u → Agree L f u v → Agree L f t v
agree_then a b = record { whole₁ = a.whole₁; whole₂ = b.whole₂; same_entry = λ e on. a.same_entry e on ∙ b.same_entry e on }

-- the entry k is none of the contour of f
abbrev pub Off : Layer → Edge → ℕ → Type 0
Off L f k = (e : Edge) → OnContour (walk_of L) f e → k ≢ number L.size e

-- a step that changes no entry off the contour of f, and whose work on it depends on the entries there alone
pub record Local (L : Layer) (f : Edge) (step : List ℕ → List ℕ) : Type 0 where
  pub same_length : (t : List ℕ) → length (step t) ≡ length t
  pub elsewhere : (t : List ℕ) (k : ℕ) → Off L f k → get_or (step t) k 0 ≡ get_or t k 0
  pub agrees : (t u : List ℕ) → Agree L f t u → Agree L f (step t) (step u)

pub same-offset : (L : Layer) (f : Edge) {t u : List ℕ} → Agree L f t u → (e : Edge) → OnContour (walk_of L) f e → offset_at L t e ≡ offset_at L u e
unfolding offset_at
same-offset L f a e on = ap (λ (n : ℕ). offset_in (entry_of n)) (a.same_entry e on)

pub same-pin : (L : Layer) (f : Edge) {t u : List ℕ} → Agree L f t u → (e : Edge) → OnContour (walk_of L) f e → pinned_at L t e ≡ pinned_at L u e
unfolding pinned_at
same-pin L f a e on = ap (λ (n : ℕ). is_pinned (entry_of n)) (a.same_entry e on)

module _ (L : Layer) (sound : Sound L) where
  -- the same number stored at a stick of the contour
  pub stored-agree : (f : Edge) → is_stick L f ≡ true → {t u : List ℕ} → Agree L f t u → (e : Edge) → OnContour (walk_of L) f e → (m n : ℕ) → m ≡ n
      → Agree L f (set t (number L.size e) m) (set u (number L.size e) n)
  stored-agree f stick {t} {u} a e on m n same =
      let k : ℕ = number L.size e in
      let below : k < edge_count L.size =
      number-below L.size sound.whole.sized e (stick-in L e (on_one (walk_of L) (laws L sound) f e stick on)) in
      record {
        whole₁ = length-set t k m ∙ a.whole₁;
        whole₂ = length-set u k n ∙ a.whole₂;
        same_entry = λ g o. elim (ℕ_discrete (number L.size g) k) [
          | yes q ↦
              ap (λ (j : ℕ). get_or (set t k m) j 0) q
              ∙ get_or-set_same t k m 0 (omega (arith, below, a.whole₁)) ∙ same ∙ sym (get_or-set_same u k n 0 (omega (arith, below, a.whole₂)))
              ∙ sym (ap (λ (j : ℕ). get_or (set u k n) j 0) q)
          | no d ↦ get_or-set_other t k (number L.size g) m 0 d ∙ a.same_entry g o ∙ sym (get_or-set_other u k (number L.size g) n 0 d)
        ];
      }

  -- Two contours

  module _ (f g : Edge) (first-f : first (walk_of L) f ≡ true) (first-g : first (walk_of L) g ≡ true) (differ : f ≢ g) where
    -- an entry of one is none of the other
    pub off-other : (e : Edge) → OnContour (walk_of L) g e → Off L f (number L.size e)
    off-other e on h o q =
        let law = laws L sound in
        let one : is_stick L e ≡ true = on_one (walk_of L) law g e (first_one (walk_of L) law g first-g) on in
        let other : is_stick L h ≡ true = on_one (walk_of L) law f h (first_one (walk_of L) law f first-f) o in
        let same : e ≡ h = number-inj (walk_of L) law e h one other q in
        differ (on-no-other L sound e f g first-f first-g (subst (OnContour (walk_of L) f) (sym same) o) on)

    -- so a step of the one leaves a table that agrees on the other
    pub agree-other : (step : List ℕ → List ℕ) → Local L f step → (t : List ℕ) → length t ≡ edge_count L.size → Agree L g (step t) t
    agree-other step local t whole =
        record {
          whole₁ = local.same_length t ∙ whole;
          whole₂ = whole;
          same_entry = λ e on. local.elsewhere t (number L.size e) (off-other e on);
        }

  -- an entry is one of the contour of f, or off it
  on-or-off : (f : Edge) → is_stick L f ≡ true → (k : ℕ) → k < edge_count L.size
      → (OnContour (walk_of L) f (edge_at L.size k) ⊎ Off L f k)
  on-or-off f stick k below = elim (eq-zero-or-pos (occurrences (walk_of L) (edge_at L.size k) (contour_of L f))) [
    | inl z ↦ inr λ e on q.
        let at : edge_at L.size k ≡ e = ap (edge_at L.size) q ∙ (laws L sound).at_number e (on_one (walk_of L) (laws L sound) f e stick on) in
        let here : OnContour (walk_of L) f (edge_at L.size k) = rw at on in
        omega (arith, z, here)
    | inr o ↦ inl o
  ]

  module _ (f g : Edge) (first-f : first (walk_of L) f ≡ true) (first-g : first (walk_of L) g ≡ true) (differ : f ≢ g) where
    -- the entries of f after both steps, in either order, are those after its own step
    on_first : (P Q : List ℕ → List ℕ) → Local L f P → Local L g Q → (t : List ℕ) → length t ≡ edge_count L.size → (e : Edge)
        → OnContour (walk_of L) f e → entry L (Q (P t)) e ≡ entry L (P (Q t)) e
    on_first P Q local-f local-g t whole e on =
        let back : g ≢ f = λ q. differ (sym q) in
        let after = agree-other g f first-g first-f back Q local-g in
        (after (P t) (local-f.same_length t ∙ whole)).same_entry e on ∙ sym ((local-f.agrees (Q t) t (after t whole)).same_entry e on)

  -- the steps of two contours commute
  pub local-commute : (f g : Edge) → first (walk_of L) f ≡ true → first (walk_of L) g ≡ true → f ≢ g
      → (P Q : List ℕ → List ℕ) → Local L f P → Local L g Q → (t : List ℕ) → length t ≡ edge_count L.size → Q (P t) ≡ P (Q t)
  local-commute f g first-f first-g differ P Q local-f local-g t whole =
      let law = laws L sound in
      let p = local-f.same_length in
      let q = local-g.same_length in
      let back : g ≢ f = λ s. differ (sym s) in
      ext_get_or 0 (Q (P t)) (P (Q t)) (q (P t) ∙ p t ∙ sym (p (Q t) ∙ q t)) λ k l.
      let below : k < edge_count L.size = omega (arith, q (P t), p t, whole) in
      let at : number L.size (edge_at L.size k) ≡ k = (edge_at-within L.size sound.whole.sized k below).1 in
      elim (on-or-off f (first_one (walk_of L) law f first-f) k below) [
        | inl on ↦ rw at at (on_first f g first-f first-g differ P Q local-f local-g t whole (edge_at L.size k) on)
        | inr off-f ↦ elim (on-or-off g (first_one (walk_of L) law g first-g) k below) [
          | inl on ↦ sym (rw at at (on_first g f first-g first-f back Q P local-g local-f t whole (edge_at L.size k) on))
          | inr off-g ↦
              local-g.elsewhere (P t) k off-g ∙ local-f.elsewhere t k off-f
              ∙ sym (local-f.elsewhere (Q t) k off-f ∙ local-g.elsewhere t k off-g)
        ]
      ]
