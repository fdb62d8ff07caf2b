-- How many removed sticks a drawn edge passes: as many counted back from its end as on from its start, and once the vertex where it ends is
-- removed, those before it, it and those after it.
use mathlib.Core.Path.{◌≡◌, refl, sym, ◌∙◌, ap, subst}
use mathlib.Core.Logic.{◌≢◌}
use mathlib.Core.Bool.{true, false, true≢false}
use mathlib.Core.List.{List}
use Prim.Native.Nat.{ℕ, zero, suc, ◌+◌, ◌-◌, ◌≤◌}
use native.Mathlib.Decide.{dec_lt}
use native.Mathlib.Omega.{arith}
use lib.ListN.{length}
use Rattle.grid.specs.Layer.{Layer}
use Rattle.grid.specs.Edges.{is_stick, edge_count}
use Rattle.grid.specs.Questions.{Sound}
use Rattle.grid.specs.declared.edge.Edge.{Edge}
use Rattle.step.specs.Walk.{next, prev}
use Rattle.step.proofs.Walks.{next_prev}
use Rattle.contour.specs.Walk.{Walk, Laws, ahead}
use Rattle.contour.specs.Contours.{walk_of}
use Rattle.contour.proofs.Orbit.{round, length_run, ahead-next, ahead-add, ahead-one}
use Rattle.contour.proofs.Sticks.{laws}
use Rattle.table.specs.Vertices.{removed_at}
use Rattle.drawn.specs.Neighbours.{removed_from, kept_from, gap_after, gap_before, next_kept, previous_kept}
use Rattle.drawn.proofs.Gaps.{kept-not-removed, not-both}
use Rattle.drawn.proofs.GapWalk.{walk_by, forth, back, Gap, gap-run, gap-end, some-gap}
use Rattle.drawn.specs.Drawn.{Drawn}
use Rattle.drawn.proofs.Removal.{OneMore}

-- the gap after e by a step, with its length and its end
record Measured (step undo : Edge → Edge) (L : Layer) (t : List ℕ) (e : Edge) (k : ℕ) : Type 0 where
  most : k ≤ edge_count L.size
  gap : Gap step undo L t e k
  length_is : length (removed_from step L t (edge_count L.size) e) ≡ k
  end_is : kept_from step L t (edge_count L.size) e ≡ ahead (walk_by step undo L) (suc k) e

module _ (step undo : Edge → Edge) (L : Layer) (t : List ℕ) (e : Edge) where
  measure : (k : ℕ) → k ≤ edge_count L.size → Gap step undo L t e k → Measured step undo L t e k
  measure k most gap =
      let run_is = gap-run step undo L t (edge_count L.size) k e most gap in
      record {
        most = most;
        gap = gap;
        length_is = ap length run_is ∙ length_run (walk_by step undo L) k (step e);
        end_is = gap-end step undo L t (edge_count L.size) k e most gap;
      }

module _ (step undo : Edge → Edge) (L : Layer) (t : List ℕ) (law : Laws (walk_by step undo L)) (e : Edge) (stick : is_stick L e ≡ true)
    (stays : removed_at L t e ≡ false) where
  measured : (k : ℕ) × Measured step undo L t e k
  measured =
      let g = some-gap step undo L t law e stick stays in
      (g.0, measure step undo L t e g.0 (omega (arith, g.1, (round (walk_by step undo L) law e stick).within)) g.2)

  -- no gap is shorter or longer
  unique : (k m : ℕ) → Gap step undo L t e k → Gap step undo L t e m → k ≡ m
  unique k m a b = elim (dec_lt k m) [
    | yes h ↦ absurd (true≢false (sym (b.removed k h) ∙ a.ends))
    | no h ↦ elim (dec_lt m k) [ yes l ↦ absurd (true≢false (sym (a.removed m l) ∙ b.ends)) | no l ↦ omega arith ]
  ]

  measured-as : (k : ℕ) → Gap step undo L t e k → Measured step undo L t e k
  measured-as k gap =
      let m = measured in
      let same : k ≡ m.0 = unique k m.0 gap m.1.gap in
      measure step undo L t e k (omega (arith, m.1.most)) gap

abbrev backward : Layer → Walk
backward L = walk_by (prev L) (next L) L

module _ (L : Layer) (t : List ℕ) (sound : Sound L) where
  -- steps ahead undo steps back
  ahead-back : (i j n : ℕ) → n ≡ i + j → (e : Edge) → is_stick L e ≡ true
      → ahead (walk_of L) j (ahead (backward L) n e) ≡ ahead (backward L) i e
  unfolding ahead
  ahead-back i zero n s e stick = let one : n ≡ i = omega arith in ap (λ (n : ℕ). ahead (backward L) n e) one
  ahead-back i (suc j) n s e stick =
      let z = ahead (backward L) (i + j) e in
      let one : n ≡ suc (i + j) = omega arith in
      ap (λ (n : ℕ). ahead (walk_of L) j (next L (ahead (backward L) n e))) one
      ∙ ap (λ (y : Edge). ahead (walk_of L) j (next L y)) (ahead-next (backward L) (i + j) e)
      ∙ ap (ahead (walk_of L) j) (next_prev L sound z (ahead-one (backward L) (back L sound) (i + j) e stick))
      ∙ ahead-back i j (i + j) refl e stick

  -- the gap before e is the gap after the kept vertex before it
  module _ (e : Edge) (d : Drawn L t e) where
    stays : removed_at L t e ≡ false
    stays = kept-not-removed L t e d.kept

    turned : (k : ℕ) → Gap (prev L) (next L) L t e k → Gap (next L) (prev L) L t (ahead (backward L) (suc k) e) k
    unfolding ahead
    turned k gap = record {
      removed = λ j h.
          ap (removed_at L t) (ahead-back (suc (k - suc j)) (suc j) (suc k) (omega arith) e d.stick)
          ∙ gap.removed (k - suc j) (omega arith);
      ends = ap (removed_at L t) (ahead-back 0 (suc k) (suc k) (omega arith) e d.stick) ∙ stays;
    }

    pub before-after : length (gap_before L t e) ≡ length (gap_after L t (previous_kept L t e))
    before-after =
        let m = measured (prev L) (next L) L t (back L sound) e d.stick stays in
        let k : ℕ = m.0 in
        let gap : Gap (next L) (prev L) L t (previous_kept L t e) k =
        subst (λ (x : Edge). Gap (next L) (prev L) L t x k) (sym m.1.end_is) (turned k m.1.gap) in
        let after = measure (next L) (prev L) L t (previous_kept L t e) k m.1.most gap in
        m.1.length_is ∙ sym after.length_is

    -- it is shorter than there are edges
    pub before_most : length (gap_before L t e) ≤ edge_count L.size
    before_most =
        let m = measured (prev L) (next L) L t (back L sound) e d.stick stays in
        omega (arith, m.1.most, m.1.length_is)

    pub after_most : length (gap_after L t e) ≤ edge_count L.size
    after_most =
        let m = measured (next L) (prev L) L t (forth L sound) e d.stick stays in
        omega (arith, m.1.most, m.1.length_is)

-- e is removed, and its edge from p then goes on over it to where the edge from e ended
module _ (L : Layer) (t t' : List ℕ) (sound : Sound L) (p e : Edge) (dp : Drawn L t p) (ends : next_kept L t p ≡ e) (more : OneMore L t t' e)
    (p-other : p ≢ e) (n-other : next_kept L t e ≢ e) where
  longer : (x : Edge) → is_stick L x ≡ true → removed_at L t x ≡ true → removed_at L t' x ≡ true
  longer x stick r =
      more.others x stick (λ s. not-both L t e more.was_drawn.kept (subst (λ (y : Edge). removed_at L t y ≡ true) s r)) ∙ r

  ahead-stick : (k : ℕ) (x : Edge) → is_stick L x ≡ true → is_stick L (ahead (walk_of L) k x) ≡ true
  ahead-stick k x stick = ahead-one (walk_of L) (laws L sound) k x stick

  module _ (g h : ℕ) (a : Measured (next L) (prev L) L t p g) (b : Measured (next L) (prev L) L t e h) where
    met : ahead (walk_of L) (suc g) p ≡ e
    met = sym a.end_is ∙ ends

    past : (i n : ℕ) → n ≡ suc g + i → ahead (walk_of L) n p ≡ ahead (walk_of L) i e
    past i n s = ap (λ (k : ℕ). ahead (walk_of L) k p) s ∙ ahead-add (walk_of L) (suc g) i p ∙ ap (ahead (walk_of L) i) met

    joined-gap : Gap (next L) (prev L) L t' p (g + 1 + h)
    joined-gap = record {
      removed = λ j l. elim (dec_lt j g) [
        | yes y ↦ longer (ahead (walk_of L) (suc j) p) (ahead-stick (suc j) p dp.stick) (a.gap.removed j y)
        | no n ↦ elim (dec_lt g j) [
          | yes y ↦
              let here : ahead (walk_of L) (suc j) p ≡ ahead (walk_of L) (suc (j - suc g)) e = past (suc (j - suc g)) (suc j) (omega arith) in
              ap (removed_at L t') here
              ∙ longer (ahead (walk_of L) (suc (j - suc g)) e) (ahead-stick (suc (j - suc g)) e more.was_drawn.stick)
              (b.gap.removed (j - suc g) (omega arith))
          | no m ↦
              let same : suc j ≡ suc g = omega arith in
              ap (λ (k : ℕ). removed_at L t' (ahead (walk_of L) k p)) same ∙ ap (removed_at L t') met ∙ more.now_removed
        ]
      ];
      ends =
          let last : ahead (walk_of L) (suc (g + 1 + h)) p ≡ next_kept L t e =
          past (suc h) (suc (g + 1 + h)) (omega arith) ∙ sym b.end_is in
          ap (removed_at L t') last
          ∙ more.others (next_kept L t e) (rw b.end_is (ahead-stick (suc h) e more.was_drawn.stick)) n-other
          ∙ ap (removed_at L t) b.end_is ∙ b.gap.ends;
    }

    joined-all : Measured (next L) (prev L) L t' p (g + 1 + h)
    joined-all =
        measured-as (next L) (prev L) L t' (forth L sound) p dp.stick
        (more.others p dp.stick p-other ∙ kept-not-removed L t p dp.kept) (g + 1 + h) joined-gap

    joined_end : next_kept L t' p ≡ next_kept L t e
    joined_end = joined-all.end_is ∙ past (suc h) (suc (g + 1 + h)) (omega arith) ∙ sym b.end_is

  pub joined : (length (gap_after L t' p) ≡ length (gap_after L t p) + 1 + length (gap_after L t e)) × (next_kept L t' p ≡ next_kept L t e)
  joined =
      let a = measured (next L) (prev L) L t (forth L sound) p dp.stick (kept-not-removed L t p dp.kept) in
      let d = more.was_drawn in
      let b = measured (next L) (prev L) L t (forth L sound) e d.stick (kept-not-removed L t e d.kept) in
      let all = joined-all a.0 b.0 a.1 b.1 in
      (omega (arith, all.length_is, a.1.length_is, b.1.length_is), joined_end a.0 b.0 a.1 b.1)
