-- A chord against the vertices of the sticks that follow one; and a drawn edge's gap is such a run of sticks, for crossing and for sliding.
use mathlib.Core.Path.{◌≡◌, refl, sym, ◌∙◌, ap, subst}
use mathlib.Core.Bool.{Bool, true, ◌&&◌}
use mathlib.Core.List.{List}
use Prim.Native.Nat.{ℕ, zero, suc}
use Rattle.arith.proofs.Booleans.{both-sides}
use Rattle.arith.specs.Lists.{each}
use Rattle.grid.specs.Layer.{Layer}
use Rattle.grid.specs.Edges.{is_stick, edge_count}
use Rattle.grid.specs.Questions.{Sound}
use Rattle.grid.specs.declared.edge.Edge.{Edge}
use Rattle.step.specs.Walk.{next}
use Rattle.step.proofs.Walks.{next-stick}
use Rattle.step.proofs.Following.{TestsLeft}
use Rattle.chord.specs.Points.{Position}
use Rattle.chord.specs.Crossing.{slides_within}
use Rattle.table.specs.declared.entry.Entry.{Entry}
use Rattle.table.specs.Vertices.{entry_at, offset_in, removed_at, offset_at}
use Rattle.drawn.specs.Neighbours.{removed_from, next_kept}
use Rattle.drawn.proofs.Gaps.{gap-over, gap_here}
use Rattle.drawn.specs.Drawn.{vertex, edge_crosses}
use Rattle.drawn.proofs.Runs.{gap-following, gap-run}
use Rattle.edit.specs.declared.redraw.Chord.{Chord}
use Rattle.edit.specs.Edits.{edge_within}
use Rattle.edit.specs.Chords.{slides_at, within_run, chord_of, crosses_chord, within_chord}

-- the test of the vertices of the sticks that follow e, before the first of them
pub within-start : (L : Layer) (t : List ℕ) (tolerance : ℕ) (p q : Position) (e : Edge) (n : ℕ) → is_stick L e ≡ true
    → TestsLeft L (slides_at L t tolerance p q) (within_run L t tolerance p q e n) e n
unfolding within_run
within-start L t tolerance p q e n stick = record { stick = stick; same = refl }

-- the test of a stick, by its entry and the offset in it
pub slide-here : (L : Layer) (t : List ℕ) (tolerance : ℕ) (p q : Position) (e : Edge) {within : Bool} {offset : ℕ} {entry : Entry}
    → within ≡ slides_within tolerance p q e offset → offset ≡ offset_in entry → entry ≡ entry_at L t e
    → slides_at L t tolerance p q e ≡ within
unfolding offset_at
slide-here L t tolerance p q e w o is = sym (w ∙ ap (slides_within tolerance p q e) (o ∙ ap offset_in is))

-- the same number of sticks left, counted in another way
pub as-many : {L : Layer} {test : Edge → Bool} {answer : Bool} {at : Edge} {m n : ℕ} → TestsLeft L test answer at m → m ≡ n
    → TestsLeft L test answer at n
as-many {L} {test} {answer} {at} here e = subst (TestsLeft L test answer at) e here

-- The redrawn edges are drawn on the table t' after the edit; the code reads the offsets of the table t before it, which are the same on the
-- sticks that t' removes.
module _ (L : Layer) (sound : Sound L) (t t' : List ℕ)
    (same : (u : Edge) → is_stick L u ≡ true → removed_at L t' u ≡ true → offset_at L t' u ≡ offset_at L t u) where
  each_within : (tolerance : ℕ) (p q : Position) (n : ℕ) (e : Edge) → is_stick L e ≡ true
      → let gap = removed_from (next L) L t' n e in
      each (slides_at L t' tolerance p q) gap ≡ each (slides_at L t tolerance p q) gap
  unfolding removed_from
  each_within tolerance p q zero e stick = refl
  each_within tolerance p q (suc n) e stick =
      let after = next-stick L sound e stick in
      both-sides (removed_at L t' (next L e))
      (λ r. rw (gap-over (next L) L t' n e r, same (next L e) after r)
      (ap (λ (b : Bool). slides_at L t tolerance p q (next L e) && b) (each_within tolerance p q n (next L e) after)))
      (λ r. rw (gap_here (next L) L t' (suc n) e r))

  -- so the code asks of a redrawn edge what the definition asks
  pub chord-within : (tolerance : ℕ) (e : Edge) → is_stick L e ≡ true → (c : Chord) → c ≡ chord_of L t' e
      → within_chord L t tolerance c ≡ edge_within L t' tolerance e
  unfolding edge_within within_run
  chord-within tolerance e stick c s =
      let p = vertex L t' e in
      let q = vertex L t' (next_kept L t' e) in
      ap (within_chord L t tolerance) s
      ∙ sym (ap (each (slides_at L t tolerance p q)) (gap-following L t' e))
      ∙ sym (each_within tolerance p q (edge_count L.size) e stick)

pub chord_crosses : (L : Layer) (t' : List ℕ) (e : Edge) (c : Chord) → c ≡ chord_of L t' e
    → crosses_chord L c ≡ edge_crosses L t' e
unfolding edge_crosses
chord_crosses L t' e c s =
    ap (crosses_chord L) s
    ∙ sym (gap-run L t' (vertex L t' e) (vertex L t' (next_kept L t' e)) e)
