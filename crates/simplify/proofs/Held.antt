-- Simplify keeps a layer held: on a layer and a table that pass questions 1 to 7 and 15, the table that it gives passes 5, 6 and 7; and
-- whatever a call is answered, an accepted table is accepted after it.
use Rattle.std.specs.Prelude.{Err}
use mathlib.Core.Path.{◌≡◌, refl, sym, subst, ◌∙◌, ap}
use mathlib.Core.Logic.{inl, inr}
use mathlib.Core.Bool.{Bool, true, false}
use mathlib.Core.List.{List, [], ◌∷◌, ◌++◌, foldl, map, flatten}
use Prim.Native.Nat.{ℕ, zero, suc, ◌+◌, ◌≤◌, ◌<◌}
use native.Mathlib.Nat.{eq-zero-or-pos}
use native.Mathlib.Omega.{arith}
use lib.ListN.{length}
use Rattle.arith.specs.Booleans.{as_number}
use Rattle.arith.proofs.Booleans.{one-le}
use Rattle.arith.specs.Lists.{each}
use Rattle.grid.specs.Layer.{Layer}
use Rattle.grid.specs.Edges.{is_stick, edge_count}
use Rattle.grid.specs.Questions.{first_no, Sound}
use Rattle.grid.specs.declared.edge.Edge.{Edge}
use Rattle.grid.specs.Questions.{Answer, Yes}
use Rattle.step.specs.Walk.{next, prev}
use Rattle.contour.specs.Walk.{ahead, contour, occurrences, first, OnContour}
use Rattle.contour.specs.Contours.{walk_of, contour_of, first_sticks}
use Rattle.contour.proofs.First.{first_one}
use Rattle.contour.proofs.Members.{occurrences-append, place, on-self, on-ahead, on-share}
use Rattle.contour.proofs.Orbit.{run, ahead-one, not-before, round}
use Rattle.contour.proofs.Sticks.{laws, same_self}
use Rattle.contour.proofs.Theorems.{permutation, on-no-other, first-sticks-only}
use Rattle.chord.specs.Crossing.{crosses}
use Rattle.table.specs.Vertices.{removed_at}
use Rattle.table.proofs.AllKept.{AllKept, not-removed, passes-entries}
use Rattle.drawn.specs.Neighbours.{gap_after, next_kept}
use Rattle.drawn.proofs.Gaps.{kept-not-removed}
use Rattle.drawn.proofs.GapWalk.{Gap, gap-run, gap-end}
use Rattle.drawn.specs.Drawn.{vertex, edge_crosses}
use Rattle.drawn.proofs.Vertices.{vertices-of, kept_of}
use Rattle.held.specs.Held.{held_answer}
use Rattle.held.specs.Questions.{kept_questions, Accepted}
use Rattle.held.proofs.Holding.{layer-held}
use Rattle.run.specs.Runs.{stick_after}
use Rattle.simplify.specs.Runs.{Progress, simplify_contour, simplify}
use Rattle.simplify.specs.Parts.{begun}
use Rattle.simplify.specs.Call.{simplify_of, Outcome}
use Rattle.simplify.proofs.Covers.{EntriesPass, Piece, Open, Fresh, piece-same, contour-fresh, contour-tried}
use Rattle.simplify.proofs.Layers.{simplify-is}
use Rattle.simplify.proofs.Outcomes.{outcome-is, yes-to-all}

-- What holds of the table between two contours

pub record CoversLayer (L : Layer) (t : List ℕ) : Type 0 where
  pub table_passes : EntriesPass L t
  -- each vertex that is not removed starts a drawn edge that crosses what it must
  pub pieces : (p : Edge) → is_stick L p ≡ true → removed_at L t p ≡ false → (m : ℕ) × (m ≤ edge_count L.size) × Piece L t p m
  -- vertex 0 of each contour is kept
  pub firsts : (f : Edge) → first (walk_of L) f ≡ true → removed_at L t f ≡ false

-- no vertex is removed on the contours of some first sticks
abbrev Untouched : Layer → List ℕ → List Edge → Type 0
Untouched L t l = (e : Edge) → is_stick L e ≡ true → 0 < occurrences (walk_of L) e (flatten (map (contour (walk_of L)) l)) → removed_at L t e ≡ false

-- what is known before the contours of some first sticks are simplified
pub record DueContours (L : Layer) (t : List ℕ) (l : List Edge) : Type 0 where
  pub first_all : (f : Edge) → 0 < occurrences (walk_of L) f l → first (walk_of L) f ≡ true
  pub once : (e : Edge) → occurrences (walk_of L) e (flatten (map (contour (walk_of L)) l)) ≤ 1
  pub covered : CoversLayer L t
  pub untouched : Untouched L t l

-- a test of each stick of a run
each-run : (L : Layer) (g : Edge → Bool) (k : ℕ) (x : Edge) → ((j : ℕ) → j < k → g (ahead (walk_of L) j x) ≡ true) → each g (run (walk_of L) k x) ≡ true
unfolding run ahead
each-run L g zero x h = refl
each-run L g (suc k) x h = rw (h 0 (omega arith)) (each-run L g k (next L x) (λ j l. h (suc j) (omega arith)))

-- a piece is the drawn edge that starts at p
piece-crosses : (L : Layer) (t : List ℕ) (p : Edge) (m : ℕ) → m ≤ edge_count L.size → Piece L t p m → edge_crosses L t p ≡ true
unfolding edge_crosses ahead
piece-crosses L t p zero l piece = absurd (omega (arith, piece.some))
piece-crosses L t p (suc k) l piece =
    let gap : Gap (next L) (prev L) L t p k = record { removed = λ j b. piece.over (suc j) (omega arith) (omega arith); ends = piece.ends } in
    let after : gap_after L t p ≡ run (walk_of L) k (next L p) = gap-run (next L) (prev L) L t (edge_count L.size) k p (omega arith) gap in
    let end : next_kept L t p ≡ stick_after L (suc k) p = gap-end (next L) (prev L) L t (edge_count L.size) k p (omega arith) gap in
    (λ i. each (crosses (vertex L t p) (vertex L t (end i))) (after i))
    ∙ each-run L (crosses (vertex L t p) (vertex L t (stick_after L (suc k) p))) k (next L p) (λ j b. piece.crossed (suc j) (omega arith) (omega arith))

module _ {L : Layer} (sound : Sound L) where
  -- the table at the start
  covered_start : {t : List ℕ} → AllKept L t → CoversLayer L t
  covered_start {t} kept =
      record {
        table_passes = record { exact = kept.whole; entries = passes-entries L t kept sound };
        pieces = λ p stick r. (
          1,
          omega (arith, (laws L sound).number_less p stick),
          record {
            some = omega arith;
            ends = not-removed L t kept (stick_after L 1 p) (ahead-one (walk_of L) (laws L sound) 1 p stick);
            over = λ j a b. absurd (omega arith);
            crossed = λ j a b. absurd (omega arith);
          },
        );
        firsts = λ f h. not-removed L t kept f (first_one (walk_of L) (laws L sound) f h);
      }

  -- One contour

  module _ (tolerance : ℕ) (s : Progress) (f : Edge) (is-first : first (walk_of L) f ≡ true) (covered : CoversLayer L s.table)
      (kept : Open L s.table f (length (contour_of L f))) where
    abbrev t' : List ℕ
    t' = (simplify_contour L tolerance s f).table

    stick-f : is_stick L f ≡ true
    stick-f = first_one (walk_of L) (laws L sound) f is-first

    fresh-f : Fresh L s.table f (length (contour_of L f))
    fresh-f = contour-fresh sound covered.table_passes stick-f kept

    -- what is off the contour stays as it is
    outside : (u : Edge) → is_stick L u ≡ true → (OnContour (walk_of L) f u → ⊥) → removed_at L t' u ≡ removed_at L s.table u
    outside u stick off =
        (contour-tried sound tolerance s f fresh-f).removes.others u stick
        (λ j a b q. off (subst (OnContour (walk_of L) f) q (on-ahead (walk_of L) (laws L sound) f j stick-f)))

    -- and so does vertex 0 of every contour
    first-kept : (g : Edge) → first (walk_of L) g ≡ true → removed_at L t' g ≡ false
    first-kept g h =
        let law = laws L sound in
        let stick-g = first_one (walk_of L) law g h in
        (contour-tried sound tolerance s f fresh-f).removes.others g stick-g
        (λ j a b q.
        let on : OnContour (walk_of L) f g = subst (OnContour (walk_of L) f) q (on-ahead (walk_of L) law f j stick-f) in
        let same : f ≡ g = on-no-other L sound g f g is-first h on (on-self (walk_of L) law g stick-g) in
        not-before (walk_of L) law f j stick-f a b (q ∙ sym same))
        ∙ covered.firsts g h

    piece-on : (p : Edge) → OnContour (walk_of L) f p → removed_at L t' p ≡ false → (m : ℕ) × (m ≤ edge_count L.size) × Piece L t' p m
    piece-on p on r =
        let law = laws L sound in
        let at = place (walk_of L) law f p stick-f on in
        let c = (contour-tried sound tolerance s f fresh-f).covers at.0 at.1 (rw at.2 r) in
        (c.0, omega (arith, c.1, (round (walk_of L) law f stick-f).within), subst (λ (x : Edge). Piece L t' x c.0) at.2 c.2)

    piece-off : (p : Edge) → is_stick L p ≡ true → (OnContour (walk_of L) f p → ⊥) → removed_at L t' p ≡ false
        → (m : ℕ) × (m ≤ edge_count L.size) × Piece L t' p m
    piece-off p stick off r =
        let law = laws L sound in
        let c = covered.pieces p stick (sym (outside p stick off) ∙ r) in (
          c.0,
          c.1,
          piece-same (contour-tried sound tolerance s f fresh-f).removes.unmoved
              (λ j b. outside (stick_after L j p) (ahead-one (walk_of L) law j p stick)
              (λ o. off (on-share (walk_of L) law f p (stick_after L j p) stick-f stick o (on-ahead (walk_of L) law p j stick))))
              c.2,
        )

    covered-turn : CoversLayer L t'
    covered-turn =
        record {
          table_passes = (contour-tried sound tolerance s f fresh-f).removes.table_passes;
          pieces = λ p stick r. elim (eq-zero-or-pos (occurrences (walk_of L) p (contour_of L f))) [
            | inl z ↦ piece-off p stick (λ o. omega arith) r
            | inr o ↦ piece-on p o r
          ];
          firsts = first-kept;
        }

  -- All contours

  -- before the first of them
  pub due-start : {t : List ℕ} → AllKept L t → DueContours L t (first_sticks L)
  due-start {t} kept =
      record {
        first_all = first-sticks-only L sound;
        once = λ e. omega (arith, permutation L sound e, one-le (is_stick L e));
        covered = covered_start kept;
        untouched = λ e stick o. not-removed L t kept e stick;
      }

  -- the sticks of the contour of f and of the later ones
  occurs : (f : Edge) (l : List Edge) (e : Edge) → let later = flatten (map (contour (walk_of L)) l) in
      occurrences (walk_of L) e (contour_of L f ++ later) ≡ occurrences (walk_of L) e (contour_of L f) + occurrences (walk_of L) e later
  occurs f l e = occurrences-append (walk_of L) e (contour_of L f) (flatten (map (contour (walk_of L)) l))

  module _ {t : List ℕ} {f : Edge} {l : List Edge} (due : DueContours L t (f ∷ l)) where
    due-first : first (walk_of L) f ≡ true
    unfolding occurrences
    due-first = due.first_all f (omega (arith, ap as_number (same_self f)))

    due-open : Open L t f (length (contour_of L f))
    unfolding flatten
    due-open i b =
        let law = laws L sound in
        let stick-f = first_one (walk_of L) law f due-first in
        due.untouched (stick_after L i f) (ahead-one (walk_of L) law i f stick-f)
        (omega (arith, occurs f l (stick_after L i f), on-ahead (walk_of L) law f i stick-f))

    -- the runs of the first of them are fresh,
    pub due-fresh : Fresh L t f (length (contour_of L f))
    due-fresh = contour-fresh sound due.covered.table_passes (first_one (walk_of L) (laws L sound) f due-first) due-open

  -- and after it the others are due
  pub due-next : {f : Edge} {l : List Edge} (tolerance : ℕ) (s : Progress) → DueContours L s.table (f ∷ l)
      → DueContours L (simplify_contour L tolerance s f).table l
  unfolding flatten occurrences
  due-next {f} {l} tolerance s due =
      let is-first = due-first due in
      let all = due-open due in
      record {
        first_all = λ g o. due.first_all g (omega arith);
        once = λ e. omega (arith, occurs f l e, due.once e);
        covered = covered-turn tolerance s f is-first due.covered all;
        untouched = λ e stick o.
            outside tolerance s f is-first due.covered all e stick (λ u. omega (arith, occurs f l e, due.once e))
            ∙ due.untouched e stick (omega (arith, occurs f l e));
      }

  covered-all : (tolerance : ℕ) (l : List Edge) (s : Progress) → DueContours L s.table l → CoversLayer L (foldl (simplify_contour L tolerance) s l).table
  covered-all tolerance [] s due = due.covered
  covered-all tolerance (f ∷ l) s due = covered-all tolerance l (simplify_contour L tolerance s f) (due-next tolerance s due)

  -- Simplify removes nothing else, and what it leaves is held.

  covered-simplify : (tolerance : ℕ) (t : List ℕ) → AllKept L t → CoversLayer L (simplify L tolerance t).table
  covered-simplify tolerance t kept =
      subst (λ (r : Progress). CoversLayer L r.table) (sym (simplify-is L tolerance t))
      (covered-all tolerance (first_sticks L) (begun t) (due-start kept))

  held-of-covered : {t : List ℕ} → CoversLayer L t → held_answer L t ≡ Yes
  held-of-covered {t} covered =
      let vertices = vertices-of L t sound covered.table_passes.entries in
      layer-held L t sound vertices
      (λ p d.
      let c = covered.pieces p d.stick (kept-not-removed L t p d.kept) in
      piece-crosses L t p c.0 c.1 c.2)
      (λ f h.
      let stick = first_one (walk_of L) (laws L sound) f h in
      (f, on-self (walk_of L) (laws L sound) f stick, (kept_of L t sound vertices f stick (covered.firsts f h)).kept))

  -- the table that Simplify gives passes 5, 6 and 7
  pub simplify-accepted : (tolerance : ℕ) (t : List ℕ) → AllKept L t → Accepted L (simplify L tolerance t).table
  simplify-accepted tolerance t kept =
      let covered = covered-simplify tolerance t kept in
      record { sound = sound; exact = covered.table_passes.exact; entries = covered.table_passes.entries; held = held-of-covered covered }

-- and whatever the call is answered, an accepted table is accepted after it
pub simplify-keeps : (L : Layer) (tolerance : ℕ) (t : List ℕ) → Accepted L t → Accepted L (simplify_of L tolerance t).table
simplify-keeps L tolerance t accepted = go (first_no (kept_questions L t)) refl
  where
    go : (answer : Answer) → first_no (kept_questions L t) ≡ answer → Accepted L (simplify_of L tolerance t).table
    go Yes e =
        subst (λ (r : Outcome). Accepted L r.table) (sym (outcome-is L t tolerance _ e))
        (simplify-accepted accepted.sound tolerance t (yes-to-all L t e).1)
    go (Err _) e = subst (λ (r : Outcome). Accepted L r.table) (sym (outcome-is L t tolerance _ e)) accepted
