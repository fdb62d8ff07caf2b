-- What trying a run makes of it: no vertex moves, nothing is removed but inner vertices of the run, and each vertex that is kept starts a
-- drawn edge that crosses the removed sticks up to its end, within the run.
use mathlib.Core.Path.{◌≡◌, refl, sym, subst, ◌∙◌, ap}
use mathlib.Core.Logic.{◌≢◌}
use mathlib.Core.Bool.{true, false, true≢false}
use mathlib.Core.List.{List, foldl}
use Prim.Native.Nat.{ℕ, zero, suc, ◌+◌, ◌-◌, ◌≤◌, ◌<◌}
use native.Mathlib.Decide.{dec_lt}
use native.Mathlib.Omega.{arith}
use lib.ListN.{length}
use Rattle.arith.proofs.Booleans.{both-sides}
use Rattle.grid.specs.Layer.{Layer}
use Rattle.grid.specs.Edges.{is_stick, edge_count}
use Rattle.grid.specs.Questions.{Sound}
use Rattle.grid.specs.declared.edge.Edge.{Edge}
use Rattle.grid.specs.Questions.{Yes}
use Rattle.step.specs.Walk.{next, following}
use Rattle.step.proofs.Walks.{next-stick}
use Rattle.contour.specs.Walk.{ahead}
use Rattle.contour.specs.Contours.{walk_of, contour_of}
use Rattle.contour.proofs.Orbit.{ahead-add, ahead-one}
use Rattle.contour.proofs.Sticks.{laws}
use Rattle.chord.specs.Crossing.{crosses}
use Rattle.table.specs.Entries.{entries_answer}
use Rattle.table.specs.Vertices.{removed_at}
use Rattle.table.specs.Stores.{without}
use Rattle.drawn.specs.Drawn.{vertex}
use Rattle.drawn.proofs.Vertices.{vertices-of, kept_of}
use Rattle.drawn.proofs.Stores.{removal-vertex, removal-more, removal-entries, removal-length}
use Rattle.drawn.proofs.FourKept.{four-sticks}
use Rattle.run.specs.Runs.{stick_after, passes}
use Rattle.run.proofs.Passing.{Apart, passes-crosses, contour-apart}
use Rattle.simplify.specs.Runs.{Progress, half, one_tried, try_run, simplify_contour}
use Rattle.simplify.proofs.Trying.{Split, split, split-of, try-passes, try-splits, inner-is, contour-runs}

-- a table of a sound layer that passes questions 5 and 6
pub record EntriesPass (L : Layer) (t : List ℕ) : Type 0 where
  pub exact : length t ≡ edge_count L.size
  pub entries : entries_answer L t ≡ Yes

-- t' is t with no vertex moved, and removes nothing else but inner vertices of the run of n edges from e
pub record RemovesInner (L : Layer) (t t' : List ℕ) (e : Edge) (n : ℕ) : Type 0 where
  pub table_passes : EntriesPass L t'
  pub unmoved : (u : Edge) → vertex L t' u ≡ vertex L t u
  pub others : (u : Edge) → is_stick L u ≡ true → ((j : ℕ) → 0 < j → j < n → stick_after L j e ≢ u) → removed_at L t' u ≡ removed_at L t u

-- going on from p, the next vertex that is not removed comes m steps on, and the chord to it crosses the sticks between
pub record Piece (L : Layer) (t : List ℕ) (p : Edge) (m : ℕ) : Type 0 where
  pub some : 0 < m
  pub ends : removed_at L t (stick_after L m p) ≡ false
  pub over : (j : ℕ) → 0 < j → j < m → removed_at L t (stick_after L j p) ≡ true
  pub crossed : (j : ℕ) → 0 < j → j < m → crosses (vertex L t p) (vertex L t (stick_after L m p)) (stick_after L j p) ≡ true

-- each vertex of the run of n edges from e that is not removed, its end left out, starts such a piece within the run
abbrev pub Covers : Layer → List ℕ → Edge → ℕ → Type 0
Covers L t e n = (i : ℕ) → i < n → removed_at L t (stick_after L i e) ≡ false → (m : ℕ) × (i + m ≤ n) × Piece L t (stick_after L i e) m

-- no vertex of the run is removed
abbrev pub Open : Layer → List ℕ → Edge → ℕ → Type 0
Open L t e n = (i : ℕ) → i ≤ n → removed_at L t (stick_after L i e) ≡ false

-- what trying the run makes of the table
pub record Tried (L : Layer) (t t' : List ℕ) (e : Edge) (n : ℕ) : Type 0 where
  pub removes : RemovesInner L t t' e n
  pub covers : Covers L t' e n

-- what is known of it before it is tried
pub record Fresh (L : Layer) (t : List ℕ) (e : Edge) (n : ℕ) : Type 0 where
  pub table_passes : EntriesPass L t
  pub stick : is_stick L e ≡ true
  pub kept : Open L t e n
  pub apart : Apart L e n

-- so of its first h edges
pub first-fresh : {L : Layer} {t : List ℕ} {e : Edge} {n : ℕ} (h : ℕ) → h ≤ n → Fresh L t e n → Fresh L t e h
first-fresh h most fresh =
    record {
      table_passes = fresh.table_passes;
      stick = fresh.stick;
      kept = λ i l. fresh.kept i (omega arith);
      apart = λ i j a b c. fresh.apart i j a (omega arith) (omega arith);
    }

-- a piece stays one where its sticks stay as they are
pub piece-same : {L : Layer} {t t' : List ℕ} {p : Edge} {m : ℕ} → ((u : Edge) → vertex L t' u ≡ vertex L t u)
    → ((j : ℕ) → j ≤ m → removed_at L t' (stick_after L j p) ≡ removed_at L t (stick_after L j p)) → Piece L t p m → Piece L t' p m
piece-same {L} {p = p} {m = m} unmoved same piece =
    record {
      some = piece.some;
      ends = same m (omega arith) ∙ piece.ends;
      over = λ j a b. same j (omega arith) ∙ piece.over j a b;
      crossed = λ j a b. (λ i. crosses (unmoved p i) (unmoved (stick_after L m p) i) (stick_after L j p)) ∙ piece.crossed j a b;
    }

module _ {L : Layer} (sound : Sound L) where
  step-stick : (j : ℕ) (e : Edge) → is_stick L e ≡ true → is_stick L (stick_after L j e) ≡ true
  step-stick j e stick = ahead-one (walk_of L) (laws L sound) j e stick

  steps : (i j : ℕ) (e : Edge) → stick_after L j (stick_after L i e) ≡ stick_after L (i + j) e
  steps i j e = sym (ahead-add (walk_of L) i j e)

  -- Removing the k vertices that follow e

  remove-following : (k : ℕ) (e : Edge) (t : List ℕ) → EntriesPass L t → is_stick L e ≡ true
      → ((j : ℕ) → 0 < j → j ≤ k → removed_at L t (stick_after L j e) ≡ false)
      → ((i j : ℕ) → 0 < i → i < j → j ≤ k → stick_after L i e ≢ stick_after L j e)
      → let t' : List ℕ = foldl (without L) t (following L k e) in
      RemovesInner L t t' e (suc k) × ((j : ℕ) → 0 < j → j ≤ k → removed_at L t' (stick_after L j e) ≡ true)
  unfolding ahead
  remove-following zero e t table_passes stick kept apart =
      (record { table_passes = table_passes; unmoved = λ u. refl; others = λ u h no. refl }, λ j a b. absurd (omega arith))
  remove-following (suc k) e t table_passes stick kept apart =
      let u : Edge = next L e in
      let at-u = next-stick L sound e stick in
      let vertices = vertices-of L t sound table_passes.entries in
      let drawn = kept_of L t sound vertices u at-u (kept 1 (omega arith) (omega arith)) in
      let more = removal-more L sound t table_passes.exact u drawn vertices in
      let moved = removal-vertex L sound t table_passes.exact u drawn vertices in
      let table-passes' : EntriesPass L (without L t u) = record {
        exact = removal-length L sound t table_passes.exact u drawn vertices;
        entries = removal-entries L sound t table_passes.exact u drawn vertices table_passes.entries;
      } in
      let new : (j : ℕ) → 0 < j → j ≤ k → stick_after L j u ≢ u = λ j a b q. apart 1 (suc j) (omega arith) (omega arith) (omega arith) (sym q) in
      let later = remove-following k u (without L t u) table-passes' at-u
      (λ j a b. more.others (stick_after L j u) (step-stick j u at-u) (new j a b) ∙ kept (suc j) (omega arith) (omega arith))
      (λ i j a b c. apart (suc i) (suc j) (omega arith) (omega arith) (omega arith)) in
      let first : removed_at L (foldl (without L) (without L t u) (following L k u)) u ≡ true =
      later.0.others u at-u (λ j a b. new j a (omega arith)) ∙ more.now_removed in (
        record {
          table_passes = later.0.table_passes;
          unmoved = λ x. later.0.unmoved x ∙ moved x;
          others = λ x h no. later.0.others x h (λ j a b. no (suc j) (omega arith) (omega arith))
              ∙ more.others x h (λ q. no 1 (omega arith) (omega arith) (sym q));
        },
        each-one k e (foldl (without L) (without L t u) (following L k u)) first later.1,
      )
    where
      each-one : (k : ℕ) (e : Edge) (t : List ℕ) → removed_at L t (next L e) ≡ true
          → ((j : ℕ) → 0 < j → j ≤ k → removed_at L t (stick_after L j (next L e)) ≡ true)
          → (j : ℕ) → 0 < j → j ≤ suc k → removed_at L t (stick_after L j e) ≡ true
      each-one k e t first later zero a b = absurd (omega arith)
      each-one k e t first later (suc zero) a b = first
      each-one k e t first later (suc (suc j)) a b = later (suc j) (omega arith) (omega arith)

  -- Two runs in turn

  -- after the first h edges of a run are tried, the others are fresh
  pub second-fresh : {t t₁ : List ℕ} {e : Edge} {n h : ℕ} → h ≤ n → Fresh L t e n → RemovesInner L t t₁ e h → Fresh L t₁ (stick_after L h e) (n - h)
  second-fresh {e = e} {h = h} most fresh first =
      record {
        table_passes = first.table_passes;
        stick = step-stick h e fresh.stick;
        kept = λ i l.
            rw (steps h i e)
            (first.others (stick_after L (h + i) e) (step-stick (h + i) e fresh.stick)
            (λ j a b. fresh.apart j (h + i) a (omega arith) (omega arith) (λ q. omega arith))
            ∙ fresh.kept (h + i) (omega arith));
        apart = λ i j a b c d q.
            fresh.apart (h + i) (h + j) (omega arith) (omega arith) (omega arith) (λ s. d (omega arith))
            (sym (steps h i e) ∙ q ∙ steps h j e);
      }

  module _ {t t₁ t₂ : List ℕ} {e : Edge} {n h : ℕ} (most : h ≤ n) (fresh : Fresh L t e n) (first : RemovesInner L t t₁ e h)
      (second : RemovesInner L t₁ t₂ (stick_after L h e) (n - h)) where
    removes-both : RemovesInner L t t₂ e n
    removes-both =
        record {
          table_passes = second.table_passes;
          unmoved = λ u. second.unmoved u ∙ first.unmoved u;
          others = λ u at-u no.
              second.others u at-u (λ j a b q. no (h + j) (omega arith) (omega arith) (sym (steps h j e) ∙ q))
              ∙ first.others u at-u (λ j a b. no j a (omega arith));
        }

    -- the second leaves the first as it is
    still : (i : ℕ) → i ≤ h → removed_at L t₂ (stick_after L i e) ≡ removed_at L t₁ (stick_after L i e)
    still i l =
        second.others (stick_after L i e) (step-stick i e fresh.stick)
        (λ j a b q. fresh.apart (h + j) i (omega arith) (omega arith) (omega arith) (λ s. omega arith) (sym (steps h j e) ∙ q))

    covers-both : Covers L t₁ e h → Covers L t₂ (stick_after L h e) (n - h) → Covers L t₂ e n
    covers-both one two i l kept = elim (dec_lt i h) [
      | yes b ↦
          let c = one i b (sym (still i (omega arith)) ∙ kept) in (
            c.0,
            omega (arith, c.1),
            piece-same second.unmoved (λ j d. rw (steps i j e) (still (i + j) (omega (arith, c.1)))) c.2,
          )
      | no g ↦
          let sum : h + (i - h) ≡ i = omega arith in
          let here : stick_after L (i - h) (stick_after L h e) ≡ stick_after L i e = steps h (i - h) e ∙ ap (λ (k : ℕ). stick_after L k e) sum in
          let c = two (i - h) (omega arith) (rw here kept) in
          (c.0, omega (arith, c.1), subst (λ (p : Edge). Piece L t₂ p c.0) here c.2)
    ]

  -- A run

  -- one that passes
  passed : (t : List ℕ) (tolerance : ℕ) (e : Edge) (n : ℕ) → 1 ≤ n → Fresh L t e n
      → passes L t tolerance e n ≡ true → Tried L t (foldl (without L) t (following L (n - 1) e)) e n
  unfolding ahead
  passed t tolerance e n some fresh yes-all =
      let t' : List ℕ = foldl (without L) t (following L (n - 1) e) in
      let r = remove-following (n - 1) e t fresh.table_passes fresh.stick (λ j a b. fresh.kept j (omega arith))
      (λ i j a b c. fresh.apart i j a (omega arith) (omega arith) (λ q. omega arith)) in
      let whole : suc (n - 1) ≡ n = omega arith in
      let removes : RemovesInner L t t' e n = subst (RemovesInner L t t' e) whole r.0 in
      let end : removed_at L t' (stick_after L n e) ≡ false =
      removes.others (stick_after L n e) (step-stick n e fresh.stick) (λ j a b. fresh.apart j n a b (omega arith) (λ q. omega arith))
      ∙ fresh.kept n (omega arith) in
      let piece : Piece L t' e n = record {
        some = some;
        ends = end;
        over = λ j a b. r.1 j a (omega arith);
        crossed = λ j a b. (λ i. crosses (removes.unmoved e i) (removes.unmoved (stick_after L n e) i) (stick_after L j e))
            ∙ passes-crosses L t tolerance e n yes-all j a b;
      } in
      record { removes = removes; covers = started t' piece r.1 }
    where
      started : (t' : List ℕ) → Piece L t' e n → ((j : ℕ) → 0 < j → j ≤ n - 1 → removed_at L t' (stick_after L j e) ≡ true) → Covers L t' e n
      started t' piece over zero l k = (n, omega arith, piece)
      started t' piece over (suc i) l k = absurd (true≢false (sym (over (suc i) (omega arith) (omega arith)) ∙ k))

  -- what trying runs at a depth is shown to do
  abbrev Trying : ℕ → ℕ → Type 0
  Trying tolerance depth =
      (s : Progress) (e : Edge) (n : ℕ) → 1 ≤ n → n ≤ depth → Fresh L s.table e n
      → Tried L s.table (try_run L tolerance depth s e n).table e n

  -- two runs in turn
  two-tried : (tolerance depth : ℕ) → Trying tolerance depth → (s : Progress) (e : Edge) (n h : ℕ)
      → 1 ≤ h → h ≤ depth → 1 ≤ n - h → n - h ≤ depth → Fresh L s.table e n
      → Tried L s.table (try_run L tolerance depth (try_run L tolerance depth s e h) (stick_after L h e) (n - h)).table e n
  two-tried tolerance depth try s e n h some-h most-h some-k most-k fresh =
      let m : Edge = stick_after L h e in
      let s₁ : Progress = try_run L tolerance depth s e h in
      let t₂ : List ℕ = (try_run L tolerance depth s₁ m (n - h)).table in
      let less : h ≤ n = omega arith in
      let one : Tried L s.table s₁.table e h = try s e h some-h most-h (first-fresh h less fresh) in
      let two : Tried L s₁.table t₂ m (n - h) = try s₁ m (n - h) some-k most-k (second-fresh less fresh one.removes) in
      record {
        removes = removes-both less fresh one.removes two.removes;
        covers = covers-both less fresh one.removes two.removes one.covers two.covers;
      }

  one-passed : (tolerance depth : ℕ) (s : Progress) (e : Edge) (n : ℕ) → 1 ≤ n → Fresh L s.table e n
      → passes L s.table tolerance e n ≡ true → Tried L s.table (try_run L tolerance (suc depth) s e n).table e n
  one-passed tolerance depth s e n some fresh y =
      subst (λ (x : Progress). Tried L s.table x.table e n) (sym (try-passes L tolerance depth s e n y ∙ inner-is L (one_tried s) e n))
      (passed s.table tolerance e n some fresh y)

  one_split : (tolerance depth : ℕ) → Trying tolerance depth → (s : Progress) (e : Edge) (n : ℕ) → n ≤ suc depth → Fresh L s.table e n
      → passes L s.table tolerance e n ≡ false → Tried L s.table (try_run L tolerance (suc depth) s e n).table e n
  one_split tolerance depth try s e n most fresh f =
      let p = split L s.table tolerance e n f in
      subst (λ (x : Progress). Tried L s.table x.table e n) (sym (try-splits L tolerance depth s e n f))
      (two-tried tolerance depth try (one_tried s) e n (half n) p.first_some (omega (arith, p)) p.second_some (omega (arith, p)) fresh)

  pub tried : (tolerance depth : ℕ) → Trying tolerance depth
  tried tolerance zero s e n some most fresh = absurd (omega arith)
  tried tolerance (suc depth) s e n some most fresh = both-sides (passes L s.table tolerance e n)
      (one-passed tolerance depth s e n some fresh)
      (one_split tolerance depth (tried tolerance depth) s e n most fresh)

  -- A contour

  pub contour-fresh : {t : List ℕ} {f : Edge} → EntriesPass L t → is_stick L f ≡ true → Open L t f (length (contour_of L f))
      → Fresh L t f (length (contour_of L f))
  contour-fresh {f = f} table_passes stick kept =
      record { table_passes = table_passes; stick = stick; kept = kept; apart = contour-apart L sound f stick }

  pub contour-split : (f : Edge) → is_stick L f ≡ true → Split (length (contour_of L f))
  contour-split f stick = split-of (length (contour_of L f)) (omega (arith, four-sticks L sound f stick))

  pub contour-tried : (tolerance : ℕ) (s : Progress) (f : Edge) → Fresh L s.table f (length (contour_of L f))
      → Tried L s.table (simplify_contour L tolerance s f).table f (length (contour_of L f))
  contour-tried tolerance s f fresh =
      let n : ℕ = length (contour_of L f) in
      let p = contour-split f fresh.stick in
      subst (λ (x : Progress). Tried L s.table x.table f n) (sym (contour-runs L tolerance s f))
      (two-tried tolerance n (tried tolerance n) s f n (half n) p.first_some (omega (arith, p)) p.second_some (omega (arith, p)) fresh)
