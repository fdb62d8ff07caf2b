-- What is left to try of a contour, as a list of runs that follow each other: at the start, after a run that passes, and after one that is split.
-- Trying them gives what the recursion gives, and the numbers of `waits_of` that are still to come (specs/Waiting.antt) are theirs; the next of
-- them is how many there are.
use mathlib.Core.Path.{◌≡◌, refl, sym, ◌∙◌, ap}
use mathlib.Core.Bool.{true, false}
use mathlib.Core.List.{List, [], ◌∷◌, ◌++◌, foldl, append-nil, append_assoc}
use Prim.Native.Nat.{ℕ, suc, ◌+◌, ◌-◌, ◌≤◌}
use native.Mathlib.Omega.{arith}
use lib.ListN.{length, get_or, drop}
use lib.Seq.{get_or-drop, drop-drop}
use Rattle.grid.specs.Layer.{Layer}
use Rattle.grid.specs.Edges.{edge_count}
use Rattle.grid.specs.declared.edge.Edge.{Edge}
use Rattle.table.specs.Stores.{without}
use Rattle.drawn.proofs.FourKept.{four-sticks}
use Rattle.run.specs.Runs.{stick_after, between, passes, HasSticks, RunLent}
use Rattle.run.specs.Marks.{MarkedAlong, Along}
use Rattle.run.proofs.Steps.{no_steps, steps_on, steps-rest, stick-on, once-round, most-sticks}
use Rattle.simplify.specs.Runs.{Progress, half, one_tried, try_run, simplify_contour}
use Rattle.simplify.specs.Parts.{begun, run_to}
use Rattle.simplify.specs.Waiting.{waits_of_run, waits_of}
use Rattle.simplify.specs.declared.tries.Run.{Run}
use Rattle.simplify.proofs.Trying.{Split, split, split-of, inner-is, try-passes, try-splits, try-from, try-deep, contour-runs}
use Rattle.simplify.proofs.Layers.{contour-counts}
use Rattle.simplify.proofs.Waiting.{waits-first, waits-passes, waits-splits, waits-deep, waits-contour, contour-few}

deep : {m : ℕ} → 1 ≤ m → m ≡ suc (m - 1)
deep some = omega arith

-- the parts of a run that starts at e: "its first part having half its edges rounded down"
abbrev pub first_part : Layer → Edge → Run → Run
first_part L e r = run_to (half r.edges) (stick_after L (half r.edges) e)

abbrev pub second_part : Run → Run
second_part r = run_to (r.edges - half r.edges) r.end

-- Runs tried one after the other

module _ (L : Layer) (tolerance : ℕ) where
  -- a run of m edges from e, as deep as it needs, and how many wait meanwhile
  abbrev pub try_one : Progress → Edge → ℕ → Progress
  try_one s e m = try_run L tolerance m s e m

  abbrev waits_of_one : Progress → Edge → ℕ → ℕ → List ℕ
  waits_of_one s e m others = waits_of_run L tolerance m s e m others

  -- runs that follow each other from e on
  abbrev pub try_all : Progress → Edge → List Run → Progress
  try_all s e [] = s
  try_all s e (r ∷ l) = try_all (try_one s e r.edges) r.end l

  abbrev pub waits_of_all : Progress → Edge → List Run → List ℕ
  waits_of_all s e [] = []
  waits_of_all s e (r ∷ l) = waits_of_one s e r.edges (length l) ++ waits_of_all (try_one s e r.edges) r.end l

  all_more : (s : Progress) (e : Edge) (l : List Run) → (s.removed ≤ (try_all s e l).removed) × (s.tried ≤ (try_all s e l).tried)
  all_more s e [] = (omega arith, omega arith)
  all_more s e (r ∷ l) =
      let from = try-from L tolerance r.edges s e r.edges in
      let m = all_more (try_one s e r.edges) r.end l in
      (omega (arith, ap (λ (x : Progress). x.removed) from, m.0), omega (arith, ap (λ (x : Progress). x.tried) from, m.1))

  -- the parts of a run of m edges from e, each tried at the depth of its own edges, as both tried at a depth that is enough
  module _ (depth : ℕ) (s : Progress) (e : Edge) {m : ℕ} (parts : Split m) (enough : m ≤ suc depth) where
    first-deep : try_one s e (half m) ≡ try_run L tolerance depth s e (half m)
    first-deep = try-deep L tolerance (half m) depth s e (half m) parts.first_some (omega arith) (omega (arith, parts)) (omega (arith, parts))

    parts-deep : try_one (try_one s e (half m)) (stick_after L (half m) e) (m - half m)
        ≡ try_run L tolerance depth (try_run L tolerance depth s e (half m)) (stick_after L (half m) e) (m - half m)
    parts-deep =
        (λ i. try_one (first-deep i) (stick_after L (half m) e) (m - half m))
        ∙ try-deep L tolerance (m - half m) depth (try_run L tolerance depth s e (half m)) (stick_after L (half m) e) (m - half m)
        parts.second_some (omega arith) (omega (arith, parts)) (omega (arith, parts))

    parts-wait : (others : ℕ)
        → waits_of_one s e (half m) (suc others) ++ waits_of_one (try_one s e (half m)) (stick_after L (half m) e) (m - half m) others
        ≡ waits_of_run L tolerance depth s e (half m) (suc others)
        ++ waits_of_run L tolerance depth (try_run L tolerance depth s e (half m)) (stick_after L (half m) e) (m - half m) others
    parts-wait others =
        let first = waits-deep L tolerance (half m) depth s e (half m) (suc others) parts.first_some (omega arith) (omega (arith, parts))
        (omega (arith, parts)) in
        let second = (λ i. waits_of_one (first-deep i) (stick_after L (half m) e) (m - half m) others)
        ∙ waits-deep L tolerance (m - half m) depth (try_run L tolerance depth s e (half m)) (stick_after L (half m) e) (m - half m) others
        parts.second_some (omega arith) (omega (arith, parts)) (omega (arith, parts)) in
        λ i. first i ++ second i

  -- a run that passes
  module _ (s : Progress) (e : Edge) (m : ℕ) (some : 1 ≤ m) (pass : passes L s.table tolerance e m ≡ true) where
    run-passed : try_one s e m
        ≡ record { table = foldl (without L) s.table (between L e m); removed = s.removed + (m - 1); tried = s.tried + 1 }
    run-passed =
        ap (λ (d : ℕ). try_run L tolerance d s e m) (deep some) ∙ try-passes L tolerance (m - 1) s e m pass ∙ inner-is L (one_tried s) e m

    passed-waits : (others : ℕ) → waits_of_one s e m others ≡ suc others ∷ []
    passed-waits others =
        ap (λ (d : ℕ). waits_of_run L tolerance d s e m others) (deep some) ∙ waits-passes L tolerance (m - 1) s e m others pass

  -- and one that is split
  module _ (s : Progress) (e : Edge) (m : ℕ) (no-pass : passes L s.table tolerance e m ≡ false) where
    parts-of : Split m
    parts-of = split L s.table tolerance e m no-pass

    some : 1 ≤ m
    some = omega (arith, parts-of.more)

    run-split : try_one s e m ≡ try_one (try_one (one_tried s) e (half m)) (stick_after L (half m) e) (m - half m)
    run-split =
        ap (λ (d : ℕ). try_run L tolerance d s e m) (deep some) ∙ try-splits L tolerance (m - 1) s e m no-pass
        ∙ sym (parts-deep (m - 1) (one_tried s) e parts-of (omega (arith, deep some)))

    split-waits : (others : ℕ) → waits_of_one s e m others ≡ suc others ∷ (waits_of_one (one_tried s) e (half m) (suc others)
        ++ waits_of_one (try_one (one_tried s) e (half m)) (stick_after L (half m) e) (m - half m) others)
    split-waits others =
        ap (λ (d : ℕ). waits_of_run L tolerance d s e m others) (deep some) ∙ waits-splits L tolerance (m - 1) s e m others no-pass
        ∙ ap (λ (l : List ℕ). suc others ∷ l) (sym (parts-wait (m - 1) (one_tried s) e parts-of (omega (arith, deep some)) others))

-- What is left of a contour

module _ (L : Layer) (n : ℕ) where
  -- a run of a contour of n sticks, from e, which is p steps on from the contour's first stick
  pub record RunFrom (e : Edge) (p : ℕ) (r : Run) : Type 0 where
    pub some : 1 ≤ r.edges
    pub ends : r.end ≡ stick_after L r.edges e
    pub inside : p + r.edges ≤ n

  abbrev pub RunsFrom : Edge → ℕ → List Run → Type 0
  RunsFrom e p [] = Unit {0}
  RunsFrom e p (r ∷ l) = RunFrom e p r × RunsFrom r.end (p + r.edges) l

  parts_from : (e : Edge) (p : ℕ) (r : Run) → RunFrom e p r → Split r.edges
      → RunFrom e p (first_part L e r) × RunFrom (stick_after L (half r.edges) e) (p + half r.edges) (second_part r)
  parts_from e p r from parts = (
    record { some = parts.first_some; ends = refl; inside = omega (arith, from.inside, parts) },
    record {
      some = parts.second_some;
      ends = steps-rest L e (half r.edges) r.edges (omega (arith, parts)) refl from.ends;
      inside = omega (arith, from.inside, parts);
    },
  )

module _ (L : Layer) (tolerance : ℕ) (f : Edge) (n : ℕ) (t₀ : List ℕ) where
  -- After s the runs l wait, from e on, which is p steps on from f. `waits-left`: past those of the runs tried so far, `waits_of` has the numbers of l.
  -- `gives`: trying l ends where `simplify_contour` does.
  pub record RunsLeft (s : Progress) (e : Edge) (p : ℕ) (l : List Run) : Type 0 where
    pub here : e ≡ stick_after L p f
    pub runs : RunsFrom L n e p l
    pub waits-left : drop s.tried (waits_of L tolerance t₀ f) ≡ waits_of_all L tolerance s e l
    pub gives : try_all L tolerance s e l ≡ simplify_contour L tolerance (begun t₀) f

-- what is left of a list after one number more
one_more : (k : ℕ) (l : List ℕ) {x : ℕ} {m : List ℕ} → drop k l ≡ x ∷ m → drop (k + 1) l ≡ m
one_more k l e = sym (drop-drop 1 k l) ∙ ap (drop 1) e

module _ {L : Layer} {f : Edge} {n : ℕ} (contour : HasSticks L f n) where
  -- the whole contour, as a run that is cut in two
  pub whole-splits : Split n
  whole-splits = split-of n (omega (arith, contour.all, four-sticks L contour.sound f contour.stick))

  pub whole_from : RunFrom L n f 0 (run_to n f)
  whole_from = record { some = omega (arith, whole-splits); ends = once-round contour; inside = omega arith }

  -- what code that works on a run of the contour is given
  module _ {e : Edge} {p : ℕ} {r : Run} (here : e ≡ stick_after L p f) (from : RunFrom L n e p r) where
    pub run_lent : {table : List ℕ} → length table ≡ edge_count L.size → RunLent L table e r.end r.edges
    run_lent exact =
        record { sound = contour.sound; exact = exact; stick = stick-on L f p contour.sound contour.stick here; ends = from.ends }

    pub middle-along : Split r.edges → {h : ℕ} → h ≡ half r.edges → {marks : List ℕ} → MarkedAlong L f marks → Along L marks e p h
    middle-along parts at-h marked =
        record {
          sound = contour.sound;
          from = f;
          stick = contour.stick;
          marked = marked;
          here = here;
          inside = omega (arith, at-h, parts.first_less, from, contour.all);
        }

  module _ (tolerance : ℕ) (t₀ : List ℕ) where
    pub left-start : RunsLeft L tolerance f n t₀ (begun t₀) f 0 (first_part L f (run_to n f) ∷ second_part (run_to n f) ∷ [])
    left-start =
        let from = parts_from L n f 0 (run_to n f) whole_from whole-splits in
        record {
          here = no_steps L f;
          runs = (from.0, (from.1, tt));
          waits-left = waits-contour L tolerance t₀ f
              ∙ ap (λ (k : ℕ). waits_of_run L tolerance k (begun t₀) f (half k) 1
              ++ waits_of_run L tolerance k (try_run L tolerance k (begun t₀) f (half k)) (stick_after L (half k) f) (k - half k) 0) (sym contour.all)
              ∙ sym (parts-wait L tolerance n (begun t₀) f whole-splits (omega arith) 0)
              ∙ ap (λ (l : List ℕ). waits_of_one L tolerance (begun t₀) f (half n) 1 ++ l) (sym (append-nil _));
          gives = parts-deep L tolerance n (begun t₀) f whole-splits (omega arith)
              ∙ ap (λ (k : ℕ). try_run L tolerance k (try_run L tolerance k (begun t₀) f (half k)) (stick_after L (half k) f) (k - half k)) contour.all
              ∙ sym (contour-runs L tolerance (begun t₀) f);
        }

    module _ {s : Progress} {e : Edge} {p : ℕ} {r : Run} {l : List Run} (now : RunsLeft L tolerance f n t₀ s e p (r ∷ l)) where
      pub left_passed : passes L s.table tolerance e r.edges ≡ true
          → RunsLeft L tolerance f n t₀ (record {
            table = foldl (without L) s.table (between L e r.edges);
            removed = s.removed + (r.edges - 1);
            tried = s.tried + 1;
          }) r.end (p + r.edges) l
      left_passed pass =
          let from = now.runs.0 in
          let is = run-passed L tolerance s e r.edges from.some pass in
          let counts = passed-waits L tolerance s e r.edges from.some pass (length l) in
          record {
            here = steps_on L f p r.edges now.here from.ends;
            runs = now.runs.1;
            waits-left = one_more s.tried (waits_of L tolerance t₀ f)
                (now.waits-left ∙ (λ i. counts i ++ waits_of_all L tolerance (is i) r.end l));
            gives = ap (λ (x : Progress). try_all L tolerance x r.end l) (sym is) ∙ now.gives;
          }

      pub left_split : passes L s.table tolerance e r.edges ≡ false
          → RunsLeft L tolerance f n t₀ (one_tried s) e p (first_part L e r ∷ second_part r ∷ l)
      left_split no-pass =
          let m : ℕ = r.edges in
          let middle : Edge = stick_after L (half m) e in
          let is = run-split L tolerance s e m no-pass in
          let counts = split-waits L tolerance s e m no-pass (length l) in
          let parts = parts-of L tolerance s e m no-pass in
          let from = parts_from L n e p r now.runs.0 parts in
          let sum : p + m ≡ p + half m + (m - half m) = omega (arith, parts) in
          let first : Progress = try_one L tolerance (one_tried s) e (half m) in
          let in-turn = append_assoc (waits_of_one L tolerance (one_tried s) e (half m) (suc (length l)))
          (waits_of_one L tolerance first middle (m - half m) (length l))
          (waits_of_all L tolerance (try_one L tolerance first middle (m - half m)) r.end l) in
          record {
            here = now.here;
            runs = (from.0, (from.1, rw sum at now.runs.1));
            waits-left = one_more s.tried (waits_of L tolerance t₀ f)
                (now.waits-left ∙ (λ i. counts i ++ waits_of_all L tolerance (is i) r.end l) ∙ ap (λ (w : List ℕ). suc (length l) ∷ w) in-turn);
            gives = ap (λ (x : Progress). try_all L tolerance x r.end l) (sym is) ∙ now.gives;
          }

      -- the next number of `waits_of` is how many wait,
      pub next-wait : get_or (waits_of L tolerance t₀ f) s.tried 0 ≡ suc (length l)
      next-wait =
          let m : ℕ = r.edges in
          let all : List ℕ = waits_of L tolerance t₀ f in
          let others : List ℕ = waits_of_all L tolerance (try_one L tolerance s e m) r.end l in
          let same : s.tried + 0 ≡ s.tried = omega arith in
          sym (get_or-drop s.tried all 0 0 ∙ ap (λ (k : ℕ). get_or all k 0) same) ∙ ap (λ (w : List ℕ). get_or w 0 0) now.waits-left
          ∙ ap (λ (d : ℕ). get_or (waits_of_run L tolerance d s e m (length l) ++ others) 0 0) (deep now.runs.0.some)
          ∙ waits-first L tolerance (m - 1) s e m (length l) others

      -- and so no more than 22
      pub left-few : suc (length l) ≤ 22
      left-few = omega (arith, next-wait, contour-few contour.sound f contour.stick tolerance t₀ s.tried)

    -- the counts are small, and no more runs are tried so far than in the end
    pub left-small : (s : Progress) (e : Edge) (p : ℕ) (l : List Run) → RunsLeft L tolerance f n t₀ s e p l
        → (s.removed ≤ 2095104) × (s.tried ≤ 4190208) × (s.tried ≤ (simplify_contour L tolerance (begun t₀) f).tried)
    left-small s e p l now =
        let a = rw now.gives at (all_more L tolerance s e l) in
        let counts = contour-counts L tolerance contour.sound f contour.stick (begun t₀) in
        let c = most-sticks contour in
        (omega (arith, a.0, counts, contour.all), omega (arith, a.1, counts, contour.all), a.1)
