-- The runs that wait in an array: what the loop over the runs of a contour cites. The first `top` runs of the array, read from the last one down,
-- are the runs that are left (RunsLeft). So `top` is the number that `waits_of` has for the run that is taken next.
use mathlib.Core.Path.{◌≡◌, refl, ◌∙◌, ap}
use mathlib.Core.Bool.{true, false}
use mathlib.Core.List.{List, [], ◌∷◌, foldl}
use Prim.Native.Nat.{ℕ, zero, suc, ◌+◌, ◌-◌, ◌≤◌, ◌<◌}
use native.Mathlib.Omega.{arith}
use lib.ListN.{length, get_or, set, length-set}
use lib.Seq.{get_or-set_same, get_or-set_other}
use Rattle.grid.specs.Layer.{Layer}
use Rattle.grid.specs.Edges.{edge_count}
use Rattle.grid.specs.declared.edge.Edge.{Edge}
use Rattle.table.specs.Stores.{without}
use Rattle.run.specs.Runs.{stick_after, between, passes, HasSticks, RunLent}
use Rattle.run.proofs.Steps.{most-sticks}
use Rattle.simplify.specs.Runs.{half, simplify_contour}
use Rattle.simplify.specs.Parts.{begun, run_to}
use Rattle.simplify.specs.Waiting.{waits_of}
use Rattle.simplify.specs.declared.tries.Run.{Run}
use Rattle.simplify.proofs.Trying.{Split, split, length-inner}
use Rattle.simplify.proofs.Waiting.{contour-few}
use Rattle.simplify.proofs.RunsLeft.{first_part, second_part, RunFrom, run_lent, RunsLeft, left-start, left_passed, left_split, next-wait, left-few, left-small}

-- what stands past the end of an array of runs
abbrev pub no_run : Run
no_run = record { edges = 0; end = record { vertical = false; column = 0; row = 0 } }

-- the last of the first `top` of an array
abbrev pub top_run : List Run → ℕ → Run
top_run runs top = get_or runs (top - 1) no_run

-- the first k of an array, the last of them first
abbrev pub waiting : List Run → ℕ → List Run
waiting runs zero = []
waiting runs (suc k) = get_or runs k no_run ∷ waiting runs k

module _ (runs : List Run) where
  waiting-length : (k : ℕ) → length (waiting runs k) ≡ k
  waiting-length zero = refl
  waiting-length (suc k) = ap suc (waiting-length k)

  -- a store above them
  waiting-store : (j : ℕ) (r : Run) (k : ℕ) → k ≤ j → waiting (set runs j r) k ≡ waiting runs k
  waiting-store j r zero l = refl
  waiting-store j r (suc k) l =
      let other : k ≡ j → ⊥ = λ q. omega arith in
      rw (get_or-set_other runs j k r no_run other, waiting-store j r k (omega arith))

  -- one more, and one less
  waiting-more : (k : ℕ) (r : Run) → k < length runs → waiting (set runs k r) (k + 1) ≡ r ∷ waiting runs k
  waiting-more k r l =
      let next : k + 1 ≡ suc k = omega arith in
      ap (waiting (set runs k r)) next ∙ (λ i. get_or-set_same runs k r no_run l i ∷ waiting-store k r k (omega arith) i)

  waiting-less : (k : ℕ) → 0 < k → waiting runs k ≡ get_or runs (k - 1) no_run ∷ waiting runs (k - 1)
  waiting-less zero l = absurd (omega arith)
  waiting-less (suc k) l = let m : suc k - 1 ≡ k = omega arith in rw m

-- two more
waiting-two : (runs : List Run) (k : ℕ) (a b : Run) → k + 2 ≤ length runs
    → waiting (set (set runs k a) (k + 1) b) (k + 2) ≡ b ∷ a ∷ waiting runs k
waiting-two runs k a b l =
    let next : k + 2 ≡ k + 1 + 1 = omega arith in
    ap (waiting (set (set runs k a) (k + 1) b)) next
    ∙ waiting-more (set runs k a) (k + 1) b (omega (arith, length-set runs k a))
    ∙ ap (λ (l : List Run). b ∷ l) (waiting-more runs k a (omega arith))

-- The loop

module _ (L : Layer) (tolerance : ℕ) (f : Edge) (n : ℕ) (t₀ : List ℕ) (runs₀ : List Run) where
  -- what holds each time the loop's condition is tested
  pub record Pending (table : List ℕ) (runs : List Run) (top : ℕ) (e : Edge) (p removed tried : ℕ) : Type 0 where
    pub same_length : length table ≡ length t₀
    pub same-room : length runs ≡ length runs₀
    pub remaining : RunsLeft L tolerance f n t₀ (record { table = table; removed = removed; tried = tried }) e p (waiting runs top)

-- the two parts of a run from e on, as the code finds them
parts-found : (L : Layer) (e : Edge) (r : Run) {h : ℕ} {u : Edge} {first second : Run}
    → h ≡ half r.edges → u ≡ stick_after L h e → first ≡ run_to h u → second ≡ run_to (r.edges - h) r.end
    → (l : List Run) → first ∷ second ∷ l ≡ first_part L e r ∷ second_part r ∷ l
parts-found L e r {h} at-h at-u is-first is-second l =
    (λ i. (is-first ∙ ap (run_to h) at-u) i ∷ is-second i ∷ l)
    ∙ ap (λ (k : ℕ). run_to k (stick_after L k e) ∷ run_to (r.edges - k) r.end ∷ l) at-h

module _ {L : Layer} {f : Edge} {n : ℕ} (contour : HasSticks L f n) where
  -- at the start the two runs of the contour wait
  pub pending-start : {tolerance : ℕ} {t₀ : List ℕ} {h : ℕ} {u : Edge} {first second : Run} {others : List Run}
      → h ≡ half n → u ≡ stick_after L h f → first ≡ run_to h u → second ≡ run_to (n - h) f
      → Pending L tolerance f n t₀ (second ∷ first ∷ others) t₀ (second ∷ first ∷ others) 2 f 0 0 0
  pending-start {tolerance} {t₀} at-h at-u is-first is-second =
      record {
        same_length = refl;
        same-room = refl;
        remaining = rw (parts-found L f (run_to n f) at-h at-u is-first is-second []) (left-start contour tolerance t₀);
      }

  module _ {tolerance : ℕ} {t₀ table : List ℕ} {runs₀ runs : List Run} {top : ℕ} {e : Edge} {p removed tried : ℕ}
      (now : Pending L tolerance f n t₀ runs₀ table runs top e p removed tried) where
    pub counts-small : (removed ≤ 2095104) × (tried ≤ 4190208) × (tried ≤ (simplify_contour L tolerance (begun t₀) f).tried)
    counts-small = left-small contour tolerance t₀ _ _ _ _ now.remaining

    -- none is left
    pub pending-end : top ≡ 0 → record { table = table; removed = removed; tried = tried } ≡ simplify_contour L tolerance (begun t₀) f
    pending-end none = rw none at now.remaining.gives

    -- the last one is taken
    module _ (some : 0 < top) where
      with-top : RunsLeft L tolerance f n t₀ (record { table = table; removed = removed; tried = tried }) e p (top_run runs top ∷ waiting runs (top - 1))
      with-top = rw (waiting-less runs top some) at now.remaining

      -- as many wait as the definition says
      pub top-is : top ≡ get_or (waits_of L tolerance t₀ f) tried 0
      top-is = omega (arith, next-wait contour tolerance t₀ with-top, waiting-length runs (top - 1))

      pub few : top ≤ 22
      few = omega (arith, top-is, contour-few contour.sound f contour.stick tolerance t₀ tried)

      pub top_from : RunFrom L n e p (top_run runs top)
      top_from = with-top.runs.0

      pub place-small : p + (top_run runs top).edges ≤ 2095104
      place-small = omega (arith, top_from.inside, most-sticks contour)

      pub top_lent : length t₀ ≡ edge_count L.size → RunLent L table e (top_run runs top).end (top_run runs top).edges
      top_lent exact = run_lent contour now.remaining.here top_from (now.same_length ∙ exact)

      pub removed-small : removed + ((top_run runs top).edges - 1) ≤ 4190208
      removed-small = omega (arith, counts-small, place-small)

      pub pending-passed : passes L table tolerance e (top_run runs top).edges ≡ true → {table' : List ℕ}
          → table' ≡ foldl (without L) table (between L e (top_run runs top).edges)
          → Pending L tolerance f n t₀ runs₀ table' runs (top - 1) (top_run runs top).end (p + (top_run runs top).edges) (removed + ((top_run runs top).edges - 1)) (tried + 1)
      pending-passed pass is =
          record {
            same_length = ap length is ∙ length-inner L (between L e (top_run runs top).edges) table ∙ now.same_length;
            same-room = now.same-room;
            remaining = rw is (left_passed contour tolerance t₀ with-top pass);
          }

      module _ (no-pass : passes L table tolerance e (top_run runs top).edges ≡ false) where
        pub top_split : Split (top_run runs top).edges
        top_split = split L table tolerance e (top_run runs top).edges no-pass

        pub room : top - 1 + 2 ≤ 22
        room = omega (arith, left-few contour tolerance t₀ (left_split contour tolerance t₀ with-top no-pass), waiting-length runs (top - 1))

        pub pending-split : {h : ℕ} {u : Edge} {first second : Run} → top - 1 + 2 ≤ length runs → h ≡ half (top_run runs top).edges
            → u ≡ stick_after L h e → first ≡ run_to h u → second ≡ run_to ((top_run runs top).edges - h) (top_run runs top).end
            → Pending L tolerance f n t₀ runs₀ table (set (set runs (top - 1) second) (top - 1 + 1) first) (top - 1 + 2) e p removed (tried + 1)
        pending-split {first} {second} fit at-h at-u is-first is-second =
            let parts = parts-found L e (top_run runs top) at-h at-u is-first is-second (waiting runs (top - 1)) in
            record {
              same_length = now.same_length;
              same-room = length-set (set runs (top - 1) second) (top - 1 + 1) first ∙ length-set runs (top - 1) second ∙ now.same-room;
              remaining = rw (waiting-two runs (top - 1) second first fit, parts) (left_split contour tolerance t₀ with-top no-pass);
            }
