-- How many runs wait while a layer is simplified: never more than 22 (`few-wait`), and there is a number for each run tried (`as-many-as-tried`). A run of
-- fewer than 2^k edges keeps at most k waiting, itself included: its first part has fewer than 2^(k-1), and when its second part is taken the
-- first is done.
use mathlib.Core.Path.{◌≡◌, refl, sym, ◌∙◌, ap}
use mathlib.Core.Bool.{Bool, true, false}
use mathlib.Core.List.{List, [], ◌∷◌, ◌++◌, foldl}
use Prim.Native.Nat.{ℕ, zero, suc, ◌+◌, ◌-◌, ◌^◌, ◌≤◌, ◌<◌}
use native.Mathlib.Nat.{two-pow-succ}
use native.Mathlib.Omega.{arith}
use lib.ListN.{length, get_or, length-append}
use Rattle.arith.proofs.Booleans.{both-sides}
use Rattle.grid.specs.Layer.{Layer}
use Rattle.grid.specs.Edges.{is_stick}
use Rattle.grid.specs.declared.edge.Edge.{Edge}
use Rattle.grid.specs.Questions.{Sound}
use Rattle.contour.specs.Contours.{contour_of, first_sticks}
use Rattle.contour.proofs.Theorems.{AllSticks, head-stick, tail-sticks, firsts-sticks}
use Rattle.drawn.proofs.FourKept.{four-sticks}
use Rattle.run.specs.Runs.{stick_after, passes, HasSticks}
use Rattle.run.proofs.Steps.{most-sticks}
use Rattle.simplify.specs.Runs.{Progress, half, one_tried, try_run, simplify_contour, simplify}
use Rattle.simplify.specs.Waiting.{waits_of_run, waits_of, waits_in_turn, waits}
use Rattle.simplify.specs.Parts.{begun}
use Rattle.simplify.proofs.Layers.{contour-from, simplify-is}
use Rattle.simplify.proofs.Trying.{on_top, split, inner-is, try-none, try-passes, try-splits, try-deep, contour-runs}

-- no number of a list is above the most
record AtMost (most : ℕ) (l : List ℕ) : Type 0 where
  pub each : (k : ℕ) → get_or l k 0 ≤ most

none_above : {most : ℕ} → AtMost most []
none_above = record { each = λ k. omega arith }

first-too : {most x : ℕ} {l : List ℕ} → x ≤ most → AtMost most l → AtMost most (x ∷ l)
first-too {most} {x} {l} h r = record { each = each }
  where
    each : (k : ℕ) → get_or (x ∷ l) k 0 ≤ most
    each zero = h
    each (suc k) = r.each k

both-lists : {most : ℕ} (l r : List ℕ) → AtMost most l → AtMost most r → AtMost most (l ++ r)
both-lists [] r a b = b
both-lists (x ∷ l) r a b = first-too (a.each 0) (both-lists l r (record { each = λ k. a.each (suc k) }) b)

module _ (L : Layer) (tolerance : ℕ) where
  by-passes : ℕ → Progress → Edge → ℕ → ℕ → Bool → List ℕ
  by-passes depth s e n others b = suc others ∷ elim b [
    | true ↦ []
    | false ↦ waits_of_run L tolerance depth (one_tried s) e (half n) (suc others)
        ++ waits_of_run L tolerance depth (try_run L tolerance depth (one_tried s) e (half n)) (stick_after L (half n) e) (n - half n) others
  ]

  -- the run that is taken waits with the others
  pub waits-first : (depth : ℕ) (s : Progress) (e : Edge) (n others : ℕ) (l : List ℕ)
      → get_or (waits_of_run L tolerance (suc depth) s e n others ++ l) 0 0 ≡ suc others
  unfolding waits_of_run
  waits-first depth s e n others l = refl

  waits-none : (s : Progress) (e : Edge) (n others : ℕ) → waits_of_run L tolerance 0 s e n others ≡ []
  unfolding waits_of_run
  waits-none s e n others = refl

  pub waits-passes : (depth : ℕ) (s : Progress) (e : Edge) (n others : ℕ) → passes L s.table tolerance e n ≡ true
      → waits_of_run L tolerance (suc depth) s e n others ≡ suc others ∷ []
  unfolding waits_of_run by-passes
  waits-passes depth s e n others h = ap (by-passes depth s e n others) h

  pub waits-splits : (depth : ℕ) (s : Progress) (e : Edge) (n others : ℕ) → passes L s.table tolerance e n ≡ false
      → waits_of_run L tolerance (suc depth) s e n others
      ≡ suc others ∷ (waits_of_run L tolerance depth (one_tried s) e (half n) (suc others)
      ++ waits_of_run L tolerance depth (try_run L tolerance depth (one_tried s) e (half n)) (stick_after L (half n) e) (n - half n) others)
  unfolding waits_of_run by-passes
  waits-splits depth s e n others h = ap (by-passes depth s e n others) h

  pub waits-contour : (t : List ℕ) (f : Edge) → let n : ℕ = length (contour_of L f) in waits_of L tolerance t f
      ≡ waits_of_run L tolerance n (begun t) f (half n) 1
      ++ waits_of_run L tolerance n (try_run L tolerance n (begun t) f (half n)) (stick_after L (half n) f) (n - half n) 0
  unfolding waits_of
  waits-contour t f = refl

  -- a run of fewer than 2^k edges
  run-below : (depth k : ℕ) (s : Progress) (e : Edge) (n others : ℕ) → 1 ≤ n → n < 2 ^ k
      → AtMost (k + others) (waits_of_run L tolerance depth s e n others)
  run-below zero k s e n others some small = rw (waits-none s e n others) none_above
  run-below (suc depth) zero s e n others some small = absurd (omega arith)
  run-below (suc depth) (suc c) s e n others some small = both-sides (passes L s.table tolerance e n)
      (λ y. rw (waits-passes depth s e n others y) (first-too (omega arith) none_above))
      (λ f.
      let p = split L s.table tolerance e n f in
      let twice = two-pow-succ c in
      let sum : c + suc others ≡ suc c + others = omega arith in
      let first = run-below depth c (one_tried s) e (half n) (suc others) p.first_some (omega (arith, twice)) in
      let second = run-below depth (suc c) (try_run L tolerance depth (one_tried s) e (half n)) (stick_after L (half n) e) (n - half n) others
      p.second_some (omega (arith, p.second_less)) in
      rw (waits-splits depth s e n others f) (first-too (omega arith) (both-lists _ _ (rw sum at first) second)))

  -- a contour whose two runs have fewer than 2^k edges
  contour-below : (k : ℕ) (t : List ℕ) (f : Edge) → let n : ℕ = length (contour_of L f) in 2 ≤ n → n - half n < 2 ^ k
      → AtMost (k + 1) (waits_of L tolerance t f)
  contour-below k t f more small =
      let n : ℕ = length (contour_of L f) in
      let first = run-below n k (begun t) f (half n) 1 (omega arith) (omega arith) in
      let second = run-below n k (try_run L tolerance n (begun t) f (half n)) (stick_after L (half n) f) (n - half n) 0 (omega arith) small in
      rw (waits-contour t f) (both-lists _ _ first (record { each = λ j. omega (arith, second.each j) }))

  -- as many numbers as runs are tried
  as-many-of-run : (depth : ℕ) (s : Progress) (e : Edge) (n others : ℕ)
      → (try_run L tolerance depth s e n).tried ≡ s.tried + length (waits_of_run L tolerance depth s e n others)
  as-many-of-run zero s e n others = rw (try-none L tolerance s e n, waits-none s e n others) (omega arith)
  as-many-of-run (suc depth) s e n others = both-sides (passes L s.table tolerance e n)
      (λ y. rw (try-passes L tolerance depth s e n y, waits-passes depth s e n others y, inner-is L (one_tried s) e n) refl)
      (λ f.
      let m : Progress = try_run L tolerance depth (one_tried s) e (half n) in
      let first = as-many-of-run depth (one_tried s) e (half n) (suc others) in
      let second = as-many-of-run depth m (stick_after L (half n) e) (n - half n) others in
      let sum = length-append (waits_of_run L tolerance depth (one_tried s) e (half n) (suc others))
      (waits_of_run L tolerance depth m (stick_after L (half n) e) (n - half n) others) in
      rw (try-splits L tolerance depth s e n f, waits-splits depth s e n others f) (omega (arith, first, second, sum)))

  as-many-of-contour : (t : List ℕ) (f : Edge) → (simplify_contour L tolerance (begun t) f).tried ≡ length (waits_of L tolerance t f)
  as-many-of-contour t f =
      let n : ℕ = length (contour_of L f) in
      let m : Progress = try_run L tolerance n (begun t) f (half n) in
      let first = as-many-of-run n (begun t) f (half n) 1 in
      let second = as-many-of-run n m (stick_after L (half n) f) (n - half n) 0 in
      let sum = length-append (waits_of_run L tolerance n (begun t) f (half n) 1) (waits_of_run L tolerance n m (stick_after L (half n) f) (n - half n) 0) in
      rw (contour-runs L tolerance (begun t) f, waits-contour t f) (omega (arith, first, second, sum))

  -- a depth of as many as there are edges is enough
  pub waits-deep : (d d' : ℕ) (s : Progress) (e : Edge) (n others : ℕ) → 1 ≤ d → n ≤ d → 1 ≤ d' → n ≤ d'
      → waits_of_run L tolerance d s e n others ≡ waits_of_run L tolerance d' s e n others
  waits-deep zero d' s e n others a b c h = absurd (omega arith)
  waits-deep (suc d) zero s e n others a b c h = absurd (omega arith)
  waits-deep (suc d) (suc d') s e n others a b c h = both-sides (passes L s.table tolerance e n)
      (λ y. waits-passes d s e n others y ∙ sym (waits-passes d' s e n others y))
      (λ f.
      let p = split L s.table tolerance e n f in
      let m = stick_after L (half n) e in
      let first = waits-deep d d' (one_tried s) e (half n) (suc others) (omega (arith, p)) (omega (arith, p)) (omega (arith, p)) (omega (arith, p)) in
      let between = try-deep L tolerance d d' (one_tried s) e (half n) (omega (arith, p)) (omega (arith, p)) (omega (arith, p)) (omega (arith, p)) in
      let second = ap (λ (x : Progress). waits_of_run L tolerance d x m (n - half n) others) between
      ∙ waits-deep d d' (try_run L tolerance d' (one_tried s) e (half n)) m (n - half n) others
      (omega (arith, p)) (omega (arith, p)) (omega (arith, p)) (omega (arith, p)) in
      waits-splits d s e n others f ∙ (λ i. suc others ∷ (first i ++ second i)) ∙ sym (waits-splits d' s e n others f))

-- The contour of any stick of a sound layer, from any table on: 21 at the most,
module _ {L : Layer} (sound : Sound L) (f : Edge) (stick : is_stick L f ≡ true) (tolerance : ℕ) (t : List ℕ) where
  contour-21 : AtMost 21 (waits_of L tolerance t f)
  contour-21 =
      let contour : HasSticks L f (length (contour_of L f)) = record { sound = sound; stick = stick; all = refl } in
      let four = four-sticks L sound f stick in
      contour-below L tolerance 20 t f (omega (arith, four)) (omega (arith, most-sticks contour))

  pub contour-few : (k : ℕ) → get_or (waits_of L tolerance t f) k 0 ≤ 22
  contour-few k = omega (arith, contour-21.each k)

-- and so over every sound layer.
module _ {L : Layer} (sound : Sound L) (tolerance : ℕ) where
  in-turn-most : (l : List Edge) → AllSticks L l → (t : List ℕ) → AtMost 21 (waits_in_turn L tolerance t l)
  unfolding waits_in_turn
  in-turn-most [] h t = none_above
  in-turn-most (f ∷ l) h t =
      both-lists _ _ (contour-21 sound f (head-stick sound f l h) tolerance t)
      (in-turn-most l (tail-sticks sound f l h) (simplify_contour L tolerance (begun t) f).table)

  pub at-most-21 : (t : List ℕ) (k : ℕ) → get_or (waits L tolerance t) k 0 ≤ 21
  at-most-21 t = (in-turn-most (first_sticks L) (firsts-sticks sound) t).each

  -- "never more than 22 wait at once"
  pub few-wait : (t : List ℕ) (k : ℕ) → get_or (waits L tolerance t) k 0 ≤ 22
  few-wait t k = omega (arith, at-most-21 t k)

-- There are as many numbers as runs tried.
module _ (L : Layer) (tolerance : ℕ) where
  as-many-in-turn : (l : List Edge) (s : Progress)
      → (foldl (simplify_contour L tolerance) s l).tried ≡ s.tried + length (waits_in_turn L tolerance s.table l)
  unfolding waits_in_turn
  as-many-in-turn [] s = omega arith
  as-many-in-turn (f ∷ l) s =
      let r : Progress = simplify_contour L tolerance (begun s.table) f in
      let first = as-many-of-contour L tolerance s.table f in
      let others = as-many-in-turn l (on_top s r) in
      let sum = length-append (waits_of L tolerance s.table f) (waits_in_turn L tolerance r.table l) in
      ap (λ (x : Progress). (foldl (simplify_contour L tolerance) x l).tried) (contour-from L tolerance s f) ∙ omega (arith, first, others, sum)

  pub as-many-as-tried : (t : List ℕ) → (simplify L tolerance t).tried ≡ length (waits L tolerance t)
  as-many-as-tried t = rw (simplify-is L tolerance t) (omega (arith, as-many-in-turn (first_sticks L) (begun t)))
