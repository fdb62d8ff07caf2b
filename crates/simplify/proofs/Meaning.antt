-- Simplify says what the paper says, over points: the result of `simplify` is the one to which the paper's rule of trying runs leads over
-- points, and no other. That a run passes the test exactly if it passes over points is `run` Meaning.antt.
use mathlib.Core.Path.{◌≡◌, refl, sym, subst, ◌∙◌}
use mathlib.Core.Logic.{◌↔◌}
use mathlib.Core.Bool.{true, true≢false}
use mathlib.Core.List.{List, [], ◌∷◌, foldl}
use Prim.Native.Nat.{ℕ, zero, suc, ◌-◌, ◌≤◌}
use native.Mathlib.Omega.{arith}
use lib.ListN.{length}
use Rattle.arith.proofs.Booleans.{both-sides}
use Rattle.grid.specs.Layer.{Layer}
use Rattle.grid.specs.Questions.{first_no, Sound}
use Rattle.grid.specs.declared.edge.Edge.{Edge}
use Rattle.grid.specs.Questions.{Yes}
use Rattle.contour.specs.Contours.{contour_of, first_sticks}
use Rattle.held.specs.Questions.{kept_questions}
use Rattle.run.specs.Runs.{stick_after, passes}
use Rattle.run.specs.Meaning.{RunPasses}
use Rattle.run.proofs.Meaning.{apart-passes-is}
use Rattle.simplify.specs.Runs.{Progress, half, one_tried, try_run, simplify_contour, simplify}
use Rattle.simplify.specs.Parts.{begun}
use Rattle.simplify.specs.Meaning.{Tries, passing, failing, TriesContour, TriesContours, Simplifies}
use Rattle.simplify.proofs.Trying.{split, try-passes, try-splits, contour-runs}
use Rattle.simplify.proofs.Layers.{simplify-is}
use Rattle.simplify.proofs.Outcomes.{yes-to-all}
use Rattle.simplify.proofs.Covers.{Fresh, first-fresh, second-fresh, tried, contour-split}
use Rattle.simplify.proofs.Held.{DueContours, due-start, due-fresh, due-next}

-- What trying runs results in

module _ {L : Layer} (sound : Sound L) where
  module _ (tolerance : ℕ) where
    -- what trying runs at a depth is shown to be
    abbrev Trying : ℕ → Type 0
    Trying depth =
        (s : Progress) (e : Edge) (n : ℕ) → 1 ≤ n → n ≤ depth → Fresh L s.table e n → Tries L tolerance s e n (try_run L tolerance depth s e n)

    -- two runs in turn
    second-tries : (depth : ℕ) → Trying depth → (s : Progress) (e : Edge) (n h : ℕ) → 1 ≤ h → h ≤ depth → 1 ≤ n - h → n - h ≤ depth
        → Fresh L s.table e n
        → let s₁ : Progress = try_run L tolerance depth s e h in
        Tries L tolerance s₁ (stick_after L h e) (n - h) (try_run L tolerance depth s₁ (stick_after L h e) (n - h))
    second-tries depth try s e n h some-h most-h some-k most-k fresh =
        let less : h ≤ n = omega arith in
        let one = tried sound tolerance depth s e h some-h most-h (first-fresh h less fresh) in
        try (try_run L tolerance depth s e h) (stick_after L h e) (n - h) some-k most-k (second-fresh sound less fresh one.removes)

    tries : (depth : ℕ) → Trying depth
    tries zero s e n some most fresh = absurd (omega arith)
    tries (suc depth) s e n some most fresh = both-sides (passes L s.table tolerance e n)
        (λ y. passing (is.0 y) (sym (try-passes L tolerance depth s e n y)))
        (λ f.
        let p = split L s.table tolerance e n f in
        subst (Tries L tolerance s e n) (sym (try-splits L tolerance depth s e n f))
        (failing (λ r. true≢false (sym (is.1 r) ∙ f))
        (tries depth (one_tried s) e (half n) p.first_some (omega (arith, p)) (first-fresh (half n) (omega (arith, p)) fresh))
        (second-tries depth (tries depth) (one_tried s) e n (half n) p.first_some (omega (arith, p)) p.second_some (omega (arith, p)) fresh)))
      where
        is : (passes L s.table tolerance e n ≡ true) ↔ RunPasses L s.table tolerance e n
        is = apart-passes-is L sound s.table fresh.table_passes.entries tolerance e n fresh.stick fresh.apart

    contour-tries : (s : Progress) (f : Edge) → Fresh L s.table f (length (contour_of L f))
        → TriesContour L tolerance s f (simplify_contour L tolerance s f)
    contour-tries s f fresh =
        let n : ℕ = length (contour_of L f) in
        let p = contour-split sound f fresh.stick in
        subst (TriesContour L tolerance s f) (sym (contour-runs L tolerance s f))
        (record {
          halfway = try_run L tolerance n s f (half n);
          there = tries n s f (half n) p.first_some (omega (arith, p)) (first-fresh (half n) (omega (arith, p)) fresh);
          back = second-tries n (tries n) s f n (half n) p.first_some (omega (arith, p)) p.second_some (omega (arith, p)) fresh;
        })

    contours-tries : (l : List Edge) (s : Progress) → DueContours L s.table l
        → TriesContours L tolerance s l (foldl (simplify_contour L tolerance) s l)
    contours-tries [] s due = refl
    contours-tries (f ∷ l) s due = (
      simplify_contour L tolerance s f,
      contour-tries s f (due-fresh sound due),
      contours-tries l (simplify_contour L tolerance s f) (due-next sound tolerance s due),
    )

-- There is one result

module _ (L : Layer) (tolerance : ℕ) where
  tries-once : {s r r' : Progress} {e : Edge} {n : ℕ} → Tries L tolerance s e n r → Tries L tolerance s e n r' → r ≡ r'
  tries-once (passing y q) (passing y' q') = sym q ∙ q'
  tries-once (passing y q) (failing f a b) = absurd (f y)
  tries-once (failing f a b) (passing y q) = absurd (f y)
  tries-once {r' = r'} {e = e} {n = n} (failing {m = m} f a b) (failing {m = m'} f' a' b') =
      let same : m' ≡ m = sym (tries-once a a') in
      let later : Tries L tolerance m (stick_after L (half n) e) (n - half n) r' =
      subst (λ (x : Progress). Tries L tolerance x (stick_after L (half n) e) (n - half n) r') same b' in
      tries-once b later

  contour-once : {s r r' : Progress} {f : Edge} → TriesContour L tolerance s f r → TriesContour L tolerance s f r' → r ≡ r'
  contour-once {r' = r'} {f = f} c c' =
      let n : ℕ = length (contour_of L f) in
      let same : c'.halfway ≡ c.halfway = sym (tries-once c.there c'.there) in
      let later : Tries L tolerance c.halfway (stick_after L (half n) f) (n - half n) r' =
      subst (λ (x : Progress). Tries L tolerance x (stick_after L (half n) f) (n - half n) r') same c'.back in
      tries-once c.back later

  contours-once : (l : List Edge) (s r r' : Progress) → TriesContours L tolerance s l r → TriesContours L tolerance s l r' → r ≡ r'
  contours-once [] s r r' a a' = sym a ∙ a'
  contours-once (f ∷ l) s r r' a a' =
      contours-once l a.0 r r' a.2 (subst (λ (m : Progress). TriesContours L tolerance m l r') (sym (contour-once a.1 a'.1)) a'.2)

-- on a layer and a table that pass questions 1 to 7 and 15, `simplify` is what the paper says over points
pub simplifies-is : (L : Layer) (tolerance : ℕ) (t : List ℕ) → first_no (kept_questions L t) ≡ Yes
    → (r : Progress) → (simplify L tolerance t ≡ r) ↔ Simplifies L tolerance t r
simplifies-is L tolerance t all_yes r = (
  λ e. subst (Simplifies L tolerance t) e found,
  λ w. contours-once L tolerance (first_sticks L) (begun t) (simplify L tolerance t) r found w,
)
  where
    found : Simplifies L tolerance t (simplify L tolerance t)
    found =
        let both = yes-to-all L t all_yes in
        let sound = both.0.sound in
        subst (Simplifies L tolerance t) (sym (simplify-is L tolerance t))
        (contours-tries sound tolerance (first_sticks L) (begun t) (due-start sound both.1))
