-- Contours do not touch each other's entries: smoothing one changes no entry of another, and what it does and answers depends on its own entries
-- alone.
use mathlib.Core.Path.{◌≡◌, refl, sym, ◌∙◌, ap}
use mathlib.Core.Logic.{◌≢◌}
use mathlib.Core.Bool.{true}
use mathlib.Core.List.{List, [], ◌∷◌}
use Prim.Native.Nat.{ℕ, zero, suc, ◌+◌, ◌<◌}
use native.Mathlib.Omega.{arith}
use lib.ListN.{length, get_or}
use Rattle.arith.specs.Booleans.{as_number}
use Rattle.arith.proofs.Booleans.{both-sides}
use Rattle.grid.specs.Layer.{Layer}
use Rattle.grid.specs.Edges.{number, is_stick}
use Rattle.step.specs.Walk.{next, prev}
use Rattle.grid.specs.Questions.{Sound}
use Rattle.grid.specs.declared.edge.Edge.{Edge}
use Rattle.contour.specs.Walk.{occurrences, first, OnContour}
use Rattle.contour.specs.Contours.{walk_of, contour_of}
use Rattle.contour.proofs.Members.{on-next, on-prev}
use Rattle.contour.proofs.First.{first_one}
use Rattle.contour.proofs.Sticks.{laws}
use Rattle.table.specs.Vertices.{pinned_at}
use Rattle.table.proofs.Local.{entry, Agree, Off, Local, same-offset, same-pin, stored-agree, off-other}
use Rattle.smooth.specs.Smooth.{
  smoothed_at,
  Pass,
  passed,
  visit,
  pass_contour,
  contour_pass,
  is_settled,
  Smoothed,
  further,
  until,
  unsmoothed,
  smooth_contour,
}
use Rattle.smooth.proofs.Steps.{visit-skips, visit-slides, visit-elsewhere, visit-length}
use Rattle.smooth.proofs.Passes.{contour-is, further-is, until_none, until-settled, until-more, until-keeps}

-- two results of smoothing that differ in their tables at most
pub record SameAnswer (s r : Smoothed) : Type 0 where
  pub same_passes : s.passes ≡ r.passes
  pub same_total : s.total ≡ r.total
  pub same_settled : s.settled ≡ r.settled

module _ (L : Layer) (sound : Sound L) where
  -- ---- what a pass over a list of sticks changes

  pass_contour-length : (c : List Edge) (s : Pass) → length (pass_contour L s c).table ≡ length s.table
  unfolding pass_contour
  pass_contour-length [] s = refl
  pass_contour-length (e ∷ c) s = pass_contour-length c (visit L s e) ∙ visit-length L s e

  -- no entry but those of the sticks in the list
  pass_contour-elsewhere : (c : List Edge) (s : Pass) (k : ℕ) → ((e : Edge) → 0 < occurrences (walk_of L) e c → k ≢ number L.size e)
      → get_or (pass_contour L s c).table k 0 ≡ get_or s.table k 0
  unfolding pass_contour occurrences
  pass_contour-elsewhere [] s k n = refl
  pass_contour-elsewhere (e ∷ c) s k n =
      pass_contour-elsewhere c (visit L s e) k (λ f o. n f (omega arith))
      ∙ visit-elsewhere L s e k (n e (omega (arith, ap as_number ((laws L sound).same_self e))))

  -- ---- what it reads

  module _ (f : Edge) (stick : is_stick L f ≡ true) where
    same-smoothed : {t u : List ℕ} → Agree L f t u → (e : Edge) → OnContour (walk_of L) f e → smoothed_at L t e ≡ smoothed_at L u e
    same-smoothed a e on =
        rw (
          same-offset L f a e on,
          same-offset L f a (next L e) (on-next (walk_of L) (laws L sound) f e stick on),
          same-offset L f a (prev L e) (on-prev (walk_of L) (laws L sound) f e stick on),
        )

    -- a step at a stick of the contour
    module _ (s r : Pass) (a : Agree L f s.table r.table) (e : Edge) (on : OnContour (walk_of L) f e) where
      visit-agree : Agree L f (visit L s e).table (visit L r e).table × ((visit L s e).total + r.total ≡ (visit L r e).total + s.total)
      visit-agree =
          let same = same-pin L f a e on in
          both-sides (pinned_at L s.table e)
          (λ pin. rw (visit-skips L s e pin, visit-skips L r e (sym same ∙ pin)) (a, omega arith))
          (λ unpinned.
          rw (visit-slides L s e unpinned, visit-slides L r e (sym same ∙ unpinned)) (
            stored-agree L sound f stick a e on _ _ (same-smoothed a e on),
            omega (arith, same-offset L f a e on, same-smoothed a e on),
          ))

    -- a pass over the contour, or a part of it: from tables that agree on the contour it gives tables that do, by the same changes
    pass_contour-agree : (c : List Edge) → ((e : Edge) → 0 < occurrences (walk_of L) e c → OnContour (walk_of L) f e) → (s r : Pass)
        → Agree L f s.table r.table
        → Agree L f (pass_contour L s c).table (pass_contour L r c).table × ((pass_contour L s c).total + r.total ≡ (pass_contour L r c).total + s.total)
    unfolding pass_contour occurrences
    pass_contour-agree [] h s r a = (a, omega arith)
    pass_contour-agree (e ∷ c) h s r a =
        let on = h e (omega (arith, ap as_number ((laws L sound).same_self e))) in
        let here = visit-agree s r a e on in
        let later = pass_contour-agree c (λ g o. h g (omega arith)) (visit L s e) (visit L r e) here.0 in
        (later.0, omega (arith, later.1, here.1))

    -- ---- the smoothing of the contour: as many passes as it takes

    abbrev vertices : ℕ
    vertices = length (contour_of L f)

    module _ (limit : ℕ) (t : List ℕ) where
      pub smooth_contour-length : length (smooth_contour L limit t f).table ≡ length t
      smooth_contour-length =
          rw (contour-is L limit t f)
          (until-keeps (contour_pass L f) vertices (λ s. length s.table ≡ length t)
          (λ s h. rw (further-is (contour_pass L f) vertices s) (pass_contour-length (contour_of L f) (passed s.table 0) ∙ h))
          limit (unsmoothed (contour_pass L f) vertices t) refl)

      -- it changes no entry off the contour
      smooth_contour-elsewhere : (k : ℕ) → Off L f k → get_or (smooth_contour L limit t f).table k 0 ≡ get_or t k 0
      smooth_contour-elsewhere k off =
          rw (contour-is L limit t f)
          (until-keeps (contour_pass L f) vertices (λ s. get_or s.table k 0 ≡ get_or t k 0)
          (λ s h. rw (further-is (contour_pass L f) vertices s) (pass_contour-elsewhere (contour_of L f) (passed s.table 0) k off ∙ h))
          limit (unsmoothed (contour_pass L f) vertices t) refl)

    -- on tables that agree on the contour, with the same answer
    pub record SameSmoothing (s r : Smoothed) : Type 0 where
      pub agree : Agree L f s.table r.table
      pub answer : SameAnswer s r

    further-agree : (s r : Smoothed) → SameSmoothing s r
        → SameSmoothing (further (contour_pass L f) vertices s) (further (contour_pass L f) vertices r)
    further-agree s r a =
        let p = pass_contour-agree (contour_of L f) (λ e o. o) (passed s.table 0) (passed r.table 0) a.agree in
        let same : (contour_pass L f s.table).total ≡ (contour_pass L f r.table).total = omega (arith, p.1) in
        rw (further-is (contour_pass L f) vertices s, further-is (contour_pass L f) vertices r)
        (record {
          agree = p.0;
          answer =
              record {
                same_passes = omega (arith, a.answer.same_passes);
                same_total = same;
                same_settled = ap (λ (n : ℕ). is_settled n vertices) same;
              };
        })

    until-agree : (n : ℕ) (s r : Smoothed) → SameSmoothing s r
        → SameSmoothing (until (contour_pass L f) vertices n s) (until (contour_pass L f) vertices n r)
    until-agree zero s r a = rw (until_none (contour_pass L f) vertices s, until_none (contour_pass L f) vertices r) a
    until-agree (suc n) s r a = both-sides s.settled
        (λ y.
        rw (
          until-settled (contour_pass L f) vertices (suc n) s y,
          until-settled (contour_pass L f) vertices (suc n) r (sym a.answer.same_settled ∙ y),
        ) a)
        (λ y.
        rw (
          until-more (contour_pass L f) vertices n s y,
          until-more (contour_pass L f) vertices n r (sym a.answer.same_settled ∙ y),
        ) (until-agree n _ _ (further-agree s r a)))

    -- from tables that agree on the contour its smoothing gives tables that do, with the same answer: it reads no entry off the contour
    pub smooth_contour-agree : (limit : ℕ) {t u : List ℕ} → Agree L f t u → SameSmoothing (smooth_contour L limit t f) (smooth_contour L limit u f)
    smooth_contour-agree limit {t} {u} a =
        rw (contour-is L limit t f, contour-is L limit u f)
        (until-agree limit _ _ (record { agree = a; answer = record { same_passes = refl; same_total = refl; same_settled = refl } }))

    -- so smoothing a contour is a step local to it
    pub smooth_contour-local : (limit : ℕ) → Local L f (λ t. (smooth_contour L limit t f).table)
    smooth_contour-local limit =
        record {
          same_length = smooth_contour-length limit;
          elsewhere = smooth_contour-elsewhere limit;
          agrees = λ t u a. (smooth_contour-agree limit a).agree;
        }

  -- smoothing one contour changes no entry of another
  pub other-contour : (f g : Edge) → first (walk_of L) f ≡ true → first (walk_of L) g ≡ true → f ≢ g
      → (limit : ℕ) (t : List ℕ) (e : Edge) → OnContour (walk_of L) g e → entry L (smooth_contour L limit t f).table e ≡ entry L t e
  other-contour f g first-f first-g differ limit t e on =
      smooth_contour-elsewhere f (first_one (walk_of L) (laws L sound) f first-f) limit t (number L.size e)
      (off-other L sound f g first-f first-g differ e on)
