-- Contours do not touch each other's entries: simplifying one changes no entry of another, and what it does depends on its own entries
-- alone. So of two contours it does not matter which is simplified first.
use mathlib.Core.Path.{◌≡◌, sym, ◌∙◌, ap}
use mathlib.Core.Logic.{◌≢◌}
use mathlib.Core.Bool.{true}
use mathlib.Core.List.{List}
use Prim.Native.Nat.{ℕ, zero, suc, ◌+◌, ◌-◌}
use native.Mathlib.Omega.{arith}
use lib.ListN.{length, get_or}
use Rattle.arith.proofs.Booleans.{both-sides}
use Rattle.grid.specs.Layer.{Layer}
use Rattle.grid.specs.Edges.{number, edge_count, is_stick}
use Rattle.grid.specs.Questions.{Sound}
use Rattle.grid.specs.declared.edge.Edge.{Edge}
use Rattle.contour.specs.Walk.{first, OnContour}
use Rattle.contour.specs.Contours.{walk_of, contour_of}
use Rattle.contour.proofs.Members.{on-self}
use Rattle.contour.proofs.First.{first_one}
use Rattle.contour.proofs.Sticks.{laws}
use Rattle.table.proofs.Local.{entry, Agree, Off, Local, off-other, agree-other, local-commute}
use Rattle.run.specs.Runs.{stick_after, passes}
use Rattle.run.proofs.Local.{on-steps, inner-elsewhere, same_passes, inner-agree}
use Rattle.simplify.specs.Runs.{Progress, half, one_tried, try_run, simplify_contour}
use Rattle.simplify.specs.Parts.{begun}
use Rattle.simplify.proofs.Trying.{on_top, inner-is, try-passes, try-splits, try-none, contour-runs}
use Rattle.simplify.proofs.Layers.{contour-from, contour-length}

module _ (L : Layer) (sound : Sound L) (f : Edge) (stick : is_stick L f ≡ true) where
  -- What simplifying changes

  module _ (tolerance : ℕ) where
    -- a run tried on the contour changes no entry but those of its sticks
    pub try_run-elsewhere : (depth : ℕ) (s : Progress) (e : Edge) (n k : ℕ) → OnContour (walk_of L) f e → Off L f k
        → get_or (try_run L tolerance depth s e n).table k 0 ≡ get_or s.table k 0
    try_run-elsewhere zero s e n k on off = ap (λ (p : Progress). get_or p.table k 0) (try-none L tolerance s e n)
    try_run-elsewhere (suc depth) s e n k on off = both-sides (passes L s.table tolerance e n)
        (λ y.
        ap (λ (p : Progress). get_or p.table k 0) (try-passes L tolerance depth s e n y ∙ inner-is L (one_tried s) e n)
        ∙ inner-elsewhere L sound f stick e n s.table k on off)
        (λ b.
        ap (λ (p : Progress). get_or p.table k 0) (try-splits L tolerance depth s e n b)
        ∙ try_run-elsewhere depth (try_run L tolerance depth (one_tried s) e (half n)) (stick_after L (half n) e) (n - half n) k
        (on-steps L sound f stick (half n) e on) off
        ∙ try_run-elsewhere depth (one_tried s) e (half n) k on off)

    pub simplify_contour-elsewhere : (s : Progress) (k : ℕ) → Off L f k → get_or (simplify_contour L tolerance s f).table k 0 ≡ get_or s.table k 0
    simplify_contour-elsewhere s k off =
        let n : ℕ = length (contour_of L f) in
        let on = on-self (walk_of L) (laws L sound) f stick in
        ap (λ (p : Progress). get_or p.table k 0) (contour-runs L tolerance s f)
        ∙ try_run-elsewhere n (try_run L tolerance n s f (half n)) (stick_after L (half n) f) (n - half n) k (on-steps L sound f stick (half n) f on) off
        ∙ try_run-elsewhere n s f (half n) k on off

  -- What it reads

  -- two results whose tables agree on the contour, with counts that differ as those of s and r do
  pub record Alike (s r s' r' : Progress) : Type 0 where
    pub agree : Agree L f s'.table r'.table
    pub removed-alike : s'.removed + r.removed ≡ r'.removed + s.removed
    pub tried-alike : s'.tried + r.tried ≡ r'.tried + s.tried

  alike_then : {s r s₁ r₁ s₂ r₂ : Progress} → Alike s r s₁ r₁ → Alike s₁ r₁ s₂ r₂ → Alike s r s₂ r₂
  alike_then a b = record { agree = b.agree; removed-alike = omega (arith, a, b); tried-alike = omega (arith, a, b) }

  module _ (tolerance : ℕ) where
    pub try_run-agree : (depth : ℕ) (s r : Progress) (e : Edge) (n : ℕ) → OnContour (walk_of L) f e → Agree L f s.table r.table
        → Alike s r (try_run L tolerance depth s e n) (try_run L tolerance depth r e n)
    try_run-agree zero s r e n on a =
        rw (try-none L tolerance s e n, try-none L tolerance r e n)
        (record { agree = a; removed-alike = omega arith; tried-alike = omega arith })
    try_run-agree (suc depth) s r e n on a =
        let same = same_passes L sound f stick a tolerance e n on in
        both-sides (passes L s.table tolerance e n)
        (λ y.
        rw (
          try-passes L tolerance depth s e n y ∙ inner-is L (one_tried s) e n,
          try-passes L tolerance depth r e n (sym same ∙ y) ∙ inner-is L (one_tried r) e n,
        ) (record { agree = inner-agree L sound f stick e n on a; removed-alike = omega arith; tried-alike = omega arith }))
        (λ b.
        let one = try_run-agree depth (one_tried s) (one_tried r) e (half n) on a in
        let two = try_run-agree depth _ _ (stick_after L (half n) e) (n - half n) (on-steps L sound f stick (half n) e on) one.agree in
        rw (try-splits L tolerance depth s e n b, try-splits L tolerance depth r e n (sym same ∙ b))
        (record { agree = two.agree; removed-alike = omega (arith, one, two); tried-alike = omega (arith, one, two) }))

    -- from tables that agree on the contour it gives tables that do, with the same counts added
    pub simplify_contour-agree : (s r : Progress) → Agree L f s.table r.table
        → Alike s r (simplify_contour L tolerance s f) (simplify_contour L tolerance r f)
    simplify_contour-agree s r a =
        let n : ℕ = length (contour_of L f) in
        let on = on-self (walk_of L) (laws L sound) f stick in
        let one = try_run-agree n s r f (half n) on a in
        let two = try_run-agree n _ _ (stick_after L (half n) f) (n - half n) (on-steps L sound f stick (half n) f on) one.agree in
        rw (contour-runs L tolerance s f, contour-runs L tolerance r f) (alike_then one two)

    -- so simplifying a contour is a step local to it
    pub simplify_contour-local : Local L f (λ t. (simplify_contour L tolerance (begun t) f).table)
    simplify_contour-local =
        record {
          same_length = λ t. contour-length L tolerance (begun t) f;
          elsewhere = λ t k off. simplify_contour-elsewhere tolerance (begun t) k off;
          agrees = λ t u a. (simplify_contour-agree (begun t) (begun u) a).agree;
        }

-- Two contours

module _ (L : Layer) (sound : Sound L) (tolerance : ℕ) (f g : Edge) (first-f : first (walk_of L) f ≡ true) (first-g : first (walk_of L) g ≡ true)
    (differ : f ≢ g) where
  stick-f : is_stick L f ≡ true
  stick-f = first_one (walk_of L) (laws L sound) f first-f

  stick-g : is_stick L g ≡ true
  stick-g = first_one (walk_of L) (laws L sound) g first-g

  -- simplifying one changes no entry of another
  pub other-contour : (s : Progress) (e : Edge) → OnContour (walk_of L) g e → entry L (simplify_contour L tolerance s f).table e ≡ entry L s.table e
  other-contour s e on = simplify_contour-elsewhere L sound f stick-f tolerance s (number L.size e) (off-other L sound f g first-f first-g differ e on)

  -- and of two contours it does not matter which is simplified first
  pub contours-commute : (s : Progress) → length s.table ≡ edge_count L.size
      → simplify_contour L tolerance (simplify_contour L tolerance s f) g ≡ simplify_contour L tolerance (simplify_contour L tolerance s g) f
  contours-commute s whole =
      let t : List ℕ = s.table in
      let F : List ℕ → Progress = λ u. simplify_contour L tolerance (begun u) f in
      let G : List ℕ → Progress = λ u. simplify_contour L tolerance (begun u) g in
      let local-f = simplify_contour-local L sound f stick-f tolerance in
      let local-g = simplify_contour-local L sound g stick-g tolerance in
      let tables : (G (F t).table).table ≡ (F (G t).table).table =
      local-commute L sound f g first-f first-g differ _ _ local-f local-g t whole in
      let at_g = simplify_contour-agree L sound g stick-g tolerance (begun (F t).table) (begun t)
      (agree-other L sound f g first-f first-g differ _ local-f t whole) in
      let at_f = simplify_contour-agree L sound f stick-f tolerance (begun (G t).table) (begun t)
      (agree-other L sound g f first-g first-f (λ q. differ (sym q)) _ local-g t whole) in
      let removed : s.removed + (F t).removed + (G (F t).table).removed ≡ s.removed + (G t).removed + (F (G t).table).removed =
      omega (arith, at_g.removed-alike, at_f.removed-alike) in
      let tried : s.tried + (F t).tried + (G (F t).table).tried ≡ s.tried + (G t).tried + (F (G t).table).tried =
      omega (arith, at_g.tried-alike, at_f.tried-alike) in
      two f g s
      ∙ (λ i. record { table = tables i; removed = removed i; tried = tried i })
      ∙ sym (two g f s)
    where
      two : (a b : Edge) (s : Progress) → simplify_contour L tolerance (simplify_contour L tolerance s a) b
          ≡ on_top (on_top s (simplify_contour L tolerance (begun s.table) a))
          (simplify_contour L tolerance (begun (simplify_contour L tolerance (begun s.table) a).table) b)
      two a b s =
          ap (λ (p : Progress). simplify_contour L tolerance p b) (contour-from L tolerance s a)
          ∙ contour-from L tolerance (on_top s (simplify_contour L tolerance (begun s.table) a)) b
