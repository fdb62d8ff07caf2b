-- The list of all first elements of a walk: a law holds of it if each first element put in front keeps it. From that, and as each stands in it once,
-- how many elements pass a test, compared with another.
use mathlib.Core.Path.{◌≡◌, refl, sym, ◌∙◌, ap, subst}
use mathlib.Core.Logic.{◌≢◌}
use mathlib.Core.Bool.{Bool, true, false}
use mathlib.Core.List.{List, [], ◌∷◌}
use Prim.Native.Nat.{ℕ, zero, suc, ◌+◌, ◌≤◌, ◌<◌}
use native.Mathlib.Omega.{arith}
use Rattle.arith.specs.Booleans.{as_number}
use Rattle.arith.specs.Lists.{each, among}
use Rattle.arith.proofs.Booleans.{both-sides}
use Rattle.contour.specs.Walk.{Walk, Laws, occurrences, first, firsts_among, firsts}
use Rattle.contour.proofs.Orbit.{unlike}
use Rattle.contour.proofs.Contours.{among_none, among_first, among-other, firsts-once}

at_most : (a b : Bool) → (a ≡ true → b ≡ true) → as_number a ≤ as_number b
at_most true b h = omega (arith, ap as_number (h refl))
at_most false b h = omega arith

module _ (w : Walk) where
  open w use {Element as A, at, many}

  module _ (P : List A → Type 0) (none : P []) (more : (x : A) (l : List A) → first w x ≡ true → P l → P (x ∷ l)) where
    among-induct : (k n : ℕ) → P (firsts_among w k n)
    among-induct k zero = subst P (sym (among_none w k)) none
    among-induct k (suc n) =
        let rest = among-induct (k + 1) n in
        both-sides (first w (at k)) (λ f. subst P (sym (among_first w k n f)) (more (at k) _ f rest))
        (λ f. subst P (sym (among-other w k n f)) rest)

    pub firsts-induct : P (firsts w)
    firsts-induct = among-induct 0 many

  pub firsts-each : (test : A → Bool) → ((x : A) → first w x ≡ true → test x ≡ true) → each test (firsts w) ≡ true
  firsts-each test h = firsts-induct (λ l. each test l ≡ true) refl (λ x l f e. rw (h x f) e)

module _ (w : Walk) (law : Laws w) where
  open w use {Element as A, same}

  -- A law that speaks of one of them, x, has to be kept by x once, as it stands once in the list; the Boolean says whether x is in the list
  module _ (x : A) (is-first : first w x ≡ true) (P : Bool → List A → Type 0) (none : P false []) (here : (l : List A) → P false l → P true (x ∷ l))
      (other : (b : Bool) (l : List A) (y : A) → first w y ≡ true → y ≢ x → P b l → P b (y ∷ l)) where
    record Kept (l : List A) : Type 0 where
      without : occurrences w x l ≡ 0 → P false l
      once : occurrences w x l ≡ 1 → P true l

    kept_more : (y : A) (l : List A) → first w y ≡ true → Kept l → Kept (y ∷ l)
    unfolding occurrences
    kept_more y l f k = both-sides (same x y) met unmet
      where
        met : same x y ≡ true → Kept (y ∷ l)
        met t = record {
          without = λ e. absurd (omega (arith, ap as_number t));
          once = λ e. subst (λ z. P true (z ∷ l)) (law.same_eq x y t) (here l (k.without (omega (arith, ap as_number t))));
        }

        unmet : same x y ≡ false → Kept (y ∷ l)
        unmet u =
            let apart : y ≢ x = λ e. unlike w law x y u (sym e) in
            record {
              without = λ e. other false l y f apart (k.without (omega (arith, ap as_number u)));
              once = λ e. other true l y f apart (k.once (omega (arith, ap as_number u)));
            }

    pub firsts-with : P true (firsts w)
    unfolding occurrences
    firsts-with =
        (firsts-induct w Kept (record { without = λ e. none; once = λ e. absurd (omega arith) }) kept_more).once
        (firsts-once w law x ∙ ap as_number is-first)

  -- Two tests

  module _ (p q : A → Bool) where
    pub among_same : ((y : A) → first w y ≡ true → p y ≡ q y) → among p (firsts w) ≡ among q (firsts w)
    among_same agree = firsts-induct w (λ l. among p l ≡ among q l) refl (λ y l f e. omega (arith, ap as_number (agree y f)))

    module _ (x : A) (is-first : first w x ≡ true) (fails : p x ≡ false) (passes : q x ≡ true) where
      -- they differ at x alone
      pub among-more : ((y : A) → first w y ≡ true → y ≢ x → p y ≡ q y) → among q (firsts w) ≡ among p (firsts w) + 1
      among-more agree =
          firsts-with x is-first (λ b l. among q l ≡ among p l + as_number b) refl
          (λ l e. omega (arith, ap as_number fails, ap as_number passes))
          (λ b l y f d e. omega (arith, ap as_number (agree y f d)))

      -- all that pass the first pass the second
      pub among-less : ((y : A) → first w y ≡ true → y ≢ x → p y ≡ true → q y ≡ true) → among p (firsts w) < among q (firsts w)
      among-less implies =
          let more =
          firsts-with x is-first (λ b l. among p l + as_number b ≤ among q l) (omega arith)
          (λ l e. omega (arith, ap as_number fails, ap as_number passes))
          (λ b l y f d e. omega (arith, at_most (p y) (q y) (implies y f d))) in
          omega arith
