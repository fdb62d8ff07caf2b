-- What stands in a list after a run of stores: before what is stored, in it, and past it.
use mathlib.Core.Path.{◌≡◌, refl, ◌∙◌}
use mathlib.Core.List.{List, [], ◌∷◌}
use Prim.Native.Nat.{ℕ, zero, suc, ◌+◌, ◌≤◌, ◌<◌}
use native.Mathlib.Nat.{add-zero}
use native.Mathlib.Omega.{arith}
use lib.ListN.{length, get_or, set, length-set}
use lib.Seq.{sets, get_or-set_same, get_or-set_other}

module _ {ℓ} {A : Type ℓ} where
  pub sets-before : (l s : List A) (i k : ℕ) (d : A) → k < i → get_or (sets s i l) k d ≡ get_or s k d
  sets-before [] s i k d h = refl
  sets-before (x ∷ l) s i k d h = sets-before l (set s i x) (suc i) k d (omega arith) ∙ get_or-set_other s i k x d (λ e. omega arith)

  pub sets-at : (l s : List A) (i k : ℕ) (d : A) → i + length l ≤ length s → k < length l → get_or (sets s i l) (i + k) d ≡ get_or l k d
  sets-at [] s i k d room h = absurd (omega arith)
  sets-at (x ∷ l) s i zero d room h =
      rw add-zero (sets-before l (set s i x) (suc i) i d (omega arith) ∙ get_or-set_same s i x d (omega arith))
  sets-at (x ∷ l) s i (suc k) d room h =
      let next : i + suc k ≡ suc i + k = omega arith in
      rw next (sets-at l (set s i x) (suc i) k d (omega (arith, length-set s i x)) (omega arith))

  pub sets-past : (l s : List A) (i k : ℕ) (d : A) → i + length l ≤ k → get_or (sets s i l) k d ≡ get_or s k d
  sets-past [] s i k d h = refl
  sets-past (x ∷ l) s i k d h = sets-past l (set s i x) (suc i) k d (omega arith) ∙ get_or-set_other s i k x d (λ e. omega arith)
