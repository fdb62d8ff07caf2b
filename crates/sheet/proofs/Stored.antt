-- Bytes stored in parts: what is stored in two steps, one after the other, is stored as the two joined. And the state of a loop that stores
-- a list part by part, `PartStored`: what is still to come, stored from here on, gives the whole.
use mathlib.Core.Path.{◌≡◌, refl, ap, ◌∙◌}
use mathlib.Core.List.{List, [], ◌∷◌, ◌++◌}
use Prim.Native.Nat.{ℕ, suc, ◌+◌, ◌≤◌}
use native.Mathlib.Omega.{arith}
use lib.ListN.{length, set, length-append}
use lib.Seq.{sets, length-sets}
use Rattle.sheet.specs.Stored.{Stored}

pub sets-append : (a b s : List ℕ) (i j : ℕ) → j ≡ i + length a → sets (sets s i a) j b ≡ sets s i (a ++ b)
sets-append [] b s i j e =
    let here : j ≡ i = omega arith in
    ap (λ (k : ℕ). sets s k b) here
sets-append (x ∷ a) b s i j e = sets-append a b (set s i x) (suc i) j (omega arith)

pub stored-length : (s : List ℕ) (i : ℕ) (l : List ℕ) {s' : List ℕ} → s' ≡ sets s i l → length s' ≡ length s
stored-length s i l e = ap length e ∙ length-sets s i l

-- the same of lists that are named, in two steps and in three
pub sets-two : (a b s : List ℕ) {s₁ s₂ : List ℕ} (i j : ℕ) → s₁ ≡ sets s i a → s₂ ≡ sets s₁ j b → j ≡ i + length a → s₂ ≡ sets s i (a ++ b)
sets-two a b s i j e₁ e₂ p = e₂ ∙ ap (λ (r : List ℕ). sets r j b) e₁ ∙ sets-append a b s i j p

pub sets-three : (a b d s : List ℕ) {s₁ s₂ s₃ : List ℕ} (i j k : ℕ) → s₁ ≡ sets s i a → s₂ ≡ sets s₁ j b → s₃ ≡ sets s₂ k d
    → j ≡ i + length a → k ≡ j + length b → s₃ ≡ sets s i (a ++ (b ++ d))
sets-three a b d s {s₁} i j k e₁ e₂ e₃ p q = sets-two a (b ++ d) s i j e₁ (sets-two b d s₁ j k e₂ e₃ q) p

-- a list `all`, to be stored in s₀ from i₀ on: it has been stored up to i, which gave s, and `later` is still to come
pub record PartStored (s₀ : List ℕ) (i₀ : ℕ) (all s : List ℕ) (i : ℕ) (later : List ℕ) : Type 0 where
  pub same_length : length s ≡ length s₀
  pub ends : i + length later ≡ i₀ + length all
  pub whole : sets s i later ≡ sets s₀ i₀ all

pub part-start : {s : List ℕ} {i : ℕ} {all : List ℕ} → PartStored s i all s i all
part-start = record { same_length = refl; ends = refl; whole = refl }

module _ {s₀ : List ℕ} {i₀ : ℕ} {all s : List ℕ} {i : ℕ} where
  module _ (part later : List ℕ) (before : PartStored s₀ i₀ all s i (part ++ later)) where
    -- there is room for the next part
    pub part_room : i₀ + length all ≤ length s₀ → i + length part ≤ length s
    part_room h = omega (arith, before.same_length, before.ends, length-append part later)

    -- the next part is stored
    pub part-turn : {s' : List ℕ} {i' : ℕ} → Stored s i part s' i' → PartStored s₀ i₀ all s' i' later
    part-turn {i' = i'} put = record {
      same_length = stored-length s i part put.bytes ∙ before.same_length;
      ends = omega (arith, before.ends, length-append part later, put.after);
      whole = rw put.bytes (sets-append part later s i i' put.after ∙ before.whole);
    }

  -- nothing is to come
  pub part_end : PartStored s₀ i₀ all s i [] → Stored s₀ i₀ all s i
  part_end done = record { bytes = done.whole; after = omega (arith, done.ends) }
