-- What the set of first sticks tells: how many contours there are, and that no vertical edge is first. A loop over contours goes by
-- Firsts.antt.
use mathlib.Core.Path.{◌≡◌, sym, ◌∙◌}
use mathlib.Core.Bool.{Bool, true, false}
use mathlib.Core.List.{List}
use Prim.Native.Nat.{ℕ, ◌≤◌}
use native.Mathlib.Omega.{arith}
use lib.ListN.{length}
use Rattle.arith.proofs.Booleans.{both-sides}
use Rattle.arith.specs.Ranges.{count}
use Rattle.arith.proofs.Ranges.{count_past, count_same}
use Rattle.grid.specs.Layer.{Layer}
use Rattle.grid.specs.Edges.{edge_at, edge_count, kind_start}
use Rattle.grid.specs.Questions.{Sound}
use Rattle.grid.proofs.Numbers.{kind-below}
use Rattle.contour.specs.Walk.{first}
use Rattle.contour.specs.Contours.{walk_of, contour_count}
use Rattle.bitset.specs.Sets.{words, set_bits, has, member_count}
use Rattle.contour.specs.Sets.{FirstSet}
use Rattle.contour.proofs.Contours.{length-contours}
use Rattle.contour.proofs.Scans.{horizontal-fits, first-low-number}

module _ (L : Layer) (sound : Sound L) (s : List ℕ) (set : FirstSet L s) where
  abbrev is_first : ℕ → Bool
  is_first n = first (walk_of L) (edge_at L.size n)

  -- no edge is first past the horizontal ones
  pub none-past : (k : ℕ) → kind_start L.size true ≤ k → is_first k ≡ false
  none-past k l = both-sides (is_first k) (λ f. absurd (omega (arith, first-low-number L sound k f))) (λ f. f)

  -- so the set has none there
  pub set-above : (k : ℕ) → kind_start L.size true ≤ k → has s k ≡ false
  set-above k l = set.says k ∙ none-past k l

  -- which is what counting its numbers asks
  pub counted-below : (end : ℕ) → end ≡ kind_start L.size true
      → (length s ≡ words) × ((end ≤ set_bits) × ((n : ℕ) → end ≤ n → has s n ≡ false))
  counted-below end e = rw e (set.sized, (horizontal-fits L.size sound.whole.sized, set-above))

  -- The set has as many numbers as the layer has contours

  count-to : (n : ℕ) → kind_start L.size true ≤ n → count is_first n ≡ count is_first (kind_start L.size true)
  count-to n l = count_past is_first (kind_start L.size true) n l (λ j h _. none-past j h)

  pub set-count : member_count s ≡ contour_count L
  set-count =
      count_same (has s) is_first set_bits (λ k h. set.says k)
      ∙ count-to set_bits (horizontal-fits L.size sound.whole.sized)
      ∙ sym (count-to (edge_count L.size) (omega (arith, kind-below L.size sound.whole.sized false)))
      ∙ sym (length-contours (walk_of L))
