-- Contours smoothed one after the other: that nothing is removed and the limit holds, and what a loop over them cites: the invariant
-- `PartSmoothed`, the bound of the total, the next turn's, and the end.
use mathlib.Core.Path.{◌≡◌, sym, ◌∙◌, ap}
use mathlib.Core.Bool.{Bool, false, ◌&&◌, true≢false}
use mathlib.Core.List.{List, [], ◌∷◌, map, flatten, foldl}
use Prim.Native.Nat.{ℕ, ◌+◌, ◌*◌, ◌≤◌, max}
use native.Mathlib.Omega.{arith}
use lib.ListN.{length, length-append}
use Rattle.arith.proofs.Booleans.{both-sides}
use Rattle.grid.specs.Layer.{Layer}
use Rattle.grid.specs.Questions.{Sound}
use Rattle.grid.specs.declared.edge.Edge.{Edge}
use Rattle.contour.specs.Contours.{contour_of, first_sticks}
use Rattle.contour.proofs.Theorems.{AllSticks, head-stick, tail-sticks, firsts-sticks}
use Rattle.contour.proofs.Firsts.{FirstsLeft, firsts-start, firsts-turn, here-stick, fold-turn, fold_end}
use Rattle.table.proofs.AllKept.{AllKept, passes-entries, passes-all-kept}
use Rattle.smooth.specs.Smooth.{most_total, Smoothed, no_contour, with_contour, smooth_contour, smooth, Smoothable, SmoothableAt}
use Rattle.smooth.proofs.Passes.{standing, smooth_next, smooth-is, StillKept, contour-kept, WithinLimit, contour-passes}
use Rattle.smooth.proofs.Sizes.{vertices-most}

pub kept-smoothable : {L : Layer} {t : List ℕ} → Sound L → AllKept L t → Smoothable L t
kept-smoothable {L} {t} sound kept =
    record {
      sound = sound;
      exact = kept.whole;
      entries = passes-entries L t kept sound;
      all_kept = passes-all-kept L t kept sound;
    }

-- ---- what comes of it: every vertex is kept, at an offset of 1 to 255, after it as before; and the limit

module _ {L : Layer} (sound : Sound L) (limit : ℕ) where
  contours-kept : (l : List Edge) → AllSticks L l → (s : Smoothed) → AllKept L s.table → AllKept L (foldl (smooth_next L limit) s l).table
  contours-kept [] h s kept = kept
  contours-kept (f ∷ l) h s kept =
      contours-kept l (tail-sticks sound f l h) (smooth_next L limit s f) (contour-kept sound f (head-stick sound f l h) limit kept).kept

  pub smooth-kept : {t : List ℕ} → AllKept L t → AllKept L (smooth L limit t).table
  smooth-kept {t} kept = rw (smooth-is L limit t) (contours-kept (first_sticks L) (firsts-sticks sound) (no_contour t) kept)

module _ (L : Layer) (limit : ℕ) where
  contours-within : (l : List Edge) (s : Smoothed) → WithinLimit limit s → WithinLimit limit (foldl (smooth_next L limit) s l)
  contours-within [] s w = w
  contours-within (f ∷ l) s w =
      contours-within l (smooth_next L limit s f) (record { passes_most = omega (arith, w.passes_most, one.passes_most); passes_all = all })
    where
      r : Smoothed
      r = smooth_contour L limit s.table f

      one : WithinLimit limit r
      one = contour-passes L limit s.table f

      all : (s.settled && r.settled) ≡ false → max s.passes r.passes ≡ limit
      all y = both-sides s.settled
          (λ so_far. omega (arith, w.passes_most, one.passes_all (sym (ap (λ (b : Bool). b && r.settled) so_far) ∙ y)))
          (λ not-so-far. omega (arith, w.passes_all not-so-far, one.passes_most))

  pub smooth-within : (t : List ℕ) → WithinLimit limit (smooth L limit t)
  smooth-within t =
      rw (smooth-is L limit t)
      (contours-within (first_sticks L) (no_contour t) (record { passes_most = omega arith; passes_all = λ y. absurd (true≢false y) }))

-- ---- the loop

-- how many sticks the contours of some first sticks have
abbrev pub sticks_of : Layer → List Edge → ℕ
sticks_of L l = length (flatten (map (contour_of L) l))

-- Smoothing the contours that are left, on top of what is done, smooths the layer.
pub record PartSmoothed (L : Layer) (limit : ℕ) (t₀ : List ℕ) (s : Smoothed) (left : List Edge) : Type 0 where
  pub firsts : FirstsLeft L left
  pub kept : AllKept L s.table
  pub room : s.total + 254 * sticks_of L left ≤ most_total
  pub still : foldl (smooth_next L limit) s left ≡ smooth L limit t₀

pub smoothing-start : {L : Layer} {limit : ℕ} {t : List ℕ} {left : List Edge} → Sound L → left ≡ first_sticks L → AllKept L t
    → PartSmoothed L limit t (no_contour t) left
smoothing-start {L} {limit} {t} sound e kept =
    record {
      firsts = firsts-start L e;
      kept = kept;
      room = omega (arith, vertices-most sound, ap (sticks_of L) e);
      still = ap (foldl (smooth_next L limit) (no_contour t)) e ∙ sym (smooth-is L limit t);
    }

module _ {L : Layer} {limit : ℕ} {t₀ : List ℕ} {s : Smoothed} {left : List Edge} (g : PartSmoothed L limit t₀ s left) where
  pub smoothing-end : left ≡ [] → s ≡ smooth L limit t₀
  smoothing-end over = fold_end (smooth_next L limit) s (smooth L limit t₀) over g.still

  module _ (sound : Sound L) {f : Edge} {left' : List Edge} (next : left ≡ f ∷ left') where
    -- the first of them can be smoothed
    pub smoothing-here : SmoothableAt L s.table f
    smoothing-here = record { table = kept-smoothable sound g.kept; stick = here-stick g.firsts next sound }

    -- r is what the code finds of it
    module _ {r : Smoothed} (found : r ≡ smooth_contour L limit s.table f) where
      found-kept : StillKept L f r
      found-kept = rw found (contour-kept sound f smoothing-here.stick limit g.kept)

      room-left : s.total + r.total + 254 * sticks_of L left' ≤ most_total
      unfolding flatten
      room-left =
          omega (
            arith,
            g.room,
            ap (sticks_of L) next,
            length-append (contour_of L f) (flatten (map (contour_of L) left')),
            found-kept.total_most,
          )

      -- so the sum of the totals fits
      pub smoothing-most : s.total + r.total ≤ most_total
      smoothing-most = omega (arith, room-left)

      -- p and b are what the code makes of the passes and of whether all are settled
      pub smoothing-turn : {p : ℕ} {b : Bool} → p ≡ max s.passes r.passes → b ≡ (s.settled && r.settled)
          → PartSmoothed L limit t₀ (standing r.table p (s.total + r.total) b) left'
      smoothing-turn p_is b-is = rw (p_is, b-is)
          record {
            firsts = firsts-turn g.firsts next;
            kept = found-kept.kept;
            room = room-left;
            still =
                ap (λ (x : Smoothed). foldl (smooth_next L limit) (with_contour s x) left') found
                ∙ fold-turn (smooth_next L limit) s (smooth L limit t₀) next g.still;
          }
