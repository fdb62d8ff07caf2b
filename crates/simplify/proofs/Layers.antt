-- Contours simplified one after the other: that counting may start from 0, and how many runs are tried and vertices removed. Over a layer the
-- runs tried are twice the sticks less twice the contours, and two fewer for each vertex that is removed.
use mathlib.Core.Path.{◌≡◌, refl, sym, ◌∙◌, ap}
use mathlib.Core.Bool.{true}
use mathlib.Core.List.{List, [], ◌∷◌, foldl, map, flatten}
use Prim.Native.Nat.{ℕ, ◌+◌, ◌-◌, ◌*◌, ◌≤◌}
use native.Mathlib.Omega.{arith}
use lib.ListN.{length, length-append, length-map}
use Rattle.arith.proofs.Ranges.{count-le}
use Rattle.grid.specs.Layer.{Layer}
use Rattle.grid.specs.Edges.{edge_count, stick_at, is_stick}
use Rattle.grid.specs.Questions.{Sound}
use Rattle.grid.specs.declared.edge.Edge.{Edge}
use Rattle.grid.proofs.Numbers.{edges-small}
use Rattle.mask.specs.Counts.{stick_count}
use Rattle.contour.specs.Walk.{contour}
use Rattle.contour.specs.Contours.{walk_of, contour_of, first_sticks, contour_count}
use Rattle.contour.proofs.Firsts.{FirstsLeft, firsts-start, firsts-turn, fold-turn, fold_end}
use Rattle.contour.proofs.Theorems.{total-length, AllSticks, head-stick, tail-sticks, firsts-sticks}
use Rattle.drawn.proofs.FourKept.{four-sticks}
use Rattle.run.specs.Runs.{stick_after}
use Rattle.simplify.specs.Runs.{Progress, half, try_run, simplify_contour, simplify}
use Rattle.simplify.specs.Parts.{begun}
use Rattle.simplify.proofs.Trying.{on_top, split-of, try-two, try-counts, try-length, contour-runs}

module _ (L : Layer) (tolerance : ℕ) where
  pub contour-from : (s : Progress) (f : Edge)
      → simplify_contour L tolerance s f ≡ on_top s (simplify_contour L tolerance (begun s.table) f)
  contour-from s f =
      let n : ℕ = length (contour_of L f) in
      let m : Edge = stick_after L (half n) f in
      let a : Progress = try_run L tolerance n (begun s.table) f (half n) in
      let b : Progress = try_run L tolerance n (begun a.table) m (n - half n) in
      contour-runs L tolerance s f ∙ try-two L tolerance n s f m (half n) (n - half n)
      ∙ (λ i. record { table = b.table; removed = sums s.removed a.removed b.removed i; tried = sums s.tried a.tried b.tried i })
      ∙ ap (on_top s) (sym (contour-runs L tolerance (begun s.table) f ∙ try-two L tolerance n (begun s.table) f m (half n) (n - half n)))
    where
      sums : (x y z : ℕ) → x + y + z ≡ x + (0 + y + z)
      sums x y z = omega arith

  pub contour-length : (s : Progress) (f : Edge) → length (simplify_contour L tolerance s f).table ≡ length s.table
  contour-length s f =
      let n : ℕ = length (contour_of L f) in
      rw (contour-runs L tolerance s f)
      (try-length L tolerance n (try_run L tolerance n s f (half n)) (stick_after L (half n) f) (n - half n) ∙ try-length L tolerance n s f (half n))

  -- a contour of n sticks: 2·n - 2 tries, less two for each vertex that is removed
  pub contour-counts : Sound L → (f : Edge) → is_stick L f ≡ true → (s : Progress) → let r : Progress = simplify_contour L tolerance s f in
      r.tried + 2 * r.removed + 2 ≡ s.tried + 2 * s.removed + 2 * length (contour_of L f)
  contour-counts sound f stick s =
      let n : ℕ = length (contour_of L f) in
      let p = split-of n (omega (arith, four-sticks L sound f stick)) in
      let one = try-counts L tolerance n s f (half n) p.first_some (omega (arith, p)) in
      let two = try-counts L tolerance n (try_run L tolerance n s f (half n)) (stick_after L (half n) f) (n - half n) p.second_some (omega (arith, p)) in
      rw (contour-runs L tolerance s f) (omega (arith, one, two, p))

  -- the contours of some first sticks
  contours-counts : Sound L → (l : List Edge) → AllSticks L l → (s : Progress) → let r : Progress = foldl (simplify_contour L tolerance) s l in
      r.tried + 2 * r.removed + 2 * length l ≡ s.tried + 2 * s.removed + 2 * length (flatten (map (contour (walk_of L)) l))
  unfolding flatten
  contours-counts sound [] sticks s = omega arith
  contours-counts sound (f ∷ l) sticks s =
      let here = contour-counts sound f (head-stick sound f l sticks) s in
      let sum = length-append (contour_of L f) (flatten (map (contour (walk_of L)) l)) in
      let later = contours-counts sound l (tail-sticks sound f l sticks) (simplify_contour L tolerance s f) in
      omega (arith, here, later, sum)

  -- and both counts only grow
  contours-more : (l : List Edge) (s : Progress) → let r : Progress = foldl (simplify_contour L tolerance) s l in
      (s.removed ≤ r.removed) × (s.tried ≤ r.tried)
  contours-more [] s = (omega arith, omega arith)
  contours-more (f ∷ l) s =
      let from = contour-from s f in
      let later = contours-more l (simplify_contour L tolerance s f) in
      (omega (arith, ap (λ (x : Progress). x.removed) from, later.0), omega (arith, ap (λ (x : Progress). x.tried) from, later.1))

  pub simplify-is : (t : List ℕ) → simplify L tolerance t ≡ foldl (simplify_contour L tolerance) (begun t) (first_sticks L)
  unfolding simplify
  simplify-is t = refl

  -- over the layer
  pub simplify-counts : Sound L → (t : List ℕ) → let r : Progress = simplify L tolerance t in
      r.tried + 2 * r.removed + 2 * contour_count L ≡ 2 * stick_count L
  simplify-counts sound t =
      let counts = contours-counts sound (first_sticks L) (firsts-sticks sound) (begun t) in
      rw (simplify-is t) (omega (arith, counts, total-length L sound, length-map (first_sticks L) (contour_of L)))

  pub simplify-small : Sound L → (t : List ℕ) → ((simplify L tolerance t).removed ≤ 2095104) × ((simplify L tolerance t).tried ≤ 4190208)
  simplify-small sound t =
      let counts = simplify-counts sound t in
      let most = count-le (stick_at L) (edge_count L.size) in
      let small = edges-small L.size sound.whole.sized in
      (omega (arith, counts, most, small), omega (arith, counts, most, small))

-- What the loop over the contours cites: simplifying those that are left, on top of what is done, simplifies the layer. r is what the code finds of
-- one contour, counted from 0.

pub record ContoursLeft (L : Layer) (tolerance : ℕ) (t : List ℕ) (s : Progress) (left : List Edge) : Type 0 where
  pub firsts : FirstsLeft L left
  pub same_length : length s.table ≡ length t
  pub gives : foldl (simplify_contour L tolerance) s left ≡ simplify L tolerance t

pub turns-start : {L : Layer} {left : List Edge} (tolerance : ℕ) (t : List ℕ) → left ≡ first_sticks L → ContoursLeft L tolerance t (begun t) left
turns-start {L} tolerance t e =
    record {
      firsts = firsts-start L e;
      same_length = refl;
      gives = ap (foldl (simplify_contour L tolerance) (begun t)) e ∙ sym (simplify-is L tolerance t);
    }

module _ {L : Layer} {tolerance : ℕ} {t : List ℕ} {s : Progress} {left : List Edge} (now : ContoursLeft L tolerance t s left) where
  module _ {f : Edge} {left' : List Edge} (next : left ≡ f ∷ left') {r : Progress} (found : r ≡ simplify_contour L tolerance (begun s.table) f) where
    turned : foldl (simplify_contour L tolerance) (on_top s r) left' ≡ simplify L tolerance t
    turned =
        ap (λ (x : Progress). foldl (simplify_contour L tolerance) x left') (ap (on_top s) found ∙ sym (contour-from L tolerance s f))
        ∙ fold-turn (simplify_contour L tolerance) s (simplify L tolerance t) next now.gives

    pub turns : ContoursLeft L tolerance t (on_top s r) left'
    turns =
        record {
          firsts = firsts-turn now.firsts next;
          same_length = ap (λ (x : Progress). length x.table) found
              ∙ contour-length L tolerance (begun s.table) f
              ∙ now.same_length;
          gives = turned;
        }

    -- so the sums fit
    pub turned-most : Sound L → (s.removed + r.removed ≤ 2095104) × (s.tried + r.tried ≤ 4190208)
    turned-most sound =
        let more = rw turned at (contours-more L tolerance left' (on_top s r)) in
        let small = simplify-small L tolerance sound t in
        (omega (arith, more, small), omega (arith, more, small))

  pub turns-end : left ≡ [] → s ≡ simplify L tolerance t
  turns-end over = fold_end (simplify_contour L tolerance) s (simplify L tolerance t) over now.gives
