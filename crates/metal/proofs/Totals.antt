-- The areas of all contours together. Around a sample the contours turn once together if it is inside and not at all if it is outside, so the samples
-- within the contours, each with its contour's sign, are the inside samples; and the differences of the areas from them add up. That the total is
-- above 0 comes from the polygons of all contours together, for which `encloses-inside` has it.
use mathlib.Core.Path.{◌≡◌, refl, sym, ap, ap₂, ◌∙◌}
use mathlib.Core.Bool.{Bool, true, false, cond}
use mathlib.Core.List.{List, [], ◌∷◌, map}
use Prim.Native.Nat.{ℕ, zero, suc, ◌+◌, ◌*◌, ◌≤◌, ◌<◌}
use native.Mathlib.Numerals.{add-one}
use native.Mathlib.Omega.{arith}
use lib.IntN.{ℤ, pos, negsuc, neg_ℤ, nat_abs, ◌+ℤ◌, ◌-ℤ◌}
use lib.ListN.{length, length-map}
use lib.Signed.{◌<ℤ◌}
use Rattle.arith.specs.Booleans.{as_number}
use Rattle.arith.specs.Finite.{sum, sum_over}
use Rattle.arith.proofs.Finite.{count-sum}
use Rattle.arith.proofs.Counting.{CountedTo, counted_none, counted-all}
use Rattle.arith.specs.Levels.{total}
use Rattle.arith.proofs.Levels.{parts-total}
use Rattle.arith.specs.Integers.{positive_part, negative_part}
use Rattle.arith.proofs.Integers.{IsDiff, arithℤ, add_parts, neg-parts, nat_abs-parts}
use Rattle.arith.proofs.Sums.{over-same, over_add, over_none, over-times}
use Rattle.grid.specs.Layer.{Layer, sample, sample_in, sample_at}
use Rattle.grid.specs.Questions.{Sound}
use Rattle.grid.specs.declared.edge.Edge.{Edge}
use Rattle.mask.specs.Counts.{inside_count, stick_count}
use Rattle.mask.proofs.Ones.{inside-rows}
use Rattle.contour.specs.Walk.{first, walked}
use Rattle.contour.specs.Contours.{walk_of, contour_of, first_sticks, contour_count}
use Rattle.contour.proofs.Theorems.{total-length}
use Rattle.drawn.specs.Drawn.{drawn_of}
use Rattle.held.specs.Questions.{Accepted}
use Rattle.winding.specs.Turns.{turns, around, is_bore, turns_of}
use Rattle.winding.proofs.Values.{values}
use Rattle.winding.proofs.Together.{together}
use Rattle.winding.proofs.Firsts.{firsts-induct}
use Rattle.polygon.specs.Polygon.{added, taken, enclosed, inside}
use Rattle.polygon.proofs.Enclosed.{encloses-inside}
use Rattle.shoelace.specs.Sums.{total_of}
use Rattle.area.specs.Areas.{sum_of, twice_area, areas_of}
use Rattle.area.proofs.Totals.{total_same}
use Rattle.metal.proofs.Fractions.{added_along, taken_along, scaled}
use Rattle.metal.proofs.Signs.{area-diff, samples_within, samples-diff, contour-near, divided, sign-by}

-- ---- sums

-- the positive and the negative parts of sums of integers, added up
parts_add : (x y : ℕ → ℕ → ℤ) (m n : ℕ)
    → sum_over (λ c r. positive_part (x c r +ℤ y c r)) m n + (sum_over (λ c r. negative_part (x c r)) m n + sum_over (λ c r. negative_part (y c r)) m n)
    ≡ sum_over (λ c r. positive_part (x c r)) m n + sum_over (λ c r. positive_part (y c r)) m n + sum_over (λ c r. negative_part (x c r +ℤ y c r)) m n
parts_add x y m n =
    omega (
      arith,
      over_add (λ c r. negative_part (x c r)) (λ c r. negative_part (y c r)) m n,
      over_add (λ c r. positive_part (x c r +ℤ y c r)) (λ c r. negative_part (x c r) + negative_part (y c r)) m n,
      over_add (λ c r. positive_part (x c r)) (λ c r. positive_part (y c r)) m n,
      over_add (λ c r. positive_part (x c r) + positive_part (y c r)) (λ c r. negative_part (x c r +ℤ y c r)) m n,
      over-same (λ c r. positive_part (x c r +ℤ y c r) + (negative_part (x c r) + negative_part (y c r)))
          (λ c r. positive_part (x c r) + positive_part (y c r) + negative_part (x c r +ℤ y c r)) m n (λ c r hc hr. add_parts (x c r) (y c r)),
    )

-- ---- the samples, with the sign of their turns

-- a number for each sample
abbrev over_samples : Layer → (ℕ → ℕ → ℕ) → ℕ
over_samples L g = sum_over g L.size.width L.size.height

-- the samples within some contours, with their signs
abbrev samples_of : Layer → List Edge → ℤ
samples_of L l = sum_of (map (samples_within L) l)

-- the turns of several contours together, added up over the samples around which they are counter-clockwise, and over those where clockwise
abbrev turns_left : Layer → List Edge → ℕ
turns_left L l = over_samples L (λ c r. positive_part (turns_of L l c r))

abbrev turns_right : Layer → List Edge → ℕ
turns_right L l = over_samples L (λ c r. negative_part (turns_of L l c r))

module _ {L : Layer} (sound : Sound L) where
  abbrev w : ℕ
  w = L.size.width

  abbrev h : ℕ
  h = L.size.height

  inside-rows-sum : (n : ℕ) → n ≤ h → CountedTo (sample_at L) w h n (sum_over (λ c r. as_number (sample L c r)) w n)
  unfolding sum
  inside-rows-sum zero l = counted_none
  inside-rows-sum (suc n) l =
      let before = inside-rows-sum n (omega arith) in
      rw (sym (add-one n)) (inside-rows sound before (omega arith) (sym (count-sum (sample_in L n) w)))

  inside-sum : inside L ≡ inside_count L
  unfolding inside
  inside-sum = counted-all (inside-rows-sum h (omega arith)) (omega arith)

  -- of one contour: each sample that it is around has one turn, all of one sign
  module _ (f : Edge) (is-first : first (walk_of L) f ≡ true) where
    part-sum : (part : ℤ → ℕ) → part (pos 0) ≡ 0
        → over_samples L (λ c r. part (turns L f c r)) ≡ part (cond (is_bore L f) (negsuc 0) (pos 1)) * enclosed L f
    unfolding enclosed
    part-sum part none =
        let one : ℕ = part (cond (is_bore L f) (negsuc 0) (pos 1)) in
        over-same (λ c r. part (turns L f c r)) (λ c r. one * as_number (around L f c r)) w h
        (λ c r hc hr. ap part (values sound f is-first c r hc hr) ∙ by (around L f c r))
        ∙ over-times one (λ c r. as_number (around L f c r)) w h
      where
        by : (a : Bool) → part (cond a (cond (is_bore L f) (negsuc 0) (pos 1)) (pos 0)) ≡ part (cond (is_bore L f) (negsuc 0) (pos 1)) * as_number a
        by true = omega arith
        by false = omega (arith, none)

    one-diff : IsDiff (samples_within L f)
        (131072 * over_samples L (λ c r. positive_part (turns L f c r))) (131072 * over_samples L (λ c r. negative_part (turns L f c r)))
    one-diff = rw (part-sum positive_part refl, part-sum negative_part refl) (by (is_bore L f) (samples-diff L f))
      where
        by : (v : Bool) → IsDiff (samples_within L f) (cond v 0 (131072 * enclosed L f)) (cond v (131072 * enclosed L f) 0)
            → IsDiff (samples_within L f)
            (131072 * (positive_part (cond v (negsuc 0) (pos 1)) * enclosed L f)) (131072 * (negative_part (cond v (negsuc 0) (pos 1)) * enclosed L f))
        by true d = omega (arith, d)
        by false d = omega (arith, d)

  -- of several, and of all
  several-diff : IsDiff (samples_of L (first_sticks L)) (131072 * turns_left L (first_sticks L)) (131072 * turns_right L (first_sticks L))
  several-diff =
      let none = over_none (λ c r. 0) w h (λ c r hc hr. refl) in
      firsts-induct (walk_of L) (λ l. IsDiff (samples_of L l) (131072 * turns_left L l) (131072 * turns_right L l))
      (omega (arith, none))
      (λ f l is-first d.
      let turned = parts_add (λ c r. turns L f c r) (λ c r. turns_of L l c r) w h in
      omega (arith, one-diff f is-first, add_parts (samples_within L f) (samples_of L l), turned))

  all-samples : samples_of L (first_sticks L) ≡ pos (131072 * inside_count L)
  unfolding inside
  all-samples =
      let inside = over-same (λ c r. positive_part (turns_of L (first_sticks L) c r)) (λ c r. as_number (sample L c r)) w h
      (λ c r hc hr. ap positive_part (together sound c r hc hr)) in
      let none = over_none (λ c r. negative_part (turns_of L (first_sticks L) c r)) w h
      (λ c r hc hr. ap negative_part (together sound c r hc hr)) in
      omega (arithℤ, several-diff, inside, inside-sum, none)

-- ---- the areas

add-near : (a b c d : ℤ) → nat_abs ((a +ℤ b) -ℤ (c +ℤ d)) ≤ nat_abs (a -ℤ c) + nat_abs (b -ℤ d)
add-near a b c d =
    omega (
      arith,
      nat_abs-parts ((a +ℤ b) -ℤ (c +ℤ d)),
      add_parts (a +ℤ b) (neg_ℤ (c +ℤ d)),
      neg-parts (c +ℤ d),
      add_parts a b,
      add_parts c d,
      nat_abs-parts (a -ℤ c),
      add_parts a (neg_ℤ c),
      neg-parts c,
      nat_abs-parts (b -ℤ d),
      add_parts b (neg_ℤ d),
      neg-parts d,
    )

module _ {L : Layer} {t : List ℕ} (accepted : Accepted L t) where
  -- each contour's difference is less than its bound, so all together differ by one less for each
  near-all : nat_abs (sum_of (areas_of L t) -ℤ samples_of L (first_sticks L)) + length (first_sticks L)
      ≤ 65536 * total (λ f. length (contour_of L f)) (first_sticks L)
  near-all =
      firsts-induct (walk_of L)
      (λ l. nat_abs (sum_of (map (twice_area L t) l) -ℤ samples_of L l) + length l ≤ 65536 * total (λ f. length (contour_of L f)) l)
      (omega arith)
      (λ f l is-first e.
      let split = add-near (twice_area L t f) (sum_of (map (twice_area L t) l)) (samples_within L f) (samples_of L l) in
      omega (arith, contour-near accepted f is-first, split))

  lengths : total (λ f. length (contour_of L f)) (first_sticks L) ≡ stick_count L
  lengths = sym (parts-total (contour_of L) (first_sticks L)) ∙ total-length L accepted.sound

  pub total_near : nat_abs (total_of L t -ℤ pos (131072 * inside_count L)) + contour_count L ≤ 65536 * stick_count L
  total_near =
      omega (
        arith,
        near-all,
        lengths,
        length-map (first_sticks L) (contour_of L),
        ap₂ (λ y z. nat_abs (y -ℤ z)) (total_same L t accepted.sound) (sym (all-samples accepted.sound)),
      )

  -- what the drawn edges of some contours add and take, and the sum of their areas
  abbrev adds : List Edge → ℕ
  adds l = total (λ f. added_along L t (drawn_of L t f)) l

  abbrev takes : List Edge → ℕ
  takes l = total (λ f. taken_along L t (drawn_of L t f)) l

  areas-diff : (l : List Edge) → IsDiff (sum_of (map (twice_area L t) l)) (adds l) (takes l)
  areas-diff [] = omega arith
  areas-diff (f ∷ l) = omega (arith, area-diff L t f, areas-diff l, add_parts (twice_area L t f) (sum_of (map (twice_area L t) l)))

  pub total_above : 0 < contour_count L → pos 0 <ℤ total_of L t
  total_above some =
      let sound = accepted.sound in
      let s = scaled L t accepted in
      let G : ℕ = 256 * s.M in
      let n : ℕ = length (walked (walk_of L)) in
      let has-stick : 0 < n = omega (arith, total_near, total-length L sound) in
      let balanced =
      firsts-induct (walk_of L)
      (λ l. total (added L G s.o) l + s.M * s.M * takes l ≡ total (taken L G s.o) l + s.M * s.M * adds l)
      (omega arith)
      (λ f l is-first e. omega (arith, s.balanced f is-first)) in
      rw (total_same L t sound) (sign-by false (sum_of (areas_of L t)) (adds (first_sticks L)) (takes (first_sticks L)) n (inside L) (areas-diff (first_sticks L))
      (divided s.M n (inside L) _ _ _ _ has-stick (encloses-inside L sound G s.o s.within) balanced))
