-- The area of one contour: its sign, and how near it is to the samples that the contour is around. Both come from the polygon with a vertex on
-- every stick (Fractions), for which `encloses` has them, by dividing by the square of its denominator.
use mathlib.Core.Path.{◌≡◌, sym, ap, ◌∙◌}
use mathlib.Core.Logic.{◌⊎◌, inl, inr}
use mathlib.Core.Bool.{Bool, true, false, false≢true, cond}
use mathlib.Core.List.{List, [], ◌∷◌, map}
use Prim.Native.Nat.{ℕ, ◌+◌, ◌*◌, ◌<◌}
use native.Mathlib.Nat.{lt_of_mul-lt-mul_left}
use native.Mathlib.Omega.{arith}
use lib.IntN.{ℤ, pos, neg_ℤ, nat_abs, ◌+ℤ◌, ◌-ℤ◌, neg_ℤ-neg_ℤ}
use lib.ListN.{length}
use lib.Signed.{◌<ℤ◌}
use Rattle.arith.proofs.Booleans.{both-sides}
use Rattle.arith.proofs.Integers.{IsDiff, arithℤ, add_parts, neg-parts, nat_abs-parts}
use Rattle.grid.specs.Layer.{Layer}
use Rattle.grid.specs.Questions.{Sound}
use Rattle.grid.specs.declared.edge.Edge.{Edge}
use Rattle.contour.specs.Walk.{first}
use Rattle.contour.specs.Contours.{walk_of, contour_of}
use Rattle.contour.proofs.Orbit.{round}
use Rattle.contour.proofs.First.{first_one}
use Rattle.contour.proofs.Sticks.{laws}
use Rattle.drawn.specs.Drawn.{vertex, Ends, drawn_of}
use Rattle.held.specs.Questions.{Accepted}
use Rattle.winding.specs.Turns.{is_on, is_bore, turns_inside, turns_outside}
use Rattle.winding.proofs.Contours.{on-self, on_stick}
use Rattle.winding.proofs.Values.{inside-value, outside-value}
use Rattle.polygon.specs.Polygon.{added, taken, enclosed, Encloses}
use Rattle.polygon.proofs.Enclosed.{encloses}
use Rattle.shoelace.specs.Adds.{edge_adds}
use Rattle.area.specs.Areas.{sum_of, twice_area}
use Rattle.metal.specs.Metal.{Outline, Bore}
use Rattle.metal.proofs.Fractions.{added_along, taken_along, scaled}

-- ---- outlines and bores

module _ {L : Layer} (sound : Sound L) (f : Edge) (is-first : first (walk_of L) f ≡ true) where
  not-bore : Outline L f → is_bore L f ≡ false
  not-bore out = both-sides (is_bore L f)
      (λ b. absurd (out f (on-self sound f is-first) (inside-value sound f is-first f (on-self sound f is-first) ∙ rw b)))
      (λ b. b)

  bore : Bore L f → is_bore L f ≡ true
  bore out = both-sides (is_bore L f)
      (λ b. b)
      (λ b. absurd (out f (on-self sound f is-first) (outside-value sound f is-first f (on-self sound f is-first) ∙ rw b)))

  pub one_or_other : Outline L f ⊎ Bore L f
  one_or_other = both-sides (is_bore L f)
      (λ b. inr (λ e on z. omega (arith, ap nat_abs (rw b at (sym (outside-value sound f is-first e on) ∙ z)))))
      (λ b. inl (λ e on z. omega (arith, ap nat_abs (rw b at (sym (inside-value sound f is-first e on) ∙ z)))))

  pub never_both : Outline L f → Bore L f → ⊥
  never_both o b = false≢true (sym (not-bore o) ∙ bore b)

  pub outline_only : Outline L f → (e : Edge) → is_on L f e ≡ true → turns_outside L f e ≡ pos 0
  outline_only out e on = outside-value sound f is-first e on ∙ rw (not-bore out)

  pub bore_only : Bore L f → (e : Edge) → is_on L f e ≡ true → turns_inside L f e ≡ pos 0
  bore_only out e on = inside-value sound f is-first e on ∙ rw (bore out)

-- ---- integers as differences

sub-diff : (a b : ℕ) → IsDiff (pos a -ℤ pos b) a b
sub-diff a b = omega (arith, add_parts (pos a) (neg_ℤ (pos b)), neg-parts (pos b))

near-diff : (z w : ℤ) (a b c d k : ℕ) → IsDiff z a b → IsDiff w c d → a + d < b + c + k → b + c < a + d + k → nat_abs (z -ℤ w) < k
near-diff z w a b c d k z-is w-is below above =
    omega (arith, add_parts z (neg_ℤ w), neg-parts w, nat_abs-parts (z -ℤ w))

-- twice the area is what the drawn edges add less what they take
module _ (L : Layer) (t : List ℕ) where
  sum-diff : (l : List Ends) → IsDiff (sum_of (map (edge_adds L t) l)) (added_along L t l) (taken_along L t l)
  sum-diff [] = omega arith
  sum-diff (d ∷ l) =
      let one = sub-diff ((vertex L t d.from).x * (vertex L t d.to).y) ((vertex L t d.to).x * (vertex L t d.from).y) in
      omega (arith, one, sum-diff l, add_parts (edge_adds L t d) (sum_of (map (edge_adds L t) l)))

  pub area-diff : (f : Edge) → IsDiff (twice_area L t f) (added_along L t (drawn_of L t f)) (taken_along L t (drawn_of L t f))
  unfolding twice_area
  area-diff f = sum-diff (drawn_of L t f)

-- a square pitch for each sample that a contour is around, in the unit of areas, below 0 for a bore
abbrev pub samples_within : Layer → Edge → ℤ
samples_within L f = cond (is_bore L f) (neg_ℤ (pos (131072 * enclosed L f))) (pos (131072 * enclosed L f))

pub samples-diff : (L : Layer) (f : Edge)
    → IsDiff (samples_within L f) (cond (is_bore L f) 0 (131072 * enclosed L f)) (cond (is_bore L f) (131072 * enclosed L f) 0)
samples-diff L f = by (is_bore L f)
  where
    by : (v : Bool)
        → IsDiff (cond v (neg_ℤ (pos (131072 * enclosed L f))) (pos (131072 * enclosed L f)))
        (cond v 0 (131072 * enclosed L f)) (cond v (131072 * enclosed L f) 0)
    by true = omega (arith, neg-parts (pos (131072 * enclosed L f)))
    by false = omega arith

-- ---- the area of a contour

-- what `Encloses` says, at a pitch of 256 and strictly
pub record AreaBounds (n N more less : ℕ) : Type 0 where
  pub above : less < more
  pub least : 131072 * N + less < more + 65536 * n
  pub most : more < 131072 * N + less + 65536 * n

pub divided : (M n N more less m l : ℕ) → 0 < n → Encloses (256 * M) n N more less → more + M * M * l ≡ less + M * M * m → AreaBounds n N m l
divided M n N more less m l some e balanced =
    record {
      above = lt_of_mul-lt-mul_left (M * M) (omega (arith, e.above));
      least = lt_of_mul-lt-mul_left (M * M) (omega (arith, e.least));
      most = lt_of_mul-lt-mul_left (M * M) (omega (arith, e.most));
    }

swapped : (v : Bool) (A T a b k : ℕ) → A + k * b ≡ T + k * a → cond v T A + k * cond v a b ≡ cond v A T + k * cond v b a
swapped true A T a b k e = sym e
swapped false A T a b k e = e

pub sign-by : (v : Bool) (z : ℤ) (a b n N : ℕ) → IsDiff z a b → AreaBounds n N (cond v b a) (cond v a b) → cond v (z <ℤ pos 0) (pos 0 <ℤ z)
sign-by true z a b n N d s = omega (arithℤ, s.above)
sign-by false z a b n N d s = omega (arithℤ, s.above)

near : (v : Bool) (z w : ℤ) (a b n N : ℕ) → IsDiff z a b → IsDiff w (cond v 0 (131072 * N)) (cond v (131072 * N) 0)
    → AreaBounds n N (cond v b a) (cond v a b) → nat_abs (z -ℤ w) < 65536 * n
near true z w a b n N d e s = near-diff z w a b 0 (131072 * N) (65536 * n) d e (omega arith) (omega arith)
near false z w a b n N d e s = near-diff z w a b (131072 * N) 0 (65536 * n) d e (omega arith) (omega arith)

module _ {L : Layer} {t : List ℕ} (accepted : Accepted L t) (f : Edge) (is-first : first (walk_of L) f ≡ true) where
  abbrev adds : ℕ
  adds = added_along L t (drawn_of L t f)

  abbrev takes : ℕ
  takes = taken_along L t (drawn_of L t f)

  bounds : AreaBounds (length (contour_of L f)) (enclosed L f) (cond (is_bore L f) takes adds) (cond (is_bore L f) adds takes)
  bounds =
      let sound = accepted.sound in
      let law = laws L sound in
      let s = scaled L t accepted in
      let G : ℕ = 256 * s.M in
      divided s.M (length (contour_of L f)) (enclosed L f) _ _ _ _
      (round (walk_of L) law f (first_one (walk_of L) law f is-first)).some
      (encloses L sound f is-first G s.o (λ e on. s.within e (on_stick sound f is-first e on)))
      (swapped (is_bore L f) (added L G s.o f) (taken L G s.o f) adds takes (s.M * s.M) (s.balanced f is-first))

  sign : cond (is_bore L f) (twice_area L t f <ℤ pos 0) (pos 0 <ℤ twice_area L t f)
  sign = sign-by (is_bore L f) (twice_area L t f) adds takes (length (contour_of L f)) (enclosed L f) (area-diff L t f) bounds

  pub outline_above : Outline L f → pos 0 <ℤ twice_area L t f
  outline_above out = rw (not-bore accepted.sound f is-first out) at sign

  pub bore_below : Bore L f → twice_area L t f <ℤ pos 0
  bore_below out = rw (bore accepted.sound f is-first out) at sign

  pub contour-near : nat_abs (twice_area L t f -ℤ samples_within L f) < 65536 * length (contour_of L f)
  contour-near =
      near (is_bore L f) (twice_area L t f) (samples_within L f) adds takes (length (contour_of L f)) (enclosed L f)
      (area-diff L t f) (samples-diff L f) bounds

  pub outline_near : Outline L f → nat_abs (twice_area L t f -ℤ pos (131072 * enclosed L f)) < 65536 * length (contour_of L f)
  outline_near out = rw (not-bore accepted.sound f is-first out) at contour-near

  pub bore_near : Bore L f → nat_abs (twice_area L t f +ℤ pos (131072 * enclosed L f)) < 65536 * length (contour_of L f)
  bore_near out =
      let k : ℤ = pos (131072 * enclosed L f) in
      let nearer : nat_abs (twice_area L t f -ℤ neg_ℤ k) < 65536 * length (contour_of L f) = rw (bore accepted.sound f is-first out) at contour-near in
      omega (
        arith,
        nearer,
        ap (λ (z : ℤ). nat_abs (twice_area L t f +ℤ z)) (neg_ℤ-neg_ℤ k),
      )
