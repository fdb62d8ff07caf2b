-- An exact half never occurs in a smoothing step: 4·v would be an odd whole number, and the segment between vertices of other sides of the two
-- cells beside a stick meets it at no such v. So Smooth is the same with the paper's "a half upward" (specs/Former), and the paper's rule, with
-- pins skipped, the same with Note 2's rounding.
use mathlib.Core.Path.{◌≡◌, refl, sym, ◌∙◌, ap}
use mathlib.Core.Bool.{true}
use mathlib.Core.List.{List, [], ◌∷◌, foldl}
use Prim.Native.Nat.{ℕ, ◌+◌, ◌*◌, ◌/◌, ◌<◌}
use native.Mathlib.Decide.{dec_lt}
use native.Mathlib.Omega.{arith}
use lib.ListN.{length}
use lib.IntN.{ℤ, pos, negsuc, nat_abs, ◌+ℤ◌, ◌-ℤ◌, ◌*ℤ◌}
use Rattle.arith.specs.Integers.{positive_part}
use Rattle.arith.specs.Nearest.{IsHalf}
use Rattle.arith.proofs.Integers.{ints, at, viaℕ, toℕ}
use Rattle.arith.proofs.Nearest.{half-scaled}
use Rattle.arith.proofs.Parity.{odd-divides, odd-never}
use Rattle.grid.specs.Layer.{Layer}
use Rattle.grid.specs.Edges.{is_stick}
use Rattle.grid.specs.Questions.{Sound}
use Rattle.grid.specs.declared.edge.Edge.{Edge}
use Rattle.mask.specs.Counts.{stick_count}
use Rattle.step.specs.Walk.{next, prev}
use Rattle.contour.specs.Walk.{walked}
use Rattle.contour.specs.Contours.{walk_of, contour_of, first_sticks, contours_of}
use Rattle.contour.proofs.Outer.{foldl-flatten}
use Rattle.contour.proofs.Contours.{walked_one}
use Rattle.contour.proofs.Sticks.{laws}
use Rattle.contour.proofs.Theorems.{AllSticks, head-stick, tail-sticks, contour-sticks, firsts-sticks}
use Rattle.chord.specs.Points.{Position, Point, Meets, slide}
use Rattle.chord.specs.Crossing.{base, off, along, meeting}
use Rattle.table.specs.Vertices.{offset_at}
use Rattle.table.proofs.AllKept.{AllKept}
use Rattle.drawn.specs.Drawn.{vertex}
use Rattle.offset.specs.Offset.{unrounded, spread, shift, signed_by, offset_by, new_offset, Around}
use Rattle.offset.proofs.Rounding.{unrounded-scaled, rounded-upward}
use Rattle.offset.proofs.Meeting.{spread-is, shift_is, meets_at}
use Rattle.offset.proofs.Offsets.{spread-some}
use Rattle.smooth.specs.Smooth.{smoothed_at, Pass, passed, step_to, visit, pass_contour, contour_pass, Smoothed, unsmoothed, settle, smooth_contour, no_contour, with_contour, in_turn, smooth}
use Rattle.smooth.specs.Call.{smooth_of}
use Rattle.smooth.specs.Former.{rounded_up, upward_at, upward_visit, former_pass, former, upward_contour, upward_smooth, upward_of}
use Rattle.smooth.proofs.Neighbours.{OnSide}
use Rattle.smooth.proofs.Steps.{previous-vertex, next-vertex, neighbours-around, visit-kept}
use Rattle.smooth.proofs.Passes.{smooth_next, smooth-is, until-same, pass_contour-kept, contour_pass-kept, contour-kept}
use Rattle.smooth.proofs.Held.{same-call}

-- ---- on numbers

-- an odd number that is 4·m / d is not negative
odd-natural : (m d : ℕ) (i : ℤ) → 0 < d → pos (4 * m) ≡ pos d *ℤ (pos 2 *ℤ i +ℤ pos 1) → (i : ℕ) × (4 * m ≡ d * (2 * i + 1))
odd-natural m d (pos i) some e = (i, omega (arith, toℕ e (search ints)))
odd-natural m d (negsuc i) some e = absurd (omega (arith, toℕ e (search ints)))

-- b + v is m / d, and old + 2/5 of (v - old) a half: then 4·m / d is odd
half-odd : (b old m d : ℕ) (n : ℤ) → 0 < d → pos ((b + old) * d) +ℤ n ≡ pos m → IsHalf (unrounded old n d) (5 * d)
    → (i : ℕ) × (4 * m ≡ d * (2 * i + 1))
half-odd b old m d n some e (k, h) =
    odd-natural m d (pos 5 *ℤ k +ℤ pos (2 * b + 2) -ℤ pos (3 * old)) some
    (viaℕ (search (ints, at k) depth 9) (omega (arith, toℕ e (search (ints, at n)), toℕ h (search (ints, at n, at k) depth 9))))

-- the mean of a and b, weighed as in `meeting`, is not an odd number of quarters
module _ {u w a b : ℕ} (p : OnSide u a) (q : OnSide w b) (i : ℕ) (e : 4 * (w * a + u * b) ≡ (w + u) * (2 * i + 1)) where
  -- both on opposite sides, or both on lateral ones
  not_alike : (c : ℕ) → w * a + u * b ≡ 256 * c → ⊥
  not_alike c is = omega (arith, p.some, p.most, q.most, (odd-divides 10 c (w + u) i (omega (arith, e, is))).1)

  mean-even : ⊥
  mean-even = elim (dec_lt u 256) [
    | yes near ↦ elim (dec_lt w 256) [
      | yes near' ↦
          let a-is : a ≡ 256 * (a / 256) = omega (arith, p.lateral near) in
          let b-is : b ≡ 256 * (b / 256) = omega (arith, q.lateral near') in
          not_alike (w * (a / 256) + u * (b / 256)) (omega (arith, ap (λ (x : ℕ). w * x) a-is, ap (λ (x : ℕ). u * x) b-is))
      | no far' ↦
          let w-is : w ≡ 256 = omega (arith, q.most) in
          odd-never 8 u b a i p.some near (omega (arith, e, ap (λ (x : ℕ). x * a) w-is, ap (λ (x : ℕ). x * i) w-is))
    ]
    | no far ↦
        let u-is : u ≡ 256 = omega (arith, p.most) in
        elim (dec_lt w 256) [
          | yes near' ↦ odd-never 8 w a b i q.some near' (omega (arith, e, ap (λ (x : ℕ). x * b) u-is, ap (λ (x : ℕ). x * i) u-is))
          | no far' ↦
              let w-is : w ≡ 256 = omega (arith, q.most) in
              not_alike (a + b) (omega (arith, ap (λ (x : ℕ). x * b) u-is, ap (λ (x : ℕ). x * a) w-is))
        ]
  ]

-- ---- a step

-- neighbours at p and q on other sides of the cells beside a stick, with v - old as the code has it, n / d
module _ {p q : Position} {e : Edge} {old : ℕ} (around : Around p q e old)
    (p-side : OnSide (off e p) (along e p)) (q-side : OnSide (off e q) (along e q)) where
  abbrev n : ℤ
  n = signed_by (shift p q e old) (spread p q e)

  abbrev d : ℕ
  d = nat_abs (spread p q e)

  no-half : IsHalf (unrounded old n d) (5 * d) → ⊥
  no-half h =
      let d_is = spread-is p q e old around.apart in
      let odd = half-odd (base e) old (meeting p q e) d n (spread-some around) (rw d_is (shift_is p q e old around.apart)) h in
      mean-even p-side q-side odd.0 (odd.1 ∙ ap (λ (k : ℕ). k * (2 * odd.0 + 1)) d_is)

  no-half-at : (z : Point) → Meets z p q e → IsHalf (unrounded old (slide z e old) z.d) (5 * z.d) → ⊥
  no-half-at z m h =
      let same = unrounded-scaled old (slide z e old) n z.d d (meets_at p q e old around.apart z m) in
      no-half (half-scaled (unrounded old (slide z e old) z.d) (unrounded old n d) (5 * z.d) (5 * d) (omega (arith, z.above)) same h)

  same-offset : offset_by rounded_up p q e old ≡ new_offset p q e old
  unfolding new_offset rounded_up
  same-offset = sym (ap positive_part (rounded-upward old n d (spread-some around) no-half))

-- a pass by Smooth's step over all contours, as one list of sticks
abbrev pub layer_pass : Layer → List ℕ → Pass
layer_pass L t = pass_contour L (passed t 0) (walked (walk_of L))

module _ {L : Layer} (sound : Sound L) where
  module _ {t : List ℕ} (kept : AllKept L t) (e : Edge) (stick : is_stick L e ≡ true) where
    -- with v in the paper's words, at any point of the segment between the neighbours and the closed stick
    pub half-never : (z : Point) → Meets z (vertex L t (prev L e)) (vertex L t (next L e)) e
        → IsHalf (unrounded (offset_at L t e) (slide z e (offset_at L t e)) z.d) (5 * z.d) → ⊥
    half-never =
        no-half-at (neighbours-around sound kept e stick)
        (previous-vertex sound kept e stick).on_side (next-vertex sound kept e stick).on_side

    upward-step : upward_at L t e ≡ smoothed_at L t e
    upward-step =
        same-offset (neighbours-around sound kept e stick)
        (previous-vertex sound kept e stick).on_side (next-vertex sound kept e stick).on_side

  upward-visit : (s : Pass) → AllKept L s.table → (e : Edge) → is_stick L e ≡ true → upward_visit L s e ≡ visit L s e
  unfolding upward_visit visit
  upward-visit s kept e stick = ap (step_to L s e) (upward-step kept e stick)

  -- ---- a pass over any sticks: a contour's, or those of all contours

  upward-visits : (c : List Edge) → AllSticks L c → (s : Pass) → AllKept L s.table → foldl (upward_visit L) s c ≡ pass_contour L s c
  unfolding pass_contour
  upward-visits [] h s kept = refl
  upward-visits (e ∷ c) h s kept =
      let stick = head-stick sound e c h in
      ap (λ (r : Pass). foldl (upward_visit L) r c) (upward-visit s kept e stick)
      ∙ upward-visits c (tail-sticks sound e c h) (visit L s e) (visit-kept sound s kept e stick)

  -- ---- smoothing

  upward-contour : (limit : ℕ) (f : Edge) → is_stick L f ≡ true → {t : List ℕ} → AllKept L t
      → upward_contour L limit t f ≡ smooth_contour L limit t f
  unfolding upward_contour smooth_contour
  upward-contour limit f stick {t} kept =
      until-same (length (contour_of L f)) (AllKept L)
      (λ u h. upward-visits (contour_of L f) (contour-sticks sound f stick) (passed u 0) h)
      (λ u h. contour_pass-kept sound f stick h)
      limit (unsmoothed (contour_pass L f) (length (contour_of L f)) t) kept

  upward-contours : (limit : ℕ) (l : List Edge) → AllSticks L l → (s : Smoothed) → AllKept L s.table
      → foldl (λ r f. with_contour r (upward_contour L limit r.table f)) s l ≡ foldl (smooth_next L limit) s l
  upward-contours limit [] h s kept = refl
  upward-contours limit (f ∷ l) h s kept =
      let stick = head-stick sound f l h in
      ap (λ (r : Smoothed). foldl (λ q g. with_contour q (upward_contour L limit q.table g)) (with_contour s r) l) (upward-contour limit f stick kept)
      ∙ upward-contours limit l (tail-sticks sound f l h) (smooth_next L limit s f) (contour-kept sound f stick limit kept).kept

  upward-smooth : (limit : ℕ) {t : List ℕ} → AllKept L t → upward_smooth L limit t ≡ smooth L limit t
  unfolding upward_smooth in_turn
  upward-smooth limit {t} kept =
      upward-contours limit (first_sticks L) (firsts-sticks sound) (no_contour t) kept
      ∙ sym (smooth-is L limit t)

  -- the paper's rule is the same with Note 2's rounding
  pub former-layer : (limit : ℕ) {t : List ℕ} → AllKept L t → former L limit t ≡ settle (layer_pass L) (stick_count L) limit t
  unfolding former former_pass
  former-layer limit {t} kept =
      until-same (stick_count L) (AllKept L)
      (λ u h. foldl-flatten (upward_visit L) (passed u 0) (contours_of L) ∙ upward-visits (walked (walk_of L)) all (passed u 0) h)
      (λ u h. pass_contour-kept sound (walked (walk_of L)) all (passed u 0) h)
      limit (unsmoothed (layer_pass L) (stick_count L) t) kept
    where
      all : AllSticks L (walked (walk_of L))
      all = walked_one (walk_of L) (laws L sound)

-- no layer, limit or table tells a half upward from one toward 128
pub same-smoothing : (L : Layer) (limit : ℕ) (t : List ℕ) → upward_of L limit t ≡ smooth_of L limit t
unfolding upward_of smooth_of
same-smoothing L limit t = same-call L t (upward_smooth L limit t) (smooth L limit t) λ sound kept. upward-smooth sound limit kept
