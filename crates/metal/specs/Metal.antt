-- What purchasing may rely on of the areas of a held layer: their signs, that the total by stick number is their sum, and how near they are to the samples
-- that are counted; and that the call's answer is these areas and sums.
use Rattle.std.specs.Prelude.{◌≡◌, ◌⊎◌, ◌≢◌, true, List, ℕ, ◌+◌, ◌*◌, ◌<◌, ◌≤◌, pos, nat_abs, ◌+ℤ◌, ◌-ℤ◌, length, take, ◌<ℤ◌}
use Rattle.grid.specs.Layer.{Layer}
use Rattle.grid.specs.declared.edge.Edge.{Edge}
use Rattle.mask.specs.Counts.{inside_count, stick_count}
use Rattle.contour.specs.Walk.{first}
use Rattle.contour.specs.Contours.{walk_of, contour_of, contour_count}
use Rattle.drawn.specs.Drawn.{drawn_by_number}
use Rattle.winding.specs.Turns.{is_on, turns_inside, turns_outside}
use Rattle.polygon.specs.Polygon.{enclosed}
use Rattle.shoelace.specs.Sums.{sums_of, last_of, total_of}
use Rattle.area.specs.Areas.{sum_of, twice_area, areas_of}
use Rattle.area.specs.Call.{Outcome}

-- "an outline is a contour that winds around the inside ends of its sticks, a bore one that winds around the outside ends". Turns are counted by the
-- contour's sticks (`winding` Turns), and so by the bitmap alone.
abbrev pub Outline : Layer → Edge → Type 0
Outline L f = (e : Edge) → is_on L f e ≡ true → turns_inside L f e ≢ pos 0

abbrev pub Bore : Layer → Edge → Type 0
Bore L f = (e : Edge) → is_on L f e ≡ true → turns_outside L f e ≢ pos 0

-- A contour is named by its first stick f. 131,072 stands for one square pitch, as areas are doubled.
pub record Metal (L : Layer) (t : List ℕ) : Type 0 where
  -- Every contour is an outline or a bore, and not both: an outline winds around no outside end of its sticks, a bore around no inside end.
  pub one_or_other : (f : Edge) → first (walk_of L) f ≡ true → Outline L f ⊎ Bore L f
  pub never_both : (f : Edge) → first (walk_of L) f ≡ true → Outline L f → Bore L f → ⊥
  pub outline_only : (f : Edge) → first (walk_of L) f ≡ true → Outline L f → (e : Edge) → is_on L f e ≡ true → turns_outside L f e ≡ pos 0
  pub bore_only : (f : Edge) → first (walk_of L) f ≡ true → Bore L f → (e : Edge) → is_on L f e ≡ true → turns_inside L f e ≡ pos 0
  -- "Outlines come out positive and bores negative, and this shall be shown"
  pub outline_above : (f : Edge) → first (walk_of L) f ≡ true → Outline L f → pos 0 <ℤ twice_area L t f
  pub bore_below : (f : Edge) → first (walk_of L) f ≡ true → Bore L f → twice_area L t f <ℤ pos 0
  -- "The total must come out equal on every held layer": summed over the drawn edges by stick number it is Note 6's "sum over contours".
  pub total_same : total_of L t ≡ sum_of (areas_of L t)
  -- It is above 0 where there is a contour.
  pub total_above : 0 < contour_count L → pos 0 <ℤ total_of L t
  -- A contour's area differs from a square pitch for each sample that it is around by less than half a square pitch for each of its sticks. A bore's
  -- area is below 0, so there the samples are added.
  pub outline_near : (f : Edge) → first (walk_of L) f ≡ true → Outline L f
      → nat_abs (twice_area L t f -ℤ pos (131072 * enclosed L f)) < 65536 * length (contour_of L f)
  pub bore_near : (f : Edge) → first (walk_of L) f ≡ true → Bore L f
      → nat_abs (twice_area L t f +ℤ pos (131072 * enclosed L f)) < 65536 * length (contour_of L f)
  -- The total differs from a square pitch for each inside sample by at most half a square pitch for each stick, and by less where there is a
  -- contour.
  pub total_near : nat_abs (total_of L t -ℤ pos (131072 * inside_count L)) + contour_count L ≤ 65536 * stick_count L

-- What a call that is done answers and leaves in its outputs: a number for each contour, in their order; "the sum after each edge", over the drawn edges
-- by the number of the stick they start from; and a total that is the last of these sums, 0 without edges, and the sum of the contours' numbers.
pub record AreasAnswered (L : Layer) (t : List ℕ) (o : Outcome) : Type 0 where
  pub contours : o.contours ≡ contour_count L
  pub areas : take o.contours o.areas ≡ areas_of L t
  pub edges : o.edges ≡ length (drawn_by_number L t)
  pub sums : take o.edges o.sums ≡ sums_of L t
  pub last : o.total ≡ last_of (pos 0) (take o.edges o.sums)
  pub total : o.total ≡ sum_of (take o.contours o.areas)
  pub metal : Metal L t
