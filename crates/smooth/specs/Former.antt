-- The rule that Notes 2 and 3 replace. On a table without pins `former_of` is Smooth as the paper has it: "a half upward", and settled by the total
-- "taken over the layer"; pinned vertices it skips as Smooth does (Note 5). On a layer with one contour, or none, it gives the answer and the table of
-- Smooth, whatever is lent (proofs/Single.antt).
-- `upward_of` never was the rule: it is Smooth, settled contour by contour, with nothing but the half as in the paper. No layer, limit or table tells
-- it from Smooth (proofs/Halves.antt).
use mathlib.Core.List.{List, foldl}
use Rattle.std.specs.Prelude.{ℕ, ◌*◌, ℤ, length}
use Rattle.arith.specs.Nearest.{nearest_up}
use Rattle.grid.specs.Layer.{Layer}
use Rattle.grid.specs.declared.edge.Edge.{Edge}
use Rattle.mask.specs.Counts.{stick_count}
use Rattle.step.specs.Walk.{next, prev}
use Rattle.contour.specs.Contours.{contour_of, first_sticks, contours_of}
use Rattle.table.specs.Vertices.{offset_at}
use Rattle.drawn.specs.Drawn.{vertex}
use Rattle.offset.specs.Offset.{unrounded, offset_by}
use Rattle.smooth.specs.Smooth.{Pass, passed, step_to, Smoothed, until, settle, in_turn}
use Rattle.smooth.specs.Call.{Outcome, asked}

-- "rounded once to the nearest whole number, a half upward"
unfoldable pub rounded_up : ℕ → ℤ → ℕ → ℤ
unfolding nearest_up
rounded_up old n d = nearest_up (unrounded old n d) (5 * d)

-- the step at one vertex
abbrev pub upward_at : Layer → List ℕ → Edge → ℕ
upward_at L t e = offset_by rounded_up (vertex L t (prev L e)) (vertex L t (next L e)) e (offset_at L t e)

unfoldable pub upward_visit : Layer → Pass → Edge → Pass
unfolding step_to rounded_up
upward_visit L s e = step_to L s e (upward_at L s.table e)

-- ---- a half upward, and settled over the layer

-- "a pass visits vertices in contour order": over all contours
unfoldable pub former_pass : Layer → List ℕ → Pass
unfolding upward_visit
former_pass L t = foldl (foldl (upward_visit L)) (passed t 0) (contours_of L)

-- "Smoothing is settled after a pass with 1000×total < 256×vertices, taken over the layer, or before any pass if there are no vertices." Each stick
-- carries a vertex.
unfoldable pub former : Layer → ℕ → List ℕ → Smoothed
unfolding former_pass until
former L limit t = settle (former_pass L) (stick_count L) limit t

unfoldable pub former_of : Layer → ℕ → List ℕ → Outcome
unfolding former
former_of L limit t = asked L t (former L limit t)

-- ---- a half upward, and settled contour by contour

abbrev pub upward_pass : Layer → Edge → List ℕ → Pass
upward_pass L f t = foldl (upward_visit L) (passed t 0) (contour_of L f)

unfoldable pub upward_contour : Layer → ℕ → List ℕ → Edge → Smoothed
unfolding upward_visit until
upward_contour L limit t f = settle (upward_pass L f) (length (contour_of L f)) limit t

unfoldable pub upward_smooth : Layer → ℕ → List ℕ → Smoothed
unfolding upward_contour in_turn
upward_smooth L limit t = in_turn (upward_contour L limit) t (first_sticks L)

unfoldable pub upward_of : Layer → ℕ → List ℕ → Outcome
unfolding upward_smooth
upward_of L limit t = asked L t (upward_smooth L limit t)
