-- What passes the cells of a layer: one contour, or all contours together. It encloses some samples and is walked with them on its left, or, if it
-- is a bore, on its right. The laws of a passage say that the samples on its left tell which sides of a cell are its sticks, and which two are linked.
use mathlib.Core.Path.{◌≡◌}
use mathlib.Core.Bool.{Bool, true, false, cond, not}
use mathlib.Core.List.{List}
use Prim.Native.Nat.{ℕ, ◌+◌, ◌<◌}
use Rattle.arith.specs.Booleans.{as_number}
use Rattle.arith.specs.Finite.{sum_over}
use Rattle.grid.specs.Layer.{Layer, sample}
use Rattle.grid.specs.Edges.{is_stick}
use Rattle.grid.specs.Questions.{on_border}
use Rattle.grid.specs.declared.edge.Edge.{Edge}
use Rattle.step.specs.Cells.{Corners, corners, cut, partner, edge_on}
use Rattle.step.specs.Turns.{inside_left}
use Rattle.step.specs.declared.cell.Side.{Side}
use Rattle.contour.specs.Walk.{occurrences, walked}
use Rattle.contour.specs.Contours.{walk_of, contour_of}
use Rattle.winding.specs.Turns.{is_on, around, is_bore}

pub record Passage : Type 0 where
  -- its sticks, as a list and as a test
  pub sticks : List Edge
  pub on : Edge → Bool
  -- the samples that it encloses, and whether they are on its right
  pub enclosed_at : ℕ → ℕ → Bool
  pub bore : Bool

-- the contour that starts at f, and all contours
abbrev pub contour_passage : Layer → Edge → Passage
contour_passage L f = record { sticks = contour_of L f; on = is_on L f; enclosed_at = around L f; bore = is_bore L f }

abbrev pub layer_passage : Layer → Passage
layer_passage L = record { sticks = walked (walk_of L); on = is_stick L; enclosed_at = sample L; bore = false }

-- the samples on the left, and the pattern that they make of the cell at (c, r)
abbrev pub on_left : Passage → ℕ → ℕ → Bool
on_left P c r = cond P.bore (not (P.enclosed_at c r)) (P.enclosed_at c r)

abbrev pub pattern : Passage → ℕ → ℕ → Corners
pattern P c r = record { sw = on_left P c r; se = on_left P (c + 1) r; nw = on_left P c (r + 1); ne = on_left P (c + 1) (r + 1) }

-- how many samples are enclosed
abbrev pub enclosed_in : Layer → Passage → ℕ
enclosed_in L P = sum_over (λ c r. as_number (P.enclosed_at c r)) L.size.width L.size.height

-- A side of a cell is one of the sticks if the pattern cuts it. If so, the pattern has the inside sample on the left, and links the side as the
-- samples do.
pub record SideLaws (L : Layer) (P : Passage) (c r : ℕ) (s : Side) : Type 0 where
  pub side_on : P.on (edge_on c r s) ≡ cut (pattern P c r) s
  pub on-left : P.on (edge_on c r s) ≡ true → inside_left (corners L c r) s ≡ inside_left (pattern P c r) s
  pub on_partner : P.on (edge_on c r s) ≡ true → partner (corners L c r) s ≡ partner (pattern P c r) s

-- each stick stands once in the list, and none of the border is enclosed
pub record PassageLaws (L : Layer) (P : Passage) : Type 0 where
  pub often : (e : Edge) → occurrences (walk_of L) e P.sticks ≡ as_number (P.on e)
  pub on_stick : (e : Edge) → P.on e ≡ true → is_stick L e ≡ true
  pub by_side : (c r : ℕ) → c + 1 < L.size.width → r + 1 < L.size.height → (s : Side) → SideLaws L P c r s
  pub border : (c r : ℕ) → c < L.size.width → r < L.size.height → on_border L c r ≡ true → P.enclosed_at c r ≡ false
