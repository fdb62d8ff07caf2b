-- A sweep along a row: what holds where it stands.
use Rattle.std.specs.Prelude.{◌≡◌, true, ℕ, ◌≤◌, ◌<◌}
use Rattle.grid.specs.Layer.{Layer}
use Rattle.grid.specs.Edges.{is_stick}
use Rattle.grid.specs.declared.edge.Edge.{Edge}
use Rattle.winding.specs.Turns.{east, contours_around}
use Rattle.nesting.specs.declared.sweep.Sweep.{Sweep}

-- it has the contours around the sample where it stands
abbrev pub Counted : Layer → Sweep → Type 0
Counted L w = w.around ≡ contours_around L w.column w.row

-- and can go on to column `end`
pub record Swept (L : Layer) (w : Sweep) (end : ℕ) : Type 0 where
  pub row_below : w.row < L.size.height
  pub reach : w.column ≤ end
  pub within : end < L.size.width
  pub counted : Counted L w

-- it stands at the west end of a stick
pub record SweptAt (L : Layer) (w : Sweep) : Type 0 where
  pub stick : is_stick L (east w.column w.row) ≡ true
  pub counted : Counted L w

-- at the west end of e
abbrev pub sweep_at : Layer → Edge → Sweep
sweep_at L e = record { row = e.row; column = e.column; around = contours_around L e.column e.row }
