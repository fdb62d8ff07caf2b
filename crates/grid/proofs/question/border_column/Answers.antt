-- `border_column` meets its contract. `inner` is the row once it is known to be neither the lowest nor the highest, its first sample outside.
use mathlib.Core.Path.{sym, ◌∙◌}
use Rattle.grid.specs.Layer.{layer_of}
use Rattle.grid.proofs.Borders.{Inner, lowest-west, lowest-east, lowest-none}
use Rattle.grid.proofs.question.border_column.Goals as goal

pub returns-then-is_inside : goal.returns-then-is_inside
returns-then-is_inside c = lowest-west _ _ c.requires.whole.sized (sym c.is_inside.ensures ∙ c.if-is_inside.true)

pub returns-then-is_inside-2 : goal.returns-then-is_inside-2
returns-then-is_inside-2 c =
    let inner : (let a = c.args in Inner (layer_of a.size a.bitmap.now) a.row) =
    record {
      not_bottom = c.if-row-eq0.false;
      not_top = c.if-row-size.false;
      west_outside = sym c.is_inside.ensures ∙ c.if-is_inside.false;
    } in
    lowest-east _ _ c.requires.whole.sized inner (sym c.is_inside-2.ensures ∙ c.if-is_inside-2.true)

pub returns : goal.returns
returns c =
    let inner : (let a = c.args in Inner (layer_of a.size a.bitmap.now) a.row) =
    record {
      not_bottom = c.if-row-eq0.false;
      not_top = c.if-row-size.false;
      west_outside = sym c.is_inside.ensures ∙ c.if-is_inside.false;
    } in
    lowest-none _ _ inner (sym c.is_inside-2.ensures ∙ c.if-is_inside-2.false)
