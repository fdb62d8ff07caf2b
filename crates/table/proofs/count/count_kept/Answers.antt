-- `count_kept` meets its contract. The invariant: the kept vertices of the entries passed are counted.
use mathlib.Core.Path.{sym, ap, ◌∙◌}
use native.Mathlib.Omega.{arith}
use Rattle.arith.specs.Booleans.{as_number}
use Rattle.arith.proofs.Ranges.{count-zero, count-le}
use Rattle.arith.proofs.Finite.{count-more}
use Rattle.table.specs.Vertices.{is_kept}
use Rattle.table.specs.Kept.{kept_entry}
use Rattle.table.proofs.count.count_kept.Goals as goal

pub loop-n-init : goal.loop-n-init
loop-n-init c = count-zero _

pub overflow_add-kept : goal.overflow_add-kept
overflow_add-kept c = omega (arith, c.loop-n.invariant, count-le (kept_entry c.args.table.now) c.loop-n.n-index)

pub loop-n-preserved : goal.loop-n-preserved
loop-n-preserved c =
    let kept = sym (c.is_kept.ensures ∙ ap is_kept c.from.ensures) in
    let more = count-more (kept_entry c.args.table.now) c.loop-n.n-index in
    elim c.if-is_kept.branch [
      | goal.then-is_kept w ↦ omega (arith, w.kept-is, more, c.loop-n.invariant, ap as_number (kept ∙ w.if-is_kept.true))
      | goal.else-is_kept w ↦ omega (arith, w.kept-is, more, c.loop-n.invariant, ap as_number (kept ∙ w.if-is_kept.false))
    ]
