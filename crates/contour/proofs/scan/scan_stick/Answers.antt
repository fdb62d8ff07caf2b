-- `scan_stick` meets its contract.
use mathlib.Core.Path.{sym, ◌∙◌}
use native.Mathlib.Omega.{arith}
use Rattle.contour.proofs.Scans.{here-fits, here-markable, scan-set, scan-clear}
use Rattle.contour.proofs.scan.scan_stick.Goals as goal

pub overflow_mul-n : goal.overflow_mul-n
overflow_mul-n c = omega (arith, here-fits c.requires)

pub overflow_add-n : goal.overflow_add-n
overflow_add-n c = omega (arith, here-fits c.requires)

pub contains-requires : goal.contains-requires
contains-requires c = let here = c.requires in record { n_lt_set_bits = here-fits here }

pub remove-requires : goal.remove-requires
remove-requires c = let here = c.requires in record { n_lt_set_bits = here-fits here }

pub mark_contour-requires : goal.mark_contour-requires
mark_contour-requires c = here-markable c.requires

pub returns-then-contains : goal.returns-then-contains
returns-then-contains c =
    rw c.remove.ensures (scan-set c.requires (sym c.contains.ensures ∙ c.if-contains.true))

pub returns-else-contains : goal.returns-else-contains
returns-else-contains c =
    rw c.mark_contour.ensures (scan-clear c.requires (sym c.contains.ensures ∙ c.if-contains.false))
