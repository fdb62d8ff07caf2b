-- `entry_at` meets its contract.
use native.Mathlib.Omega.{arith}
use Rattle.table.proofs.Lent.{place-within, places-few}
use Rattle.table.proofs.vertex.entry_at.Goals as goal

pub offset_bounds-table-n : goal.offset_bounds-table-n
offset_bounds-table-n c = omega (arith, c.number_of-n.ensures, place-within c.requires, places-few c.requires)

pub bounds-table-n : goal.bounds-table-n
bounds-table-n c = omega (arith, c.number_of-n.ensures, place-within c.requires)
