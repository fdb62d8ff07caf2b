-- What follows from what a function is given of a table: a stick has an entry, and an entry's place is within the table.
use mathlib.Core.List.{List}
use Prim.Native.Nat.{ℕ, ◌≤◌, ◌<◌}
use native.Mathlib.Omega.{arith}
use lib.ListN.{length}
use Rattle.grid.specs.Layer.{Layer}
use Rattle.grid.specs.Edges.{number}
use Rattle.grid.specs.declared.layer.Size.{Size}
use Rattle.grid.specs.declared.edge.Edge.{Edge}
use Rattle.grid.proofs.Numbers.{number-below, edges-small}
use Rattle.contour.proofs.Sticks.{stick-in}
use Rattle.table.specs.Lent.{LentAt, HasEntry}

pub has-entry : {L : Layer} {t : List ℕ} {e : Edge} → LentAt L t e → HasEntry L.size t e
has-entry {L} {e = e} given =
    record { sized = given.sound.whole.sized; exact = given.exact; in-grid = stick-in L e given.stick }

pub place-within : {size : Size} {t : List ℕ} {e : Edge} → HasEntry size t e → number size e < length t
place-within {size} {e = e} given = omega (arith, number-below size given.sized e given.in-grid, given.exact)

pub places-few : {size : Size} {t : List ℕ} {e : Edge} → HasEntry size t e → length t ≤ 2095104
places-few {size} given = omega (arith, edges-small size given.sized, given.exact)
