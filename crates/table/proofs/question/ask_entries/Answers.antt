-- `ask_entries` meets its contract.
use native.Mathlib.Omega.{arith}
use Rattle.table.proofs.Runs.{entries-low, places-few, entries-high, entries-right}
use Rattle.table.proofs.question.ask_entries.Goals as goal

pub returns-in-Some : goal.returns-in-Some
returns-in-Some c = rw c.at.ensures (entries-low c.requires c.wrong_of_kind.ensures c.in-Some.is)

pub overflow_add-kind_start : goal.overflow_add-kind_start
overflow_add-kind_start c =
    let few = places-few c.requires c.wrong_of_kind.ensures c.in_default.is c.wrong_of_kind-2.ensures c.in-Some-wrong_of_kind.is in
    omega (arith, few, c.kind_start.ensures)

pub returns-in-Some-wrong_of_kind : goal.returns-in-Some-wrong_of_kind
returns-in-Some-wrong_of_kind c =
    rw (c.at-in-Some-wrong_of_kind.ensures, c.kind_start.ensures)
    (entries-high c.requires c.wrong_of_kind.ensures c.in_default.is c.wrong_of_kind-2.ensures c.in-Some-wrong_of_kind.is)

pub returns : goal.returns
returns c =
    entries-right c.requires c.wrong_of_kind.ensures c.in_default.is c.wrong_of_kind-2.ensures c.in_default-wrong_of_kind.is
