-- `ask_table_length` meets its contract.
use borrow.Author.Tests.{eq-eqb, ne_eqb}
use Rattle.table.specs.Entries.{table_length_answer}
use Rattle.table.proofs.question.ask_table_length.Goals as goal

pub returns-then-entries-edge_count : goal.returns-then-entries-edge_count
unfolding table_length_answer
returns-then-entries-edge_count c = rw (eq-eqb _ _ (rw c.edge_count.ensures at c.if-entries-edge_count.true))

pub returns-else-entries-edge_count : goal.returns-else-entries-edge_count
unfolding table_length_answer
returns-else-entries-edge_count c = rw (c.at.ensures, ne_eqb _ _ (rw c.edge_count.ensures at c.if-entries-edge_count.false))
