-- `crossed` meets its contract: by whether the stick lies on a bore and its west end is inside.
use native.Mathlib.Omega.{arith}
use Rattle.nesting.proofs.Sweeping.{here-within, here_place, here-few, crossed-more, crossed-less}
use Rattle.nesting.proofs.sweep.crossed.Goals as goal

pub overflow_mul-at : goal.overflow_mul-at
overflow_mul-at c = omega (arith, here_place c.args.nesting.bore_set c.requires)

pub overflow_add-at : goal.overflow_add-at
overflow_add-at c = omega (arith, here_place c.args.nesting.bore_set c.requires)

pub contains-bore-requires : goal.contains-bore-requires
contains-bore-requires c = record { n_lt_set_bits = here_place c.args.nesting.bore_set c.requires }

pub is_inside-requires-clause-column_lt_width : goal.is_inside-requires-clause-column_lt_width
is_inside-requires-clause-column_lt_width c = omega (arith, here-within c.args.nesting.bore_set c.requires)

pub is_inside-requires-clause-row_lt_height : goal.is_inside-requires-clause-row_lt_height
is_inside-requires-clause-row_lt_height c = omega (arith, here-within c.args.nesting.bore_set c.requires)

pub overflow_add-result : goal.overflow_add-result
overflow_add-result c = omega (arith, here-few c.args.nesting.bore_set c.requires)

pub overflow_sub-result : goal.overflow_sub-result
overflow_sub-result c =
    omega (arith, crossed-less c.args.nesting.bore_set c.requires c.is_inside.ensures c.contains-bore.ensures c.if-is_inside-bore.false)

pub returns-then-is_inside-bore : goal.returns-then-is_inside-bore
returns-then-is_inside-bore c =
    crossed-more c.args.nesting.bore_set c.requires c.is_inside.ensures c.contains-bore.ensures c.if-is_inside-bore.true

pub returns-else-is_inside-bore : goal.returns-else-is_inside-bore
returns-else-is_inside-bore c =
    omega (arith, crossed-less c.args.nesting.bore_set c.requires c.is_inside.ensures c.contains-bore.ensures c.if-is_inside-bore.false)
