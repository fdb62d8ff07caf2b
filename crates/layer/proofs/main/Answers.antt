-- What is written is a part of the output, since no answer is longer than it.
use Rattle.std.proofs.Common.{take, replicate, sym, length-take-le}
use lib.Dec.{lit≤}
use Rattle.slicing.specs.Slice.{answer_limit}
use Rattle.slicing.proofs.Accepting.{answer-within}
use Rattle.layer.proofs.main.Goals as goal

pub slice_bounds-output-end : goal.slice_bounds-output-end
slice_bounds-output-end c =
    let slice = c.slice-n in
    let input = take c.in_ok-got.got c.read_full.new.place in
    answer-within slice.result (replicate answer_limit 0) slice.new.output input slice.ensures (lit≤ tt)

pub slice_bounds-write_all-end : goal.slice_bounds-write_all-end
slice_bounds-write_all-end c =
    let slice = c.slice-n in
    let input = take c.in_ok-got.got c.read_full.new.place in
    sym (length-take-le slice.result slice.new.output (answer-within slice.result (replicate answer_limit 0) slice.new.output input slice.ensures (lit≤ tt)))
