-- `next_first` meets its contract. The invariant: no number from `from` on and before the word is in the set.
use mathlib.Core.Path.{◌∙◌}
use Prim.Native.Nat.{◌/◌, ◌%◌, ◌<◌}
use native.Mathlib.Omega.{arith}
use Rattle.bitset.proofs.Sets.{search-first, search-start, search-here, search-turn, search-last, search-none}
use Rattle.bitset.proofs.Words.{lowest-none, lowest-within, lowest-some}
use Rattle.bitset.proofs.set.next_first.Goals as goal

pub returns-then-from-end : goal.returns-then-from-end
returns-then-from-end c = search-none c.args.set.now c.if-from-end.true

pub returns-then-left-ne0 : goal.returns-then-left-ne0
returns-then-left-ne0 c =
    let a = c.args in
    let range : a.from < a.end = omega arith in
    let z = c.lowest_bit.ensures in
    let fits = c.fits-set (a.from / 64) in
    let low = lowest-some _ (a.from % 64) _ fits z.value z.upper_bound in
    let within = lowest-within _ (a.from % 64) _ fits z.value z.upper_bound in
    c.below.ensures ∙ search-first a.set.now range low (omega arith) within

pub loop-word-init : goal.loop-word-init
loop-word-init c =
    let a = c.args in
    let range : a.from < a.end = omega arith in
    search-start a.set.now range (lowest-none _ (a.from % 64) (omega arith) c.if-left-ne0.false) c.requires.end_le_set_bits (omega arith)

pub returns-then-x-ne0 : goal.returns-then-x-ne0
returns-then-x-ne0 c =
    c.below-then-x-ne0.ensures ∙ search-here c.loop-word.invariant c.requires.from_le_end (c.lowest_bit-then-x-ne0.ensures.value, c.lowest_bit-then-x-ne0.ensures.upper_bound)

pub loop-word-preserved : goal.loop-word-preserved
loop-word-preserved c =
    search-turn c.loop-word.invariant c.requires.end_le_set_bits (omega arith) c.if-x-ne0.false

pub returns : goal.returns
returns c = search-last c.loop-word.invariant c.requires.from_le_end (omega arith)
