-- `held_contour` meets its contract. The invariant: the kept vertices counted so far and those that are left are all of them, and what is left
-- decides whether all drawn edges cross. `letter-kept` and `letter-none` are what the letter of a vertex says of it.
use mathlib.Core.Path.{◌≡◌, refl, sym, ap, ◌∙◌}
use mathlib.Core.Bool.{true, false, not}
use mathlib.Core.List.{List}
use Prim.Native.Nat.{ℕ, ◌<◌}
use native.Mathlib.Omega.{arith}
use borrow.Author.Tests.{eq-eqb, ne_eqb}
use lib.ListN.{get_or}
use Rattle.grid.specs.Layer.{Layer}
use Rattle.contour.specs.Remaining.{sticks_left}
use Rattle.table.specs.Vertices.{kept_at}
use Rattle.held.proofs.Asking.{done-kept, done-none, counted-most}
use Rattle.reading.specs.Reading.{described}
use Rattle.reading.specs.Places.{VertexExpected, VerticesStand}
use Rattle.reading.specs.declared.holding.Vertex.{Vertex}
use Rattle.reading.proofs.Vertices.{kept_is}
use Rattle.reading.proofs.Asking.{at-start, at-vertex, at-no, at_turn, at-held, at-few}
use Rattle.reading.proofs.holding.held_contour.Goals as goal

module _ {L : Layer} {s : List ℕ} {first v : Vertex} (stand : VerticesStand L s first) (x : VertexExpected L first v)
    (bytes : (k : ℕ) → get_or s k 0 < 256) where
  letter-kept : ¬ (get_or s v.place 0 ≡ 0x52) → kept_at L (described L s) v.stick ≡ true
  letter-kept other = kept_is stand x bytes ∙ ap not (ne_eqb _ _ other)

  letter-none : get_or s v.place 0 ≡ 0x52 → kept_at L (described L s) v.stick ≡ false
  letter-none letter = kept_is stand x bytes ∙ ap not (eq-eqb _ _ letter)

pub loop-stick-init : goal.loop-stick-init
loop-stick-init c =
    at-start c.requires (ap sticks_left c.into_iter-stick-iterator.ensures.into_iter_gives ∙ c.sticks_of-stick-items.ensures)

pub held_edge-requires-clause-vertex_expected : goal.held_edge-requires-clause-vertex_expected
held_edge-requires-clause-vertex_expected c = at-vertex c.loop-stick.invariant c.args.layer.sound c.in-Some.ensures.steps

pub held_edge-requires-clause-kept : goal.held_edge-requires-clause-kept
held_edge-requires-clause-kept c =
    let x = at-vertex c.loop-stick.invariant c.args.layer.sound c.in-Some.ensures.steps in
    letter-kept c.requires x (λ k. (c.type_inv.sheet k).fits) c.if-sheet-v-ne82.true

pub returns-then-not-held_edge : goal.returns-then-not-held_edge
returns-then-not-held_edge c =
    let x = at-vertex c.loop-stick.invariant c.args.layer.sound c.in-Some.ensures.steps in
    at-no c.loop-stick.invariant c.args.layer.sound c.in-Some.ensures.steps
    (letter-kept c.requires x (λ k. (c.type_inv.sheet k).fits) c.if-sheet-v-ne82.true) (sym c.held_edge.ensures ∙ c.if-not-held_edge.true)

pub overflow_add-kept : goal.overflow_add-kept
overflow_add-kept c = omega (arith, counted-most c.loop-stick.invariant.counted c.args.layer.sound c.in-Some.ensures.steps)

pub loop-stick-preserved-then-sheet-v-ne82 : goal.loop-stick-preserved-then-sheet-v-ne82
loop-stick-preserved-then-sheet-v-ne82 c =
    let x = at-vertex c.loop-stick.invariant c.args.layer.sound c.in-Some.ensures.steps in
    at_turn c.loop-stick.invariant c.args.layer.sound c.in-Some.ensures.steps
    (done-kept _ _ _ _ (letter-kept c.requires x (λ k. (c.type_inv.sheet k).fits) c.if-sheet-v-ne82.true)
    (sym c.held_edge.ensures ∙ c.if-not-held_edge.false) refl)

pub loop-stick-preserved : goal.loop-stick-preserved
loop-stick-preserved c =
    let x = at-vertex c.loop-stick.invariant c.args.layer.sound c.in-Some.ensures.steps in
    at_turn c.loop-stick.invariant c.args.layer.sound c.in-Some.ensures.steps
    (done-none _ _ _ _ (letter-none c.requires x (λ k. (c.type_inv.sheet k).fits) c.if-sheet-v-ne82.false) refl)

pub returns-then-kept-ge3 : goal.returns-then-kept-ge3
returns-then-kept-ge3 c = at-held c.loop-stick.invariant c.in-None.ensures.steps.0 c.if-kept-ge3.true

pub returns-else-kept-ge3 : goal.returns-else-kept-ge3
returns-else-kept-ge3 c = at-few c.loop-stick.invariant c.in-None.ensures.steps.0 c.if-kept-ge3.false
