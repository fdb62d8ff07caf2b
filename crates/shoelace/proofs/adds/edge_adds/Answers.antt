-- `edge_adds` meets its contract: the edge ends at the next kept vertex.
use mathlib.Core.Path.{◌≡◌, ap, ◌∙◌}
use Rattle.arith.proofs.Bounds.{sized, exact, within}
use Rattle.grid.specs.Plain.{plain}
use Rattle.grid.specs.declared.edge.Edge.{Edge}
use Rattle.table.specs.Vertices.{offset_at}
use Rattle.table.proofs.Lent.{has-entry}
use Rattle.drawn.specs.Neighbours.{next_kept}
use Rattle.drawn.specs.Drawn.{vertex}
use Rattle.drawn.proofs.Gaps.{kept-not-removed}
use Rattle.shoelace.specs.Adds.{cross}
use Rattle.shoelace.proofs.Running.{lent_at}
use Rattle.shoelace.proofs.adds.edge_adds.Goals as goal

pub kept_after-end-requires : goal.kept_after-end-requires
kept_after-end-requires c =
    record { lent_at = lent_at c.requires.held_stick; not_removed = kept-not-removed _ _ _ c.requires.kept }

pub vertex_at-requires : goal.vertex_at-requires
vertex_at-requires c = has-entry (lent_at c.requires.held_stick)

pub vertex_at-requires-2 : goal.vertex_at-requires-2
vertex_at-requires-2 c =
    let all = c.requires.held_stick.accepted in
    has-entry (record { sound = all.sound; exact = all.exact; stick = c.kept_after-end.ensures.stick })

pub returns : goal.returns
unfolding offset_at
returns c =
    let a = c.args in
    let L = plain a.layer in
    let t = a.table.now in
    let p : c.vertex_at.result ≡ vertex L t a.e = c.vertex_at.ensures.value in
    let last : Edge = next_kept L t a.e in
    let q : c.vertex_at-2.result ≡ vertex L t last = c.vertex_at-2.ensures.value ∙ ap (vertex L t) {y = last} c.kept_after-end.ensures.kept in
    let small = c.cross_of.ensures.result_bound in
    record { value = exact (search sized depth 9) tt ∙ c.cross_of.ensures.value ∙ (λ i. cross (p i) (q i)); result_bound = within (search sized depth 9) tt }
