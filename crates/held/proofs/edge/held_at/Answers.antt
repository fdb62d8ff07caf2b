-- `held_at` meets its contract.
use mathlib.Core.Path.{◌≡◌, sym, ap, ◌∙◌}
use Rattle.grid.specs.Plain.{plain}
use Rattle.chord.specs.Runs.{crosses_run}
use Rattle.table.specs.Vertices.{offset_at}
use Rattle.table.proofs.Lent.{has-entry}
use Rattle.drawn.specs.Neighbours.{next_kept}
use Rattle.drawn.specs.Drawn.{vertex, edge_crosses}
use Rattle.drawn.proofs.Gaps.{kept-not-removed}
use Rattle.drawn.proofs.Runs.{gap-run}
use Rattle.held.proofs.edge.held_at.Goals as goal

pub kept_after-end-requires : goal.kept_after-end-requires
kept_after-end-requires c =
    let a = c.args in
    record { lent_at = c.requires.lent_at; not_removed = kept-not-removed (plain a.layer) a.table.now a.e c.requires.kept }

pub vertex_at-p-requires : goal.vertex_at-p-requires
vertex_at-p-requires c = has-entry c.requires.lent_at

pub vertex_at-q-requires : goal.vertex_at-q-requires
vertex_at-q-requires c =
    let given = c.requires.lent_at in
    has-entry (record { sound = c.args.layer.sound; exact = given.exact; stick = c.kept_after-end.ensures.stick })

pub crosses_run-requires : goal.crosses_run-requires
crosses_run-requires c =
    let given = c.requires.lent_at in
    record { sound = c.args.layer.sound; p_near = c.vertex_at-p.ensures.near; q_near = c.vertex_at-q.ensures.near; stick = given.stick }

pub returns : goal.returns
unfolding edge_crosses offset_at
returns c =
    let a = c.args in
    let L = plain a.layer in
    let t = a.table.now in
    let last = next_kept L t a.e in
    let end = c.kept_after-end.ensures in
    let p : c.vertex_at-p.result ≡ vertex L t a.e = c.vertex_at-p.ensures.value in
    let q : c.vertex_at-q.result ≡ vertex L t last = c.vertex_at-q.ensures.value ∙ ap (vertex L t) end.kept in
    c.crosses_run.ensures ∙ (λ i. crosses_run L (p i) (q i) a.e (end.gap i))
    ∙ sym (gap-run L t (vertex L t a.e) (vertex L t last) a.e)
