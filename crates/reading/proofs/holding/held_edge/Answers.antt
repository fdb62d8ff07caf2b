-- `held_edge` meets its contract. Both ends lie where the described table has them, so the chord that the code tests is the drawn edge, and
-- the run that it tests is the gap.
use mathlib.Core.Path.{◌≡◌, sym, ap, ◌∙◌}
use Prim.Native.Nat.{ℕ, ◌<◌}
use lib.ListN.{get_or}
use Rattle.grid.specs.Plain.{plain}
use Rattle.chord.specs.Points.{position}
use Rattle.chord.specs.Runs.{crosses_run}
use Rattle.drawn.specs.Neighbours.{next_kept}
use Rattle.drawn.specs.Drawn.{vertex, edge_crosses}
use Rattle.drawn.proofs.Gaps.{kept-not-removed}
use Rattle.drawn.proofs.Runs.{gap-run}
use Rattle.reading.specs.Reading.{described}
use Rattle.reading.proofs.Vertices.{vertex-stick, vertex-near, offset-is}
use Rattle.reading.proofs.holding.held_edge.Goals as goal

pub kept_after-end-requires-clause-not_removed : goal.kept_after-end-requires-clause-not_removed
kept_after-end-requires-clause-not_removed c =
    let a = c.args in
    let L = plain a.layer in
    kept-not-removed L (described L a.sheet.now) a.v.stick c.requires.kept

pub position_from-p-requires-clause-near_edge : goal.position_from-p-requires-clause-near_edge
position_from-p-requires-clause-near_edge c = let given = c.requires in vertex-near given.vertices_stand given.vertex_expected

pub position_from-q-requires-clause-near_edge : goal.position_from-q-requires-clause-near_edge
position_from-q-requires-clause-near_edge c = vertex-near c.requires.vertices_stand c.kept_after-end.ensures.expected

pub crosses_run-requires : goal.crosses_run-requires
crosses_run-requires c =
    let given = c.requires in
    record {
      sound = c.args.layer.sound;
      p_near = c.position_from-p.ensures.near;
      q_near = c.position_from-q.ensures.near;
      stick = vertex-stick given.vertices_stand.sound given.vertex_expected;
    }

pub returns : goal.returns
unfolding edge_crosses
returns c =
    let a = c.args in
    let given = c.requires in
    let L = plain a.layer in
    let s = a.sheet.now in
    let t = described L s in
    let bytes : (k : ℕ) → get_or s k 0 < 256 = λ k. (c.type_inv.sheet k).fits in
    let e = a.v.stick in
    let end = c.kept_after-end.ensures in
    let last = next_kept L t e in
    let p : c.position_from-p.result ≡ vertex L t e =
    c.position_from-p.ensures.value ∙ ap (position e) (sym (offset-is given.vertices_stand given.vertex_expected bytes)) in
    let q : c.position_from-q.result ≡ vertex L t last =
    c.position_from-q.ensures.value
    ∙ ap (position c.kept_after-end.result.vertex.stick) (sym (offset-is given.vertices_stand end.expected bytes))
    ∙ ap (vertex L t) end.kept in
    c.crosses_run.ensures ∙ (λ i. crosses_run L (p i) (q i) e (end.gap i)) ∙ sym (gap-run L t (vertex L t e) (vertex L t last) e)
