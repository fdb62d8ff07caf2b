-- `slid_out` meets its contract.
use Rattle.table.specs.Vertices.{offset_at}
use Rattle.edit.proofs.Redrawn.{read_at, not-removed, near-at, inside_of, slide-out}
use Rattle.edit.proofs.redraw.slid_out.Goals as goal

pub kept_after-after-requires-clause-not_removed : goal.kept_after-after-requires-clause-not_removed
kept_after-after-requires-clause-not_removed c = not-removed c.requires.at

pub position_of-requires : goal.position_of-requires
position_of-requires c = near-at c.requires.at

pub vertex_at-requires : goal.vertex_at-requires
vertex_at-requires c = read_at c.requires.at.accepted _ c.kept_after-after.ensures.stick

pub returns : goal.returns
unfolding offset_at
returns c =
    let given = c.requires in
    record {
      value = slide-out given.at (inside_of _ given.offset) c.position_of.ensures.value c.vertex_at.ensures.value
          c.kept_after-after.ensures.kept c.kept_after-after.ensures.gap;
      chord_on = record { sound = given.at.accepted.sound; p_near = c.position_of.ensures.near; q_near = c.vertex_at.ensures.near; stick = given.at.drawn.stick };
    }
