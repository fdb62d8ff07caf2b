-- `slid_into` meets its contract.
use Rattle.table.specs.Vertices.{offset_at}
use Rattle.edit.proofs.Redrawn.{read_at, not-removed, near-at, inside_of, slide-into}
use Rattle.edit.proofs.redraw.slid_into.Goals as goal

pub kept_before-before-requires-clause-not_removed : goal.kept_before-before-requires-clause-not_removed
kept_before-before-requires-clause-not_removed c = not-removed c.requires.at

pub vertex_at-requires : goal.vertex_at-requires
vertex_at-requires c = read_at c.requires.at.accepted _ c.kept_before-before.ensures.stick

pub position_of-requires : goal.position_of-requires
position_of-requires c = near-at c.requires.at

pub returns : goal.returns
unfolding offset_at
returns c =
    let given = c.requires in
    record {
      value = slide-into given.at (inside_of _ given.offset) c.vertex_at.ensures.value c.position_of.ensures.value
          c.kept_before-before.ensures.kept c.kept_before-before.ensures.gap;
      chord_on = record { sound = given.at.accepted.sound; p_near = c.vertex_at.ensures.near; q_near = c.position_of.ensures.near; stick = c.kept_before-before.ensures.stick };
    }
