-- `joined` meets its contract. That the count of passed sticks fits its type: each gap is no longer than there are edges.
use native.Mathlib.Omega.{arith}
use Rattle.table.specs.Vertices.{offset_at}
use Rattle.edit.proofs.Redrawn.{read_at, not-removed, gaps-small, removal-over}
use Rattle.edit.proofs.redraw.joined.Goals as goal

pub kept_before-before-requires-clause-not_removed : goal.kept_before-before-requires-clause-not_removed
kept_before-before-requires-clause-not_removed c = not-removed c.requires

pub kept_after-after-requires-clause-not_removed : goal.kept_after-after-requires-clause-not_removed
kept_after-after-requires-clause-not_removed c = not-removed c.requires

pub vertex_at-requires : goal.vertex_at-requires
vertex_at-requires c = read_at c.requires.accepted _ c.kept_before-before.ensures.stick

pub vertex_at-requires-2 : goal.vertex_at-requires-2
vertex_at-requires-2 c = read_at c.requires.accepted _ c.kept_after-after.ensures.stick

pub overflow_add-result : goal.overflow_add-result
overflow_add-result c =
    omega (arith, c.kept_before-before.ensures.gap, gaps-small c.requires)

pub overflow_add-result-2 : goal.overflow_add-result-2
overflow_add-result-2 c =
    omega (arith, c.kept_before-before.ensures.gap, c.kept_after-after.ensures.gap, gaps-small c.requires)

pub returns : goal.returns
unfolding offset_at
returns c =
    let given = c.requires in
    let before = c.kept_before-before.ensures in
    let after = c.kept_after-after.ensures in record {
      value = removal-over given c.vertex_at.ensures.value c.vertex_at-2.ensures.value before.kept after.kept before.gap after.gap;
      chord_on = record {
        sound = given.accepted.sound;
        p_near = c.vertex_at.ensures.near;
        q_near = c.vertex_at-2.ensures.near;
        stick = before.stick;
      };
    }
