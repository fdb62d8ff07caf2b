-- `leaves_three` meets its contract.
use Rattle.edit.proofs.Redrawn.{not-removed, editable-after}
use Rattle.edit.proofs.edit.leaves_three.Goals as goal

pub kept_after-after-requires-clause-not_removed : goal.kept_after-after-requires-clause-not_removed
kept_after-after-requires-clause-not_removed c = not-removed c.requires

pub kept_after-third-requires-clause-not_removed : goal.kept_after-third-requires-clause-not_removed
kept_after-third-requires-clause-not_removed c = not-removed (editable-after c.requires c.kept_after-after.ensures.kept)
