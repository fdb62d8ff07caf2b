-- `make_view` meets its contract: by the answer of the questions.
use Rattle.view.proofs.Views.{view-is}
use Rattle.view.proofs.viewing.make_view.Goals as goal

pub returns-in-Ok : goal.returns-in-Ok
returns-in-Ok c = view-is _ _ c.in-Ok.ensures

pub returns-in-Err : goal.returns-in-Err
returns-in-Err c = view-is _ _ c.in-Err.ensures
