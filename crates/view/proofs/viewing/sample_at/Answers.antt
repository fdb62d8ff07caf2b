-- `sample_at` meets its contract: what the view gives is the layer's sample.
use Rattle.view.proofs.Views.{made-gives, refused-gives}
use Rattle.view.proofs.viewing.sample_at.Goals as goal

pub returns-in-None : goal.returns-in-None
returns-in-None c = made-gives _ _ _ c.make_view-view.ensures c.in-None.is c.sample.ensures

pub returns-in-Some : goal.returns-in-Some
returns-in-Some c = refused-gives _ _ _ c.make_view-view.ensures c.in-Some.is
