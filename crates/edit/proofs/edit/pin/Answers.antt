-- `pin` meets its contract.
use mathlib.Core.Bool.{not}
use mathlib.Core.Path.{refl, ◌∙◌, ap}
use Rattle.grid.specs.Layer.{layer_of}
use Rattle.grid.specs.declared.edge.Edge.{Edge}
use Rattle.table.specs.Vertices.{offset_at}
use Rattle.table.specs.Stores.{pinned}
use Rattle.edit.proofs.Asked.{not-kept, is-kept, pin-none, pin-done}
use Rattle.edit.proofs.edit.pin.Goals as goal

pub returns-then-not-carries_kept : goal.returns-then-not-carries_kept
returns-then-not-carries_kept c =
    let a = c.args in
    let told = c.carries_kept.ensures in record {
      answered = λ bitmap.
          let L = layer_of a.size bitmap in
          rw c.at.ensures (pin-none L a.table.now a.place a.stick (not-kept L a.table.now a.stick told (ap not c.if-not-carries_kept.true)));
      stored = λ bitmap. refl;
    }

pub returns : goal.returns
unfolding offset_at
returns c =
    let a = c.args in record {
      answered = λ bitmap.
          let L = layer_of a.size bitmap in
          pin-done L a.table.now a.place a.stick
          (is-kept L a.table.now a.stick c.carries_kept.ensures (ap not c.if-not-carries_kept.false));
      stored = λ bitmap.
          c.pin.ensures ∙ ap (λ (e : Edge). pinned (layer_of a.size bitmap) a.table.now e) c.edge_named.ensures;
    }
