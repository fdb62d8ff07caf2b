-- `slice` meets its contract. Each way out cites the law of Answers for its case: no command, sides that do not fit, or a layer.
use mathlib.Core.Path.{sym, ap, ◌∙◌}
use mathlib.Core.List.{List}
use Prim.Native.Nat.{ℕ}
use Rattle.grid.specs.Layer.{layer_of, size_of}
use Rattle.slicing.specs.Slice.{layer_bytes, stored}
use Rattle.slicing.proofs.Answers.{after-command, no-command, bad-sides, good-sides}
use Rattle.slicing.proofs.call.slice.Goals as goal

pub returns-then-not-has_command : goal.returns-then-not-has_command
returns-then-not-has_command c =
    let a = c.args in
    let none = sym c.has_command.ensures ∙ c.if-not-has_command.true in
    c.refuse.ensures ∙ ap (stored a.output.now) (sym (no-command a.input.now none))

pub returns-then-not-sides_fit : goal.returns-then-not-sides_fit
returns-then-not-sides_fit c =
    let command = sym c.has_command.ensures ∙ c.if-not-has_command.false in
    let bad = sym c.sides_fit.ensures ∙ c.if-not-sides_fit.true in
    let a = c.args in
    let refused =
    bad-sides a.input.now c.number_at-w.result c.number_at-h.result command c.number_at-w.ensures c.number_at-h.ensures bad in
    c.refuse-then-not-sides_fit.ensures ∙ ap (stored a.output.now) (sym refused)

pub returns : goal.returns
returns c =
    let command = sym c.has_command.ensures ∙ c.if-not-has_command.false in
    let good = sym c.sides_fit.ensures ∙ c.if-not-sides_fit.false in
    let a = c.args in
    let sliced =
    good-sides a.input.now c.number_at-w.result c.number_at-h.result command c.number_at-w.ensures c.number_at-h.ensures good in
    c.slice_layer.ensures
    ∙ ap (λ (s : List ℕ). stored a.output.now (layer_bytes (layer_of (size_of c.number_at-w.result c.number_at-h.result) s)))
    (after-command a.input.now)
    ∙ ap (stored a.output.now) (sym sliced)
