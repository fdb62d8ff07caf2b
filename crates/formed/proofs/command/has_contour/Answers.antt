-- `has_contour` meets its contract: the part of the sheet from i on begins with the command where its bytes stand at i.
use mathlib.Core.Path.{◌≡◌, ◌∙◌}
use Prim.Native.Nat.{◌-◌}
use native.Mathlib.Omega.{arith}
use lib.Dec.{eqb}
use lib.ListN.{length, take, drop, length-drop}
use lib.Seq.{take_all}
use Rattle.std.specs.List.{starts_with}
use Rattle.sheet.specs.Commands.{contour_command}
use Rattle.formed.proofs.Bytes.{contour-bytes, starts-stands}
use Rattle.formed.proofs.command.has_contour.Goals as goal

pub returns : goal.returns
returns c =
    let a = c.args in
    let s = a.sheet.now in
    let part : take (length s - a.i) (drop a.i s) ≡ drop a.i s = take_all (length s - a.i) (drop a.i s) (omega (arith, length-drop a.i s)) in
    c.starts_with.ensures.value
    ∙ (λ k. starts_with eqb (part k) (c.contour_command.ensures k))
    ∙ starts-stands s (contour_command a.f) a.i (contour-bytes a.f)
