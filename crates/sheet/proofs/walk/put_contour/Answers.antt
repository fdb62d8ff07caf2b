-- `put_contour` meets its contract. The bytes of the command, and those of the vertices after it, are the contour's.
use mathlib.Core.Path.{ap, ◌∙◌}
use Prim.Native.Nat.{◌+◌}
use native.Mathlib.Omega.{arith}
use lib.Seq.{sets}
use Rattle.grid.specs.Plain.{plain}
use Rattle.sheet.specs.Commands.{contour_command}
use Rattle.sheet.specs.Written.{contour_vertices, contour_bytes}
use Rattle.sheet.proofs.Stored.{sets-two, stored-length}
use Rattle.sheet.proofs.walk.put_contour.Goals as goal

pub put_bytes-requires : goal.put_bytes-requires
unfolding contour_bytes
put_bytes-requires c = rw c.contour_command.ensures (omega (arith, c.requires.room))

pub put_vertices-requires-clause-room : goal.put_vertices-requires-clause-room
unfolding contour_bytes
put_vertices-requires-clause-room c =
    let a = c.args in
    let opened = c.put_bytes.ensures ∙ ap (sets a.sheet.now a.at) c.contour_command.ensures in
    omega (arith, c.requires.room, stored-length a.sheet.now a.at (contour_command a.first) opened)

pub returns : goal.returns
unfolding contour_bytes
returns c =
    let vertices = c.put_vertices.ensures in
    let a = c.args in
    let l = contour_vertices (plain a.layer) a.table.now a.first in
    let opened = c.put_bytes.ensures ∙ ap (sets a.sheet.now a.at) c.contour_command.ensures in
    record {
      bytes = sets-two (contour_command a.first) l a.sheet.now a.at (a.at + 6) opened vertices.bytes (omega arith);
      after = omega (arith, vertices.after);
    }
