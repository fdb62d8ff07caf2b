-- `put_sheet` meets its contract: the size command, the contours and the end, stored one after the other. `opened` is the first of them.
use mathlib.Core.Path.{ap, ◌∙◌}
use native.Mathlib.Omega.{arith}
use lib.Seq.{sets}
use Rattle.grid.specs.Plain.{plain}
use Rattle.sheet.specs.Commands.{size_command, end_command}
use Rattle.sheet.specs.Written.{all_contours, sheet_of}
use Rattle.sheet.proofs.Stored.{stored-length, sets-three}
use Rattle.sheet.proofs.Counted.{sheet-parts}
use Rattle.sheet.proofs.write.put_sheet.Goals as goal

pub put_bytes-requires : goal.put_bytes-requires
put_bytes-requires c =
    let a = c.args in
    rw c.size_command.ensures (omega (arith, c.requires.room, sheet-parts (plain a.contours.layer) a.table.now))

pub put_contours-end-requires-clause-room : goal.put_contours-end-requires-clause-room
put_contours-end-requires-clause-room c =
    let a = c.args in
    let L = plain a.contours.layer in
    let opened = c.put_bytes.ensures ∙ ap (sets a.sheet.now 0) c.size_command.ensures in
    let same = stored-length a.sheet.now 0 (size_command a.contours.layer.size) opened in
    omega (arith, c.requires.room, sheet-parts L a.table.now, same)

pub put_bytes-requires-2 : goal.put_bytes-requires-2
put_bytes-requires-2 c =
    let a = c.args in
    let L = plain a.contours.layer in
    let put = c.put_contours-end.ensures in
    let opened = c.put_bytes.ensures ∙ ap (sets a.sheet.now 0) c.size_command.ensures in
    let same = stored-length a.sheet.now 0 (size_command a.contours.layer.size) opened in
    let still = stored-length _ 5 (all_contours L a.table.now) put.bytes in
    omega (arith, c.requires.room, sheet-parts L a.table.now, put.after, same, still)

pub returns : goal.returns
unfolding sheet_of
returns c =
    let a = c.args in
    let put = c.put_contours-end.ensures in
    let opened = c.put_bytes.ensures ∙ ap (sets a.sheet.now 0) c.size_command.ensures in
    sets-three (size_command a.contours.layer.size) (all_contours (plain a.contours.layer) a.table.now) end_command a.sheet.now 0 5 _
    opened put.bytes c.put_bytes-2.ensures (omega arith) put.after
