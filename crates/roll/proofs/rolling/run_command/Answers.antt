-- `run_command` meets its contract.
use mathlib.Core.Path.{sym}
use Rattle.grid.specs.Plain.{plain}
use Rattle.roll.proofs.Forms.{read-as}
use Rattle.roll.proofs.Steps.{formed_below, slide-here, removal-here, pin-here, step_is}
use Rattle.roll.proofs.rolling.run_command.Goals as goal

pub command_at-requires : goal.command_at-requires
command_at-requires c = formed_below c.args.roll.now c.args.at c.requires.formed

pub returns-in_default : goal.returns-in_default
returns-in_default c =
    let a = c.args in
    rw c.at.ensures
    (step_is (plain a.layer) a.t a.roll.now a.at a.table.now (sym c.in_default.ensures))

pub returns-in-Slide : goal.returns-in-Slide
returns-in-Slide c =
    let a = c.args in
    let here = read-as c.in-Some.ensures c.in-Slide.is in
    rw (c.step_on.ensures, c.width.ensures, c.in-Slide.is)
    (slide-here (plain a.layer) a.t a.roll.now a.at a.table.now here
    c.slide.ensures.value c.slide.ensures.table_after)

pub returns-in-Remove : goal.returns-in-Remove
returns-in-Remove c =
    let a = c.args in
    let here = read-as c.in-Some.ensures c.in-Remove.is in
    rw (c.step_on-in-Remove.ensures, c.width.ensures, c.in-Remove.is)
    (removal-here (plain a.layer) a.t a.roll.now a.at a.table.now here
    c.remove.ensures.value c.remove.ensures.table_after)

pub returns-in-Pin : goal.returns-in-Pin
returns-in-Pin c =
    let a = c.args in
    let here = read-as c.in-Some.ensures c.in-Pin.is in
    rw (c.step_on-in-Pin.ensures, c.width.ensures, c.in-Pin.is)
    (pin-here (plain a.layer) a.t a.roll.now a.at a.table.now here
    (c.pin.ensures.answered a.layer.bitmap.now) (c.pin.ensures.stored a.layer.bitmap.now))

pub returns-in-End : goal.returns-in-End
returns-in-End c =
    let a = c.args in
    step_is (plain a.layer) a.t a.roll.now a.at a.table.now (read-as c.in-Some.ensures c.in-End.is)
