-- The two cases of an exported function: too few figures, or the call and its report stored. Every function's proof cites these.
use mathlib.Core.Path.{◌≡◌}
use mathlib.Core.List.{List}
use Prim.Native.Nat.{ℕ, ◌<◌}
use borrow.Author.Tests.{lt-ltb, le-ltb}
use lib.ListN.{length}
use Rattle.grid.specs.Questions.{number_of}
use Rattle.grid.specs.declared.refusal.Refusal.TheVariants.{ShortOutput}
use Rattle.report.specs.declared.report.Report.{Report}
use Rattle.report.specs.Results.{Result, ReportStored}
use Rattle.puzhenim.specs.Face.{face}

pub short-face : {B : Type 0} {n : ℕ} (figures : List ℕ) (found : B) (result : Result B) → n ≡ number_of ShortOutput → length figures < 4
    → record { number = n; buffers = found; figures = figures } ≡ face figures found result
unfolding face
short-face figures found result is h = rw (lt-ltb (length figures) 4 h, is)

pub stored-face : {B : Type 0} {after : B} {result : Result B} {r : Report} {n : ℕ} {figures left : List ℕ} (found : B)
    → ReportStored r figures n left
    → record { report = r; buffers = after } ≡ result
    → record { number = n; buffers = after; figures = left } ≡ face figures found result
unfolding face
stored-face {figures} found put told = rw (le-ltb (length figures) 4 put.enough, ← told, put.number, put.stored)
