-- `Entry::from` meets its contract. A vertex is told by its number (`entry-encoded`); the numbers between those of vertices are wrong.
use mathlib.Core.Path.{◌≡◌, sym, ◌∙◌, ap}
use Prim.Native.Nat.{◌+◌, ◌%◌}
use native.Mathlib.Omega.{arith}
use Rattle.table.specs.Entries.{entry_of}
use Rattle.table.specs.declared.entry.Entry.TheVariants.{Kept, Removed, Pinned}
use Rattle.table.proofs.Entries.{entry-encoded, entry-past}
use Rattle.table.proofs.entry.EntryFromU16.from.Goals as goal

pub returns-in-0 : goal.returns-in-0
unfolding entry_of
returns-in-0 c = sym (ap entry_of c.in-0.is)

pub returns-in-1-to-255 : goal.returns-in-1-to-255
returns-in-1-to-255 c =
    let is : c.args.n % 256 ≡ c.args.n = omega arith in
    sym (entry-encoded (Kept (c.args.n % 256)) (record { low = omega arith; high = omega arith })) ∙ ap entry_of is

pub returns-in-257-to-511 : goal.returns-in-257-to-511
returns-in-257-to-511 c =
    let is : 256 + c.args.n % 256 ≡ c.args.n = omega arith in
    sym (entry-encoded (Removed (c.args.n % 256)) (record { low = omega arith; high = omega arith })) ∙ ap entry_of is

pub returns-in-513-to-767 : goal.returns-in-513-to-767
returns-in-513-to-767 c =
    let is : 512 + c.args.n % 256 ≡ c.args.n = omega arith in
    sym (entry-encoded (Pinned (c.args.n % 256)) (record { low = omega arith; high = omega arith })) ∙ ap entry_of is

pub returns-in_default : goal.returns-in_default
unfolding entry_of
returns-in_default c = let is : c.args.n ≡ 256 = omega arith in sym (ap entry_of is)

pub returns-in_default-2 : goal.returns-in_default-2
unfolding entry_of
returns-in_default-2 c = let is : c.args.n ≡ 512 = omega arith in sym (ap entry_of is)

pub returns-in_default-3 : goal.returns-in_default-3
returns-in_default-3 c = entry-past c.args.n (omega arith)
