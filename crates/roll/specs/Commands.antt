-- The commands of an edit roll, and question 8: "S (hex 53) and a stick and an offset byte slides; X (hex 58) and a stick removes; E (hex
-- 45) ends the roll. A stick is kind (1 byte), column, row (16 bits each, low byte first)." "A roll gains P (hex 50) and a stick, which pins a
-- kept vertex" (Note 5).
use Rattle.std.specs.Prelude.{cond, List, Option, Some, None, ℕ, zero, suc, ◌+◌, ◌*◌, eqb, leb, length, get_or}
use Rattle.grid.specs.declared.refusal.Refusal.TheVariants.{Malformed}
use Rattle.grid.specs.Questions.{Answer, No}
use Rattle.edit.specs.Edits.{Named, ask_at}
use Rattle.roll.specs.declared.command.Command.{Command as declared}
use Rattle.roll.specs.declared.command.Command.TheVariants.{Slide, Remove, Pin, End}

pub data Command : Type 0 where
  slides : Named → ℕ → Command
  removes : Named → Command
  pins : Named → Command
  ends : Command
  wrong : Command

-- "16 bits each, low byte first"
abbrev pub two_bytes : List ℕ → ℕ → ℕ
two_bytes r i = get_or r i 0 + 256 * get_or r (i + 1) 0

abbrev pub named_at : List ℕ → ℕ → Named
named_at r i = record { kind = get_or r i 0; column = two_bytes r (i + 1); row = two_bytes r (i + 3) }

-- how many bytes a command has
abbrev pub width : Command → ℕ
width (slides stick offset) = 7
width (removes stick) = 6
width (pins stick) = 6
width ends = 1
width wrong = 0

-- a command, if the roll has so many bytes from i on
abbrev pub whole : List ℕ → ℕ → Command → Command
whole r i c = cond (leb (i + width c) (length r)) c wrong

-- the command that starts at i: by its first byte, "wrong" if that is no command's or the command is cut short
abbrev pub command_at : List ℕ → ℕ → Command
command_at r i =
    cond (eqb (get_or r i 0) 0x53) (whole r i (slides (named_at r (i + 1)) (get_or r (i + 6) 0)))
    (cond (eqb (get_or r i 0) 0x58) (whole r i (removes (named_at r (i + 1))))
    (cond (eqb (get_or r i 0) 0x50) (whole r i (pins (named_at r (i + 1))))
    (cond (eqb (get_or r i 0) 0x45) (whole r i ends)
    wrong)))

-- "8. Is the roll or sheet well formed to its last byte? (start of the first command that is wrong, cut short, missing or extra)": the n
-- commands from i on at most; each has a byte or more, so there are no more of them than bytes
unfoldable pub well_formed : List ℕ → ℕ → ℕ → Answer
well_formed r zero i = No Malformed i
well_formed r (suc n) i = elim (command_at r i) [
  | slides stick offset ↦ well_formed r n (i + 7)
  | removes stick ↦ well_formed r n (i + 6)
  | pins stick ↦ well_formed r n (i + 6)
  | ends ↦ ask_at (i + 1) Malformed (eqb (i + 1) (length r))
  | wrong ↦ No Malformed i
]

unfoldable pub roll_answer : List ℕ → Answer
unfolding well_formed
roll_answer r = well_formed r (length r + 1) 0

-- question 8 of the roll from byte i on
unfoldable pub formed_from : List ℕ → ℕ → Answer
unfolding well_formed
formed_from r i = well_formed r (length r + 1) i

-- a command as the code reads it, the enum of src/command.rt
abbrev pub written : declared → Command
written (Slide stick offset) = slides stick offset
written (Remove stick) = removes stick
written (Pin stick) = pins stick
written End = ends

-- "wrong" where it reads none
abbrev pub command_of : Option declared → Command
command_of None = wrong
command_of (Some c) = written c
