-- Counts: "the inside samples and the sticks, by counting ones in the row bytes, and the contours".
use Rattle.std.specs.Prelude.{Result, Ok, Err, ℕ}
use Rattle.grid.specs.Layer.{Layer}
use Rattle.mask.specs.Counts.{inside_count, stick_count}
use Rattle.grid.specs.Questions.{first_no, if_all_yes, number_of}
use Rattle.grid.specs.declared.refusal.Refused.{Refused}
use Rattle.contour.specs.Contours.{contour_count}
use Rattle.table.specs.Entries.{length_questions}
use Rattle.trace.specs.declared.counting.Counted.{Counted}

-- the number of a refusal and its place, both 0 where the call is done, and its figures: "All other figures of a refused call are 0."
pub record Figures : Type 0 where
  pub refusal : ℕ
  pub place : ℕ
  pub inside : ℕ
  pub sticks : ℕ
  pub contours : ℕ

-- Counts of a layer, lent a table of n entries: "Counts and Trace skip 6 and 7"
unfoldable pub counts_of : Layer → ℕ → Figures
counts_of L n =
    if_all_yes (first_no (length_questions L n))
    (λ q place. record { refusal = number_of q; place = place; inside = 0; sticks = 0; contours = 0 })
    (record { refusal = 0; place = 0; inside = inside_count L; sticks = stick_count L; contours = contour_count L })

-- what an answer says
abbrev pub figures_of : Result Counted Refused → Figures
figures_of (Ok counts) =
    record { refusal = 0; place = 0; inside = counts.inside; sticks = counts.sticks; contours = counts.contours }
figures_of (Err e) = record { refusal = number_of e.question; place = e.place; inside = 0; sticks = 0; contours = 0 }
