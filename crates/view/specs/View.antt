-- The layer view: "a record that refers to the lent bitmap with its width and height, giving one sample at a time".
use Rattle.std.specs.Prelude.{Bool, false, ◌&&◌, [], ℕ, ltb, Option, Some, None, Result, Ok, Err}
use Rattle.grid.specs.Layer.{Layer, layer_of, size_of, sample}
use Rattle.grid.specs.Questions.{first_no, if_all_yes, layer_questions, number_of}
use Rattle.grid.specs.declared.refusal.Refused.{Refused}
use Rattle.view.specs.declared.viewing.View.{View}
use Rattle.view.specs.declared.viewing.Sampled.{Sampled}

-- the number and the place of a refusal, both 0 where there is none
abbrev pub number_in : Option Refused → ℕ
number_in None = 0
number_in (Some e) = number_of e.question

abbrev pub place_in : Option Refused → ℕ
place_in None = 0
place_in (Some e) = e.place

-- what a record shows: the layer that it refers to, and the number and place of the refused making, both 0 where it was accepted
pub record Shown : Type 0 where
  pub layer : Layer
  pub number : ℕ
  pub place : ℕ

abbrev pub shown : View → Shown
shown v =
    record { layer = layer_of (size_of v.width v.height) v.bitmap.now; number = number_in v.refused; place = place_in v.refused }

-- "Making it puts 1 to 4"; "A refused making gives the number, the place and a record of width and height 0 over an empty part."
unfoldable pub view_of : Layer → Shown
view_of L =
    if_all_yes (first_no (layer_questions L))
    (λ q place. record { layer = layer_of (size_of 0 0) []; number = number_of q; place = place })
    (record { layer = L; number = 0; place = 0 })

-- "a sample off the grid reads as outside"
unfoldable pub sample_or_outside : Layer → ℕ → ℕ → Bool
sample_or_outside L c r = ltb c L.size.width && ltb r L.size.height && sample L c r

-- the paper's number and place of an answer, and its sample
abbrev pub outcome : Result Bool Refused → Sampled
outcome (Ok inside) = record { number = 0; place = 0; inside = inside }
outcome (Err e) = record { number = number_of e.question; place = e.place; inside = false }

-- a sample of a view that is made for it: the refusal of the making and no sample, else the sample
unfoldable pub sample_of : Layer → ℕ → ℕ → Sampled
sample_of L c r =
    if_all_yes (first_no (layer_questions L))
    (λ q place. record { number = number_of q; place = place; inside = false })
    (record { number = 0; place = 0; inside = sample_or_outside L c r })
