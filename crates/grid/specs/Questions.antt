-- The questions put to a call: how a refusal is numbered, how a list of questions is asked, and questions 1 to 4.
use Rattle.std.specs.Prelude.{◌≡◌, Result, Ok, Err, Bool, false, cond, ◌&&◌, ◌||◌, List, [], ◌∷◌, ℕ, ◌-◌, ◌*◌, ◌/◌, ◌%◌, ◌^◌, ◌≤◌, ◌<◌, leb, ltb, eqb, length, get_or}
use Rattle.arith.specs.Ranges.{least}
use Rattle.grid.specs.Layer.{Layer, stride, sample}
use Rattle.grid.specs.declared.layer.Size.{Size}
use Rattle.grid.specs.declared.refusal.Refusal.{Refusal}
use Rattle.grid.specs.declared.refusal.Refused.{Refused}

-- the answer to a question: yes, or no with the question and the place that goes with it
abbrev pub Answer : Type 0
Answer = Result (Unit {0}) Refused

pattern abbrev pub Yes : Answer
Yes = Ok tt

abbrev pub No : Refusal → ℕ → Answer
No q place = Err (record { question = q; place = place })

-- the numbers of the list 'Questions put to a call', and "16, a slide or removal of a pinned vertex, after question 9
-- and before 10" (Note 5)
abbrev pub number_of : Refusal → ℕ
number_of Refusal.BadSides = 1
number_of Refusal.BitmapLength = 2
number_of Refusal.SpareBits = 3
number_of Refusal.BorderInside = 4
number_of Refusal.TableLength = 5
number_of Refusal.WrongEntry = 6
number_of Refusal.NotHeld = 7
number_of Refusal.Malformed = 8
number_of Refusal.NoKeptVertex = 9
number_of Refusal.BadOffset = 10
number_of Refusal.NoCrossing = 11
number_of Refusal.BeyondTolerance = 12
number_of Refusal.TooFewKept = 13
number_of Refusal.ShortOutput = 14
number_of Refusal.SomeRemoved = 15
number_of Refusal.VertexPinned = 16

-- "In this order, those that apply; the first no gives the number, and with it a place."
abbrev pub first_no : List Answer → Answer
first_no [] = Yes
first_no (Yes ∷ later) = first_no later
first_no (Err e ∷ later) = Err e

-- a call's result where every question is answered yes, else its refusal
abbrev pub if_all_yes {ℓ} : {A : Type ℓ} → Answer → (Refusal → ℕ → A) → A → A
if_all_yes Yes refused done = done
if_all_yes (Err e) refused done = refused e.question e.place

-- a question with place 0, answered yes if the test holds
abbrev pub ask : Refusal → Bool → Answer
ask q test = cond test Yes (No q 0)

-- a question asked of the numbers below n, answered no at the lowest that fails
abbrev pub ask_each : Refusal → (ℕ → Bool) → ℕ → Answer
ask_each q fails n = cond (ltb (least fails n) n) (No q (least fails n)) Yes

-- "1. Are W and H in 2 to 1,024? (place 0)"
abbrev pub in_range : ℕ → Bool
in_range n = leb 2 n && leb n 1024

unfoldable pub sides_answer : Size → Answer
sides_answer size = ask Refusal.BadSides (in_range size.width && in_range size.height)

-- "2. Is the bitmap's length exact? (0)"
unfoldable pub length_answer : Layer → Answer
length_answer L = ask Refusal.BitmapLength (eqb (length L.bitmap) (L.size.height * stride L.size))

-- "3. Are spare bits 0? (lowest byte index)": byte i has a bit that stands for no sample, and it is set. Byte i holds the samples of
-- its row from column 8 × (i mod stride) on, so its bits from W - 8 × (i mod stride) on are spare: in a row's last byte those past W, and
-- none of the eight in any other.
abbrev pub spare_set : Layer → ℕ → Bool
spare_set L i = ltb 0 (get_or L.bitmap i 0 / 2 ^ (L.size.width - 8 * (i % stride L.size)))

unfoldable pub spare_answer : Layer → Answer
spare_answer L = ask_each Refusal.SpareBits (spare_set L) (length L.bitmap)

-- "4. Are border samples outside? (lowest r×W+c)"
abbrev pub on_border : Layer → ℕ → ℕ → Bool
on_border L c r = eqb c 0 || eqb c (L.size.width - 1) || eqb r 0 || eqb r (L.size.height - 1)

-- a border sample of a row that is inside, and of the layer row by row
abbrev pub border_in : Layer → ℕ → ℕ → Bool
border_in L r c = on_border L c r && sample L c r

abbrev pub border_at : Layer → ℕ → Bool
border_at L k = border_in L (k / L.size.width) (k % L.size.width)

unfoldable pub border_answer : Layer → Answer
border_answer L = ask_each Refusal.BorderInside (border_at L) (L.size.height * L.size.width)

-- questions 1 to 4, which every call is asked first
abbrev pub layer_questions : Layer → List Answer
layer_questions L = sides_answer L.size ∷ length_answer L ∷ spare_answer L ∷ border_answer L ∷ []

-- what a yes to question 1 says
pub record Sized (size : Size) : Type 0 where
  pub wide : 2 ≤ size.width
  pub narrow : size.width ≤ 1024
  pub high : 2 ≤ size.height
  pub low : size.height ≤ 1024

-- what a yes to questions 1 and 2 says
pub record Whole (L : Layer) : Type 0 where
  pub sized : Sized L.size
  pub exact : length L.bitmap ≡ L.size.height * stride L.size

-- what a yes to questions 1 to 4 says
pub record Sound (L : Layer) : Type 0 where
  pub whole : Whole L
  pub spare : (i : ℕ) → i < length L.bitmap → spare_set L i ≡ false
  pub border : (c r : ℕ) → c < L.size.width → r < L.size.height → border_in L r c ≡ false
