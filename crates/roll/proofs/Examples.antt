-- The paper's cases on edit rolls, and Note 5's, by running the definitions.
use mathlib.Core.Path.{◌≡◌, refl}
use mathlib.Core.Bool.{xor}
use mathlib.Core.List.{List, [], ◌∷◌}
use Prim.Native.Nat.{ℕ}
use Rattle.arith.specs.Ranges.{least_from}
use Rattle.grid.specs.Layer.{Layer, layer_of, size_of, sample, bit}
use Rattle.grid.specs.Edges.{number, edge_count, edge_at, is_stick}
use Rattle.grid.specs.Questions.{sides_answer, length_answer, spare_answer, border_answer, No}
use Rattle.grid.specs.declared.refusal.Refusal.TheVariants.{Malformed}
use Rattle.step.specs.Walk.{next, prev}
use Rattle.contour.specs.Walk.{firsts_among}
use Rattle.chord.specs.Crossing.{off, parted, crosses, slides_within}
use Rattle.table.specs.Entries.{entry_of, entries_answer, table_length_answer}
use Rattle.table.specs.Vertices.{kept_at, removed_at, pinned_at, offset_at}
use Rattle.drawn.specs.Neighbours.{removed_from, kept_from}
use Rattle.drawn.specs.Drawn.{edge_crosses}
use Rattle.held.specs.Held.{held_contour, held_answer}
use Rattle.roll.specs.Commands.{roll_answer}
use Rattle.edit.specs.Edits.{edge_within}
use Rattle.roll.specs.Roll.{Outcome, roll_of}

-- "W 3, H 3, inside (1,1)", with the four entries of its sticks, by number: 2, 3, 7 and 10
abbrev single : Layer
single = layer_of (size_of 3 3) (0 ∷ 2 ∷ 0 ∷ [])

abbrev entries : ℕ → ℕ → ℕ → ℕ → List ℕ
entries a b c d = 0 ∷ 0 ∷ a ∷ b ∷ 0 ∷ 0 ∷ 0 ∷ c ∷ 0 ∷ 0 ∷ d ∷ 0 ∷ []

-- "W 5, H 3, inside (1,1), (2,1), (3,1), traced", with the entry of its lower middle stick, kind 1 at (2,0), number 14
abbrev bar : Layer
bar = layer_of (size_of 5 3) (0 ∷ 14 ∷ 0 ∷ [])

abbrev middle : ℕ → List ℕ
middle n =
    0 ∷ 0 ∷ 0 ∷ 0 ∷ 128 ∷ 0 ∷ 0 ∷ 128 ∷ 0 ∷ 0 ∷ 0 ∷ 0
    ∷ 0 ∷ 128 ∷ n ∷ 128 ∷ 0 ∷ 0 ∷ 128 ∷ 128 ∷ 128 ∷ 0 ∷ []

-- all that has to be open for a roll to run: a case says `unfolding run`
unfoldable run : Layer → ℕ → List ℕ → List ℕ → Outcome
unfolding roll_of sides_answer length_answer spare_answer border_answer table_length_answer entries_answer held_answer held_contour edge_crosses edge_within
    firsts_among number edge_count edge_at is_stick sample bit next prev xor least_from kept_at removed_at pinned_at offset_at removed_from kept_from entry_of
    off parted crosses slides_within
run L tolerance r t = roll_of L tolerance r t

-- its lower middle vertex slid to 140, then removed
abbrev slide_and_remove : List ℕ
slide_and_remove = 0x53 ∷ 1 ∷ 2 ∷ 0 ∷ 0 ∷ 0 ∷ 140 ∷ 0x58 ∷ 1 ∷ 2 ∷ 0 ∷ 0 ∷ 0 ∷ 0x45 ∷ []

-- "On that layer as traced, none removed, with its lower middle vertex slid from 128 to 140 first, its removal passes at T 12"
pub removal-passes : roll_of bar 12 slide_and_remove (middle 128) ≡ record { refusal = 0; place = 0; done = 2; table = middle 396 }
unfolding run
removal-passes = refl

-- "and gives 12 at T 11": the slide stays done
pub removal-refused : roll_of bar 11 slide_and_remove (middle 128) ≡ record { refusal = 12; place = 7; done = 1; table = middle 140 }
unfolding run
removal-refused = refl

-- the first stick of the single sample, kind 0 at (0,1), slid to an offset
abbrev slide_to : ℕ → List ℕ
slide_to o = 0x53 ∷ 0 ∷ 0 ∷ 0 ∷ 1 ∷ 0 ∷ o ∷ 0x45 ∷ []

-- "A slide to 0: 10."
pub slide-to-zero : roll_of single 0 (slide_to 0) (entries 128 128 128 128)
    ≡ record { refusal = 10; place = 0; done = 0; table = entries 128 128 128 128 }
unfolding run
slide-to-zero = refl

-- "To 255 on the traced single sample: done."
pub slide_to_255 : roll_of single 0 (slide_to 255) (entries 128 128 128 128)
    ≡ record { refusal = 0; place = 0; done = 1; table = entries 255 128 128 128 }
unfolding run
slide_to_255 = refl

-- "An E alone: 0 done."
pub end-alone : roll_of single 0 (0x45 ∷ []) (entries 128 128 128 128)
    ≡ record { refusal = 0; place = 0; done = 0; table = entries 128 128 128 128 }
unfolding run
end-alone = refl

-- "Empty roll: 8 at place 0."
pub empty-roll : roll_answer [] ≡ No Malformed 0
unfolding roll_answer
empty-roll = refl

-- Note 5, on the lower middle vertex of the bar: P "pins a kept vertex", and "A pin on an already pinned vertex is done and alters nothing."
abbrev pin_then : List ℕ → List ℕ
pin_then r = 0x50 ∷ 1 ∷ 2 ∷ 0 ∷ 0 ∷ 0 ∷ r

pub pinned-twice : roll_of bar 0 (pin_then (pin_then (0x45 ∷ []))) (middle 128) ≡ record { refusal = 0; place = 0; done = 2; table = middle 640 }
unfolding run
pinned-twice = refl

-- "16, a slide or removal of a pinned vertex, after question 9 and before 10, with the command's byte offset and the count done": of the slide, at
-- which the roll from above stops; of a slide to 0; of a removal
pub pinned-slide : roll_of bar 255 (pin_then slide_and_remove) (middle 128) ≡ record { refusal = 16; place = 6; done = 1; table = middle 640 }
unfolding run
pinned-slide = refl

pub pinned-slide-to-zero : roll_of single 0 (slide_to 0) (entries 640 128 128 128)
    ≡ record { refusal = 16; place = 0; done = 0; table = entries 640 128 128 128 }
unfolding run
pinned-slide-to-zero = refl

pub pinned-removal : roll_of bar 255 (0x58 ∷ 1 ∷ 2 ∷ 0 ∷ 0 ∷ 0 ∷ 0x45 ∷ []) (middle 652)
    ≡ record { refusal = 16; place = 0; done = 0; table = middle 652 }
unfolding run
pinned-removal = refl

-- a pin of a removed vertex gives 9
pub removed-not-pinned : roll_of bar 0 (pin_then (0x45 ∷ [])) (middle 396) ≡ record { refusal = 9; place = 0; done = 0; table = middle 396 }
unfolding run
removed-not-pinned = refl
