-- The cases that the paper marks with a star, as one record with a field for each: they are what the definitions give on these layers.
-- proofs/Cases.antt has the theorem that all of them hold.
use Rattle.std.specs.Prelude.{◌≡◌, true, false, List, [], ◌∷◌, map, ℕ, pos, length}
use Rattle.std.proofs.Common.{arith}
use Rattle.grid.specs.Layer.{Layer, layer_of, size_of}
use Rattle.grid.specs.Edges.{number, edge_count, edge_at}
use Rattle.grid.specs.declared.edge.Edge.{Edge}
use Rattle.contour.specs.Contours.{contours_of}
use Rattle.chord.specs.Points.{Position, Point, point, On, Meets, Crosses, slide}
use Rattle.drawn.specs.Drawn.{vertex}
use Rattle.trace.specs.Counts.{counts_of}
use Rattle.trace.specs.Trace.{trace_of}
use Rattle.smooth.specs.Call.{smooth_of}
use Rattle.run.specs.Runs.{passes}
use Rattle.simplify.specs.Call.{simplify_of}
use Rattle.roll.specs.Roll.{roll_of}

-- W 3, H 3, inside (1,1), and a table of it with these offsets in contour order
abbrev pub single : Layer
single = layer_of (size_of 3 3) (0 ∷ 2 ∷ 0 ∷ [])

abbrev pub offsets : ℕ → ℕ → ℕ → ℕ → List ℕ
offsets a b c d = 0 ∷ 0 ∷ a ∷ c ∷ 0 ∷ 0 ∷ 0 ∷ b ∷ 0 ∷ 0 ∷ d ∷ 0 ∷ []

abbrev pub traced : List ℕ
traced = offsets 128 128 128 128

-- W 3, H 3, no inside sample
abbrev pub blank : Layer
blank = layer_of (size_of 3 3) (0 ∷ 0 ∷ 0 ∷ [])

-- W 5, H 3, inside (1,1), (2,1), (3,1): a table of it with these entries at its lower middle stick, number 14, and at the four vertical sticks of
-- the end samples (1,1) and (3,1), numbers 13, 15, 18 and 20; as traced elsewhere
abbrev pub bar : Layer
bar = layer_of (size_of 5 3) (0 ∷ 14 ∷ 0 ∷ [])

abbrev pub bar_table : ℕ → ℕ → List ℕ
bar_table lower_middle corners =
    0 ∷ 0 ∷ 0 ∷ 0 ∷ 128 ∷ 0 ∷ 0 ∷ 128 ∷ 0 ∷ 0 ∷ 0 ∷ 0 ∷
    0 ∷ corners ∷ lower_middle ∷ corners ∷ 0 ∷ 0 ∷ corners ∷ 128 ∷ corners ∷ 0 ∷ []

-- W 4, H 4, inside (1,1), (2,2), and the other diagonal
abbrev pub diagonal : Layer
diagonal = layer_of (size_of 4 4) (0 ∷ 2 ∷ 4 ∷ 0 ∷ [])

abbrev pub other_diagonal : Layer
other_diagonal = layer_of (size_of 4 4) (0 ∷ 4 ∷ 2 ∷ 0 ∷ [])

-- the sticks' numbers, contour by contour; the stick of a number, and its vertex in a table
abbrev pub numbers : Layer → List (List ℕ)
numbers L = map (λ (c : List Edge). map (number L.size) c) (contours_of L)

abbrev pub stick : Layer → ℕ → Edge
stick L k = edge_at L.size k

abbrev pub vertex_on : Layer → List ℕ → ℕ → Position
vertex_on L t k = vertex L t (stick L k)

-- the sample (1,1), and the point where a chord of the bar meets a stick: x is 768/3 and y is 640/3, in 1/256 of the pitch
abbrev pub inner_sample : Point
inner_sample = point (record { x = 256; y = 256 })

abbrev pub meeting_point : Point
meeting_point = record { x = pos 768; y = pos 640; d = 3; above = omega arith }

-- rolls: the bar's lower middle vertex slid to 140, then removed; and the single sample's first vertex slid to an offset
abbrev pub slide_and_remove : List ℕ
slide_and_remove = 0x53 ∷ 1 ∷ 2 ∷ 0 ∷ 0 ∷ 0 ∷ 140 ∷ 0x58 ∷ 1 ∷ 2 ∷ 0 ∷ 0 ∷ 0 ∷ 0x45 ∷ []

abbrev pub slide_to : ℕ → List ℕ
slide_to o = 0x53 ∷ 0 ∷ 0 ∷ 0 ∷ 1 ∷ 0 ∷ o ∷ 0x45 ∷ []

pub record Cases : Type 0 where
  -- "W 3, H 3, inside (1,1): entries 2, 7, 3, 10 in contour order, 12 entries in all."
  pub single_contour : numbers single ≡ (2 ∷ 7 ∷ 3 ∷ 10 ∷ []) ∷ []
  pub single_entries : edge_count single.size ≡ 12
  -- as traced, this layer and the bar below have these tables, whatever the lent one held
  pub single-traced : (t : List ℕ) → length t ≡ 12 → trace_of single t ≡ record { refusal = 0; place = 0; table = traced }
  pub bar_traced : (t : List ℕ) → length t ≡ 22 → trace_of bar t ≡ record { refusal = 0; place = 0; table = bar_table 128 128 }
  -- "One pass on it: 179, 179, 77, 77, total 204."
  pub one_pass : smooth_of single 1 traced
      ≡ record { refusal = 0; place = 0; passes = 1; total = 204; settled = false; table = offsets 179 179 77 77 }
  -- "Its tenth pass ends at 255, 255, 1, 1, total 0, settled. Limit 9: total 4, not settled."
  pub tenth_pass : smooth_of single 10 traced
      ≡ record { refusal = 0; place = 0; passes = 10; total = 0; settled = true; table = offsets 255 255 1 1 }
  pub no_further_pass : smooth_of single 100 traced
      ≡ record { refusal = 0; place = 0; passes = 10; total = 0; settled = true; table = offsets 255 255 1 1 }
  pub limit_9 : smooth_of single 9 traced
      ≡ record { refusal = 0; place = 0; passes = 9; total = 4; settled = false; table = offsets 255 255 1 1 }
  -- "Limit 0: 0 passes, total 0, limit. No inside sample: 0 passes, settled."
  pub limit_0 : smooth_of single 0 traced
      ≡ record { refusal = 0; place = 0; passes = 0; total = 0; settled = false; table = traced }
  pub no_inside_sample : (limit : ℕ) → smooth_of blank limit (offsets 0 0 0 0)
      ≡ record { refusal = 0; place = 0; passes = 0; total = 0; settled = true; table = offsets 0 0 0 0 }
  -- "Simplify it at T 255: 6 runs tried, none removed; the chord touches the sample."
  pub simplify_single : simplify_of single 255 traced ≡ record { refusal = 0; place = 0; removed = 0; tried = 6; table = traced }
  -- The run from stick 2 to stick 3 has stick 7 between, which ends at the sample; the run back has stick 10, which starts there. Each chord
  -- passes through the sample, and does not cross the stick.
  pub first_chord_touches : On inner_sample (vertex_on single traced 2) (vertex_on single traced 3)
  pub first_chord_crosses_not : ¬ Crosses (vertex_on single traced 2) (vertex_on single traced 3) (stick single 7)
  pub second_chord_touches : On inner_sample (vertex_on single traced 3) (vertex_on single traced 2)
  pub second_chord_crosses_not : ¬ Crosses (vertex_on single traced 3) (vertex_on single traced 2) (stick single 10)
  -- "W 5, H 3, inside (1,1), (2,1), (3,1), traced, T 86: 4 removed, 6 tried. T 85: 0 removed, 14 tried. (The slide is 256/3.)"
  pub bar_at_86 : simplify_of bar 86 (bar_table 128 128)
      ≡ record { refusal = 0; place = 0; removed = 4; tried = 6; table = bar_table 128 384 }
  pub bar_at_85 : simplify_of bar 85 (bar_table 128 128)
      ≡ record { refusal = 0; place = 0; removed = 0; tried = 14; table = bar_table 128 128 }
  -- The run of two edges from the contour's first stick, 4, to stick 14 passes at 86 and not at 85. Its chord crosses the stick between, 13, and
  -- meets it in the point below; from offset 128, where the vertex is, that is 256 along the stick when multiplied out by D, which is 3.
  pub bar_contour : numbers bar ≡ (4 ∷ 13 ∷ 14 ∷ 15 ∷ 7 ∷ 20 ∷ 19 ∷ 18 ∷ []) ∷ []
  pub run_at_86 : passes bar (bar_table 128 128) 86 (stick bar 4) 2 ≡ true
  pub run_at_85 : passes bar (bar_table 128 128) 85 (stick bar 4) 2 ≡ false
  pub chord_crosses : Crosses (vertex_on bar (bar_table 128 128) 4) (vertex_on bar (bar_table 128 128) 14) (stick bar 13)
  pub chord_meets : Meets meeting_point (vertex_on bar (bar_table 128 128) 4) (vertex_on bar (bar_table 128 128) 14) (stick bar 13)
  pub slide_is : slide meeting_point (stick bar 13) 128 ≡ pos 256
  -- "On that layer as traced, none removed, with its lower middle vertex slid from 128 to 140 first, its removal passes at T 12 and gives 12
  -- at T 11."
  pub removal_at_12 : roll_of bar 12 slide_and_remove (bar_table 128 128)
      ≡ record { refusal = 0; place = 0; done = 2; table = bar_table 396 128 }
  pub removal_at_11 : roll_of bar 11 slide_and_remove (bar_table 128 128)
      ≡ record { refusal = 12; place = 7; done = 1; table = bar_table 140 128 }
  -- "W 4, H 4, inside (1,1), (2,2): two contours of 4. The other diagonal: two also."
  pub diagonal_counts : counts_of diagonal 24 ≡ record { refusal = 0; place = 0; inside = 2; sticks = 8; contours = 2 }
  pub other_diagonal_counts : counts_of other_diagonal 24 ≡ record { refusal = 0; place = 0; inside = 2; sticks = 8; contours = 2 }
  pub diagonal_contours : map length (contours_of diagonal) ≡ 4 ∷ 4 ∷ []
  pub other_diagonal_contours : map length (contours_of other_diagonal) ≡ 4 ∷ 4 ∷ []
  -- "A slide to 0: 10. To 255 on the traced single sample: done."
  pub slide_to_0 : roll_of single 0 (slide_to 0) traced ≡ record { refusal = 10; place = 0; done = 0; table = traced }
  pub slide_to_255 : roll_of single 0 (slide_to 255) traced ≡ record { refusal = 0; place = 0; done = 1; table = offsets 255 128 128 128 }
