-- The program reads one byte more than the longest input that is not refused has: that is enough, since an input has the answer of the bytes
-- that are read of it. A bitmap longer than 64 rows of 8 bytes is refused by question 2.
use mathlib.Core.Path.{◌≡◌, refl, sym, ap, ◌∙◌}
use mathlib.Core.Bool.{true}
use mathlib.Core.List.{List}
use Prim.Native.Nat.{ℕ, ◌+◌, ◌*◌, ◌/◌, ◌≤◌, ◌<◌}
use native.Mathlib.Nat.{mul-le-mul}
use native.Mathlib.Omega.{arith}
use borrow.Author.Tests.{ne_eqb, le-leb, leb-true, leb-false}
use lib.Dec.{leb, lit≤}
use lib.ListN.{length, get_or, take, drop, replicate, length-drop}
use lib.Seq.{take_all, length-take-le, get_or-take}
use Rattle.arith.proofs.Booleans.{both-sides}
use Rattle.grid.specs.Layer.{Layer, layer_of, size_of, stride}
use Rattle.grid.specs.Edges.{edge_count}
use Rattle.grid.specs.Questions.{Yes, No, sides_answer, length_answer}
use Rattle.grid.specs.declared.refusal.Refusal.TheVariants as Refusal
use Rattle.trace.specs.Trace.{trace_of}
use Rattle.slicing.specs.Slice.{command_length, whole_command, number_at, side_limit, sides_fit, refused_bytes, layer_bytes, slice_of, bitmap_limit, input_limit}
use Rattle.slicing.proofs.Bounds.{small_of}
use Rattle.slicing.proofs.Answers.{bytes-refused, no-command, bad-sides, good-sides}

module _ (L : Layer) (fits : sides_fit L.size ≡ true) (long : bitmap_limit < length L.bitmap) where
  sides-yes : sides_answer L.size ≡ Yes
  unfolding sides_answer
  sides-yes =
      let small = small_of L.size fits in
      rw (
        le-leb 2 L.size.width small.sized.wide,
        le-leb L.size.width 1024 small.sized.narrow,
        le-leb 2 L.size.height small.sized.high,
        le-leb L.size.height 1024 small.sized.low,
      )

  bitmap-short : L.size.height * stride L.size ≤ bitmap_limit
  bitmap-short =
      let small = small_of L.size fits in
      mul-le-mul {n₁ = L.size.height} {m₁ = stride L.size} {n₂ = side_limit} {m₂ = side_limit / 8} small.low (omega (arith, small.narrow))

  length-no : length_answer L ≡ No Refusal.BitmapLength 0
  unfolding length_answer
  length-no = rw (ne_eqb (length L.bitmap) (L.size.height * stride L.size) (λ e. omega (arith, e, long, bitmap-short)))

  traced-no : (t : List ℕ) → record { refusal = 2; place = 0; table = t } ≡ trace_of L t
  unfolding trace_of
  traced-no t = rw (sides-yes, length-no)

  too_long : layer_bytes L ≡ refused_bytes 2
  unfolding layer_bytes
  too_long =
      let t : List ℕ = replicate (edge_count L.size) 0 in
      sym (bytes-refused L t (No Refusal.BitmapLength 0) (trace_of L t) (traced-no t) refl)

module _ (input : List ℕ) (long : input_limit < length input) where
  abbrev start : List ℕ
  start = take input_limit input

  start-long : length start ≡ input_limit
  start-long = length-take-le input_limit input (omega arith)

  at : (i : ℕ) → i < input_limit → get_or start i 0 ≡ get_or input i 0
  at i h = get_or-take input_limit input i 0 h

  number_same : (i : ℕ) → i + 1 < input_limit → number_at input i ≡ number_at start i
  number_same i h = rw (at i (omega arith), at (i + 1) h)

  command-same : whole_command start ≡ whole_command input
  command-same = rw (le-leb command_length (length start) (omega (arith, start-long)), le-leb command_length (length input) (omega arith), at 0 (lit≤ tt))

  longer : slice_of start ≡ slice_of input
  longer =
      let w = number_at input 1 in
      let h = number_at input 3 in
      let is-w = number_same 1 (lit≤ tt) in
      let is-h = number_same 3 (lit≤ tt) in
      both-sides (whole_command input)
      (λ e. both-sides (sides_fit (size_of w h))
      (λ f.
      good-sides start w h (command-same ∙ e) is-w is-h f
      ∙ too_long (layer_of (size_of w h) (drop command_length start)) f (omega (arith, start-long, length-drop command_length start))
      ∙ sym (too_long (layer_of (size_of w h) (drop command_length input)) f (omega (arith, long, length-drop command_length input)))
      ∙ sym (good-sides input w h e refl refl f))
      (λ f. bad-sides start w h (command-same ∙ e) is-w is-h f ∙ sym (bad-sides input w h e refl refl f)))
      (λ e. no-command start (command-same ∙ e) ∙ sym (no-command input e))

pub read-enough : (input : List ℕ) → slice_of (take input_limit input) ≡ slice_of input
read-enough input = both-sides (leb (length input) input_limit)
    (λ e. ap slice_of (take_all input_limit input (leb-true (length input) input_limit e)))
    (λ e. longer input (leb-false (length input) input_limit e))
