-- Question 14 and the outcome of the call: how the lengths decide, and what is left in the outputs.
use mathlib.Core.Path.{◌≡◌, sym, ap, ◌∙◌}
use mathlib.Core.List.{List, [], ◌∷◌}
use Rattle.std.specs.Prelude.{Ok, Err}
use Prim.Native.Nat.{ℕ, ◌+◌, ◌*◌, ◌≤◌, ◌<◌}
use native.Mathlib.Omega.{arith}
use borrow.Author.Tests.{le-leb, lt-leb}
use lib.Dec.{leb}
use lib.Ieee.{Float}
use lib.ListN.{length, length-map}
use lib.Seq.{sets}
use Rattle.arith.specs.Ranges.{count}
use Rattle.arith.proofs.Booleans.{and-short}
use Rattle.arith.proofs.Ranges.{count-le}
use Rattle.grid.specs.Layer.{Layer}
use Rattle.grid.specs.Questions.{Answer, Yes, No, first_no, ask}
use Rattle.grid.specs.declared.refusal.Refusal.TheVariants.{ShortOutput}
use Rattle.grid.specs.declared.refusal.Refused.{Refused}
use Rattle.grid.proofs.Answers.{append-no}
use Rattle.grid.proofs.Numbers.{edges-small}
use Rattle.contour.specs.Contours.{contour_count}
use Rattle.bitset.specs.Sets.{set_bits}
use Rattle.table.specs.Kept.{kept_entry}
use Rattle.held.specs.Questions.{held_questions, Accepted}
use Rattle.item.specs.Items.{byte_of, bytes_of, floats_of}
use Rattle.item.specs.Writing.{buffers_of, at_start, Room}
use Rattle.planner.specs.Items.{listed_items}
use Rattle.planner.specs.Plan.{outcome, room_answer, answered, plan_of}
use Rattle.planner.specs.Writing.{accepted_of}
use Rattle.planner.proofs.Lengths.{bytes-all, floats-all}

-- By an answer

module _ (L : Layer) (t items : List ℕ) (points : List Float) where
  outcome-no : {a : Answer} {e : Refused} → a ≡ Err e → outcome (Err e) items points ≡ answered a L t items points
  unfolding answered
  outcome-no e = ap (λ (a : Answer). answered a L t items points) (sym e)

  outcome-yes : {a : Answer} → a ≡ Yes → {n m : ℕ} → n ≡ length (bytes_of (listed_items L t)) → m ≡ length (floats_of (listed_items L t))
      → {items' : List ℕ} → items' ≡ sets items 0 (bytes_of (listed_items L t))
      → {points' : List Float} → points' ≡ sets points 0 (floats_of (listed_items L t))
      → outcome (Ok (record { items = n; floats = m })) items' points' ≡ answered a L t items points
  unfolding answered
  outcome-yes e n m i p = (λ j. outcome (Ok (record { items = n j; floats = m j })) (i j) (p j)) ∙ ap (λ (a : Answer). answered a L t items points) (sym e)

  -- questions 1 to 7 refuse
  pub plan-no : {e : Refused} → first_no (held_questions L t) ≡ Err e → outcome (Err e) items points ≡ plan_of L t items points
  plan-no e = outcome-no (sym (append-no (held_questions L t) (room_answer L t items points ∷ []) e))

-- Question 14, by the number of kept vertices and of contours

pub record Tallies (L : Layer) (t : List ℕ) (kept many : ℕ) : Type 0 where
  pub accepted : Accepted L t
  pub kept_is : kept ≡ count (kept_entry t) (length t)
  pub many_is : many ≡ contour_count L
  pub few : many ≤ set_bits

pub tallied : {L : Layer} {t : List ℕ} {kept many : ℕ} → Accepted L t → kept ≡ count (kept_entry t) (length t) → many ≡ contour_count L
    → many ≤ set_bits → Tallies L t kept many
tallied accepted kept many few = record { accepted = accepted; kept_is = kept; many_is = many; few = few }

module _ {L : Layer} {t : List ℕ} {kept many : ℕ} (c : Tallies L t kept many) where
  pub tallies-fit : kept + many ≤ 3142656
  tallies-fit =
      omega (
        arith,
        c.kept_is,
        c.few,
        count-le (kept_entry t) (length t),
        c.accepted.exact,
        edges-small L.size c.accepted.sound.whole.sized,
      )

  byte-count : length (bytes_of (listed_items L t)) ≡ kept + many
  byte-count = omega (arith, bytes-all c.accepted, c.kept_is, c.many_is)

  float-count : length (floats_of (listed_items L t)) ≡ 2 * kept
  float-count = omega (arith, floats-all c.accepted, c.kept_is)

  module _ (items : List ℕ) (points : List Float) where
    short-items : length items < kept + many → room_answer L t items points ≡ No ShortOutput 0
    unfolding room_answer
    short-items h = rw (byte-count, lt-leb (kept + many) (length items) h)

    short-points : length points < 2 * kept → room_answer L t items points ≡ No ShortOutput 0
    unfolding room_answer
    short-points h =
        ap (ask ShortOutput)
        (and-short (leb (length (bytes_of (listed_items L t))) (length items)) _
        (ap (λ (n : ℕ). leb n (length points)) float-count ∙ lt-leb (2 * kept) (length points) h))

    pub refused-items : length items < kept + many → outcome (Err (record { question = ShortOutput; place = 0 })) items points ≡ accepted_of L t items points
    refused-items h = outcome-no L t items points (short-items h)

    pub refused-points : length points < 2 * kept → outcome (Err (record { question = ShortOutput; place = 0 })) items points ≡ accepted_of L t items points
    refused-points h = outcome-no L t items points (short-points h)

    module _ (i : kept + many ≤ length items) (p : 2 * kept ≤ length points) where
      room-yes : room_answer L t items points ≡ Yes
      unfolding room_answer
      room-yes = rw (byte-count, float-count, le-leb (kept + many) (length items) i, le-leb (2 * kept) (length points) p)

      pub list-fits : Room (buffers_of items points at_start) (listed_items L t)
      list-fits = record {
        bytes = omega (arith, byte-count, length-map (listed_items L t) byte_of);
        floats = omega (arith, float-count);
      }

      pub list_done : {items' : List ℕ} → items' ≡ sets items 0 (bytes_of (listed_items L t))
          → {points' : List Float} → points' ≡ sets points 0 (floats_of (listed_items L t))
          → outcome (Ok (record { items = kept + many; floats = 2 * kept })) items' points' ≡ accepted_of L t items points
      list_done = outcome-yes L t items points room-yes (sym byte-count) (sym float-count)
