-- The call that measures, by the answers to its questions: refused by 1 to 7, refused by 14, or done.
use mathlib.Core.Path.{◌≡◌, refl, sym, ap, ◌∙◌}
use mathlib.Core.Bool.{Bool, true, false}
use mathlib.Core.List.{List, [], ◌∷◌, ◌++◌, map}
use Prim.Native.Nat.{ℕ, suc, ◌≤◌, ◌<◌}
use native.Mathlib.Omega.{arith}
use borrow.Author.Tests.{le-leb, lt-leb, leb-true}
use lib.Dec.{leb}
use lib.IntN.{ℤ, pos, ◌+ℤ◌}
use lib.ListN.{length, length-map}
use lib.Seq.{sets}
use Rattle.std.specs.Prelude.{Ok, Err}
use Rattle.arith.specs.Ranges.{count}
use Rattle.arith.proofs.Booleans.{and_split, and-short}
use Rattle.grid.specs.Layer.{Layer}
use Rattle.grid.specs.Questions.{Answer, Yes, first_no, if_all_yes, ask}
use Rattle.grid.specs.declared.refusal.Refusal.TheVariants.{ShortOutput}
use Rattle.grid.specs.declared.refusal.Refused.{Refused}
use Rattle.grid.proofs.Answers.{number-within, asked, append-no, append-yes, append-all, first-only}
use Rattle.contour.specs.Contours.{contour_of, first_sticks, contour_count}
use Rattle.table.specs.Kept.{kept_entry}
use Rattle.drawn.specs.Drawn.{drawn_by_number}
use Rattle.drawn.proofs.DrawnEdges.{number-many}
use Rattle.held.specs.Questions.{Accepted, held_questions}
use Rattle.shoelace.specs.Adds.{edge_adds}
use Rattle.held.proofs.Asking.{accepted-of}
use Rattle.shoelace.specs.Running.{AllSummed}
use Rattle.shoelace.specs.Sums.{sums_after, sums_of, drawn_count}
use Rattle.area.specs.Areas.{twice_area, areas_of}
use Rattle.area.specs.Call.{has_room, room_answer, Outcome, outcome, measures_of, measure_of}
use Rattle.area.specs.declared.measure.Measures.{Measures}

-- there is a number for each contour
pub as_many : (L : Layer) (t : List ℕ) → contour_count L ≡ length (areas_of L t)
as_many L t = length-map (first_sticks L) (contour_of L) ∙ sym (length-map (first_sticks L) (twice_area L t))

-- a sum for each drawn edge,
length-sums : (s : ℤ) (l : List ℤ) → length (sums_after s l) ≡ length l
length-sums s [] = refl
length-sums s (z ∷ l) = ap suc (length-sums (s +ℤ z) l)

pub sums-many : (L : Layer) (t : List ℕ) → drawn_count L t ≡ length (sums_of L t)
sums-many L t =
    sym (length-sums (pos 0) (map (edge_adds L t) (drawn_by_number L t)) ∙ length-map (drawn_by_number L t) (edge_adds L t))

-- and a drawn edge for each kept entry
pub edges-many : {L : Layer} {t : List ℕ} → Accepted L t → count (kept_entry t) (length t) ≡ drawn_count L t
edges-many {L} {t} accepted =
    ap (count (kept_entry t)) accepted.exact ∙ sym (number-many L t accepted.sound accepted.entries)

-- as code counts them
pub drawn-is : (L : Layer) (t : List ℕ) {n : ℕ} → first_no (held_questions L t) ≡ Yes → n ≡ count (kept_entry t) (length t) → n ≡ drawn_count L t
drawn-is L t held kept = kept ∙ edges-many (accepted-of L t held)

module _ (L : Layer) (t : List ℕ) (areas sums : List ℤ) where
  -- the outcome, by the answer to all questions
  abbrev done_outcome : Outcome
  done_outcome = outcome (Ok (measures_of L t)) (sets areas 0 (areas_of L t)) (sets sums 0 (sums_of L t))

  abbrev by_answer : Answer → Outcome
  by_answer answer = if_all_yes answer (λ q place. outcome (Err (record { question = q; place = place })) areas sums) done_outcome

  measured-by : (answer : Answer) → first_no (held_questions L t ++ (room_answer L t areas sums ∷ [])) ≡ answer → measure_of L t areas sums ≡ by_answer answer
  unfolding measure_of
  measured-by answer e = ap by_answer e

  pub measured-no : {n : Refused} → first_no (held_questions L t) ≡ Err n → outcome (Err n) areas sums ≡ measure_of L t areas sums
  measured-no {n} e = sym (measured-by (Err n) (sym (append-no (held_questions L t) (room_answer L t areas sums ∷ []) e)))

  module _ (yes : first_no (held_questions L t) ≡ Yes) where
    -- what is left is question 14
    by-room : (enough : Bool) → has_room L t areas sums ≡ enough → measure_of L t areas sums ≡ by_answer (ask ShortOutput enough)
    by-room enough e =
        measured-by (ask ShortOutput enough)
        (sym (append-yes (held_questions L t) (room_answer L t areas sums ∷ []) yes)
        ∙ sym (first-only (room_answer L t areas sums)) ∙ ap (ask ShortOutput) e)

    pub measured-short-areas : {n : ℕ} → n ≡ contour_count L → length areas < n → outcome (Err (record { question = ShortOutput; place = 0 })) areas sums ≡ measure_of L t areas sums
    measured-short-areas many l = sym (by-room false (rw (lt-leb (contour_count L) (length areas) (rw many at l))))

    pub measured-short-sums : {n : ℕ} → n ≡ count (kept_entry t) (length t) → length sums < n
        → outcome (Err (record { question = ShortOutput; place = 0 })) areas sums ≡ measure_of L t areas sums
    measured-short-sums kept l =
        sym (by-room false (and-short (leb (contour_count L) (length areas)) _ (lt-leb (drawn_count L t) (length sums) (rw (drawn-is L t yes kept) at l))))

    pub measured-done : contour_count L ≤ length areas → drawn_count L t ≤ length sums → measure_of L t areas sums ≡ done_outcome
    measured-done l m = by-room true (rw (le-leb (contour_count L) (length areas) l, le-leb (drawn_count L t) (length sums) m))

    -- by what the calls give
    pub measured-all : {m : Measures} {areas' sums' : List ℤ} → m.contours ≡ contour_count L → m.edges ≡ count (kept_entry t) (length t)
        → m.contours ≤ length areas → m.edges ≤ length sums → areas' ≡ sets areas 0 (areas_of L t) → AllSummed L t sums sums' m.total
        → outcome (Ok m) areas' sums' ≡ measure_of L t areas sums
    measured-all many kept room-areas room-sums put all =
        let drawn = drawn-is L t yes kept in
        (λ i. outcome (Ok (record { contours = many i; edges = drawn i; total = all.last i })) (put i) (all.put i))
        ∙ sym (measured-done (rw many at room-areas) (rw drawn at room-sums))

  -- a call that is done had a yes to all questions
  pub record AllYes : Type 0 where
    pub held : first_no (held_questions L t) ≡ Yes
    pub room-areas : contour_count L ≤ length areas
    pub room-sums : drawn_count L t ≤ length sums

  pub measured-yes : (measure_of L t areas sums).refusal ≡ 0 → AllYes
  measured-yes done = by (first_no (held_questions L t ++ (room_answer L t areas sums ∷ []))) refl
    where
      by : (answer : Answer) → first_no (held_questions L t ++ (room_answer L t areas sums ∷ [])) ≡ answer → AllYes
      by Yes e =
          let both = append-all (held_questions L t) (room_answer L t areas sums ∷ []) e in
          let enough = asked ShortOutput (has_room L t areas sums) (first-only (room_answer L t areas sums) ∙ both.1) in
          let each = and_split (leb (contour_count L) (length areas)) (leb (drawn_count L t) (length sums)) enough in
          record {
            held = both.0;
            room-areas = leb-true (contour_count L) (length areas) each.0;
            room-sums = leb-true (drawn_count L t) (length sums) each.1;
          }
      by (Err n) e = absurd (omega (arith, done, ap (λ (o : Outcome). o.refusal) (measured-by (Err n) e), number-within n.question))
