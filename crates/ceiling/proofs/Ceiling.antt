-- No call of Simplify goes beyond the ceiling. A run of k edges and its parts are 2·k - 1 tries, less two for each vertex removed, so the two runs of a
-- contour 2·n - 2 (`simplify` Trying, Layers). Each contour finds its entries as they were lent, so the call's figures are those of its contours, each
-- simplified by itself.
use mathlib.Core.Path.{◌≡◌, refl, sym, ap, ◌∙◌}
use mathlib.Core.Bool.{true}
use mathlib.Core.List.{List, [], ◌∷◌, foldl}
use Prim.Native.Nat.{ℕ, ◌+◌, ◌*◌}
use native.Mathlib.Omega.{arith}
use lib.ListN.{length}
use Rattle.arith.specs.Levels.{total}
use Rattle.std.specs.Prelude.{Err}
use Rattle.grid.specs.Layer.{Layer}
use Rattle.grid.specs.Edges.{edge_count, is_stick}
use Rattle.grid.specs.Questions.{Answer, Yes, Sound, first_no}
use Rattle.grid.specs.declared.edge.Edge.{Edge}
use Rattle.grid.proofs.Answers.{number-within, append-all}
use Rattle.contour.specs.Walk.{first}
use Rattle.contour.specs.Contours.{walk_of, contour_of, first_sticks}
use Rattle.contour.proofs.First.{first_one}
use Rattle.contour.proofs.Sticks.{laws}
use Rattle.table.specs.Entries.{length_questions, entries_answer}
use Rattle.table.specs.Kept.{all_kept_answer}
use Rattle.table.proofs.Local.{Local}
use Rattle.table.proofs.InTurn.{PartDone, part-start, part-first, part-here, part-turn}
use Rattle.held.specs.Held.{held_answer}
use Rattle.held.specs.Questions.{kept_questions}
use Rattle.trace.specs.Counts.{Figures}
use Rattle.trace.proofs.Outcomes.{counts-done}
use Rattle.simplify.specs.Runs.{Progress, simplify_contour, simplify}
use Rattle.simplify.specs.Parts.{begun}
use Rattle.simplify.specs.Call.{simplify_of, Outcome}
use Rattle.simplify.proofs.Trying.{on_top}
use Rattle.simplify.proofs.Layers.{contour-from, contour-counts, simplify-is, simplify-counts}
use Rattle.simplify.proofs.Locality.{simplify_contour-agree, simplify_contour-local}
use Rattle.simplify.proofs.Outcomes.{outcome-is, yes-to-all}
use Rattle.ceiling.specs.Ceiling.{alone, Ceiling}

module _ {L : Layer} (sound : Sound L) (tolerance : ℕ) where
  first-stick : (f : Edge) → first (walk_of L) f ≡ true → is_stick L f ≡ true
  first-stick = first_one (walk_of L) (laws L sound)

  contour_exact : (t : List ℕ) (f : Edge) → first (walk_of L) f ≡ true
      → (alone L tolerance t f).tried + 2 * (alone L tolerance t f).removed + 2 ≡ 2 * length (contour_of L f)
  contour_exact t f is = omega (arith, contour-counts L tolerance sound f (first-stick f is) (begun t))

  -- The contours one after the other

  abbrev simplified : Edge → List ℕ → List ℕ
  simplified f u = (alone L tolerance u f).table

  locally : (f : Edge) → first (walk_of L) f ≡ true → Local L f (simplified f)
  locally f is = simplify_contour-local L sound f (first-stick f is) tolerance

  -- the counts of the contours of some first sticks, each simplified by itself, on top of those of s
  record Added (t : List ℕ) (l : List Edge) (s r : Progress) : Type 0 where
    tried : r.tried ≡ s.tried + total (λ f. (alone L tolerance t f).tried) l
    removed : r.removed ≡ s.removed + total (λ f. (alone L tolerance t f).removed) l

  in-turn : (t : List ℕ) (l : List Edge) (s : Progress) → PartDone sound simplified locally t l s.table
      → Added t l s (foldl (simplify_contour L tolerance) s l)
  in-turn t [] s part = record { tried = omega arith; removed = omega arith }
  in-turn t (f ∷ l) s part =
      let stick = first-stick f (part-first part) in
      let same = simplify_contour-agree L sound f stick tolerance (begun s.table) (begun t) (part-here part) in
      let later = in-turn t l (on_top s (alone L tolerance s.table f)) (part-turn part) in
      rw (contour-from L tolerance s f) (record { tried = omega (arith, same, later); removed = omega (arith, same, later) })

  each-alone : (t : List ℕ) → length t ≡ edge_count L.size → Added t (first_sticks L) (begun t) (simplify L tolerance t)
  each-alone t whole = rw (simplify-is L tolerance t) (in-turn t (first_sticks L) (begun t) (part-start sound simplified locally t whole))

-- The call

module _ (L : Layer) (tolerance : ℕ) (t : List ℕ) where
  by_answer : (answer : Answer) → first_no (kept_questions L t) ≡ answer → (simplify_of L tolerance t).refusal ≡ 0 → answer ≡ Yes
  by_answer Yes e done = refl
  by_answer (Err refused) e done =
      absurd (omega (arith, number-within refused.question, sym (ap (λ (o : Outcome). o.refusal) (outcome-is L t tolerance _ e)) ∙ done))

  pub ceiling : (simplify_of L tolerance t).refusal ≡ 0 → Ceiling L tolerance t
  ceiling done =
      let yes : first_no (kept_questions L t) ≡ Yes = by_answer _ refl done in
      let lengths = (append-all (length_questions L (length t)) (entries_answer L t ∷ held_answer L t ∷ all_kept_answer L.size t ∷ []) yes).0 in
      let accepted = (yes-to-all L t yes).0 in
      let sound = accepted.sound in
      let is = outcome-is L t tolerance _ yes in
      let tried : (simplify_of L tolerance t).tried ≡ (simplify L tolerance t).tried = ap (λ (o : Outcome). o.tried) is in
      let removed : (simplify_of L tolerance t).removed ≡ (simplify L tolerance t).removed = ap (λ (o : Outcome). o.removed) is in
      let layer = simplify-counts L tolerance sound t in
      let added = each-alone sound tolerance t accepted.exact in
      let counts = sym (counts-done L (length t) lengths refl refl refl) in
      record {
        of_contour = λ f first. omega (arith, contour_exact sound tolerance t f first);
        of_layer = omega (arith, tried, layer);
        tried_by_contour = omega (arith, tried, added.tried);
        removed_by_contour = omega (arith, removed, added.removed);
        contour_exact = contour_exact sound tolerance t;
        layer_exact = omega (arith, tried, removed, layer);
        sticks_counted = ap (λ (c : Figures). c.sticks) counts;
        contours_counted = ap (λ (c : Figures). c.contours) counts;
      }
