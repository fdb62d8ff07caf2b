-- What purchasing may rely on of the areas of a layer that questions 1 to 7 accept, and of the answer of a call that is done.
use mathlib.Core.Path.{◌≡◌, refl, sym, ap, subst, ◌∙◌}
use mathlib.Core.List.{List}
use Prim.Native.Nat.{ℕ, ◌≤◌}
use native.Mathlib.Omega.{arith}
use lib.IntN.{ℤ, pos}
use lib.ListN.{length, take}
use lib.Seq.{sets, sets-eq, take-append_seam}
use Rattle.grid.specs.Layer.{Layer}
use Rattle.held.specs.Questions.{Accepted}
use Rattle.held.proofs.Asking.{accepted-of}
use Rattle.shoelace.specs.Sums.{sums_of, last_of, total_of}
use Rattle.area.specs.Areas.{sum_of, areas_of}
use Rattle.area.specs.Call.{measure_of}
use Rattle.area.proofs.Answered.{as_many, sums-many, measured-done, measured-yes}
use Rattle.area.proofs.Totals.{total_same}
use Rattle.metal.specs.Metal.{Metal, AreasAnswered}
use Rattle.metal.proofs.Signs.{one_or_other, never_both, outline_only, bore_only, outline_above, bore_below, outline_near, bore_near}
use Rattle.metal.proofs.Totals.{total_near, total_above}

pub metal : (L : Layer) (t : List ℕ) → Accepted L t → Metal L t
metal L t accepted =
    record {
      one_or_other = λ f h. one_or_other accepted.sound f h;
      never_both = λ f h. never_both accepted.sound f h;
      outline_only = λ f h. outline_only accepted.sound f h;
      bore_only = λ f h. bore_only accepted.sound f h;
      outline_above = λ f h. outline_above accepted f h;
      bore_below = λ f h. bore_below accepted f h;
      total_same = total_same L t accepted.sound;
      total_above = total_above accepted;
      outline_near = λ f h. outline_near accepted f h;
      bore_near = λ f h. bore_near accepted f h;
      total_near = total_near accepted;
    }

-- what is stored from the start on stands there
stored-first : (l out : List ℤ) → length l ≤ length out → take (length l) (sets out 0 l) ≡ l
stored-first l out h = ap (take (length l)) (sets-eq l out 0 (omega arith)) ∙ take-append_seam l _

pub areas-answered : (L : Layer) (t : List ℕ) (areas sums : List ℤ) → (measure_of L t areas sums).refusal ≡ 0 → AreasAnswered L t (measure_of L t areas sums)
unfolding total_of
areas-answered L t areas sums done =
    let yes = measured-yes L t areas sums done in
    let accepted = accepted-of L t yes.held in
    let many = as_many L t in
    let stands = ap (λ (n : ℕ). take n (sets areas 0 (areas_of L t))) many ∙ stored-first (areas_of L t) areas (omega (arith, many, yes.room-areas)) in
    let drawn = sums-many L t in
    let summed = ap (λ (n : ℕ). take n (sets sums 0 (sums_of L t))) drawn ∙ stored-first (sums_of L t) sums (omega (arith, drawn, yes.room-sums)) in
    subst (AreasAnswered L t) (sym (measured-done L t areas sums yes.held yes.room-areas yes.room-sums))
    (record {
      contours = refl;
      areas = stands;
      edges = refl;
      sums = summed;
      last = ap (last_of (pos 0)) (sym summed);
      total = total_same L t accepted.sound ∙ ap sum_of (sym stands);
      metal = metal L t accepted;
    })
