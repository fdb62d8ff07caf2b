-- Work on the contours of a layer in turn, each step local to its contour: the contours that are left are as in the table that was lent, and those that
-- are done are as if each had been worked on alone. So what the work finds on a contour it finds in the table as lent.
use mathlib.Core.Path.{◌≡◌, refl, sym, ap}
use mathlib.Core.Logic.{◌≢◌}
use mathlib.Core.Bool.{true}
use mathlib.Core.List.{List, ◌∷◌}
use Prim.Native.Nat.{ℕ, ◌≤◌, ◌<◌}
use native.Mathlib.Omega.{arith}
use lib.ListN.{length}
use Rattle.arith.specs.Booleans.{as_number}
use Rattle.arith.proofs.Booleans.{both-sides, one-le}
use Rattle.grid.specs.Layer.{Layer}
use Rattle.grid.specs.Edges.{edge_count}
use Rattle.grid.specs.Questions.{Sound}
use Rattle.grid.specs.declared.edge.Edge.{Edge}
use Rattle.contour.specs.Walk.{occurrences, first}
use Rattle.contour.specs.Contours.{walk_of, same_edge, first_sticks}
use Rattle.contour.proofs.Orbit.{same_true, unlike}
use Rattle.contour.proofs.Orders.{first-sticks-once}
use Rattle.contour.proofs.Sticks.{laws}
use Rattle.table.proofs.Local.{Agree, Local, agree_then, agree-other}

module _ {L : Layer} (sound : Sound L) (step : Edge → List ℕ → List ℕ) (local : (f : Edge) → first (walk_of L) f ≡ true → Local L f (step f))
    (t : List ℕ) where
  -- from the table t, lent, work has come to the table u, and the contours of the first sticks l are left
  pub record PartDone (l : List Edge) (u : List ℕ) : Type 0 where
    pub once : (f : Edge) → occurrences (walk_of L) f l ≤ as_number (first (walk_of L) f)
    pub left : (f : Edge) → 0 < occurrences (walk_of L) f l → Agree L f u t
    pub done : (f : Edge) → first (walk_of L) f ≡ true → occurrences (walk_of L) f l ≡ 0 → Agree L f u (step f t)

  pub part-start : length t ≡ edge_count L.size → PartDone (first_sticks L) t
  part-start whole =
      let once = first-sticks-once L sound in
      record {
        once = λ f. omega (arith, once f);
        left = λ f o. record { whole₁ = whole; whole₂ = whole; same_entry = λ e on. refl };
        done = λ f is none. absurd (omega (arith, once f, ap as_number is));
      }

module _ {L : Layer} {sound : Sound L} {step : Edge → List ℕ → List ℕ} {local : (f : Edge) → first (walk_of L) f ≡ true → Local L f (step f)}
    {t : List ℕ} where
  is-first : {l : List Edge} {u : List ℕ} → PartDone sound step local t l u → (f : Edge) → 0 < occurrences (walk_of L) f l → first (walk_of L) f ≡ true
  is-first part f some = both-sides (first (walk_of L) f) (λ y. y) (λ n. absurd (omega (arith, part.once f, ap as_number n)))

  module _ {f : Edge} {l : List Edge} {u : List ℕ} (part : PartDone sound step local t (f ∷ l) u) where
    stands : 0 < occurrences (walk_of L) f (f ∷ l)
    unfolding occurrences
    stands = omega (arith, ap as_number ((laws L sound).same_self f))

    -- the next contour
    pub part-first : first (walk_of L) f ≡ true
    part-first = is-first part f stands

    pub part-here : Agree L f u t
    part-here = part.left f stands

    -- the others while it is worked on
    other : (g : Edge) → first (walk_of L) g ≡ true → f ≢ g → {v : List ℕ} → Agree L g u v → Agree L g (step f u) v
    other g first-g differ a =
        agree_then (agree-other L sound f g part-first first-g differ (step f) (local f part-first) u a.whole₁) a

    -- after it
    pub part-turn : PartDone sound step local t l (step f u)
    unfolding occurrences
    part-turn =
        record {
          once = λ g. omega (arith, part.once g);
          left = λ g o. other g (is-first part g (omega arith))
              (λ q. omega (arith, part.once g, one-le (first (walk_of L) g), ap as_number (same_true (walk_of L) (laws L sound) (sym q))))
              (part.left g (omega arith));
          done = λ g first-g none. both-sides (same_edge g f)
              (λ y. rw ((laws L sound).same_eq g f y) ((local f part-first).agrees u t part-here))
              (λ n. other g first-g (λ q. unlike (walk_of L) (laws L sound) g f n (sym q)) (part.done g first-g (omega (arith, ap as_number n))));
        }
