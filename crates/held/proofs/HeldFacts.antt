-- What a yes to question 7 says: each drawn edge crosses the removed sticks between its ends, each contour has three kept vertices or more, and
-- so the walk from each stick reaches a kept vertex.
use mathlib.Core.Path.{◌≡◌, ap}
use mathlib.Core.Bool.{Bool, true}
use mathlib.Core.List.{List, [], ◌∷◌}
use Prim.Native.Nat.{ℕ, ◌≤◌, ◌<◌}
use native.Mathlib.Omega.{arith}
use borrow.Author.Tests.{leb-true}
use lib.Dec.{leb}
use Rattle.arith.specs.Booleans.{as_number}
use Rattle.arith.proofs.Booleans.{both-sides, and_split}
use Rattle.arith.specs.Lists.{each, among}
use Rattle.grid.specs.Layer.{Layer}
use Rattle.grid.specs.Edges.{number, is_stick}
use Rattle.grid.specs.Questions.{Sound}
use Rattle.grid.specs.declared.edge.Edge.{Edge}
use Rattle.grid.specs.declared.refusal.Refusal.TheVariants.{NotHeld}
use Rattle.grid.specs.Questions.{Yes}
use Rattle.grid.proofs.Answers.{no-not-yes}
use Rattle.contour.specs.Walk.{first, occurrences, OnContour}
use Rattle.contour.specs.Contours.{walk_of, contour_of, first_sticks, same_edge}
use Rattle.contour.proofs.Members.{on-swap, on-trans}
use Rattle.contour.proofs.First.{first_one}
use Rattle.contour.proofs.Sticks.{laws, same-edge, same_self}
use Rattle.contour.proofs.Theorems.{on-one-contour, first-sticks-all}
use Rattle.table.specs.Vertices.{kept_at}
use Rattle.drawn.specs.Drawn.{edge_crosses, Drawn, drawn_of, starts}
use Rattle.drawn.proofs.DrawnEdges.{starts-once}
use Rattle.held.specs.Held.{held_contour, first_unheld, held_answer}

-- what a held layer has
pub record HeldFacts (L : Layer) (t : List ℕ) : Type 0 where
  -- each drawn edge crosses every removed stick between its ends
  pub crossed : (p : Edge) → Drawn L t p → edge_crosses L t p ≡ true
  -- each contour has three kept vertices or more
  pub three : (f : Edge) → first (walk_of L) f ≡ true → 3 ≤ among (kept_at L t) (contour_of L f)
  -- each stick has a kept vertex on its contour
  pub some_kept : (e : Edge) → is_stick L e ≡ true → (x : Edge) × OnContour (walk_of L) e x × (kept_at L t x ≡ true)

module _ (L : Layer) where
  -- a test of each element of a list holds of one that occurs in it
  pub each_at : (g : Edge → Bool) (l : List Edge) → each g l ≡ true → (y : Edge) → 0 < occurrences (walk_of L) y l → g y ≡ true
  unfolding occurrences
  each_at g [] h y o = absurd (omega arith)
  each_at g (x ∷ l) h y o =
      let both = and_split (g x) (each g l) h in
      both-sides (same_edge y x) (λ s. rw (same-edge y x s) both.0) (λ s. each_at g l both.1 y (omega (arith, ap as_number s)))

  -- if some pass it, there is one that does
  pub among-some : (g : Edge → Bool) (l : List Edge) → 0 < among g l → (x : Edge) × (0 < occurrences (walk_of L) x l) × (g x ≡ true)
  unfolding occurrences
  among-some g [] h = absurd (omega arith)
  among-some g (x ∷ l) h = both-sides (g x)
      (λ k. (x, omega (arith, ap as_number (same_self x)), k))
      (λ k. let later = among-some g l (omega (arith, ap as_number k)) in (later.0, omega (arith, later.1), later.2))

  pub held_at : (t : List ℕ) (l : List Edge) → first_unheld L t l ≡ Yes → (f : Edge) → 0 < occurrences (walk_of L) f l → held_contour L t f ≡ true
  unfolding occurrences
  held_at t [] h f o = absurd (omega arith)
  held_at t (x ∷ l) h f o = both-sides (held_contour L t x)
      (λ y. both-sides (same_edge f x)
      (λ s. rw (same-edge f x s) y)
      (λ s. held_at t l (rw y at h) f (omega (arith, ap as_number s))))
      (λ n. absurd (no-not-yes NotHeld (number L.size x) (rw n at h)))

  module _ (t : List ℕ) (sound : Sound L) where
    pub held_of : held_answer L t ≡ Yes → HeldFacts L t
    unfolding held_answer held_contour
    held_of yes-7 =
        record {
          three = λ f h. leb-true 3 (among (kept_at L t) (contour_of L f)) (halves f h).0;
          crossed = λ p d.
              let c = on-one-contour L sound p d.stick in
              let one = first_one (walk_of L) (laws L sound) c.0 c.1 in
              each_at (edge_crosses L t) (starts (drawn_of L t c.0)) (halves c.0 c.1).1 p
              (omega (arith, starts-once L t sound c.0 one p d (omega (arith, c.2))));
          some_kept = λ e stick. let c = on-one-contour L sound e stick in kept_on e stick c.0 c.1 (omega (arith, c.2));
        }
      where
        halves : (f : Edge) → first (walk_of L) f ≡ true
            → (leb 3 (among (kept_at L t) (contour_of L f)) ≡ true) × (each (edge_crosses L t) (starts (drawn_of L t f)) ≡ true)
        halves f h =
            and_split (leb 3 (among (kept_at L t) (contour_of L f))) (each (edge_crosses L t) (starts (drawn_of L t f)))
            (held_at t (first_sticks L) yes-7 f (first-sticks-all L sound f h))

        kept_on : (e : Edge) → is_stick L e ≡ true → (f : Edge) → first (walk_of L) f ≡ true → OnContour (walk_of L) f e
            → (x : Edge) × OnContour (walk_of L) e x × (kept_at L t x ≡ true)
        kept_on e stick f h o =
            let law = laws L sound in
            let one = first_one (walk_of L) law f h in
            let k = among-some (kept_at L t) (contour_of L f) (omega (arith, leb-true 3 (among (kept_at L t) (contour_of L f)) (halves f h).0)) in
            (k.0, on-trans (walk_of L) law e f k.0 stick (on-swap (walk_of L) law f e one o) k.1, k.2)
