-- When question 7 is answered yes: if each drawn edge crosses every removed stick between its ends, and each contour has a kept vertex. That
-- each contour has three follows (FourKept). So a table that removes nothing is held, and passes every question before 7 too.
use mathlib.Core.Path.{◌≡◌, refl, ap}
use mathlib.Core.Bool.{Bool, true, false}
use mathlib.Core.List.{List, [], ◌∷◌}
use Prim.Native.Nat.{ℕ, ◌<◌}
use native.Mathlib.Omega.{arith}
use borrow.Author.Tests.{le-leb}
use lib.ListN.{length}
use Rattle.arith.specs.Booleans.{as_number}
use Rattle.arith.specs.Lists.{each, among}
use Rattle.grid.specs.Layer.{Layer}
use Rattle.grid.specs.Edges.{is_stick, edge_count}
use Rattle.grid.specs.Questions.{first_no, Sound}
use Rattle.grid.specs.declared.edge.Edge.{Edge}
use Rattle.grid.specs.Questions.{Yes}
use Rattle.contour.specs.Walk.{first, occurrences, OnContour}
use Rattle.contour.specs.Contours.{walk_of, contour_of, first_sticks}
use Rattle.contour.proofs.First.{first_one}
use Rattle.contour.proofs.Members.{on-self}
use Rattle.contour.proofs.Sticks.{laws, same_self}
use Rattle.contour.proofs.Theorems.{first-sticks-only}
use Rattle.table.specs.Entries.{entries_answer}
use Rattle.table.specs.Kept.{all_kept_answer}
use Rattle.table.specs.Vertices.{kept_at, removed_at}
use Rattle.table.proofs.AllKept.{AllKept, all-kept-of, not-removed, passes-entries}
use Rattle.drawn.specs.Drawn.{edge_crosses, Drawn, drawn_of, starts}
use Rattle.drawn.proofs.Vertices.{Vertices, vertices-of, kept_of}
use Rattle.drawn.proofs.DrawnEdges.{starts-only}
use Rattle.drawn.proofs.FourKept.{four-kept, nothing-crossed}
use Rattle.held.specs.Held.{held_contour, first_unheld, held_answer}
use Rattle.held.specs.Questions.{Accepted}

module _ (L : Layer) where
  -- a test that holds of all that occurs in a list
  pub each_all : (g : Edge → Bool) (l : List Edge) → ((y : Edge) → 0 < occurrences (walk_of L) y l → g y ≡ true) → each g l ≡ true
  unfolding occurrences
  each_all g [] h = refl
  each_all g (x ∷ l) h =
      rw (h x (omega (arith, ap as_number (same_self x)))) (each_all g l (λ y o. h y (omega arith)))

  pub held_all : (t : List ℕ) (l : List Edge) → ((f : Edge) → 0 < occurrences (walk_of L) f l → held_contour L t f ≡ true) → first_unheld L t l ≡ Yes
  unfolding occurrences
  held_all t [] h = refl
  held_all t (x ∷ l) h =
      rw (h x (omega (arith, ap as_number (same_self x)))) (held_all t l (λ f o. h f (omega arith)))

module _ (L : Layer) (t : List ℕ) (sound : Sound L) (vertices : Vertices L t) where
  -- a contour with a kept vertex whose drawn edges cross is held
  pub contour-held : (f : Edge) → is_stick L f ≡ true → (x : Edge) → OnContour (walk_of L) f x → kept_at L t x ≡ true
      → ((p : Edge) → OnContour (walk_of L) f p → Drawn L t p → edge_crosses L t p ≡ true) → held_contour L t f ≡ true
  unfolding held_contour
  contour-held f stick x on kept over =
      let four = four-kept L t sound vertices f stick x on kept over in
      let all = each_all L (edge_crosses L t) (starts (drawn_of L t f)) (λ p o. let s = starts-only L t sound f stick p o in over p s.1 s.0) in
      rw (le-leb 3 (among (kept_at L t) (contour_of L f)) (omega (arith, four)), all)

  pub layer-held : ((p : Edge) → Drawn L t p → edge_crosses L t p ≡ true)
      → ((f : Edge) → first (walk_of L) f ≡ true → (x : Edge) × OnContour (walk_of L) f x × (kept_at L t x ≡ true)) → held_answer L t ≡ Yes
  unfolding held_answer
  layer-held over some = held_all L t (first_sticks L) (λ f o.
      let h = first-sticks-only L sound f o in
      let k = some f h in
      contour-held f (first_one (walk_of L) (laws L sound) f h) k.0 k.1 k.2 (λ p _ d. over p d))

  -- a table that removes nothing
  pub kept-held : ((e : Edge) → is_stick L e ≡ true → removed_at L t e ≡ false) → held_answer L t ≡ Yes
  kept-held none =
      layer-held (λ p d. nothing-crossed L t sound none p d.stick) (λ f h.
      let stick = first_one (walk_of L) (laws L sound) f h in
      (f, on-self (walk_of L) (laws L sound) f stick, (kept_of L t sound vertices f stick (none f stick)).kept))

pub all-kept-accepted : (L : Layer) (t : List ℕ) → Sound L → AllKept L t → Accepted L t
all-kept-accepted L t sound kept =
    let yes-6 = passes-entries L t kept sound in
    record {
      sound = sound;
      exact = kept.whole;
      entries = yes-6;
      held = kept-held L t sound (vertices-of L t sound yes-6) (not-removed L t kept);
    }

-- so where 15 is answered yes, 7 is too
pub kept-yes : (L : Layer) (t : List ℕ) → Sound L → length t ≡ edge_count L.size → entries_answer L t ≡ Yes → all_kept_answer L.size t ≡ Yes
    → Yes ≡ first_no (held_answer L t ∷ all_kept_answer L.size t ∷ [])
kept-yes L t sound exact entries all_kept =
    rw ((all-kept-accepted L t sound (all-kept-of L t sound exact entries all_kept)).held, all_kept)
