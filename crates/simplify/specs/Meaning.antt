-- Simplify said over points: what trying a run, a contour and all contours results in, step by step as the paper says it. When a run passes
-- over points is `RunPasses` (`run` Meaning.antt). The definitions of Runs.antt, which compute, are this (proofs/Meaning.antt).
use Rattle.std.specs.Prelude.{◌≡◌, List, [], ◌∷◌, ℕ, ◌-◌, length}
use Rattle.grid.specs.Layer.{Layer}
use Rattle.grid.specs.declared.edge.Edge.{Edge}
use Rattle.contour.specs.Contours.{contour_of, first_sticks}
use Rattle.run.specs.Runs.{stick_after}
use Rattle.run.specs.Meaning.{RunPasses}
use Rattle.simplify.specs.Runs.{Progress, remove_inner, half, one_tried}
use Rattle.simplify.specs.Parts.{begun}

-- the run of n edges from e is tried, from s on, with the result r: "Inner vertices of a passing run are removed." "A run that does not pass
-- is split, its first part having half its edges rounded down, and each part is tried."
pub data Tries (L : Layer) (tolerance : ℕ) : Progress → Edge → ℕ → Progress → Type 0 where
  passing : {s r : Progress} {e : Edge} {n : ℕ} → RunPasses L s.table tolerance e n → remove_inner L (one_tried s) e n ≡ r
      → Tries L tolerance s e n r
  failing : {s m r : Progress} {e : Edge} {n : ℕ} → ¬ RunPasses L s.table tolerance e n
      → Tries L tolerance (one_tried s) e (half n) m → Tries L tolerance m (stick_after L (half n) e) (n - half n) r
      → Tries L tolerance s e n r

-- "a contour of n vertices is cut into the run from vertex 0 to vertex n div 2 and the run from there back to 0"
pub record TriesContour (L : Layer) (tolerance : ℕ) (s : Progress) (f : Edge) (r : Progress) : Type 0 where
  pub halfway : Progress
  pub there : Tries L tolerance s f (half (length (contour_of L f))) halfway
  pub back : Tries L tolerance halfway (stick_after L (half (length (contour_of L f))) f) (length (contour_of L f) - half (length (contour_of L f))) r

-- one contour after the other
abbrev pub TriesContours : Layer → ℕ → Progress → List Edge → Progress → Type 0
TriesContours L tolerance s [] r = s ≡ r
TriesContours L tolerance s (f ∷ l) r = (m : Progress) × TriesContour L tolerance s f m × TriesContours L tolerance m l r

-- all contours in their order, from a table of which nothing is removed yet
abbrev pub Simplifies : Layer → ℕ → List ℕ → Progress → Type 0
Simplifies L tolerance t r = TriesContours L tolerance (begun t) (first_sticks L) r
