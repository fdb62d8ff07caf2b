-- Questions 11 and 12 say what the paper says, over points: of a redrawn edge both are answered yes exactly if it crosses each removed stick
-- between its ends and the point there is within T of the vertex. So a slide or a removal of a held layer is accepted exactly if that holds
-- of the edges that it redraws, besides questions 9, 10, 13 and 16.
use mathlib.Core.Path.{◌≡◌, ◌∙◌}
use mathlib.Core.Logic.{◌↔◌}
use mathlib.Core.Bool.{Bool, true, ◌&&◌}
use mathlib.Core.List.{List}
use Prim.Native.Nat.{ℕ}
use borrow.Author.Tests.{leb-true, le-leb}
use Rattle.arith.proofs.Booleans.{and_split}
use Rattle.arith.specs.Lists.{among}
use Rattle.grid.specs.Layer.{Layer}
use Rattle.grid.specs.Questions.{Sound, Yes}
use Rattle.grid.specs.declared.edge.Edge.{Edge}
use Rattle.contour.specs.Contours.{contour_of}
use Rattle.chord.specs.Points.{Position, Crosses, MeetsWithin}
use Rattle.chord.specs.Crossing.{crosses, slides_within}
use Rattle.chord.proofs.Tolerance.{slides-is}
use Rattle.table.specs.Entries.{entries_answer}
use Rattle.table.specs.Vertices.{kept_at, offset_at}
use Rattle.table.specs.Stores.{slid, without}
use Rattle.drawn.specs.Neighbours.{gap_after, next_kept, previous_kept}
use Rattle.drawn.specs.Drawn.{vertex, edge_crosses, Drawn, BetweenEnds}
use Rattle.drawn.proofs.Vertices.{vertices-of}
use Rattle.drawn.proofs.Removal.{still-drawn}
use Rattle.drawn.proofs.Stores.{slide-kept, slide-entries, removal-vertices, removal-more, removal-entries}
use Rattle.held.specs.Questions.{Accepted}
use Rattle.held.proofs.HeldFacts.{each_at}
use Rattle.held.proofs.Holding.{each_all}
use Rattle.held.proofs.Meaning.{between-owned, crossing_is}
use Rattle.edit.specs.Edits.{Named, edge_named, edge_within, carries_kept, good_offset, slide_answer, removal_answer}
use Rattle.edit.specs.Chords.{Editable}
use Rattle.edit.specs.Meaning.{CrossesRemoved, RemovedWithin, Redrawn, SlideAccepted, RemovalAccepted}
use Rattle.edit.proofs.Redrawn.{vertices, inside_of, before-drawn, before-other}
use Rattle.edit.proofs.Asked.{named-at, slide-yes, removal-yes}

-- A drawn edge

-- on a sound layer, with a table that passes question 6
module _ (L : Layer) (sound : Sound L) (t : List ℕ) (entries : entries_answer L t ≡ Yes) (e : Edge) (d : Drawn L t e) where
  abbrev p : Position
  p = vertex L t e

  abbrev q : Position
  q = vertex L t (next_kept L t e)

  -- question 11
  pub crosses-removed-is : (edge_crosses L t e ≡ true) ↔ CrossesRemoved L t e
  unfolding edge_crosses
  crosses-removed-is = (
    λ h u b. (here u b).0 (each_at L (crosses p q) (gap_after L t e) h u b),
    λ h. each_all L (crosses p q) (gap_after L t e) (λ u b. (here u b).1 (h u b)),
  )
    where
      here : (u : Edge) → BetweenEnds L t e u → (crosses p q u ≡ true) ↔ Crosses p q u
      here u b =
          let v = vertices-of L t sound entries in
          crossing_is L t sound v e u d (between-owned L t sound v e u b).removed

  -- question 12, after a yes to 11
  pub removed-within-is : (tolerance : ℕ) → edge_crosses L t e ≡ true → (edge_within L t tolerance e ≡ true) ↔ RemovedWithin L t tolerance e
  unfolding edge_crosses edge_within
  removed-within-is tolerance crossed = (
    λ h u b. (here u b).0 (each_at L slides (gap_after L t e) h u b),
    λ h. each_all L slides (gap_after L t e) (λ u b. (here u b).1 (h u b)),
  )
    where
      slides : Edge → Bool
      slides u = slides_within tolerance p q u (offset_at L t u)

      here : (u : Edge) → BetweenEnds L t e u → (slides u ≡ true) ↔ MeetsWithin tolerance p q u (offset_at L t u)
      here u b = slides-is tolerance p q u (offset_at L t u) (each_at L (crosses p q) (gap_after L t e) crossed u b)

  -- both
  pub redrawn-is : (tolerance : ℕ) → ((edge_crosses L t e && edge_within L t tolerance e) ≡ true) ↔ Redrawn L t tolerance e
  redrawn-is tolerance = (
    λ h.
        let both = and_split (edge_crosses L t e) (edge_within L t tolerance e) h in
        λ u b. record {
          crossed = crosses-removed-is.0 both.0 u b;
          within = (removed-within-is tolerance both.0).0 both.1 u b;
        },
    λ r.
        let crossed = crosses-removed-is.1 (λ u b. (r u b).crossed) in
        rw (crossed, (removed-within-is tolerance crossed).1 (λ u b. (r u b).within)),
  )

-- An edit of a held layer

both_true : {a b : Bool} → a ≡ true → b ≡ true → (a && b) ≡ true
both_true x y = rw (x, y)

module _ (L : Layer) (t : List ℕ) (accepted : Accepted L t) (s : Named) (tolerance place : ℕ) where
  abbrev e : Edge
  e = edge_named s

  abbrev P : Edge
  P = previous_kept L t e

  -- a slide: both edges are drawn after it

  module _ (o : ℕ) where
    abbrev moved : List ℕ
    moved = slid L t e o

    moved-is : Editable L t e → good_offset o ≡ true → (x : Edge) → Drawn L t x
        → ((edge_crosses L moved x && edge_within L moved tolerance x) ≡ true) ↔ Redrawn L moved tolerance x
    moved-is v good x dx =
        let inside = inside_of o good in
        redrawn-is L accepted.sound moved (slide-entries L accepted.sound t accepted.exact e v.drawn o inside accepted.entries) x
        (record { stick = dx.stick; kept = slide-kept L accepted.sound t accepted.exact e v.drawn o inside x ∙ dx.kept }) tolerance

    pub slide-yes-is : (slide_answer L tolerance t place s o ≡ Yes) ↔ SlideAccepted L t tolerance s o
    unfolding slide_answer
    slide-yes-is = (to, from)
      where
        to : slide_answer L tolerance t place s o ≡ Yes → SlideAccepted L t tolerance s o
        to all =
            let y = slide-yes L tolerance t place s o all in
            let v = named-at s accepted y.kept in
            let c = and_split (edge_crosses L moved P) (edge_crosses L moved e) y.crossed in
            let w = and_split (edge_within L moved tolerance P) (edge_within L moved tolerance e) y.within in
            record {
              kept = y.kept;
              unpinned = y.unpinned;
              offset = y.offset;
              into = (moved-is v y.offset P (before-drawn v)).0 (both_true c.0 w.0);
              out = (moved-is v y.offset e v.drawn).0 (both_true c.1 w.1);
            }

        from : SlideAccepted L t tolerance s o → slide_answer L tolerance t place s o ≡ Yes
        from a =
            let v = named-at s accepted a.kept in
            let i = and_split (edge_crosses L moved P) (edge_within L moved tolerance P)
            ((moved-is v a.offset P (before-drawn v)).1 a.into) in
            let u = and_split (edge_crosses L moved e) (edge_within L moved tolerance e) ((moved-is v a.offset e v.drawn).1 a.out) in
            rw (a.kept, a.unpinned, a.offset, i.0, u.0, i.1, u.1)

  -- a removal: the edge that joins the neighbours is drawn after it

  abbrev rest : List ℕ
  rest = without L t e

  joined_is : carries_kept L t s ≡ true → ((edge_crosses L rest P && edge_within L rest tolerance P) ≡ true) ↔ Redrawn L rest tolerance P
  joined_is kept =
      let at = named-at s accepted kept in
      let d = at.drawn in
      let sound = accepted.sound in
      let v = vertices accepted in
      redrawn-is L sound rest (removal-entries L sound t accepted.exact e d v accepted.entries) P
      (still-drawn L t rest sound v (removal-vertices L sound t accepted.exact e d v) e (removal-more L sound t accepted.exact e d v)
      P (before-drawn at) (before-other at)) tolerance

  pub removal-yes-is : (removal_answer L tolerance t place s ≡ Yes) ↔ RemovalAccepted L t tolerance s
  unfolding removal_answer
  removal-yes-is = (to, from)
    where
      many : ℕ
      many = among (kept_at L rest) (contour_of L e)

      to : removal_answer L tolerance t place s ≡ Yes → RemovalAccepted L t tolerance s
      to all =
          let y = removal-yes L tolerance t place s all in
          record {
            kept = y.kept;
            unpinned = y.unpinned;
            over = (joined_is y.kept).0 (both_true y.crossed y.within);
            three = leb-true 3 many y.three;
          }

      from : RemovalAccepted L t tolerance s → removal_answer L tolerance t place s ≡ Yes
      from a =
          let j = and_split (edge_crosses L rest P) (edge_within L rest tolerance P) ((joined_is a.kept).1 a.over) in
          rw (a.kept, a.unpinned, j.0, j.1, le-leb 3 many a.three)
