-- The questions put to one edit, each after those before it were answered yes.
use mathlib.Core.Path.{◌≡◌, refl, sym, ◌∙◌, ap, subst}
use mathlib.Core.Logic.{◌≢◌}
use native.Mathlib.Omega.{arith}
use mathlib.Core.Bool.{Bool, true, false, not, ◌&&◌}
use mathlib.Core.List.{List, [], ◌∷◌}
use Prim.Native.Nat.{ℕ, ◌≤◌}
use borrow.Author.Tests.{le-leb, not-true, not-false}
use lib.Dec.{leb}
use Rattle.arith.proofs.Booleans.{both-sides, and_split}
use Rattle.arith.specs.Lists.{among}
use Rattle.grid.specs.Layer.{Layer}
use Rattle.grid.specs.Questions.{first_no, Answer, Yes, No}
use Rattle.grid.specs.Edges.{in_grid}
use Rattle.grid.specs.declared.layer.Size.{Size}
use Rattle.grid.specs.declared.edge.Edge.{Edge}
use Rattle.grid.specs.declared.refusal.Refusal.{Refusal}
use Rattle.grid.specs.declared.refusal.Refusal.TheVariants.{NoKeptVertex, VertexPinned, BadOffset, NoCrossing, BeyondTolerance, TooFewKept}
use Rattle.grid.proofs.Answers.{no-not-yes}
use Rattle.contour.specs.Contours.{walk_of, contour_of}
use Rattle.contour.proofs.Orbit.{same_false}
use Rattle.contour.proofs.Sticks.{laws}
use Rattle.table.specs.Vertices.{entry_at, kept_at, pinned_at, offset_at}
use Rattle.table.specs.Stores.{slid, without, pinned}
use Rattle.table.specs.Lent.{HasEntry}
use Rattle.table.specs.Pins.{PinsStay}
use Rattle.table.specs.declared.entry.Entry.TheVariants.{Kept, Removed}
use Rattle.table.proofs.Entries.{pinned-kept}
use Rattle.table.proofs.Pins.{store-pins, pin-again}
use Rattle.drawn.specs.Neighbours.{next_kept, previous_kept}
use Rattle.drawn.specs.Drawn.{edge_crosses}
use Rattle.held.specs.Questions.{Accepted}
use Rattle.held.proofs.Edits.{removal-three, removal-second, removal-third}
use Rattle.edit.specs.Edits.{Named, ask_at, edge_named, carries_kept, may_move, good_offset, edge_within, slide_answer, removal_answer, pin_answer}
use Rattle.edit.specs.declared.redraw.Chord.{Chord}
use Rattle.edit.specs.Chords.{slid_into, slid_out, joined_over, crosses_chord, within_chord, chords_answer, names_kept, names_pinned, third_left, stored_if, Editable, Slidable, NamedKept, Exact}
use Rattle.edit.proofs.Within.{chord-within, chord_crosses}
use Rattle.edit.proofs.Redrawn.{vertices, inside_of, kept-stick, read_at, before-drawn, slide-offsets, slide-accepted, removal-offsets, removal-accepted, pin-accepted}

-- a yes to five questions is a yes to each
five-yes : (place : ℕ) (p q r s u : Refusal) (a b c d e : Bool)
    → first_no (ask_at place p a ∷ ask_at place q b ∷ ask_at place r c ∷ ask_at place s d ∷ ask_at place u e ∷ []) ≡ Yes
    → (a ≡ true) × (b ≡ true) × (c ≡ true) × (d ≡ true) × (e ≡ true)
five-yes place p q r s u true true true true true h = (refl, refl, refl, refl, refl)
five-yes place p q r s u true true true true false h = absurd (no-not-yes u place h)
five-yes place p q r s u true true true false e h = absurd (no-not-yes s place h)
five-yes place p q r s u true true false d e h = absurd (no-not-yes r place h)
five-yes place p q r s u true false c d e h = absurd (no-not-yes q place h)
five-yes place p q r s u false b c d e h = absurd (no-not-yes p place h)

-- a test as the code reads it: b is what a callee answered, and the branch goes by whether it is no

pub yes_of : {b x : Bool} → b ≡ x → not b ≡ false → x ≡ true
yes_of {b} e h = sym e ∙ not-false b h

pub no_of : {b x : Bool} → b ≡ x → not b ≡ true → x ≡ false
no_of {b} e h = sym e ∙ not-true b h

-- after a no the table is as it was
pub kept_if : {t : List ℕ} (t' : List ℕ) {answer : Answer} {q : Refusal} {p : ℕ} → answer ≡ No q p → t ≡ stored_if answer t t'
kept_if {t} t' e = sym (ap (λ (x : Answer). stored_if x t t') e)

-- question 9

names-kept : (L : Layer) (t : List ℕ) (s : Named) → names_kept L.size t s ≡ carries_kept L t s
unfolding kept_at
names-kept L t s = refl

-- a stick to which question 9 says yes has an entry
pub in_table : (s : Named) {size : Size} {t : List ℕ} → Exact size t → names_kept size t s ≡ true → HasEntry size t (edge_named s)
in_table s {size} {t} given kept =
    let inside = (and_split (leb s.kind 1 && in_grid size (edge_named s)) _ kept).0 in
    record { sized = given.sized; exact = given.exact; in-grid = (and_split (leb s.kind 1) (in_grid size (edge_named s)) inside).1 }

pub named-at : (s : Named) {L : Layer} {t : List ℕ} → Accepted L t → carries_kept L t s ≡ true → Editable L t (edge_named s)
named-at s {L} {t} accepted kept =
    let both = and_split (leb s.kind 1 && in_grid L.size (edge_named s)) (kept_at L t (edge_named s)) kept in
    let inside = (and_split (leb s.kind 1) (in_grid L.size (edge_named s)) both.0).1 in
    record { accepted = accepted; drawn = kept-stick accepted (edge_named s) inside both.1 }

pub editable : {L : Layer} {t : List ℕ} {s : Named} → NamedKept L t s → {e : Edge} → e ≡ edge_named s → Editable L t e
editable {L} {t} {s} k is = subst (Editable L t) (sym is) (named-at s k.accepted k.kept)

-- as `carries_kept` answers it
module _ (L : Layer) (t : List ℕ) (s : Named) {b : Bool} (is : b ≡ names_kept L.size t s) where
  pub not-kept : not b ≡ true → carries_kept L t s ≡ false
  not-kept h = sym (names-kept L t s) ∙ no_of is h

  pub is-kept : not b ≡ false → carries_kept L t s ≡ true
  is-kept h = sym (names-kept L t s) ∙ yes_of is h

  pub named-kept : Accepted L t → not b ≡ false → NamedKept L t s
  named-kept accepted h = record { accepted = accepted; kept = is-kept h }

-- question 16

pub named-entry : {L : Layer} {t : List ℕ} {s : Named} → NamedKept L t s → HasEntry L.size t (edge_named s)
named-entry {s = s} k = read_at k.accepted (edge_named s) (named-at s k.accepted k.kept).drawn.stick

-- as `carries_pin` answers it
module _ (L : Layer) (t : List ℕ) (s : Named) {b : Bool} (is : b ≡ names_pinned L.size t s) where
  pub pinned-no : b ≡ true → may_move L t s ≡ false
  unfolding pinned_at
  pinned-no h = ap not (sym is ∙ h)

  pub unpinned-yes : b ≡ false → may_move L t s ≡ true
  unfolding pinned_at
  unpinned-yes h = ap not (sym is ∙ h)

-- question 10

pub good-offset : (o : ℕ) → 1 ≤ o → o ≤ 255 → good_offset o ≡ true
good-offset o h k = rw (le-leb 1 o h, le-leb o 255 k)

pub slidable : {L : Layer} {t : List ℕ} {s : Named} → NamedKept L t s → {e : Edge} → e ≡ edge_named s → {o : ℕ} → o ≢ 0 → o ≤ 255
    → Slidable L t e o
slidable k is {o} some fits = record { at = editable k is; offset = good-offset o (omega arith) fits }

-- a slide

module _ (L : Layer) (tolerance : ℕ) (t : List ℕ) (place : ℕ) (s : Named) (o : ℕ) where
  abbrev e : Edge
  e = edge_named s

  abbrev moved : List ℕ
  moved = slid L t e o

  abbrev P : Edge
  P = previous_kept L t e

  pub slide_none : carries_kept L t s ≡ false → No NoKeptVertex place ≡ slide_answer L tolerance t place s o
  unfolding slide_answer
  slide_none f = rw f

  -- what a yes says
  pub record SlideYes : Type 0 where
    pub kept : carries_kept L t s ≡ true
    pub unpinned : may_move L t s ≡ true
    pub offset : good_offset o ≡ true
    pub crossed : (edge_crosses L moved P && edge_crosses L moved e) ≡ true
    pub within : (edge_within L moved tolerance P && edge_within L moved tolerance e) ≡ true

  pub slide-yes : slide_answer L tolerance t place s o ≡ Yes → SlideYes
  unfolding slide_answer
  slide-yes all =
      let y =
      five-yes place NoKeptVertex VertexPinned BadOffset NoCrossing BeyondTolerance (carries_kept L t s) (may_move L t s) (good_offset o)
      (edge_crosses L moved P && edge_crosses L moved e) (edge_within L moved tolerance P && edge_within L moved tolerance e) all in
      record { kept = y.0; unpinned = y.1; offset = y.2; crossed = y.3; within = y.4 }

  -- the table after it is accepted too, and keeps the pins
  pub slide-keeps : Accepted L t → slide_answer L tolerance t place s o ≡ Yes → Accepted L moved
  slide-keeps accepted all =
      let yes = slide-yes all in
      let both = and_split (edge_crosses L moved P) (edge_crosses L moved e) yes.crossed in
      slide-accepted (named-at s accepted yes.kept) (inside_of o yes.offset) both.0 both.1

  pub slide-pins : slide_answer L tolerance t place s o ≡ Yes → PinsStay t moved
  slide-pins all = store-pins L t e (Kept o) (not-true (pinned_at L t e) (slide-yes all).unpinned)

module _ (tolerance place : ℕ) {L : Layer} {t : List ℕ} {s : Named} (k : NamedKept L t s) (o : ℕ) where
  pub slide-pinned : may_move L t s ≡ false → No VertexPinned place ≡ slide_answer L tolerance t place s o
  unfolding slide_answer
  slide-pinned pin = rw (k.kept, pin)

  pub slide-bad : may_move L t s ≡ true → o ≡ 0 → No BadOffset place ≡ slide_answer L tolerance t place s o
  unfolding slide_answer
  slide-bad unpinned h = rw (k.kept, unpinned, h)

  pub slide-asked : may_move L t s ≡ true → {x : Edge} → x ≡ edge_named s → Slidable L t x o → {a b : Chord} → a ≡ slid_into L t x o → b ≡ slid_out L t x o
      → chords_answer L t tolerance place a b ≡ slide_answer L tolerance t place s o
  unfolding slide_answer
  slide-asked unpinned is r {a} {b} ea eb =
      let e = edge_named s in
      let v = named-at s k.accepted k.kept in
      let sound = k.accepted.sound in
      let t' = slid L t e o in
      let same = slide-offsets v (inside_of o r.offset) in
      let into = ea ∙ ap (λ (x : Edge). slid_into L t x o) is in
      let out = eb ∙ ap (λ (x : Edge). slid_out L t x o) is in
      rw (
        k.kept,
        unpinned,
        r.offset,
        ← chord_crosses L t' (previous_kept L t e) a into,
        ← chord_crosses L t' e b out,
        ← chord-within L sound t t' same tolerance (previous_kept L t e) (before-drawn v).stick a into,
        ← chord-within L sound t t' same tolerance e v.drawn.stick b out,
      )

-- a removal

module _ (L : Layer) (tolerance : ℕ) (t : List ℕ) (place : ℕ) (s : Named) where
  abbrev left : List ℕ
  left = without L t (edge_named s)

  abbrev before : Edge
  before = previous_kept L t (edge_named s)

  pub removal-none : carries_kept L t s ≡ false → No NoKeptVertex place ≡ removal_answer L tolerance t place s
  unfolding removal_answer
  removal-none f = rw f

  pub record RemovalYes : Type 0 where
    pub kept : carries_kept L t s ≡ true
    pub unpinned : may_move L t s ≡ true
    pub crossed : edge_crosses L left before ≡ true
    pub within : edge_within L left tolerance before ≡ true
    pub three : leb 3 (among (kept_at L left) (contour_of L (edge_named s))) ≡ true

  pub removal-yes : removal_answer L tolerance t place s ≡ Yes → RemovalYes
  unfolding removal_answer
  removal-yes all =
      let y =
      five-yes place NoKeptVertex VertexPinned NoCrossing BeyondTolerance TooFewKept (carries_kept L t s) (may_move L t s)
      (edge_crosses L left before) (edge_within L left tolerance before) (leb 3 (among (kept_at L left) (contour_of L (edge_named s)))) all in
      record { kept = y.0; unpinned = y.1; crossed = y.2; within = y.3; three = y.4 }

  pub removal-keeps : Accepted L t → removal_answer L tolerance t place s ≡ Yes → Accepted L left
  removal-keeps accepted all =
      let yes = removal-yes all in
      removal-accepted (named-at s accepted yes.kept) yes.crossed

  pub removal-pins : removal_answer L tolerance t place s ≡ Yes → PinsStay t left
  removal-pins all =
      store-pins L t (edge_named s) (Removed (offset_at L t (edge_named s))) (not-true (pinned_at L t (edge_named s)) (removal-yes all).unpinned)

module _ (tolerance place : ℕ) {L : Layer} {t : List ℕ} {s : Named} (k : NamedKept L t s) where
  pub removal-pinned : may_move L t s ≡ false → No VertexPinned place ≡ removal_answer L tolerance t place s
  unfolding removal_answer
  removal-pinned pin = rw (k.kept, pin)

module _ (tolerance place : ℕ) {L : Layer} {t : List ℕ} {s : Named} (k : NamedKept L t s) (unpinned : may_move L t s ≡ true) {x : Edge}
    (is : x ≡ edge_named s) {c : Chord} (joined : c ≡ joined_over L t x) where
  abbrev accepted : Accepted L t
  accepted = k.accepted

  v : Editable L t (edge_named s)
  v = named-at s accepted k.kept

  crossing : edge_crosses L (without L t (edge_named s)) (previous_kept L t (edge_named s)) ≡ crosses_chord L c
  crossing = sym (chord_crosses L _ _ c (joined ∙ ap (joined_over L t) is))

  measured : edge_within L (without L t (edge_named s)) tolerance (previous_kept L t (edge_named s)) ≡ within_chord L t tolerance c
  measured =
      sym (chord-within L accepted.sound t _ (removal-offsets v) tolerance _ (before-drawn v).stick c
      (joined ∙ ap (joined_over L t) is))

  pub removal-missed : crosses_chord L c ≡ false → No NoCrossing place ≡ removal_answer L tolerance t place s
  unfolding removal_answer
  removal-missed f = rw (k.kept, unpinned, crossing ∙ f)

  module _ (crossed : crosses_chord L c ≡ true) where
    pub removal-far : within_chord L t tolerance c ≡ false → No BeyondTolerance place ≡ removal_answer L tolerance t place s
    unfolding removal_answer
    removal-far f = rw (k.kept, unpinned, crossing ∙ crossed, measured ∙ f)

    -- once the joined edge crosses there are three kept vertices left, by the count and by the walk
    pub removal-done : within_chord L t tolerance c ≡ true → Yes ≡ removal_answer L tolerance t place s
    unfolding removal_answer
    removal-done f =
        let enough =
        le-leb 3 _
        (removal-three L accepted.sound t accepted.exact (vertices accepted) accepted.held (edge_named s) v.drawn (crossing ∙ crossed)) in
        rw (k.kept, unpinned, crossing ∙ crossed, measured ∙ f, enough)

    pub removal-third-left : third_left L t x c.stick ≡ true
    removal-third-left =
        let e = edge_named s in
        let P = previous_kept L t e in
        let N = next_kept L t e in
        let crosses = crossing ∙ crossed in
        let law = laws L accepted.sound in
        let second = removal-second L accepted.sound t accepted.exact (vertices accepted) accepted.held e v.drawn crosses in
        let third = removal-third L accepted.sound t accepted.exact (vertices accepted) accepted.held e v.drawn crosses in
        ap (λ (y : Chord). third_left L t x y.stick) joined ∙ ap (λ (y : Edge). third_left L t y (previous_kept L t y)) is
        ∙ (λ i.
        not (same_false (walk_of L) law {x = N} {y = P} (λ q. second (sym q)) i)
        && not (same_false (walk_of L) law {x = next_kept L t N} {y = P} third i))

-- a pin

module _ (L : Layer) (t : List ℕ) (place : ℕ) (s : Named) where
  pub pin-none : carries_kept L t s ≡ false → No NoKeptVertex place ≡ pin_answer L t place s
  unfolding pin_answer
  pin-none f = sym (ap (ask_at place NoKeptVertex) f)

  pub pin-done : carries_kept L t s ≡ true → Yes ≡ pin_answer L t place s
  unfolding pin_answer
  pin-done f = sym (ap (ask_at place NoKeptVertex) f)

  pin-yes : pin_answer L t place s ≡ Yes → carries_kept L t s ≡ true
  pin-yes all = both-sides (carries_kept L t s) (λ y. y) (λ no. absurd (no-not-yes NoKeptVertex place (pin-none no ∙ all)))

  pub pin-keeps : Accepted L t → pin_answer L t place s ≡ Yes → Accepted L (pinned L t (edge_named s))
  pin-keeps accepted all = pin-accepted (named-at s accepted (pin-yes all))

  -- "A pin on an already pinned vertex is done and alters nothing." (Note 5)
  pub pin-twice : leb s.kind 1 ≡ true → in_grid L.size (edge_named s) ≡ true → pinned_at L t (edge_named s) ≡ true
      → (pin_answer L t place s ≡ Yes) × (pinned L t (edge_named s) ≡ t)
  unfolding pinned_at kept_at
  pin-twice kind inside pin =
      (sym (pin-done (rw (kind, inside) (pinned-kept (entry_at L t (edge_named s)) pin))), pin-again L t (edge_named s) pin)
