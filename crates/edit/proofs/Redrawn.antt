-- The edges that an edit of a held layer redraws: what the code makes of the kept vertices before and after the named one is the drawn edge
-- as the definition has it, on the table after the edit.
use mathlib.Core.Path.{◌≡◌, sym, ◌∙◌, ap, subst}
use mathlib.Core.Logic.{◌≢◌}
use mathlib.Core.Bool.{true, false}
use mathlib.Core.List.{List}
use Prim.Native.Nat.{ℕ, ◌+◌, ◌≤◌}
use native.Mathlib.Omega.{arith}
use borrow.Author.Tests.{leb-true}
use lib.Dec.{leb}
use lib.ListN.{length}
use Rattle.arith.proofs.Booleans.{and_split}
use Rattle.grid.specs.Layer.{Layer}
use Rattle.grid.specs.Edges.{is_stick, in_grid}
use Rattle.grid.specs.Questions.{Sound}
use Rattle.grid.specs.declared.edge.Edge.{Edge}
use Rattle.grid.proofs.Numbers.{edges-small}
use Rattle.chord.specs.Points.{Position, position}
use Rattle.chord.specs.Crossing.{along}
use Rattle.chord.specs.Runs.{NearEdge}
use Rattle.chord.proofs.EdgePoints.{along-position}
use Rattle.chord.proofs.Tests.{stick-near}
use Rattle.table.specs.Vertices.{entry_at, kept_at, removed_at, offset_at}
use Rattle.table.specs.Lent.{HasEntry}
use Rattle.table.proofs.Entries.{Inside, kept-on-stick}
use Rattle.table.proofs.Lent.{has-entry}
use Rattle.table.specs.Stores.{slid, without, pinned}
use Rattle.drawn.specs.Neighbours.{gap_after, gap_before, next_kept, previous_kept}
use Rattle.drawn.proofs.Gaps.{not-both, kept-not-removed}
use Rattle.drawn.specs.Drawn.{vertex, edge_crosses, Drawn}
use Rattle.drawn.proofs.Vertices.{Vertices, vertices-of, edge-suits}
use Rattle.drawn.proofs.Owners.{end-drawn}
use Rattle.drawn.proofs.Neighbours.{next-previous, previous-drawn}
use Rattle.drawn.proofs.SideLemma.{not-one}
use Rattle.drawn.proofs.Removal.{OneMore}
use Rattle.drawn.proofs.Stores.{slide-removed, slide-next, slide-after, slide-offset, slide-vertex, slide-entries, slide-length, removal-vertex, removal-more, removal-entries, removal-length, pin-entries, pin-length}
use Rattle.held.specs.Questions.{Accepted}
use Rattle.held.proofs.HeldFacts.{HeldFacts, held_of}
use Rattle.held.proofs.Edits.{slide-held, removal-held, pin-held}
use Rattle.edit.specs.Edits.{good_offset}
use Rattle.edit.specs.Chords.{chord_of, Editable}
use Rattle.edit.proofs.GapLengths.{before-after, before_most, after_most, joined}

pub inside_of : (o : ℕ) → good_offset o ≡ true → Inside o
inside_of o h =
    let both = and_split (leb 1 o) (leb o 255) h in
    record { low = leb-true 1 o both.0; high = leb-true o 255 both.1 }

-- where a vertex lies tells its offset
offset-of : (e : Edge) (a b : ℕ) → position e a ≡ position e b → a ≡ b
offset-of e a b s = omega (arith, along-position e a, along-position e b, ap (along e) s)

-- what the code asks of a stick whose vertex it reads
pub read_at : {L : Layer} {t : List ℕ} → Accepted L t → (u : Edge) → is_stick L u ≡ true → HasEntry L.size t u
read_at {L} accepted u stick = has-entry (record { sound = accepted.sound; exact = accepted.exact; stick = stick })

module _ {L : Layer} {t : List ℕ} (accepted : Accepted L t) where
  pub vertices : Vertices L t
  vertices = vertices-of L t accepted.sound accepted.entries

  held : HeldFacts L t
  held = held_of L t accepted.sound accepted.held

  -- an edge of the grid with a kept vertex is a stick
  pub kept-stick : (e : Edge) → in_grid L.size e ≡ true → kept_at L t e ≡ true → Drawn L t e
  unfolding kept_at
  kept-stick e inside kept =
      let fits = edge-suits L t accepted.sound accepted.entries e inside in
      record { stick = kept-on-stick (is_stick L e) (entry_at L t e) fits kept; kept = kept }

-- A vertex that an edit may be tried on

module _ {L : Layer} {t : List ℕ} {e : Edge} (k : Editable L t e) where
  abbrev accepted : Accepted L t
  accepted = k.accepted

  abbrev sound : Sound L
  sound = accepted.sound

  abbrev d : Drawn L t e
  d = k.drawn

  v : Vertices L t
  v = vertices accepted

  -- what the code asks of it to walk to the kept one before or after
  pub not-removed : removed_at L t e ≡ false
  not-removed = kept-not-removed L t e d.kept

  -- the sticks that are passed before and after it are not too many to count
  pub gaps-small : (length (gap_before L t e) ≤ 2095104) × (length (gap_after L t e) ≤ 2095104)
  gaps-small =
      let small = edges-small L.size sound.whole.sized in
      (omega (arith, before_most L t sound e d), omega (arith, after_most L t sound e d))

  pub near-at : NearEdge e
  near-at = stick-near L sound e d.stick

  abbrev P : Edge
  P = previous_kept L t e

  pub before-drawn : Drawn L t P
  before-drawn = previous-drawn L t sound v e d

  pub after-drawn : Drawn L t (next_kept L t e)
  after-drawn = end-drawn L t sound v e d

  arrives : next_kept L t P ≡ e
  arrives = next-previous L t sound v e d

  next-other : next_kept L t e ≢ e
  next-other = not-one L t sound v e d ((held accepted).crossed e d)

  pub before-other : P ≢ e
  before-other s = next-other (sym (ap (next_kept L t) s) ∙ arrives)

  -- the kept vertex after it is another
  pub editable-after : {x : Edge} → x ≡ next_kept L t e → Editable L t x
  editable-after is = record { accepted = accepted; drawn = subst (Drawn L t) (sym is) after-drawn }

  -- A slide

  module _ {o : ℕ} (inside : Inside o) where
    pub slide-offsets : (u : Edge) → is_stick L u ≡ true → removed_at L (slid L t e o) u ≡ true
        → offset_at L (slid L t e o) u ≡ offset_at L t u
    slide-offsets u stick r =
        let was : removed_at L t u ≡ true = sym (slide-removed L sound t accepted.exact e d o inside u) ∙ r in
        offset-of u _ _ (slide-vertex L sound t accepted.exact e d o inside u stick (λ s. not-both L t u (rw s d.kept) was))

    pub slide-into : {from to : Position} {stick : Edge} {gap : ℕ} → from ≡ vertex L t stick → to ≡ position e o → stick ≡ P
        → gap ≡ length (gap_before L t e) → record { from = from; to = to; stick = stick; gap = gap } ≡ chord_of L (slid L t e o) P
    slide-into {from} {to} {stick} {gap} f q s g =
        let t' = slid L t e o in
        let start : from ≡ vertex L t' P =
        f ∙ ap (vertex L t) s ∙ sym (slide-vertex L sound t accepted.exact e d o inside P before-drawn.stick before-other) in
        let goal : to ≡ vertex L t' (next_kept L t' P) =
        q ∙ sym (ap (vertex L t') (slide-next L sound t accepted.exact e d o inside P ∙ arrives)
        ∙ ap (position e) (slide-offset L sound t accepted.exact e d o inside)) in
        let passed : gap ≡ length (gap_after L t' P) =
        g ∙ before-after L t sound e d ∙ sym (ap length (slide-after L sound t accepted.exact e d o inside P)) in
        λ i. record { from = start i; to = goal i; stick = s i; gap = passed i }

    pub slide-out : {from to : Position} {last : Edge} {gap : ℕ} → from ≡ position e o → to ≡ vertex L t last → last ≡ next_kept L t e
        → gap ≡ length (gap_after L t e) → record { from = from; to = to; stick = e; gap = gap } ≡ chord_of L (slid L t e o) e
    slide-out {from} {to} {last} {gap} f q s g =
        let t' = slid L t e o in
        let N = next_kept L t e in
        let start : from ≡ vertex L t' e = f ∙ sym (ap (position e) (slide-offset L sound t accepted.exact e d o inside)) in
        let goal : to ≡ vertex L t' (next_kept L t' e) =
        q ∙ ap (vertex L t) s ∙ sym (ap (vertex L t') (slide-next L sound t accepted.exact e d o inside e)
        ∙ slide-vertex L sound t accepted.exact e d o inside N after-drawn.stick next-other) in
        let passed : gap ≡ length (gap_after L t' e) = g ∙ sym (ap length (slide-after L sound t accepted.exact e d o inside e)) in
        λ i. record { from = start i; to = goal i; stick = e; gap = passed i }

    -- the layer stays accepted
    pub slide-accepted : edge_crosses L (slid L t e o) P ≡ true → edge_crosses L (slid L t e o) e ≡ true → Accepted L (slid L t e o)
    slide-accepted before after = record {
      sound = sound;
      exact = slide-length L sound t accepted.exact e d o inside;
      entries = slide-entries L sound t accepted.exact e d o inside accepted.entries;
      held = slide-held L sound t accepted.exact v accepted.held e d o inside before after;
    }

  -- A removal

  more : OneMore L t (without L t e) e
  more = removal-more L sound t accepted.exact e d v

  pub removal-offsets : (u : Edge) → is_stick L u ≡ true → removed_at L (without L t e) u ≡ true
      → offset_at L (without L t e) u ≡ offset_at L t u
  removal-offsets u stick r = offset-of u _ _ (removal-vertex L sound t accepted.exact e d v u)

  pub removal-over : {from to : Position} {stick last : Edge} {g h : ℕ} → from ≡ vertex L t stick → to ≡ vertex L t last → stick ≡ P
      → last ≡ next_kept L t e → g ≡ length (gap_before L t e) → h ≡ length (gap_after L t e)
      → record { from = from; to = to; stick = stick; gap = g + 1 + h } ≡ chord_of L (without L t e) P
  removal-over {from} {to} {stick} {last} {g} {h} f q s n gb ga =
      let t' = without L t e in
      let unmoved = removal-vertex L sound t accepted.exact e d v in
      let j = joined L t t' sound P e before-drawn arrives more before-other next-other in
      let start : from ≡ vertex L t' P = f ∙ ap (vertex L t) s ∙ sym (unmoved P) in
      let goal : to ≡ vertex L t' (next_kept L t' P) =
      q ∙ ap (vertex L t) n ∙ sym (ap (vertex L t') j.1 ∙ unmoved (next_kept L t e)) in
      let passed : g + 1 + h ≡ length (gap_after L t' P) = omega (arith, gb, ga, before-after L t sound e d, j.0) in
      λ i. record { from = start i; to = goal i; stick = s i; gap = passed i }

  pub removal-accepted : edge_crosses L (without L t e) P ≡ true → Accepted L (without L t e)
  removal-accepted over = record {
    sound = sound;
    exact = removal-length L sound t accepted.exact e d v;
    entries = removal-entries L sound t accepted.exact e d v accepted.entries;
    held = removal-held L sound t accepted.exact v accepted.held e d over;
  }

  -- A pin

  pub pin-accepted : Accepted L (pinned L t e)
  pin-accepted = record {
    sound = sound;
    exact = pin-length L sound t accepted.exact e d v;
    entries = pin-entries L sound t accepted.exact e d v accepted.entries;
    held = pin-held L sound t accepted.exact v accepted.held e d;
  }
