-- The vertices of one contour: where each is expected, one after the other, and that the described table says of its stick what its command
-- says.
use mathlib.Core.Path.{◌≡◌, refl, sym, ◌∙◌, ap}
use mathlib.Core.Logic.{◌⊎◌, inl, inr}
use mathlib.Core.Bool.{Bool, true, false, cond, not, ◌&&◌}
use mathlib.Core.List.{List, [], ◌∷◌, ◌++◌}
use Prim.Native.Nat.{ℕ, suc, ◌+◌, ◌*◌, ◌≤◌, ◌<◌}
use native.Mathlib.Nat.{eq-or-lt_of_le}
use native.Mathlib.Omega.{arith}
use borrow.Author.Tests.{eqb-true, ltb-true}
use lib.Dec.{eqb, ltb}
use lib.ListN.{length, get_or, length-append}
use lib.Seq.{get_or-append_seam}
use Rattle.arith.specs.Booleans.{as_number}
use Rattle.arith.proofs.Booleans.{both-sides, and_split}
use Rattle.grid.specs.Layer.{Layer}
use Rattle.grid.specs.Edges.{number, edge_at, edge_count, is_stick, stick_at}
use Rattle.grid.specs.Questions.{Yes, Sound}
use Rattle.grid.specs.declared.edge.Edge.{Edge}
use Rattle.grid.specs.declared.refusal.Refusal.TheVariants.{WrongEntry}
use Rattle.grid.proofs.Answers.{each-yes}
use Rattle.grid.proofs.Numbers.{edge_at-within}
use Rattle.step.specs.Walk.{next}
use Rattle.contour.specs.Walk.{ahead}
use Rattle.contour.specs.Contours.{walk_of, contour_of, same_edge}
use Rattle.contour.proofs.Orbit.{ahead-next, ahead-one, contour-at, round, unlike}
use Rattle.contour.proofs.Sticks.{laws, stick-in}
use Rattle.chord.specs.Runs.{NearEdge}
use Rattle.table.specs.Entries.{entry_of, encoded, suits, wrong, wrong_at, entries_answer}
use Rattle.table.specs.Vertices.{is_kept, is_removed, offset_in, kept_at, removed_at, offset_at}
use Rattle.table.specs.declared.entry.Entry.{Entry}
use Rattle.table.specs.declared.entry.Entry.TheVariants.{Nothing, Kept, Removed, Pinned}
use Rattle.table.proofs.Entries.{Inside, entry-encoded, entry-nothing}
use Rattle.drawn.proofs.Runs.{in-grid-near}
use Rattle.sheet.specs.Commands.{vertex_command}
use Rattle.formed.specs.Expected.{vertex_letter, expected_sheet, sheet_answer}
use Rattle.formed.specs.Asked.{widths, ContoursExpected}
use Rattle.formed.proofs.Commands.{expected-at, expected-once, stands_here}
use Rattle.formed.proofs.Contours.{contour-within, vertex-split}
use Rattle.reading.specs.Reading.{entry_by, described}
use Rattle.reading.specs.Places.{VertexExpected, VerticesStand}
use Rattle.reading.specs.declared.holding.Vertex.{Vertex}
use Rattle.reading.proofs.Described.{described-here, described-off}

-- One vertex command: letter a, offset o

pub record Says (a o : ℕ) (x : Entry) : Type 0 where
  pub is-kept : is_kept x ≡ not (eqb a 0x52)
  pub is_removed_lem : is_removed x ≡ eqb a 0x52
  pub offset : offset_in x ≡ o
  pub right : suits true x ≡ true
  -- written again it is the same command
  pub bytes : vertex_command x ≡ a ∷ o ∷ []

-- the letter is one of three
letters : (a : ℕ) → vertex_letter a ≡ true → (a ≡ 0x4B) ⊎ (a ≡ 0x52) ⊎ (a ≡ 0x4E)
letters a h = both-sides (eqb a 0x4B)
    (λ k. inl (eqb-true a 0x4B k))
    (λ k. both-sides (eqb a 0x52)
    (λ r. inr (inl (eqb-true a 0x52 r)))
    (λ r. inr (inr (eqb-true a 0x4E (rw (k, r) at h)))))

-- a number stored is the entry again
stored-says : {a o : ℕ} {x : Entry} → Inside (offset_in x) → Says a o x → Says a o (entry_of (encoded x))
stored-says {a} {o} {x} inside says = rw (entry-encoded x inside) says

pub vertex-says : (a o : ℕ) → (vertex_letter a && ltb 0 o) ≡ true → o < 256 → Says a o (entry_of (encoded (entry_by a o)))
vertex-says a o h small =
    let both = and_split (vertex_letter a) (ltb 0 o) h in
    let some : 0 < o = ltb-true 0 o both.1 in
    let inside : Inside o = record { low = omega arith; high = omega arith } in
    elim (letters a both.0) [
      | inl k ↦ rw k (stored-says {x = Kept o} inside (record { is-kept = refl; is_removed_lem = refl; offset = refl; right = refl; bytes = refl }))
      | inr (inl r) ↦ rw r (stored-says {x = Removed o} inside (record { is-kept = refl; is_removed_lem = refl; offset = refl; right = refl; bytes = refl }))
      | inr (inr n) ↦ rw n (stored-says {x = Pinned o} inside (record { is-kept = refl; is_removed_lem = refl; offset = refl; right = refl; bytes = refl }))
    ]

-- Along a contour

module _ {L : Layer} {first : Vertex} where
  pub first-expected : Sound L → is_stick L first.stick ≡ true → VertexExpected L first first
  unfolding ahead
  first-expected sound stick =
      record {
        start_stick = stick;
        index = 0;
        within = (round (walk_of L) (laws L sound) first.stick stick).some;
        met = refl;
        place = omega arith;
      }

  module _ (sound : Sound L) {v : Vertex} (x : VertexExpected L first v) where
    pub vertex-stick : is_stick L v.stick ≡ true
    vertex-stick = rw (← x.met) (ahead-one (walk_of L) (laws L sound) x.index first.stick x.start_stick)

    -- the stick after v, and where its vertex is expected
    module _ {e : Edge} (step : e ≡ next L v.stick) where
      reached : ahead (walk_of L) (suc x.index) first.stick ≡ e
      unfolding ahead
      reached = ahead-next (walk_of L) x.index first.stick ∙ ap (next L) x.met ∙ sym step

      vertex-more : same_edge e first.stick ≡ false → VertexExpected L first (record { stick = e; place = v.place + 2 })
      vertex-more differ =
          let f = first.stick in
          let r = round (walk_of L) (laws L sound) f x.start_stick in
          elim (eq-or-lt_of_le x.within) [
            | inl q ↦ absurd (unlike (walk_of L) (laws L sound) e f differ (sym reached ∙ ap (λ (n : ℕ). ahead (walk_of L) n f) q ∙ r.back))
            | inr l ↦
                record { start_stick = x.start_stick; index = suc x.index; within = l; met = reached; place = omega (arith, x.place) }
          ]

      vertex-back : same_edge e first.stick ≡ true → VertexExpected L first (record { stick = e; place = first.place })
      vertex-back same = rw ((laws L sound).same_eq e first.stick same) (first-expected sound x.start_stick)

      pub vertex-next : {i : ℕ} → i ≡ cond (same_edge e first.stick) first.place (v.place + 2)
          → VertexExpected L first (record { stick = e; place = i })
      vertex-next at = both-sides (same_edge e first.stick)
          (λ same. rw (at ∙ ap (λ (back : Bool). cond back first.place (v.place + 2)) same) (vertex-back same))
          (λ differ. rw (at ∙ ap (λ (back : Bool). cond back first.place (v.place + 2)) differ) (vertex-more differ))

  -- the vertex of the stick after so many others of the contour
  pub vertex-along : Sound L → is_stick L first.stick ≡ true → (before later : List Edge) {x : Edge} → before ++ (x ∷ later) ≡ contour_of L first.stick
      → {i : ℕ} → i ≡ first.place + 2 * length before → VertexExpected L first (record { stick = x; place = i })
  vertex-along sound stick before later {x} joined at =
      let f = first.stick in
      let within : length before < length (contour_of L f) = omega (arith, ap length joined, length-append before (x ∷ later)) in
      record {
        start_stick = stick;
        index = length before;
        within = within;
        met =
            sym (contour-at (walk_of L) (laws L sound) f f (length before) stick within)
            ∙ ap (λ (l : List Edge). get_or l (length before) f) (sym joined) ∙ get_or-append_seam before x later f;
        place = at;
      }

-- What stands at the place of v, and what the described table says of its stick

module _ {L : Layer} {s : List ℕ} {first v : Vertex} (stand : VerticesStand L s first) (x : VertexExpected L first v) where
  pub place-within : v.place + 2 ≤ length s
  place-within = omega (arith, x.place, x.within, stand.room)

  pub vertex-near : NearEdge v.stick
  vertex-near =
      in-grid-near L.size stand.sound.whole.sized v.stick (stick-in L v.stick (vertex-stick stand.sound x))

  module _ (bytes : (k : ℕ) → get_or s k 0 < 256) where
    here-says : Says (get_or s v.place 0) (get_or s (v.place + 1) 0) (entry_of (get_or (described L s) (number L.size v.stick) 0))
    here-says =
        rw (stand.entry v x) (vertex-says (get_or s v.place 0) (get_or s (v.place + 1) 0) (stand.whole v x) (bytes (v.place + 1)))

    pub kept_is : kept_at L (described L s) v.stick ≡ not (eqb (get_or s v.place 0) 0x52)
    unfolding kept_at
    kept_is = here-says.is-kept

    pub removed-is : removed_at L (described L s) v.stick ≡ eqb (get_or s v.place 0) 0x52
    unfolding removed_at
    removed-is = here-says.is_removed_lem

    pub offset-is : offset_at L (described L s) v.stick ≡ get_or s (v.place + 1) 0
    unfolding offset_at
    offset-is = here-says.offset

-- In a well-formed sheet the vertices of every contour stand

module _ {L : Layer} {f : Edge} {fs : List Edge} {i : ℕ} (b : ContoursExpected L (f ∷ fs) i) (s : List ℕ) (yes-8 : sheet_answer L s ≡ Yes)
    (sound : Sound L) (stick : is_stick L f ≡ true) where
  pub vertices-stand : VerticesStand L s (record { stick = f; place = i + 6 })
  vertices-stand =
      record {
        sound = sound;
        start_stick = stick;
        room = contour-within b s yes-8;
        whole = λ v x.
            let p = vertex-split b sound stick x.index x.within in
            let z : widths p.0 ≡ v.place = omega (arith, p.3, x.place) in
            rw (← z) (stands_here L sound (ahead (walk_of L) x.index f) p.0 p.1 p.2 s yes-8);
        entry = λ v x.
            let p = vertex-split b sound stick x.index x.within in
            let z : widths p.0 ≡ v.place = omega (arith, p.3, x.place) in
            rw (← x.met, ← z) (described-here L s sound (ahead (walk_of L) x.index f) p.0 p.1 p.2);
      }

-- The described table passes question 6

none : wrong false (encoded Nothing) ≡ false
none = ap (λ (x : Entry). not (suits false x)) entry-nothing

module _ (L : Layer) (s : List ℕ) (bytes : (k : ℕ) → get_or s k 0 < 256) (sound : Sound L) (yes-8 : sheet_answer L s ≡ Yes) where
  stick-right : (y : Edge) → is_stick L y ≡ true → suits true (entry_of (get_or (described L s) (number L.size y) 0)) ≡ true
  stick-right y stick =
      let p = expected-at L y (expected_sheet L) (omega (arith, expected-once L sound y, ap as_number stick)) in
      let at : ℕ = widths p.0 in
      rw (described-here L s sound y p.0 p.1 p.2)
      (vertex-says (get_or s at 0) (get_or s (at + 1) 0) (stands_here L sound y p.0 p.1 p.2 s yes-8) (bytes (at + 1))).right

  right-at : (k : ℕ) → k < edge_count L.size → wrong_at L (described L s) k ≡ false
  right-at k below = both-sides (stick_at L k)
      (λ t.
      let n = (edge_at-within L.size sound.whole.sized k below).1 in
      rw (t, rw n at (stick-right (edge_at L.size k) t)))
      (λ f. rw (f, described-off L s sound k below f) none)

  pub described-entries : entries_answer L (described L s) ≡ Yes
  unfolding entries_answer
  described-entries = sym (each-yes WrongEntry (wrong_at L (described L s)) (edge_count L.size) right-at)
