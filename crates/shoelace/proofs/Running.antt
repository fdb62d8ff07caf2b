-- What the loops that sum by number rest on. The code stands at a number p with a state; going through the sticks from p on would give the result. It
-- goes on past a stick, over edges that are no sticks, along the bytes of a row, and from row to row, and the result stays the same (`Onward`).
use mathlib.Core.Path.{◌≡◌, refl, sym, ◌∙◌, ap, subst}
use mathlib.Core.Bool.{Bool, true, false}
use mathlib.Core.List.{List, [], ◌∷◌, map, foldl}
use Prim.Native.Nat.{ℕ, suc, ◌+◌, ◌-◌, ◌*◌, ◌/◌, ◌^◌, min, ◌≤◌, ◌<◌}
use native.Mathlib.Nat.{add_assoc}
use native.Mathlib.Numerals.{add-one}
use native.Mathlib.Omega.{arith}
use lib.IntN.{ℤ, pos, nat_abs, ◌+ℤ◌}
use lib.ListN.{length, set, length-set}
use lib.Seq.{sets}
use Rattle.bitset.specs.Bits.{OneTaken}
use Rattle.bitset.specs.declared.ones.Ones.{Ones}
use Rattle.arith.specs.Ranges.{least}
use Rattle.arith.proofs.Booleans.{both-sides}
use Rattle.arith.proofs.Bounds.{nat_abs-add}
use Rattle.grid.specs.Layer.{Layer, bit}
use Rattle.grid.specs.Edges.{number, is_stick, stick_in, edge_at, edge_columns, edge_rows, edge_count, kind_start, row_start, StickBits}
use Rattle.grid.specs.declared.layer.Size.{Size}
use Rattle.grid.specs.declared.edge.Edge.{Edge}
use Rattle.grid.proofs.Numbers.{number-below, edge_at-number, edge_at-row, edges-small, edges-split}
use Rattle.step.proofs.Walks.{stick-within}
use Rattle.contour.specs.Walk.{numbered}
use Rattle.contour.specs.Contours.{walk_of, sticks_by_number}
use Rattle.contour.proofs.Numbered.{from-here, from-skip, from_end}
use Rattle.contour.proofs.Bytes.{Left, left-start, left-found, left-next, left-done}
use Rattle.contour.proofs.Sticks.{stick-in}
use Rattle.table.specs.Vertices.{is_kept, entry_at, kept_at}
use Rattle.table.specs.declared.entry.Entry.{Entry}
use Rattle.table.specs.Lent.{LentAt}
use Rattle.drawn.specs.Drawn.{drawn_from, drawn_among}
use Rattle.held.specs.Questions.{Accepted}
use Rattle.shoelace.specs.Adds.{edge_adds, HeldStick}
use Rattle.shoelace.specs.Sums.{sums_after, last_of, total_of, drawn_count}
use Rattle.shoelace.specs.Running.{State, with_stick, sticks_from, result_from, Below, Onward, spot, InRow, AtStick, AllSummed}

-- a stick that is measured has an entry
pub lent_at : {L : Layer} {t : List ℕ} {e : Edge} → HeldStick L t e → LentAt L t e
lent_at given = record { sound = given.accepted.sound; exact = given.accepted.exact; stick = given.stick }

-- whether the vertex is kept, as the code reads it from the entry
pub kept-is : (L : Layer) (t : List ℕ) (e : Edge) {x : Entry} {kept : Bool} → x ≡ entry_at L t e → kept ≡ is_kept x → kept_at L t e ≡ kept
unfolding kept_at
kept-is L t e entry answer = sym (answer ∙ ap is_kept entry)

-- ---- the state

abbrev pub state_of : List ℤ → ℤ → ℕ → State
state_of output sum edges = record { output = output; running = record { sum = sum; edges = edges } }

-- nothing is summed yet
abbrev pub fresh : List ℤ → State
fresh found = state_of found (pos 0) 0

module _ {L : Layer} {t : List ℕ} where
  -- going on from where one stands
  pub stay : {p : ℕ} {s : State} → Below L t p s → Onward L t p s p s
  stay below = record { below = below; same_length = refl; same = refl }

  pub then : {p q r : ℕ} {s u v : State} → Onward L t p s q u → Onward L t q u r v → Onward L t p s r v
  then one two =
      record { below = two.below; same_length = two.same_length ∙ one.same_length; same = two.same ∙ one.same }

  -- the sum so far, and a place
  module _ {p : ℕ} {s : State} (below : Below L t p s) (within : p ≤ edge_count L.size) where
    pub below-few : s.running.edges ≤ 2095104
    below-few = omega (arith, below.few, edges-small L.size below.accepted.sound.whole.sized, within)

    pub below-small : nat_abs s.running.sum ≤ 2 ^ 58
    below-small = omega (arith, below.small, below-few)

-- ---- past a stick

module _ {L : Layer} {t : List ℕ} {e : Edge} {s : State} (at : AtStick L t e s) where
  abbrev pub here : ℕ
  here = number L.size e

  pub stick-number : here < edge_count L.size
  stick-number = number-below L.size at.below.accepted.sound.whole.sized e (stick-in L e at.stick)

  -- what is asked of it, and of the sum and the place so far
  pub stick-held : HeldStick L t e
  stick-held = record { accepted = at.below.accepted; stick = at.stick }

  pub stick-few : s.running.edges ≤ 2095104
  stick-few = below-few at.below (omega (arith, stick-number))

  pub stick-small : nat_abs s.running.sum ≤ 2 ^ 58
  stick-small = below-small at.below (omega (arith, stick-number))

  -- it is the next of those that are left
  next-left : sticks_from L here ≡ e ∷ sticks_from L (here + 1)
  next-left =
      let at_number = edge_at-number L.size at.below.accepted.sound.whole.sized e (stick-in L e at.stick) in
      from-here (walk_of L) (is_stick L) here stick-number (ap (is_stick L) at_number ∙ at.stick)
      ∙ ap (λ (x : Edge). x ∷ sticks_from L (here + 1)) at_number

  result-next : result_from L t (here + 1) (with_stick L t s e) ≡ result_from L t here s
  result-next = sym (ap (foldl (with_stick L t) s) next-left)

  module _ (kept : kept_at L t e ≡ true) where
    drawn-next : length (drawn_among L t (sticks_from L here)) ≡ suc (length (drawn_among L t (sticks_from L (here + 1))))
    drawn-next = ap (λ (l : List Edge). length (drawn_among L t l)) next-left ∙ rw kept

    -- there is room for the sum after its edge
    pub stick-room : s.running.edges < length s.output
    stick-room = omega (arith, at.below.room, drawn-next)

    -- `number` is the sum as it is stored
    pub past-kept : {z number sum : ℤ} {edges : ℕ} → z ≡ edge_adds L t (drawn_from L t e) → nat_abs z ≤ 2 ^ 37 → number ≡ s.running.sum +ℤ z
        → sum ≡ s.running.sum +ℤ z → edges ≡ s.running.edges + 1
        → Onward L t here s (here + 1) (state_of (set s.output s.running.edges number) sum edges)
    past-kept {z} {number} {sum} {edges} z-is small number_is sum_is_lem edges-is =
        let longer = length-set s.output s.running.edges number in
        let after = ap (λ (y : ℤ). s.running.sum +ℤ y) z-is in
        record {
          below =
              record {
                accepted = at.below.accepted;
                room = omega (arith, at.below.room, drawn-next, longer, edges-is);
                few = omega (arith, at.below.few, edges-is);
                small = omega (arith, at.below.small, ap nat_abs sum_is_lem, nat_abs-add s.running.sum z, small, edges-is);
              };
          same_length = longer;
          same = rw (edges-is, number_is ∙ after, sum_is_lem ∙ after) (rw kept at result-next);
        }

  pub past-other : kept_at L t e ≡ false → Onward L t here s (here + 1) s
  past-other kept =
      let drawn : length (drawn_among L t (sticks_from L here)) ≡ length (drawn_among L t (sticks_from L (here + 1))) =
      ap (λ (l : List Edge). length (drawn_among L t l)) next-left ∙ rw kept in
      record {
        below =
            record {
              accepted = at.below.accepted;
              room = omega (arith, at.below.room, drawn);
              few = omega (arith, at.below.few);
              small = at.below.small;
            };
        same_length = refl;
        same = rw kept at result-next;
      }

-- ---- along a row

-- the stick at column k of a row stands at the row's spot of k
stick-spot : (size : Size) (v : Bool) (r k : ℕ) → k < edge_columns size v
    → spot size v r k ≡ number size (record { vertical = v; column = k; row = r })
unfolding number
stick-spot size v r k below =
    let within : min k (edge_columns size v) ≡ k = omega arith in
    ap (λ (m : ℕ). row_start size v r + m) within ∙ add_assoc (kind_start size v) (r * edge_columns size v) k

module _ {L : Layer} {t : List ℕ} {v : Bool} {r c : ℕ} {s : State} (at : InRow L t v r c s) where
  abbrev from : ℕ
  from = spot L.size v r c

  -- over edges that are no sticks
  skip : (d : ℕ) → c ≤ d → ((k : ℕ) → c ≤ k → k < d → stick_in L v r k ≡ false) → Onward L t from s (spot L.size v r d) s
  skip d l none =
      record {
        below =
            record {
              accepted = at.below.accepted;
              room = subst (λ (m : List Edge). s.running.edges + length (drawn_among L t m) ≤ length s.output) same-sticks at.below.room;
              few = omega (arith, at.below.few);
              small = at.below.small;
            };
        same_length = refl;
        same = sym (ap (foldl (with_stick L t) s) same-sticks);
      }
    where
      to : ℕ
      to = spot L.size v r d

      clear : (j : ℕ) → from ≤ j → j < from + (to - from) → is_stick L (edge_at L.size j) ≡ false
      clear j a b =
          let k = j - row_start L.size v r in
          let j-is : row_start L.size v r + k ≡ j = omega arith in
          let at_j = edge_at-row L.size at.below.accepted.sound.whole.sized v k r (omega arith) at.row in
          ap (λ (n : ℕ). is_stick L (edge_at L.size n)) (sym j-is) ∙ ap (is_stick L) at_j ∙ none k (omega arith) (omega arith)

      same-sticks : sticks_from L from ≡ sticks_from L to
      same-sticks =
          let all : from + (to - from) ≡ to = omega arith in
          from-skip (walk_of L) (is_stick L) (to - from) from clear ∙ ap (sticks_from L) all

-- Along the byte `at` of row r, from p with state s on: the code stands at column c, and x has the bits of the columns from there on
pub record ByteRun (L : Layer) (t : List ℕ) (v : Bool) (r at p : ℕ) (s : State) (x c : ℕ) (u : State) : Type 0 where
  pub row : r < edge_rows L.size v
  pub within : c ≤ 8 * at + 8
  pub left : Left L v at r c x
  pub onward : Onward L t p s (spot L.size v r c) u

module _ {L : Layer} {t : List ℕ} {v : Bool} {r at : ℕ} where
  pub byte-start : {x y : ℕ} {s : State} → InRow L t v r (8 * at) s → StickBits L v at r x → y ≡ x → y < 256
      → ByteRun L t v r at (spot L.size v r (8 * at)) s y (8 * at) s
  byte-start {x} start bits y-is wide =
      record {
        row = start.row;
        within = omega arith;
        left = rw y-is (left-start L v at r x bits (omega arith));
        onward = stay start.below;
      }

  module _ {p x c : ℕ} {s u : State} (run : ByteRun L t v r at p s x c u) where
    in_row : InRow L t v r c u
    in_row = record { row = run.row; below = run.onward.below }

    module _ {z : ℕ} (lowest : z ≡ least (bit x) 64) (small : z < 64) where
      abbrev pub next_stick : Edge
      next_stick = record { vertical = v; column = c + z; row = r }

      found : (c + z < 8 * at + 8) × (stick_in L v r (c + z) ≡ true) × ((k : ℕ) → c ≤ k → k < c + z → stick_in L v r k ≡ false)
      found = left-found L v at r c x run.left z lowest small

      column : c + z < edge_columns L.size v
      column = (stick-within L run.onward.below.accepted.sound next_stick found.1).column_below

      to-stick : Onward L t p s (number L.size next_stick) u
      to-stick =
          subst (λ (q : ℕ). Onward L t p s q u) (stick-spot L.size v r (c + z) column)
          (then run.onward (skip in_row (c + z) (omega arith) found.2))

      -- the lowest bit is the next stick,
      pub byte-stick : AtStick L t next_stick u
      byte-stick = record { stick = found.1; below = to-stick.below }

      -- and once it is passed those above it are left
      pub byte-turn : {u' : State} → Onward L t (number L.size next_stick) u (number L.size next_stick + 1) u'
          → ByteRun L t v r at p s (x / 2 ^ z / 2) (c + (z + 1)) u'
      byte-turn {u'} past =
          let past-spot : number L.size next_stick + 1 ≡ spot L.size v r (c + (z + 1)) =
          omega (arith, stick-spot L.size v r (c + z) column, column) in
          record {
            row = run.row;
            within = omega (arith, found.0);
            left = left-next L v at r c x run.left z;
            onward = subst (λ (q : ℕ). Onward L t p s q u') past-spot (then to-stick past);
          }

    pub byte_last : x ≡ 0 → Onward L t p s (spot L.size v r (8 * (at + 1))) u
    byte_last none =
        let end : 8 * at + 8 ≡ 8 * (at + 1) = omega arith in
        subst (λ (d : ℕ). Onward L t p s (spot L.size v r d) u) end
        (then run.onward (skip in_row (8 * at + 8) run.within (left-done L v at r c x run.left none)))

-- the same as the bits of the byte come, one after the other
module _ {L : Layer} {t : List ℕ} {v : Bool} {r at p : ℕ} {it : Ones} {s u : State}
    (run : ByteRun L t v r at p s it.left (8 * at + it.at) u) {n z : ℕ} {it' : Ones} (taken : OneTaken it n it' z) where
  place : 8 * at + it.at + z ≡ 8 * at + n
  place = omega (arith, taken.here)

  abbrev pub stick_at : Edge
  stick_at = record { vertical = v; column = 8 * at + n; row = r }

  pub one-stick : AtStick L t stick_at u
  one-stick = rw place at (byte-stick run taken.lowest taken.below)

  pub one-turn : {u' : State} → Onward L t (number L.size stick_at) u (number L.size stick_at + 1) u'
      → ByteRun L t v r at p s it'.left (8 * at + it'.at) u'
  one-turn past =
      let next : 8 * at + it'.at ≡ 8 * at + it.at + (z + 1) = omega (arith, taken.next) in
      rw (taken.left, next) (byte-turn run taken.lowest taken.below (rw (sym place) at past))

-- ---- all sticks

-- what going through some sticks gives
through : (L : Layer) (t : List ℕ) (l : List Edge) (output : List ℤ) (sum : ℤ) (edges : ℕ)
    → let adds = map (edge_adds L t) (drawn_among L t l) in
    foldl (with_stick L t) (state_of output sum edges) l
    ≡ state_of (sets output edges (sums_after sum adds)) (last_of sum (sums_after sum adds)) (edges + length adds)
through L t [] output sum edges = ap (state_of output sum) (omega arith)
through L t (e ∷ l) output sum edges =
    both-sides (kept_at L t e)
    (λ k.
    let z : ℤ = edge_adds L t (drawn_from L t e) in
    let sums = sums_after (sum +ℤ z) (map (edge_adds L t) (drawn_among L t l)) in
    let more : edges + 1 + length (map (edge_adds L t) (drawn_among L t l)) ≡ edges + suc (length (map (edge_adds L t) (drawn_among L t l))) = omega arith in
    rw k (through L t l (set output edges (sum +ℤ z)) (sum +ℤ z) (edges + 1)
    ∙ (λ i. state_of (sets (set output edges (sum +ℤ z)) (add-one edges i) sums) (last_of (sum +ℤ z) sums) (more i))))
    (λ k. rw k (through L t l output sum edges))

module _ {L : Layer} {t : List ℕ} (accepted : Accepted L t) where
  from-begin : sticks_from L 0 ≡ sticks_by_number L
  from-begin = let all : edge_count L.size - 0 ≡ edge_count L.size = omega arith in ap (numbered (walk_of L) (is_stick L) 0) all

  -- the horizontal edges come first, then the vertical ones
  begin : 0 ≡ spot L.size false 0 0
  begin = omega arith

  middle : spot L.size false (edge_rows L.size false) 0 ≡ spot L.size true 0 0
  middle = omega arith

  end : spot L.size true (edge_rows L.size true) 0 ≡ edge_count L.size
  end = omega (arith, edges-split L.size accepted.sound.whole.sized)

  module _ {found : List ℤ} where
    pub all_start : drawn_count L t ≤ length found → Below L t (spot L.size false 0 0) (fresh found)
    all_start room =
        subst (λ (p : ℕ). Below L t p (fresh found)) begin
        (record { accepted = accepted; room = rw from-begin (omega arith); few = omega arith; small = omega arith })

    module _ {s : State} (one : Onward L t (spot L.size false 0 0) (fresh found) (spot L.size false (edge_rows L.size false) 0) s) where
      pub all_middle : Below L t (spot L.size true 0 0) s
      all_middle = subst (λ (p : ℕ). Below L t p s) middle one.below

      pub all_end : {u : State} → Onward L t (spot L.size true 0 0) s (spot L.size true (edge_rows L.size true) 0) u
          → AllSummed L t found u.output u.running.sum
      unfolding total_of
      all_end {u} two =
          let first_kind = subst (λ (p : ℕ). Onward L t (spot L.size false 0 0) (fresh found) p s) middle one in
          let both-kinds = then first_kind (subst (λ (p : ℕ). Onward L t (spot L.size true 0 0) s p u) end two) in
          let run = subst (λ (p : ℕ). Onward L t p (fresh found) (edge_count L.size) u) (sym begin) both-kinds in
          let over = from_end (walk_of L) (is_stick L) (edge_count L.size) (omega arith) in
          let whole =
          sym (ap (foldl (with_stick L t) u) over)
          ∙ run.same
          ∙ ap (foldl (with_stick L t) (fresh found)) from-begin
          ∙ through L t (sticks_by_number L) found (pos 0) 0 in
          record {
            put = ap (λ (x : State). x.output) whole;
            last = ap (λ (x : State). x.running.sum) whole;
            small = below-small run.below (omega arith);
          }
