-- The scan for first sticks on a sound layer: how the walk along a contour marks it, and what each step keeps true of the set.
use mathlib.Core.Path.{◌≡◌, refl, ap, sym, subst, ◌∙◌}
use mathlib.Core.Logic.{◌≢◌}
use mathlib.Core.Bool.{Bool, true, false, true≢false, false≢true, cond, not}
use mathlib.Core.List.{List, foldl}
use Prim.Native.Nat.{ℕ, ◌+◌, ◌-◌, ◌*◌, min, ◌≤◌, ◌<◌}
use native.Mathlib.Decide.{dec_lt}
use native.Mathlib.Nat.{mul-le-mul}
use native.Mathlib.Omega.{arith}
use borrow.Author.Tests.{lt-ltb, le-ltb}
use lib.ListN.{length}
use Rattle.arith.proofs.Booleans.{both-sides}
use Rattle.grid.specs.Layer.{Layer}
use Rattle.grid.specs.Edges.{is_stick, number, edge_at, edge_count, kind_start}
use Rattle.grid.specs.Questions.{Sized, Sound}
use Rattle.grid.specs.declared.layer.Size.{Size}
use Rattle.grid.specs.declared.edge.Edge.{Edge}
use Rattle.grid.proofs.Numbers.{in-grid, kind-below, edge_at-number}
use Rattle.step.proofs.Walks.{stick-within}
use Rattle.contour.specs.Walk.{first}
use Rattle.contour.specs.Contours.{walk_of, contour_of}
use Rattle.bitset.specs.Sets.{words, set_bits, has, Empty}
use Rattle.contour.specs.Sets.{FirstSet}
use Rattle.bitset.specs.Sets.{with_number, without_number}
use Rattle.contour.specs.Marking.{mark_edge, Markable, horizontal, Scanned, ScannedTo, ScannedAt}
use Rattle.contour.proofs.Members.{on_one}
use Rattle.contour.proofs.Sticks.{laws}
use Rattle.contour.proofs.Horizontal.{horizontal-low, first-horizontal}
use Rattle.bitset.proofs.Sets.{has-with, has-with-other, has-without, has-without-other, length-with, length_without, has-none}
use Rattle.contour.proofs.Marking.{Marks, mark-start, mark-clear, mark_set, mark-passed, mark-contour, mark-skip, bits-ok}

-- horizontal edges are numbered row by row, and have a bit each
pub horizontal-number : (size : Size) (e : Edge) → e.vertical ≡ false → number size e ≡ e.row * (size.width - 1) + e.column
unfolding number
horizontal-number size e f = rw f (omega arith)

pub horizontal-fits : (size : Size) → Sized size → kind_start size true ≤ set_bits
horizontal-fits size sized =
    mul-le-mul {n₁ = size.height} {m₁ = size.width - 1} {n₂ = 1024} {m₂ = 1023} (omega (arith, sized)) (omega (arith, sized))

pub mark-vertical : (size : Size) (t : List ℕ) (e : Edge) → e.vertical ≡ true → mark_edge size t e ≡ t
mark-vertical size t e v = ap (λ (b : Bool). cond b t (with_number t (number size e))) v

pub mark-horizontal : (size : Size) (t : List ℕ) (e : Edge) → e.vertical ≡ false → mark_edge size t e ≡ with_number t (number size e)
mark-horizontal size t e f = ap (λ (b : Bool). cond b t (with_number t (number size e))) f

-- what every store to the set keeps: its length, and that nothing past the horizontal edges is in it
abbrev pub Kept : Layer → List ℕ → Type 0
Kept L t = (length t ≡ words) × ((k : ℕ) → kind_start L.size true ≤ k → has t k ≡ false)

module _ (L : Layer) (sound : Sound L) where
  pub place-below : (e : Edge) → is_stick L e ≡ true → e.vertical ≡ false → number L.size e < set_bits
  place-below e h f = omega (arith, horizontal-low L sound e h f, horizontal-fits L.size sound.whole.sized)

  -- Marking a contour

  mark-kept : (t : List ℕ) (e : Edge) → Kept L t → is_stick L e ≡ true → Kept L (mark_edge L.size t e)
  mark-kept t e kept h = both-sides e.vertical (λ v. rw (mark-vertical L.size t e v) kept) (λ f. rw (mark-horizontal L.size t e f) (
    length-with t n kept.0 (place-below e h f),
    λ k l. has-with-other t n kept.0 (place-below e h f) k (other k l f) ∙ kept.1 k l,
  ))
    where
      n : ℕ
      n = number L.size e

      other : (k : ℕ) → kind_start L.size true ≤ k → e.vertical ≡ false → k ≢ number L.size e
      other k l f q = omega (arith, horizontal-low L sound e h f)

  mark-own : (t : List ℕ) (e : Edge) → Kept L t → is_stick L e ≡ true → horizontal e ≡ true
      → has (mark_edge L.size t e) (number L.size e) ≡ true
  mark-own t e kept h c = both-sides e.vertical
      (λ v. absurd (false≢true (sym (ap not v) ∙ c)))
      (λ f. rw (mark-horizontal L.size t e f) (has-with t (number L.size e) kept.0 (place-below e h f)))

  mark-other : (t : List ℕ) (e : Edge) (k : ℕ) → Kept L t → is_stick L e ≡ true → k ≢ number L.size e
      → has (mark_edge L.size t e) k ≡ has t k
  mark-other t e k kept h n = both-sides e.vertical
      (λ v. rw (mark-vertical L.size t e v))
      (λ f. rw (mark-horizontal L.size t e f) (has-with-other t (number L.size e) kept.0 (place-below e h f) k n))

  pub marks : Marks (walk_of L) horizontal (Kept L) has (mark_edge L.size)
  marks = record { stays = mark-kept; own = mark-own; other = mark-other }

  pub length-mark : (t : List ℕ) (e : Edge) → length t ≡ words → is_stick L e ≡ true → length (mark_edge L.size t e) ≡ words
  length-mark t e sized h = both-sides e.vertical
      (λ v. rw (mark-vertical L.size t e v) sized)
      (λ f. rw (mark-horizontal L.size t e f) (length-with t (number L.size e) sized (place-below e h f)))

-- One step of the scan, at the stick at column c of row r

module _ {L : Layer} {c r : ℕ} {t : List ℕ} (here : ScannedAt L c r t) where
  abbrev here-sound : Sound L
  here-sound = here.scanned.sound

  abbrev e : Edge
  e = record { vertical = false; column = c; row = r }

  abbrev p : ℕ
  p = r * (L.size.width - 1) + c

  is-p : number L.size e ≡ p
  is-p = horizontal-number L.size e refl

  at_p : edge_at L.size p ≡ e
  at_p = rw is-p at ((laws L here-sound).at_number e here.stick)

  less : p < edge_count L.size
  less = rw is-p at ((laws L here-sound).number_less e here.stick)

  pub here-fits : p < set_bits
  here-fits = rw is-p at (place-below L here-sound e here.stick refl)

  pub here-column : c < 1023
  here-column = omega (arith, (stick-within L here-sound e here.stick).column_below, here-sound.whole.sized.narrow)

  pub here-markable : Markable L t e
  here-markable = record { sound = here-sound; stick = here.stick; sized = here.scanned.sized }

  carried : horizontal (edge_at L.size p) ≡ true
  carried = ap horizontal at_p

  -- its bit is set: it is cleared
  pub scan-set : has t p ≡ true → Scanned L (p + 1) (without_number t p)
  scan-set h =
      let law = laws L here-sound in
      let s = here.scanned in
      record {
        sound = s.sound;
        sized = length_without t p s.sized here-fits;
        marked =
            mark-passed (walk_of L) law horizontal p (has t) less s.marked (has (without_number t p))
            (mark_set (walk_of L) law horizontal p (has t) less s.marked carried h)
            (λ _. has-without t p s.sized here-fits h)
            (λ k b _ n. has-without-other t p s.sized here-fits k n);
        above = λ k l. has-without-other t p s.sized here-fits k (omega (arith, is-p, horizontal-low L here-sound e here.stick refl)) ∙ s.above k l;
      }

  -- its bit is clear: its contour is marked
  pub scan-clear : has t p ≡ false → Scanned L (p + 1) (foldl (mark_edge L.size) t (contour_of L e))
  scan-clear h =
      let law = laws L here-sound in
      let s = here.scanned in
      let is-first = mark-clear (walk_of L) law horizontal p (has t) less s.marked carried (ap (is_stick L) at_p ∙ here.stick) h in
      let kept : Kept L (foldl (mark_edge L.size) t (contour_of L e)) =
      bits-ok (walk_of L) law horizontal (marks L here-sound) (contour_of L e) t (λ y o. on_one (walk_of L) law e y here.stick o) (s.sized, s.above) in
      record {
        sound = s.sound;
        sized = kept.0;
        marked = rw at_p at (mark-contour (walk_of L) law horizontal (marks L here-sound) p t less (s.sized, s.above) is-first s.marked);
        above = kept.1;
      }

-- Where no stick is, the scan goes on with nothing done

pub same_place : {L : Layer} {p q : ℕ} {t : List ℕ} → p ≡ q → Scanned L p t → Scanned L q t
same_place {L} {p} {q} {t} e s = subst (λ (k : ℕ). Scanned L k t) e s

edge-at : (size : Size) → Sized size → (c r : ℕ) → c < size.width - 1 → r < size.height
    → edge_at size (r * (size.width - 1) + c) ≡ record { vertical = false; column = c; row = r }
edge-at size sized c r hc hr =
    let e : Edge = record { vertical = false; column = c; row = r } in
    let within = in-grid size e (record { column_below = hc; row_below = hr }) in
    sym (ap (edge_at size) (horizontal-number size e refl)) ∙ edge_at-number size sized e within

-- from column c of a row to column d, where the row has W - 1 edges
pub scan-skip : {L : Layer} {r c : ℕ} {t : List ℕ} → ScannedTo L r c t → (d : ℕ) → c ≤ d
    → ((k : ℕ) → c ≤ k → k < d → is_stick L (record { vertical = false; column = k; row = r }) ≡ false) → ScannedTo L r d t
scan-skip {L} {r} {c} {t} to d l none =
    let s = to.scanned in
    record {
      row_below = to.row_below;
      scanned =
          record {
            sound = s.sound;
            sized = s.sized;
            marked =
                mark-skip (walk_of L) (laws L s.sound) horizontal (base + min c m) (base + min d m) (has t) (omega arith)
                (omega (arith, rows, kind-below L.size s.sound.whole.sized false)) clear s.marked;
            above = s.above;
          };
    }
  where
    m : ℕ
    m = L.size.width - 1

    base : ℕ
    base = r * (L.size.width - 1)

    rows : (r + 1) * (L.size.width - 1) ≤ L.size.height * (L.size.width - 1)
    rows =
        mul-le-mul {n₁ = r + 1} {m₁ = L.size.width - 1} {n₂ = L.size.height} {m₂ = L.size.width - 1}
        (omega (arith, to.row_below)) (omega arith)

    clear : (j : ℕ) → base + min c m ≤ j → j < base + min d m → is_stick L (edge_at L.size j) ≡ false
    clear j a b =
        let k : ℕ = j - base in
        let e : base + k ≡ j = omega arith in
        let sized = to.scanned.sound.whole.sized in
        rw e at (ap (is_stick L) (edge-at L.size sized k r (omega arith) to.row_below) ∙ none k (omega arith) (omega arith))

module _ (L : Layer) (sound : Sound L) where
  -- The scan starts with an empty set,

  pub scan-start : (t : List ℕ) → Empty t → Scanned L 0 t
  scan-start t empty = record {
    sound = sound;
    sized = empty.sized;
    marked = mark-start (walk_of L) (laws L sound) horizontal (has t) (λ k b c. has-none t empty k);
    above = λ k l. has-none t empty k;
  }

  -- and ends with that of the first sticks.

  at-horizontal : (n : ℕ) → n < kind_start L.size true → (edge_at L.size n).vertical ≡ false
  unfolding edge_at
  at-horizontal n l = rw (lt-ltb n (kind_start L.size true) l)

  at-vertical : (n : ℕ) → kind_start L.size true ≤ n → (edge_at L.size n).vertical ≡ true
  unfolding edge_at
  at-vertical n l = rw (le-ltb n (kind_start L.size true) l)

  pub first-low-number : (n : ℕ) → first (walk_of L) (edge_at L.size n) ≡ true → n < kind_start L.size true
  first-low-number n f = elim (dec_lt n (kind_start L.size true)) [
    | yes l ↦ l
    | no g ↦ absurd (true≢false (sym (at-vertical n (omega arith)) ∙ first-horizontal L sound (edge_at L.size n) f))
  ]

  pub scan-end : (t : List ℕ) → Scanned L (kind_start L.size true) t → FirstSet L t
  scan-end t s = record { sound = sound; sized = s.sized; says = says }
    where
      unfirst : (n : ℕ) → kind_start L.size true ≤ n → first (walk_of L) (edge_at L.size n) ≡ false
      unfirst n l = both-sides (first (walk_of L) (edge_at L.size n))
          (λ f. absurd (omega (arith, first-low-number n f)))
          (λ f. f)

      says : (n : ℕ) → has t n ≡ first (walk_of L) (edge_at L.size n)
      says n = elim (dec_lt n (kind_start L.size true)) [
        | yes l ↦
            s.marked.below n l (omega (arith, kind-below L.size sound.whole.sized false)) (ap not (at-horizontal n l))
        | no g ↦ s.above n (omega arith) ∙ sym (unfirst n (omega arith))
      ]
