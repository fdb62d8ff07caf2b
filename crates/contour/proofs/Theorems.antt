-- What holds of the contours of a sound layer, one that passes questions 1 to 4. Each theorem is a short citation: the laws of walks are
-- in Orbit, Members, First and Contours, those of the grid in Sticks and Horizontal.
use mathlib.Core.Path.{◌≡◌, refl, sym, ◌∙◌, ap}
use mathlib.Core.Bool.{Bool, true, false, ◌&&◌, ◌||◌}
use mathlib.Core.List.{List, ◌∷◌}
use Prim.Native.Nat.{ℕ, ◌+◌, ◌*◌, ◌<◌}
use native.Mathlib.Nat.{mul-le-mul}
use native.Mathlib.Decide.{dec_lt}
use native.Mathlib.Omega.{arith}
use borrow.Author.Tests.{lt-ltb, le-ltb, eq-eqb, ne_eqb}
use lib.Dec.{ltb, eqb}
use lib.ListN.{length, get_or}
use Rattle.arith.specs.Booleans.{as_number}
use Rattle.arith.specs.Ranges.{count}
use Rattle.grid.specs.Layer.{Layer}
use Rattle.grid.specs.Edges.{is_stick, in_grid, number, edge_at, edge_count, edge_columns, edge_rows, kind_start}
use Rattle.mask.specs.Counts.{stick_count}
use Rattle.grid.specs.Questions.{Sized, Sound}
use Rattle.grid.specs.declared.layer.Size.{Size}
use Rattle.grid.specs.declared.edge.Edge.{Edge}
use Rattle.grid.proofs.Numbers.{WithinGrid, within, in-kind-below}
use Rattle.contour.specs.Walk.{occurrences, first, low, walked, ahead, Round}
use Rattle.contour.specs.Contours.{walk_of, sticks_by_number, contour_of, first_sticks, contour_count, earlier}
use Rattle.contour.proofs.Orbit.{round, contour-at}
use Rattle.contour.proofs.Numbered.{all_once}
use Rattle.contour.proofs.Members.{place, on_one, on-ahead, in_list}
use Rattle.contour.proofs.First.{first_one, low_first, low-once, first-unique}
use Rattle.contour.proofs.Contours.{count-walked, length-walked, length-contours, firsts-ascend, firsts-only, firsts-all}
use Rattle.contour.proofs.Sticks.{laws, stick-in}
use Rattle.contour.proofs.Horizontal as Horizontal

-- the place of a stick: the first stick of its contour, and how many steps after it the stick comes
pub record Place (L : Layer) (e f : Edge) (k : ℕ) : Type 0 where
  pub is-first : first (walk_of L) f ≡ true
  pub within_contour : k < length (contour_of L f)
  pub stands : get_or (contour_of L f) k f ≡ e

module _ (L : Layer) (sound : Sound L) where
  -- A walk comes back to its first stick after as many steps as its contour has sticks, and meets none twice before.
  pub walk-returns : (f : Edge) → is_stick L f ≡ true → Round (walk_of L) f (length (contour_of L f))
  walk-returns f stick = round (walk_of L) (laws L sound) f stick

  -- Each stick lies on exactly one contour, once,
  pub on-one-contour : (e : Edge) → is_stick L e ≡ true
      → (f : Edge) × (first (walk_of L) f ≡ true) × (occurrences (walk_of L) e (contour_of L f) ≡ 1)
  on-one-contour e stick =
      let law = laws L sound in
      (edge_at L.size (low (walk_of L) e), low_first (walk_of L) law e stick, low-once (walk_of L) law e stick)

  pub on-no-other : (e f g : Edge) → first (walk_of L) f ≡ true → first (walk_of L) g ≡ true
      → 0 < occurrences (walk_of L) e (contour_of L f) → 0 < occurrences (walk_of L) e (contour_of L g) → f ≡ g
  on-no-other e f g = first-unique (walk_of L) (laws L sound) f g e

  -- at one place of it.
  pub one_place : (e : Edge) → is_stick L e ≡ true → (f : Edge) × (k : ℕ) × Place L e f k
  one_place e stick =
      let law = laws L sound in
      let c = on-one-contour e stick in
      let f : Edge = c.0 in
      let one = first_one (walk_of L) law f c.1 in
      let p = place (walk_of L) law f e one (omega (arith, c.2)) in (
        f,
        p.0,
        record {
          is-first = c.1;
          within_contour = p.1;
          stands = contour-at (walk_of L) law f f p.0 one p.1 ∙ p.2;
        },
      )

  pub no-other-place : (e f g : Edge) (k j : ℕ) → Place L e f k → Place L e g j → (f ≡ g) × (k ≡ j)
  no-other-place e f g k j p q =
      let law = laws L sound in
      let same : f ≡ g = on-no-other e f g p.is-first q.is-first (on p) (on q) in
      let here : Place L e f j = rw same q in
      let back = round (walk_of L) law f (first_one (walk_of L) law f p.is-first) in (
        same,
        elim (dec_lt k j) [
          | yes l ↦ absurd (back.apart k j l here.within_contour (steps p ∙ sym (steps here)))
          | no n ↦ elim (dec_lt j k) [
            | yes l ↦ absurd (back.apart j k l p.within_contour (steps here ∙ sym (steps p)))
            | no m ↦ omega arith
          ]
        ],
      )
    where
      steps : {h : Edge} {i : ℕ} → Place L e h i → ahead (walk_of L) i h ≡ e
      steps {h} {i} t =
          let law = laws L sound in
          sym (contour-at (walk_of L) law h h i (first_one (walk_of L) law h t.is-first) t.within_contour) ∙ t.stands

      on : {h : Edge} {i : ℕ} → Place L e h i → 0 < occurrences (walk_of L) e (contour_of L h)
      on {h} {i} t =
          let law = laws L sound in
          rw (steps t) at (on-ahead (walk_of L) law h i (first_one (walk_of L) law h t.is-first))

  -- The contours, one after the other, are a permutation of all sticks: each stick stands in them once, and no other edge does;
  pub permutation : (e : Edge) → occurrences (walk_of L) e (walked (walk_of L)) ≡ as_number (is_stick L e)
  permutation = count-walked (walk_of L) (laws L sound)

  -- so together they are as long as there are sticks.
  pub total-length : length (walked (walk_of L)) ≡ stick_count L
  total-length = length-walked (walk_of L) (laws L sound)

  -- The sticks by number have each of them once, too.
  pub sticks-once : (e : Edge) → occurrences (walk_of L) e (sticks_by_number L) ≡ as_number (is_stick L e)
  sticks-once = all_once (walk_of L) (laws L sound) (is_stick L) (λ e stick. stick)

  -- Every contour has a horizontal stick, so first sticks are horizontal.
  pub has-horizontal : (f : Edge) → is_stick L f ≡ true → (h : Edge) × (0 < occurrences (walk_of L) h (contour_of L f)) × (h.vertical ≡ false)
  has-horizontal = Horizontal.has-horizontal L sound

  pub first-horizontal : (f : Edge) → first (walk_of L) f ≡ true → f.vertical ≡ false
  first-horizontal = Horizontal.first-horizontal L sound

  -- The first sticks are those of the list, which ascends by number.
  pub first-sticks-only : (e : Edge) → 0 < occurrences (walk_of L) e (first_sticks L) → first (walk_of L) e ≡ true
  first-sticks-only = firsts-only (walk_of L) (laws L sound)

  pub first-sticks-all : (e : Edge) → first (walk_of L) e ≡ true → 0 < occurrences (walk_of L) e (first_sticks L)
  first-sticks-all = firsts-all (walk_of L) (laws L sound)

  pub first-sticks-ascend : (i j : ℕ) (d : Edge) → i < j → j < length (first_sticks L)
      → number L.size (get_or (first_sticks L) i d) < number L.size (get_or (first_sticks L) j d)
  first-sticks-ascend = firsts-ascend (walk_of L) (laws L sound)

-- every edge of a list is a stick
abbrev pub AllSticks : Layer → List Edge → Type 0
AllSticks L l = (e : Edge) → 0 < occurrences (walk_of L) e l → is_stick L e ≡ true

module _ {L : Layer} (sound : Sound L) where
  pub head-stick : (e : Edge) (l : List Edge) → AllSticks L (e ∷ l) → is_stick L e ≡ true
  unfolding occurrences
  head-stick e l h = h e (omega (arith, ap as_number ((laws L sound).same_self e)))

  pub tail-sticks : (e : Edge) (l : List Edge) → AllSticks L (e ∷ l) → AllSticks L l
  unfolding occurrences
  tail-sticks e l h f o = h f (omega arith)

  -- a contour
  pub contour-sticks : (f : Edge) → is_stick L f ≡ true → AllSticks L (contour_of L f)
  contour-sticks f stick e o = on_one (walk_of L) (laws L sound) f e stick o

  -- the first sticks
  pub firsts-sticks : AllSticks L (first_sticks L)
  firsts-sticks f o = first_one (walk_of L) (laws L sound) f (first-sticks-only L sound f o)

-- The order of edges by number is that by kind, row and column.

digits-order : (s m r q c d : ℕ) → c < m → d < m
    → ltb (s + (r * m + c)) (s + (q * m + d)) ≡ (ltb r q || (eqb r q && ltb c d))
digits-order s m r q c d hc hd = elim (dec_lt r q) [
  | yes l ↦
      let up = mul-le-mul {n₁ = r + 1} {m₁ = m} {n₂ = q} {m₂ = m} (omega arith) (omega arith) in
      rw (lt-ltb (s + (r * m + c)) (s + (q * m + d)) (omega arith), lt-ltb r q l)
  | no n ↦ elim (dec_lt q r) [
    | yes l ↦
        let up = mul-le-mul {n₁ = q + 1} {m₁ = m} {n₂ = r} {m₂ = m} (omega arith) (omega arith) in
        rw (
          le-ltb (s + (r * m + c)) (s + (q * m + d)) (omega arith),
          le-ltb r q (omega arith),
          ne_eqb r q (λ e. omega arith),
        )
    | no k ↦
        let e : r ≡ q = omega arith in
        rw (e, le-ltb q q (omega arith), eq-eqb q q refl) (elim (dec_lt c d) [
          | yes l ↦ lt-ltb (s + (q * m + c)) (s + (q * m + d)) (omega arith) ∙ sym (lt-ltb c d l)
          | no g ↦ le-ltb (s + (q * m + c)) (s + (q * m + d)) (omega arith) ∙ sym (le-ltb c d (omega arith))
        ])
  ]
]

pub number-order : (size : Size) → Sized size → (e f : Edge) → in_grid size e ≡ true → in_grid size f ≡ true
    → ltb (number size e) (number size f) ≡ earlier e f
unfolding number
number-order size sized e f he hf =
    go e.vertical f.vertical e.column e.row f.column f.row (within size e he) (within size f hf)
    (in-kind-below size sized e he) (in-kind-below size sized f hf)
  where
    go : (v u : Bool) (c r d q : ℕ)
        → let e : Edge = record { vertical = v; column = c; row = r } in
        let f : Edge = record { vertical = u; column = d; row = q } in
        WithinGrid size e → WithinGrid size f
        → r * edge_columns size v + c < edge_rows size v * edge_columns size v
        → q * edge_columns size u + d < edge_rows size u * edge_columns size u
        → ltb (kind_start size v + (r * edge_columns size v + c)) (kind_start size u + (q * edge_columns size u + d)) ≡ earlier e f
    go true true c r d q he hf le lf =
        digits-order (kind_start size true) (edge_columns size true) r q c d he.column_below hf.column_below
    go false false c r d q he hf le lf =
        digits-order (kind_start size false) (edge_columns size false) r q c d he.column_below hf.column_below
    go true false c r d q he hf le lf =
        le-ltb
        (kind_start size true + (r * edge_columns size true + c))
        (kind_start size false + (q * edge_columns size false + d))
        (omega arith)
    go false true c r d q he hf le lf =
        lt-ltb
        (kind_start size false + (r * edge_columns size false + c))
        (kind_start size true + (q * edge_columns size true + d))
        (omega arith)

-- so that is the order of contours: the first stick of the one before is earlier by kind, row and column than that of the one after
pub first-sticks-earlier : (L : Layer) → Sound L → (i j : ℕ) (d : Edge) → i < j → j < length (first_sticks L)
    → earlier (get_or (first_sticks L) i d) (get_or (first_sticks L) j d) ≡ true
first-sticks-earlier L sound i j d h l =
    let law = laws L sound in
    let in-grid : (k : ℕ) → k < length (first_sticks L) → in_grid L.size (get_or (first_sticks L) k d) ≡ true =
    λ k b. stick-in L _ (firsts-sticks sound _ (in_list (walk_of L) law (first_sticks L) k d b)) in
    sym (number-order L.size sound.whole.sized _ _ (in-grid i (omega arith)) (in-grid j l))
    ∙ lt-ltb _ _ (first-sticks-ascend L sound i j d h l)

-- There are as many contours as edges that are first sticks.
pub contour-count : (L : Layer) → contour_count L ≡ count (λ k. first (walk_of L) (edge_at L.size k)) (edge_count L.size)
contour-count L = length-contours (walk_of L)
