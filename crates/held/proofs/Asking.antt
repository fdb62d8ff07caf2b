-- What the code of question 7 rests on: a drawn edge against the sticks of its gap, one contour walked once, and all contours in order.
use mathlib.Core.Path.{◌≡◌, refl, sym, ◌∙◌, ap}
use mathlib.Core.Bool.{Bool, true, false, ◌&&◌}
use mathlib.Core.List.{List, [], ◌∷◌}
use Prim.Native.Nat.{ℕ, ◌+◌, ◌≤◌}
use native.Mathlib.Omega.{arith}
use lib.Dec.{leb}
use lib.ListN.{length}
use Rattle.arith.specs.Booleans.{as_number}
use Rattle.arith.proofs.Lists.{among-most}
use Rattle.arith.specs.Lists.{each, among}
use Rattle.grid.specs.Layer.{Layer}
use Rattle.grid.specs.Edges.{number}
use Rattle.grid.specs.Questions.{first_no, Sound}
use Rattle.grid.specs.declared.edge.Edge.{Edge}
use Rattle.grid.specs.declared.refusal.Refusal.TheVariants.{NotHeld}
use Rattle.grid.specs.Questions.{Yes, No}
use Rattle.grid.proofs.Numbers.{edges-small}
use Rattle.grid.proofs.Answers.{append-all, append-yes, first_no-yes}
use Rattle.contour.specs.Contours.{walk_of, contour_of, first_sticks}
use Rattle.contour.proofs.Orbit.{round}
use Rattle.contour.proofs.Laps.{OnLap, on_lap, due-stick, lap-turn}
use Rattle.contour.proofs.Firsts.{FirstsLeft, firsts-start, firsts-turn}
use Rattle.contour.proofs.Sticks.{laws}
use Rattle.table.specs.Entries.{length_questions, entries_answer}
use Rattle.table.specs.Kept.{all_kept_answer}
use Rattle.table.specs.Vertices.{kept_at}
use Rattle.table.specs.Lent.{Lent, LentAt}
use Rattle.table.proofs.Lengths.{lengths-of}
use Rattle.drawn.specs.Drawn.{drawn_among, starts, edge_crosses}
use Rattle.held.specs.Held.{held_contour, held_answer, first_unheld}
use Rattle.held.specs.Questions.{entry_questions, held_questions, kept_questions, Accepted}

-- One contour

-- whether the drawn edges of these sticks cross what they must
abbrev pub all_cross : Layer → List ℕ → List Edge → Bool
all_cross L t l = each (edge_crosses L t) (starts (drawn_among L t l))

-- x does not change that: its vertex is not kept, or the drawn edge that starts there crosses what it must
abbrev pub Cleared : Layer → List ℕ → Edge → Type 0
Cleared L t x = (l : List Edge) → all_cross L t (x ∷ l) ≡ all_cross L t l

pub cleared-kept : (L : Layer) (t : List ℕ) (x : Edge) → kept_at L t x ≡ true → edge_crosses L t x ≡ true → Cleared L t x
cleared-kept L t x k y l = rw (k, y)

pub cleared-none : (L : Layer) (t : List ℕ) (x : Edge) → kept_at L t x ≡ false → Cleared L t x
cleared-none L t x k l = rw k

-- the work on x is done: that, and `kept` more by one where its vertex is kept
abbrev pub Done : Layer → List ℕ → Edge → (kept kept' : ℕ) → Type 0
Done L t x kept kept' = Cleared L t x × (kept' ≡ kept + as_number (kept_at L t x))

module _ (L : Layer) (t : List ℕ) (x : Edge) (kept : ℕ) {kept' : ℕ} where
  pub done-kept : kept_at L t x ≡ true → edge_crosses L t x ≡ true → kept' ≡ kept + 1 → Done L t x kept kept'
  done-kept k y more = (cleared-kept L t x k y, omega (arith, more, ap as_number k))

  pub done-none : kept_at L t x ≡ false → kept' ≡ kept → Done L t x kept kept'
  done-none k same = (cleared-none L t x k, omega (arith, same, ap as_number k))

-- along the contour of f: the kept vertices so far and those still to come are all of them, and what is still to be asked decides whether all
-- edges cross
pub record Counted (L : Layer) (t : List ℕ) (f : Edge) (left : List Edge) (kept : ℕ) : Type 0 where
  pub lap : OnLap L f left
  pub in_all : kept + among (kept_at L t) left ≡ among (kept_at L t) (contour_of L f)
  pub still : all_cross L t left ≡ all_cross L t (contour_of L f)

and-false : (a : Bool) → false ≡ (a && false)
and-false true = refl
and-false false = refl

and-true : (a : Bool) → a ≡ (a && true)
and-true true = refl
and-true false = refl

module _ {L : Layer} {t : List ℕ} {f : Edge} where
  pub counted_start : LentAt L t f → {left : List Edge} → left ≡ contour_of L f → Counted L t f left 0
  counted_start given e =
      record { lap = on_lap given.sound given.stick e; in_all = omega (arith, ap (among (kept_at L t)) e); still = ap (all_cross L t) e }

  module _ {left : List Edge} {kept : ℕ} (c : Counted L t f left kept) where
    module _ (sound : Sound L) {x : Edge} {left' : List Edge} (next : left ≡ x ∷ left') where
      pub counted-lent : LentAt L t f → LentAt L t x
      counted-lent given = record { sound = sound; exact = given.exact; stick = due-stick sound c.lap next }

      pub counted-most : kept ≤ 2095104
      counted-most =
          omega (
            arith,
            c.in_all,
            among-most (kept_at L t) (contour_of L f),
            (round (walk_of L) (laws L sound) f c.lap.first).within,
            edges-small L.size sound.whole.sized,
          )

      -- an edge that does not cross
      pub counted-no : kept_at L t x ≡ true → edge_crosses L t x ≡ false → false ≡ held_contour L t f
      unfolding held_contour
      counted-no k bad =
          let none : all_cross L t (x ∷ left') ≡ false = rw (k, bad) in
          let all : all_cross L t (contour_of L f) ≡ false = sym c.still ∙ ap (all_cross L t) next ∙ none in
          and-false (leb 3 (among (kept_at L t) (contour_of L f)))
          ∙ ap (λ (b : Bool). leb 3 (among (kept_at L t) (contour_of L f)) && b) (sym all)

      pub counted-turn : {kept' : ℕ} → Done L t x kept kept' → Counted L t f left' kept'
      counted-turn done =
          record {
            lap = lap-turn sound c.lap next;
            in_all = omega (arith, done.1, c.in_all, ap (among (kept_at L t)) next);
            still = sym (done.0 left') ∙ sym (ap (all_cross L t) next) ∙ c.still;
          }

    -- none is left
    pub counted-end : left ≡ [] → leb 3 kept ≡ held_contour L t f
    unfolding held_contour
    counted-end over =
        let all : kept ≡ among (kept_at L t) (contour_of L f) = omega (arith, c.in_all, ap (among (kept_at L t)) over) in
        let held : all_cross L t (contour_of L f) ≡ true = sym c.still ∙ ap (all_cross L t) over in
        ap (leb 3) all ∙ and-true (leb 3 (among (kept_at L t) (contour_of L f)))
        ∙ ap (λ (b : Bool). leb 3 (among (kept_at L t) (contour_of L f)) && b) (sym held)

-- All contours: the first that is not held, of those that are left, is the first of all

pub record Asked (L : Layer) (t : List ℕ) (left : List Edge) : Type 0 where
  pub firsts : FirstsLeft L left
  pub still : first_unheld L t left ≡ held_answer L t

module _ {L : Layer} {t : List ℕ} {left : List Edge} where
  pub ask-start : left ≡ first_sticks L → Asked L t left
  unfolding held_answer
  ask-start e = record { firsts = firsts-start L e; still = ap (first_unheld L t) e }

  module _ (a : Asked L t left) where
    module _ {f : Edge} {left' : List Edge} (next : left ≡ f ∷ left') where
      pub ask-next : held_contour L t f ≡ true → Asked L t left'
      ask-next held =
          let later : first_unheld L t left' ≡ first_unheld L t (f ∷ left') = rw held in
          record { firsts = firsts-turn a.firsts next; still = later ∙ sym (ap (first_unheld L t) next) ∙ a.still }

      pub ask-no : held_contour L t f ≡ false → No NotHeld (number L.size f) ≡ held_answer L t
      ask-no missed =
          let first : No NotHeld (number L.size f) ≡ first_unheld L t (f ∷ left') = rw missed in
          first ∙ sym (ap (first_unheld L t) next) ∙ a.still

    pub ask-end : left ≡ [] → Yes ≡ held_answer L t
    ask-end over = sym (ap (first_unheld L t) over) ∙ a.still

-- What a yes to questions 1 to 6 says, and to 1 to 7

pub six-of : (L : Layer) (t : List ℕ) → first_no (entry_questions L t) ≡ Yes → Lent L t × (entries_answer L t ≡ Yes)
six-of L t e =
    let both = append-all (length_questions L (length t)) (entries_answer L t ∷ []) e in
    (lengths-of L t both.0, (first_no-yes (entries_answer L t) [] both.1).0)

pub accepted-of : (L : Layer) (t : List ℕ) → first_no (held_questions L t) ≡ Yes → Accepted L t
accepted-of L t e =
    let both = append-all (entry_questions L t) (held_answer L t ∷ []) e in
    let six = six-of L t both.0 in
    record { sound = six.0.sound; exact = six.0.exact; entries = six.1; held = (first_no-yes (held_answer L t) [] both.1).0 }

-- and where 1 to 5 are answered yes for a table t, 1 to 7 are for each accepted one
pub accepted-yes : (L : Layer) (t u : List ℕ) → first_no (length_questions L (length t)) ≡ Yes → Accepted L u → first_no (held_questions L u) ≡ Yes
accepted-yes L t u yes_5 accepted =
    let same : length u ≡ length t = accepted.exact ∙ sym (lengths-of L t yes_5).exact in
    let five : first_no (length_questions L (length u)) ≡ Yes = rw same yes_5 in
    let last : first_no (entries_answer L u ∷ held_answer L u ∷ []) ≡ Yes = rw (accepted.entries, accepted.held) in
    sym (append-yes (length_questions L (length u)) (entries_answer L u ∷ held_answer L u ∷ []) five) ∙ last

-- what a yes to 1 to 7 and 15 says
pub kept-of-yes : (L : Layer) (t : List ℕ) → first_no (kept_questions L t) ≡ Yes → Accepted L t × (all_kept_answer L.size t ≡ Yes)
kept-of-yes L t e =
    let both = append-all (held_questions L t) (all_kept_answer L.size t ∷ []) e in
    (accepted-of L t both.0, (first_no-yes (all_kept_answer L.size t) [] both.1).0)
