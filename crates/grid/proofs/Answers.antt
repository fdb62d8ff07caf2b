-- Questions and their answers: how a search for the lowest place answers one, and what a yes says.
use mathlib.Core.Path.{◌≡◌, refl, ap, sym, ◌∙◌}
use mathlib.Core.Bool.{Bool, true, false, true≢false}
use mathlib.Core.List.{List, [], ◌∷◌, ◌++◌}
use Prim.Native.Nat.{ℕ, ◌+◌, ◌-◌, ◌*◌, ◌≤◌, ◌<◌}
use native.Mathlib.Omega.{arith}
use borrow.Author.Tests.{lt-ltb, le-ltb, leb-true, ltb-false, eqb-true}
use lib.Arith.{digits_div, digits_mod, digits_lt}
use lib.Dec.{leb, ltb}
use lib.ListN.{length, get_or}
use Rattle.arith.proofs.Booleans.{both-sides, and_split}
use Rattle.arith.specs.Ranges.{least}
use Rattle.arith.proofs.Ranges.{least-is, least-none, least_from-below}
use Rattle.grid.specs.Layer.{Layer}
use Rattle.std.specs.Prelude.{Err, Ok, is_err}
use Rattle.grid.specs.Questions.{Answer, Yes, No, number_of, first_no, ask, ask_each, in_range, sides_answer, length_answer, spare_set, spare_answer, border_in, border_at, border_answer, layer_questions, Sized, Whole, Sound}
use Rattle.grid.specs.declared.layer.Size.{Size}
use Rattle.grid.specs.declared.refusal.Refusal.{Refusal}

pub no-not-yes : (q : Refusal) (p : ℕ) → No q p ≡ Yes → ⊥
no-not-yes q p e = let z : ◌≡◌ {A = ℕ} 0 1 = cc in omega arith

pub yes-of : (a : Answer) → is_err a ≡ false → a ≡ Yes
yes-of (Ok _) e = refl
yes-of (Err n) e = absurd (true≢false e)

-- the number of a refusal is not 0, which stands for done, and at most 16
pub number-within : (q : Refusal) → (1 ≤ number_of q) × (number_of q ≤ 16)
number-within Refusal.BadSides = (omega arith, omega arith)
number-within Refusal.BitmapLength = (omega arith, omega arith)
number-within Refusal.SpareBits = (omega arith, omega arith)
number-within Refusal.BorderInside = (omega arith, omega arith)
number-within Refusal.TableLength = (omega arith, omega arith)
number-within Refusal.WrongEntry = (omega arith, omega arith)
number-within Refusal.NotHeld = (omega arith, omega arith)
number-within Refusal.Malformed = (omega arith, omega arith)
number-within Refusal.NoKeptVertex = (omega arith, omega arith)
number-within Refusal.BadOffset = (omega arith, omega arith)
number-within Refusal.NoCrossing = (omega arith, omega arith)
number-within Refusal.BeyondTolerance = (omega arith, omega arith)
number-within Refusal.TooFewKept = (omega arith, omega arith)
number-within Refusal.ShortOutput = (omega arith, omega arith)
number-within Refusal.SomeRemoved = (omega arith, omega arith)
number-within Refusal.VertexPinned = (omega arith, omega arith)

-- each question has a number of its own
abbrev questions : List Refusal
questions =
    Refusal.BadSides ∷ Refusal.BitmapLength ∷ Refusal.SpareBits ∷ Refusal.BorderInside ∷
    Refusal.TableLength ∷ Refusal.WrongEntry ∷ Refusal.NotHeld ∷ Refusal.Malformed ∷
    Refusal.NoKeptVertex ∷ Refusal.BadOffset ∷ Refusal.NoCrossing ∷ Refusal.BeyondTolerance ∷
    Refusal.TooFewKept ∷ Refusal.ShortOutput ∷ Refusal.SomeRemoved ∷ Refusal.VertexPinned ∷ []

abbrev question_of : ℕ → Refusal
question_of n = get_or questions (n - 1) Refusal.BadSides

of-number : (q : Refusal) → question_of (number_of q) ≡ q
of-number Refusal.BadSides = refl
of-number Refusal.BitmapLength = refl
of-number Refusal.SpareBits = refl
of-number Refusal.BorderInside = refl
of-number Refusal.TableLength = refl
of-number Refusal.WrongEntry = refl
of-number Refusal.NotHeld = refl
of-number Refusal.Malformed = refl
of-number Refusal.NoKeptVertex = refl
of-number Refusal.BadOffset = refl
of-number Refusal.NoCrossing = refl
of-number Refusal.BeyondTolerance = refl
of-number Refusal.TooFewKept = refl
of-number Refusal.ShortOutput = refl
of-number Refusal.SomeRemoved = refl
of-number Refusal.VertexPinned = refl

pub same-number : (p q : Refusal) → number_of p ≡ number_of q → p ≡ q
same-number p q e = sym (of-number p) ∙ ap question_of e ∙ of-number q

-- the lowest number that fails is the place of the no
pub each-no : (q : Refusal) (f : ℕ → Bool) (n k : ℕ) → k < n → f k ≡ true → ((j : ℕ) → j < k → f j ≡ false) → No q k ≡ ask_each q f n
each-no q f n k h t b = rw (least-is f n k h t b, lt-ltb k n h)

pub each-yes : (q : Refusal) (f : ℕ → Bool) (n : ℕ) → ((j : ℕ) → j < n → f j ≡ false) → Yes ≡ ask_each q f n
each-yes q f n b = rw (least-none f n b, le-ltb n n (omega arith))

pub each_all : (q : Refusal) (f : ℕ → Bool) (n : ℕ) → ask_each q f n ≡ Yes → (j : ℕ) → j < n → f j ≡ false
each_all q f n e j h = both-sides (ltb (least f n) n)
    (λ t. absurd (no-not-yes q (least f n) (rw t at e)))
    (λ t. least_from-below f 0 n j (omega arith) (omega (arith, ltb-false (least f n) n t)))

pub asked : (q : Refusal) (b : Bool) → ask q b ≡ Yes → b ≡ true
asked q true e = refl
asked q false e = absurd (no-not-yes q 0 e)

pub first_no-yes : (a : Answer) (later : List Answer) → first_no (a ∷ later) ≡ Yes → (a ≡ Yes) × (first_no later ≡ Yes)
first_no-yes Yes later e = (refl, e)
first_no-yes (Err n) later e = absurd (no-not-yes n.question n.place e)

-- asking the questions of a list one by one: x is what a question was answered
pub first-no : {x a : Answer} (later : List Answer) → x ≡ a → {q : Refusal} {p : ℕ} → x ≡ No q p → x ≡ first_no (a ∷ later)
first-no later e n = n ∙ ap (λ (b : Answer). first_no (b ∷ later)) (sym n ∙ e)

pub first-yes : {x a : Answer} (later : List Answer) → x ≡ a → x ≡ Yes → first_no later ≡ first_no (a ∷ later)
first-yes later e y = ap (λ (b : Answer). first_no (b ∷ later)) (sym y ∙ e)

pub first-only : (a : Answer) → a ≡ first_no (a ∷ [])
first-only Yes = refl
first-only (Err n) = refl

-- and of two lists, one after the other
pub append-no : (xs ys : List Answer) {q : Refusal} {p : ℕ} → first_no xs ≡ No q p → No q p ≡ first_no (xs ++ ys)
append-no [] ys {q} {p} e = absurd (no-not-yes q p (sym e))
append-no (Yes ∷ xs) ys e = append-no xs ys e
append-no (Err n ∷ xs) ys e = sym e

pub append-yes : (xs ys : List Answer) → first_no xs ≡ Yes → first_no ys ≡ first_no (xs ++ ys)
append-yes [] ys e = refl
append-yes (Yes ∷ xs) ys e = append-yes xs ys e
append-yes (Err n ∷ xs) ys e = absurd (no-not-yes n.question n.place e)

pub append-all : (xs ys : List Answer) → first_no (xs ++ ys) ≡ Yes → (first_no xs ≡ Yes) × (first_no ys ≡ Yes)
append-all [] ys e = (refl, e)
append-all (Yes ∷ xs) ys e = append-all xs ys e
append-all (Err n ∷ xs) ys e = absurd (no-not-yes n.question n.place e)

range-of : (n : ℕ) → in_range n ≡ true → (2 ≤ n) × (n ≤ 1024)
range-of n h =
    let both = and_split (leb 2 n) (leb n 1024) h in
    (leb-true 2 n both.0, leb-true n 1024 both.1)

pub sized_of : (size : Size) → sides_answer size ≡ Yes → Sized size
unfolding sides_answer
sized_of size e =
    let both = and_split (in_range size.width) (in_range size.height) (asked Refusal.BadSides _ e) in
    let w = range-of size.width both.0 in
    let h = range-of size.height both.1 in
    record { wide = w.0; narrow = w.1; high = h.0; low = h.1 }

pub whole_of : (L : Layer) → Sized L.size → length_answer L ≡ Yes → Whole L
unfolding length_answer
whole_of L sized e = record { sized = sized; exact = eqb-true _ _ (asked Refusal.BitmapLength _ e) }

spare_of : (L : Layer) → spare_answer L ≡ Yes → (i : ℕ) → i < length L.bitmap → spare_set L i ≡ false
unfolding spare_answer
spare_of L e = each_all Refusal.SpareBits (spare_set L) (length L.bitmap) e

border-of : (L : Layer) → border_answer L ≡ Yes → (c r : ℕ) → c < L.size.width → r < L.size.height → border_in L r c ≡ false
unfolding border_answer
border-of L e c r hc hr =
    rw (digits_div r hc, digits_mod r hc) at
    (each_all Refusal.BorderInside (border_at L) (L.size.height * L.size.width) e
    (r * L.size.width + c) (digits_lt hr hc))

-- a layer that passes questions 1 to 4 is sound
pub sound-of : (L : Layer) → first_no (layer_questions L) ≡ Yes → Sound L
sound-of L e =
    let a = first_no-yes (sides_answer L.size) (length_answer L ∷ spare_answer L ∷ border_answer L ∷ []) e in
    let b = first_no-yes (length_answer L) (spare_answer L ∷ border_answer L ∷ []) a.1 in
    let d = first_no-yes (spare_answer L) (border_answer L ∷ []) b.1 in
    let f = first_no-yes (border_answer L) [] d.1 in
    record { whole = whole_of L (sized_of L.size a.0) b.0; spare = spare_of L d.0; border = border-of L f.0 }
