-- The mirror law of the new offset, for every segment and offset that the rule is asked of and for both kinds of stick. The segment meets the
-- line at meeting / total; mirrored along the stick, v - old is what it was with the other sign, and the law of the rounding (`rounded-mirror`)
-- does the rest; mirrored across the stick it is what it was.
use mathlib.Core.Path.{◌≡◌, refl, sym, ap, ap₂, ◌∙◌}
use mathlib.Core.Logic.{inl, inr}
use mathlib.Core.Bool.{Bool, true, false}
use Prim.Native.Nat.{ℕ, ◌+◌, ◌*◌, ◌-◌, ◌≤◌}
use native.Mathlib.Nat.{add_comm}
use native.Mathlib.Omega.{arith}
use lib.IntN.{ℤ, pos, neg_ℤ, nat_abs, ◌+ℤ◌, ◌-ℤ◌}
use Rattle.arith.proofs.Integers.{ints, at, viaℕ, toℕ}
use Rattle.grid.specs.declared.edge.Edge.{Edge}
use Rattle.chord.specs.Points.{Position}
use Rattle.chord.specs.Crossing.{along, across, base, off, meeting, total}
use Rattle.chord.specs.Runs.{Near, NearEdge}
use Rattle.chord.proofs.EdgePoints.{edge}
use Rattle.offset.specs.Offset.{rounded, spread, shift, signed_by, new_offset, Around, Movable}
use Rattle.offset.specs.Mirror.{mirror, Image, Facing}
use Rattle.offset.proofs.Rounding.{rounded-mirror}
use Rattle.offset.proofs.Meeting.{spread-is, shift_is}
use Rattle.offset.proofs.Offsets.{new_is}

-- v - old over `total`
abbrev pull : Position → Position → Edge → ℕ → ℤ
pull p q e old = pos (meeting p q e) -ℤ pos ((base e + old) * total p q e)

minus : (b m : ℕ) (n : ℤ) → pos b +ℤ n ≡ pos m → n ≡ pos m -ℤ pos b
minus b m n e = viaℕ (search (ints, at n)) (omega (arith, toℕ e (search (ints, at n))))

new-from : {p q : Position} {e : Edge} {old : ℕ} → Around p q e old → pos (new_offset p q e old) ≡ rounded old (pull p q e old) (total p q e)
new-from {p} {q} {e} {old} a =
    let n = signed_by (shift p q e old) (spread p q e) in
    let n-is = minus ((base e + old) * total p q e) (meeting p q e) n (shift_is p q e old a.apart) in
    new_is a ∙ ap₂ (rounded old) n-is (spread-is p q e old a.apart)

-- the neighbours may change places: their segment has no direction
turned : {p q : Position} {e : Edge} {old : ℕ} → Around p q e old → Around q p e old
turned {p} {q} {e} a = record {
  apart = elim a.apart [ inl s ↦ inr s | inr s ↦ inl s ];
  p_from = a.q_from;
  p_to = a.q_to;
  q_from = a.p_from;
  q_to = a.p_to;
  low = a.low;
  high = a.high;
}

pub new-turned : {p q : Position} {e : Edge} {old : ℕ} → Around p q e old → new_offset p q e old ≡ new_offset q p e old
new-turned {p} {q} {e} {old} a =
    let same-meeting : meeting p q e ≡ meeting q p e = add_comm (off e q * along e p) (off e p * along e q) in
    let same_total : total p q e ≡ total q p e = add_comm (off e q) (off e p) in
    ap nat_abs
    (new-from a
    ∙ ap₂ (λ (m t : ℕ). rounded old (pos m -ℤ pos ((base e + old) * t)) t) same-meeting same_total
    ∙ sym (new-from (turned a)))

-- ---- on two sticks across the mirror

pulled-back : (a b α β o o' u w u' w' : ℕ) → u + u' ≡ a + b + 256 → w + w' ≡ a + b + 256 → o + o' ≡ 256
    → pos (α * u' + β * w') -ℤ pos ((b + o') * (α + β)) ≡ neg_ℤ (pos (α * u + β * w) -ℤ pos ((a + o) * (α + β)))
pulled-back a b α β o o' u w u' w' eu ew eo =
    viaℕ (search ints depth 9) (omega (arith, ap (λ k. α * k) eu, ap (λ k. β * k) ew, ap (λ k. α * k) eo, ap (λ k. β * k) eo))

-- two vertices whose neighbours are images of each other, in the same order
pub new-mirror : {p q p' q' : Position} {e e' : Edge} {old old' : ℕ} → Around p q e old → Around p' q' e' old' → old + old' ≡ 256
    → Image e p e' p' → Image e q e' q' → new_offset p q e old + new_offset p' q' e' old' ≡ 256
new-mirror {p} {q} {p'} {q'} {e} {e'} {old} {old'} here there sum i j =
    let same_total : total p' q' e' ≡ total p q e = omega (arith, i.as_far, j.as_far) in
    let other_sign : pull p' q' e' old' ≡ neg_ℤ (pull p q e old) =
    rw (sym i.as_far, sym j.as_far)
    (pulled-back (base e) (base e') (off e q) (off e p) old old' (along e p) (along e q) (along e' p') (along e' q') i.about j.about sum) in
    let both : pos (new_offset p q e old) +ℤ pos (new_offset p' q' e' old') ≡ pos 256 =
    ap₂ ◌+ℤ◌ (new-from here) (new-from there ∙ ap₂ (rounded old') other_sign same_total)
    ∙ rounded-mirror old old' (pull p q e old) (total p q e) sum in
    omega (arith, toℕ both (search ints))

-- and in the opposite one, as a contour of the mirrored layer is walked the other way round
pub new-mirror-turned : {p q p' q' : Position} {e e' : Edge} {old old' : ℕ} → Around p q e old → Around p' q' e' old' → old + old' ≡ 256
    → Image e p e' q' → Image e q e' p' → new_offset p q e old + new_offset p' q' e' old' ≡ 256
new-mirror-turned {p} {q} {e = e} {old = old} here there sum i j =
    ap (λ n. new_offset p q e old + n) (new-turned there) ∙ new-mirror here (turned there) sum i j

-- ---- on two sticks along the mirror

pulled-alike : (a b α β o u w u' w' : ℕ) → u + b ≡ u' + a → w + b ≡ w' + a
    → pos (α * u' + β * w') -ℤ pos ((b + o) * (α + β)) ≡ pos (α * u + β * w) -ℤ pos ((a + o) * (α + β))
pulled-alike a b α β o u w u' w' eu ew = viaℕ (search ints depth 9) (omega (arith, ap (λ k. α * k) eu, ap (λ k. β * k) ew))

-- the same offset gives the same new offset, in either order of the neighbours
pub new-facing : {p q p' q' : Position} {e e' : Edge} {old : ℕ} → Around p q e old → Around p' q' e' old
    → Facing e p e' p' → Facing e q e' q' → new_offset p q e old ≡ new_offset p' q' e' old
new-facing {p} {q} {p'} {q'} {e} {e'} {old} here there i j =
    let same_total : total p' q' e' ≡ total p q e = omega (arith, i.as_far, j.as_far) in
    let same-pull : pull p' q' e' old ≡ pull p q e old =
    rw (sym i.as_far, sym j.as_far)
    (pulled-alike (base e) (base e') (off e q) (off e p) old (along e p) (along e q) (along e' p') (along e' q') i.level j.level) in
    ap nat_abs (new-from here ∙ sym (new-from there ∙ ap₂ (rounded old) same-pull same_total))

pub new-facing-turned : {p q p' q' : Position} {e e' : Edge} {old : ℕ} → Around p q e old → Around p' q' e' old
    → Facing e p e' q' → Facing e q e' p' → new_offset p q e old ≡ new_offset p' q' e' old
new-facing-turned here there i j = new-facing here (turned there) i j ∙ sym (new-turned there)

-- ---- on one stick

along-mirror : (v : Bool) (c r : ℕ) (p : Position) → let e = edge v c r in along e (mirror e p) ≡ 2 * base e + 256 - along e p
along-mirror true c r p = refl
along-mirror false c r p = refl

across-mirror : (v : Bool) (c r : ℕ) (p : Position) → let e = edge v c r in across e (mirror e p) ≡ across e p
across-mirror true c r p = refl
across-mirror false c r p = refl

module _ {p q : Position} {e : Edge} {old : ℕ} (around : Around p q e old) where
  along-of : (s : Position) → along e (mirror e s) ≡ 2 * base e + 256 - along e s
  along-of = along-mirror e.vertical e.column e.row

  across-of : (s : Position) → across e (mirror e s) ≡ across e s
  across-of = across-mirror e.vertical e.column e.row

  -- the rule is asked of the mirrored segment and offset too
  pub mirror-around : Around (mirror e p) (mirror e q) e (256 - old)
  mirror-around = record {
    apart = rw (across-of p, across-of q) around.apart;
    p_from = omega (arith, along-of p, around.p_to);
    p_to = omega (arith, along-of p, around.p_from);
    q_from = omega (arith, along-of q, around.q_to);
    q_to = omega (arith, along-of q, around.q_from);
    low = omega (arith, around.high);
    high = omega (arith, around.low);
  }

  image : (s : Position) → along e s ≤ base e + 256 → Image e s e (mirror e s)
  unfolding off
  image s h = record { as_far = rw (across-of s) refl; about = omega (arith, along-of s) }

  pub new-mirrored : new_offset (mirror e p) (mirror e q) e (256 - old) ≡ 256 - new_offset p q e old
  new-mirrored =
      let whole : old + (256 - old) ≡ 256 = omega (arith, around.high) in
      omega (arith, new-mirror around mirror-around whole (image p around.p_to) (image q around.q_to))

-- and so is the code
near-mirror : (v : Bool) (c r : ℕ) (p : Position) → let e = edge v c r in NearEdge e → base e ≤ along e p → Near p → Near (mirror e p)
near-mirror true c r p e_near from h = record { x_most = h.x_most; y_most = omega (arith, e_near.row_below) }
near-mirror false c r p e_near from h = record { x_most = omega (arith, e_near.column_below); y_most = h.y_most }

pub mirror-movable : {p q : Position} {e : Edge} {old : ℕ} → Movable p q e old → Movable (mirror e p) (mirror e q) e (256 - old)
mirror-movable {p} {q} {e} m = record {
  p_near = near-mirror e.vertical e.column e.row p m.e_near m.around.p_from m.p_near;
  q_near = near-mirror e.vertical e.column e.row q m.e_near m.around.q_from m.q_near;
  e_near = m.e_near;
  around = mirror-around m.around;
}
