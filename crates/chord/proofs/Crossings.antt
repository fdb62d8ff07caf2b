-- The test `crosses` is true exactly if the chord crosses the edge as the paper says it, over all points, for an edge that neither end
-- of the chord lies strictly inside. (That is needed only for the way from the points to the test: of an end that lies strictly inside the
-- edge, and no other point in common, the paper says 'one point strictly inside', and the test says no.)
use mathlib.Core.Path.{◌≡◌, refl, ap}
use mathlib.Core.Logic.{◌⊎◌, inl, inr}
use mathlib.Core.Bool.{Bool, true, ◌&&◌}
use Prim.Native.Nat.{ℕ, ◌+◌, ◌*◌, ◌≤◌, ◌<◌}
use native.Mathlib.Nat.{mul-le-mul_left, mul-lt-mul_of_pos_right}
use native.Mathlib.Decide.{ℕ_discrete, dec_lt, dec_le}
use native.Mathlib.Omega.{arith}
use borrow.Author.Tests.{ltb-true, lt-ltb}
use lib.Dec.{ltb}
use Rattle.arith.proofs.Booleans.{and_split}
use Rattle.grid.specs.declared.edge.Edge.{Edge}
use Rattle.chord.specs.Points.{Position, start, Point, point, On, Meets, Crosses}
use Rattle.chord.specs.Crossing.{along, across, base, line, off, parted, meeting, total, crosses}
use Rattle.chord.proofs.Homogeneous.{Proportional, proportional-sym, proportional-trans, coordinates, point_at, proportional→same}
use Rattle.chord.proofs.Weights.{Weights, on→weights, weighted→on, weights-turn, on-turn, at-first-end, along-mean}
use Rattle.chord.proofs.EdgePoints.{Within, within→closed, within-proportional, on→closed, closed→on, start→on, between→on, within→not-same, not-same→within, across-position, along-position}
use Rattle.chord.proofs.Meetings.{crossing, sides→parted, crossing-across, crossing-along, crossing-only, line-weights, total-some}

-- how a line at l meets a segment from u to v, if the mean of u and v with the weights α and β lies on it
data Incidence (u v l α β : ℕ) : Type 0 where
  rising : u < l → l < v → Incidence u v l α β
  falling : v < l → l < u → Incidence u v l α β
  at_first : β ≡ 0 → Incidence u v l α β
  at_second : α ≡ 0 → Incidence u v l α β
  level : u ≡ l → v ≡ l → Incidence u v l α β

incidence : (u v l α β : ℕ) → α * u + β * v ≡ (α + β) * l → Incidence u v l α β
incidence u v l α β e = elim (dec_lt u l) [
  | yes a ↦
      elim (dec_lt l v) [
        | yes b ↦ rising a b
        | no b ↦ at_second (omega (arith, mul-le-mul_left α a, mul-le-mul_left {m = v} {n = l} β (omega arith)))
      ]
  | no a ↦
      elim (dec_lt l u) [
        | yes c ↦
            elim (dec_lt v l) [
              | yes b ↦ falling b c
              | no b ↦ at_second (omega (arith, mul-le-mul_left α c, mul-le-mul_left {m = l} {n = v} β (omega arith)))
            ]
        | no c ↦
            let u=l : u ≡ l = omega arith in
            elim (ℕ_discrete v l) [
              | yes b ↦ level u=l b
              | no b ↦
                  elim (dec_lt v l) [
                    | yes b' ↦ at_first (omega (arith, ap (λ m. α * m) u=l, mul-le-mul_left β b'))
                    | no b' ↦ at_first (omega (arith, ap (λ m. α * m) u=l, mul-le-mul_left {m = l + 1} {n = v} β (omega arith)))
                  ]
            ]
      ]
]

module _ (p q : Position) (e : Edge) where
  -- ---- the test, by the point where the chord meets the line

  after : Bool
  after = ltb (base e * total p q e) (meeting p q e)

  before : Bool
  before = ltb (meeting p q e) ((base e + 256) * total p q e)

  pub crosses→parted : crosses p q e ≡ true → parted p q e ≡ true
  unfolding crosses after before
  crosses→parted t = (and_split (parted p q e) after (and_split (parted p q e && after) before t).0).0

  pub crosses→within : crosses p q e ≡ true → Within e (crossing p q e)
  unfolding crosses after before
  crosses→within t =
      let s = and_split (parted p q e && after) before t in
      let a = crossing-along p q e in
      record {
        on_line = crossing-across p q e (crosses→parted t);
        after = omega (arith, ltb-true (base e * total p q e) (meeting p q e) (and_split (parted p q e) after s.0).1);
        before = omega (arith, ltb-true (meeting p q e) ((base e + 256) * total p q e) s.1);
      }

  pub within→crosses : parted p q e ≡ true → Within e (crossing p q e) → crosses p q e ≡ true
  unfolding crosses
  within→crosses t w =
      let a = crossing-along p q e in
      rw (t, lt-ltb (base e * total p q e) (meeting p q e) (omega arith), lt-ltb (meeting p q e) ((base e + 256) * total p q e) (omega arith))

  -- ---- from the test to the points

  pub crosses→Crosses : crosses p q e ≡ true → Crosses p q e
  crosses→Crosses t =
      let s = crosses→parted t in
      let n = total-some p q e s in
      let w = crosses→within t in
      record {
        at = point_at (crossing p q e) n;
        meets =
            record {
              on_first = weighted→on (off e q) (off e p) p q n;
              on_second = closed→on e (record { x_plain = refl; y_plain = refl }) (within→closed w);
            };
        not_start = (within→not-same e w).0;
        not_end = (within→not-same e w).1;
        only = λ y z my mz.
            proportional→same (on→weights my.on_first).is_plain (on→weights mz.on_first).is_plain
            (proportional-trans n (found s my) (proportional-sym (found s mz)));
      }
    where
      found : parted p q e ≡ true → {z : Point} → Meets z p q e → Proportional (coordinates z) (crossing p q e)
      found s m = crossing-only p q e s m.on_first (on→closed e m.on_second).on_line

-- ---- from the points to the test

-- a position on the line, and not strictly inside the edge, lies before it or after it
outside : (p : Position) (e : Edge) → across e p ≡ line e → ¬ Within e (coordinates (point p))
    → (along e p ≤ base e) ⊎ (base e + 256 ≤ along e p)
outside p e a n = elim (dec_le (along e p) (base e)) [
  | yes l ↦ inl l
  | no l ↦
      elim (dec_le (base e + 256) (along e p)) [
        | yes g ↦ inr g
        | no g ↦ absurd (n (omega arith))
      ]
]

-- a chord on the line, with one end before the edge and one after it, runs over its first sample
over-start : (p q : Position) (e : Edge) → across e p ≡ line e → across e q ≡ line e → along e p ≤ base e → base e + 256 ≤ along e q
    → On (point (start e)) p q
over-start p q e a b l g =
    between→on e (record { x_plain = refl; y_plain = refl })
    (rw across-position (omega arith)) (rw across-position (omega arith))
    (rw along-position (omega arith)) (rw along-position (omega arith)) (omega arith)

pub Crosses→crosses : (p q : Position) (e : Edge) → ¬ Within e (coordinates (point p)) → ¬ Within e (coordinates (point q))
    → Crosses p q e → crosses p q e ≡ true
Crosses→crosses p q e np nq c =
    elim (incidence (across e p) (across e q) (line e) w.α w.β (line-weights p q e w i.on_line)) [
      | rising a b ↦ ok (sides→parted p q e (inl (a, b)))
      | falling a b ↦ ok (sides→parted p q e (inr (a, b)))
      | at_first n ↦ absurd (np (within-proportional e (omega arith) (at-first-end w n) i))
      | at_second n ↦ absurd (nq (within-proportional e (omega arith) (at-first-end (weights-turn w) n) i))
      | level a b ↦ absurd (flat a b (outside p e a np) (outside q e b nq))
    ]
  where
    w : Weights c.at p q
    w = on→weights c.meets.on_first

    i : Within e (coordinates c.at)
    i = not-same→within e w.is_plain (on→closed e c.meets.on_second) c.not_start c.not_end

    ok : parted p q e ≡ true → crosses p q e ≡ true
    ok s =
        within→crosses p q e s
        (within-proportional e (total-some p q e s) (crossing-only p q e s c.meets.on_first i.on_line) i)

    twice : On (point (start e)) p q → ⊥
    twice o =
        c.not_start (c.only c.at (point (start e)) c.meets (record { on_first = o; on_second = start→on e }))

    flat : across e p ≡ line e → across e q ≡ line e
        → (along e p ≤ base e) ⊎ (base e + 256 ≤ along e p) → (along e q ≤ base e) ⊎ (base e + 256 ≤ along e q) → ⊥
    flat a b (inl l) (inl m) =
        omega (arith, along-mean e w, mul-lt-mul_of_pos_right i.after w.some, mul-le-mul_left (w.α * c.at.d) l, mul-le-mul_left (w.β * c.at.d) m)
    flat a b (inl l) (inr m) = twice (over-start p q e a b l m)
    flat a b (inr l) (inl m) = twice (on-turn (over-start q p e b a m l))
    flat a b (inr l) (inr m) =
        omega (arith, along-mean e w, mul-lt-mul_of_pos_right i.before w.some, mul-le-mul_left (w.α * c.at.d) l, mul-le-mul_left (w.β * c.at.d) m)
