-- The points of a grid edge, over ℕ: those on its line and between its end samples, and of them those that are neither sample.
-- The edge is any grid edge: that it is a stick plays no part here.
use mathlib.Core.Path.{◌≡◌, refl, ap}
use mathlib.Core.Bool.{Bool, true, false}
use Prim.Native.Nat.{ℕ, ◌+◌, ◌*◌, ◌-◌, ◌≤◌, ◌<◌}
use native.Mathlib.Nat.{eq_of_mul-eq-mul_right, le_of_mul-le-mul_right, lt_of_mul-lt-mul_right, mul-lt-mul_of_pos_right}
use native.Mathlib.Decide.{ℕ_discrete}
use native.Mathlib.Omega.{arith}
use Rattle.grid.specs.declared.edge.Edge.{Edge}
use Rattle.chord.specs.Points.{Position, position, start, end, Point, point, Same, On}
use Rattle.chord.specs.Crossing.{along, across, base, line}
use Rattle.chord.proofs.Homogeneous.{Homogeneous, weighted, Proportional, along_of, across_of, along-is, across-is, proportional-by, along-weighted, across-weighted, coordinates, Plain, same→proportional, proportional→same}
use Rattle.chord.proofs.Weights.{by-distances, on→weights, weights→on, along-mean, across-mean}

-- on the edge, its end samples included
pub record Closed (e : Edge) (h : Homogeneous) : Type 0 where
  pub on_line : across_of e h ≡ line e * h.d
  pub from : base e * h.d ≤ along_of e h
  pub to : along_of e h ≤ (base e + 256) * h.d

-- strictly inside the edge
pub record Within (e : Edge) (h : Homogeneous) : Type 0 where
  pub on_line : across_of e h ≡ line e * h.d
  pub after : base e * h.d < along_of e h
  pub before : along_of e h < (base e + 256) * h.d

pub within→closed : {e : Edge} {h : Homogeneous} → Within e h → Closed e h
within→closed w = omega arith

-- an edge from its fields, to go by cases on its kind
abbrev pub edge : Bool → ℕ → ℕ → Edge
edge v c r = record { vertical = v; column = c; row = r }

module _ (e : Edge) where
  abbrev kind : Bool → Edge
  kind v = edge v e.column e.row

  -- where an offset of the edge is
  pub along-position : (o : ℕ) → along e (position e o) ≡ base e + o
  along-position o = by e.vertical
    where
      by : (v : Bool) → along (kind v) (position (kind v) o) ≡ base (kind v) + o
      by true = refl
      by false = refl

  pub across-position : (o : ℕ) → across e (position e o) ≡ line e
  across-position o = by e.vertical
    where
      by : (v : Bool) → across (kind v) (position (kind v) o) ≡ line (kind v)
      by true = refl
      by false = refl

  -- the same point, written otherwise
  pub within-proportional : {h k : Homogeneous} → 0 < k.d → Proportional h k → Within e h → Within e k
  within-proportional {h} {k} n s w =
      let a = along-is e s in
      let c = across-is e s in
      record {
        on_line = eq_of_mul-eq-mul_right h.d (omega arith) _ _ (omega (arith, ap (λ m. m * k.d) w.on_line));
        after = lt_of_mul-lt-mul_right h.d (omega (arith, mul-lt-mul_of_pos_right w.after n));
        before = lt_of_mul-lt-mul_right h.d (omega (arith, mul-lt-mul_of_pos_right w.before n));
      }

  -- ---- the closed edge

  pub on→closed : {z : Point} → On z (start e) (end e) → Closed e (coordinates z)
  on→closed {z} o =
      let w = on→weights o in
      let a = simp along-position at (along-mean e w) in
      let c = simp across-position at (across-mean e w) in
      record {
        on_line = eq_of_mul-eq-mul_right (w.α + w.β) w.some _ _ (omega arith);
        from = le_of_mul-le-mul_right {k = w.α + w.β} (omega arith) w.some;
        to = le_of_mul-le-mul_right {k = w.α + w.β} (omega arith) w.some;
      }

  -- a point on a line along the edge, between two positions on it
  pub between→on : {z : Point} {p q : Position} → Plain z
      → across e p * z.d ≡ across_of e (coordinates z) → across e q * z.d ≡ across_of e (coordinates z)
      → along e p * z.d ≤ along_of e (coordinates z) → along_of e (coordinates z) ≤ along e q * z.d → along e p < along e q → On z p q
  between→on {z} {p} {q} f cp cq from to l =
      let x = along_of e (coordinates z) in
      let α = along e q * z.d - x in
      let β = x - along e p * z.d in
      weights→on (record {
        is_plain = f;
        α = α;
        β = β;
        some = omega (arith, mul-lt-mul_of_pos_right l z.above);
        is_mean =
            proportional-by e (coordinates z) (weighted α β p q)
            (rw along-weighted (omega (arith, by-distances α β (along e p * z.d) (along e q * z.d) x (omega arith) (omega arith))))
            (rw across-weighted (omega (arith, ap (λ m. α * m) cp, ap (λ m. β * m) cq)));
      })

  pub closed→on : {z : Point} → Plain z → Closed e (coordinates z) → On z (start e) (end e)
  closed→on {z} f c =
      between→on f
      (rw across-position (omega arith)) (rw across-position (omega arith))
      (rw along-position (omega arith)) (rw along-position (omega arith))
      (simp along-position (omega arith))

  pub start→on : On (point (start e)) (start e) (end e)
  start→on =
      closed→on (record { x_plain = refl; y_plain = refl })
      (record { on_line = rw across-position (omega arith); from = rw along-position (omega arith); to = rw along-position (omega arith) })

  -- ---- strictly inside

  -- a point of the edge is the same as an offset of it exactly if it lies there along the edge
  same→along : {z : Point} (o : ℕ) → Same z (point (position e o)) → along_of e (coordinates z) ≡ (base e + o) * z.d
  same→along {z} o s = omega (arith, along-is e (same→proportional s), ap (λ n. n * z.d) (along-position o))

  along→same : {z : Point} (o : ℕ) → Plain z → Closed e (coordinates z) → along_of e (coordinates z) ≡ (base e + o) * z.d
      → Same z (point (position e o))
  along→same {z} o f c a =
      proportional→same f (record { x_plain = refl; y_plain = refl })
      (proportional-by e (coordinates z) (coordinates (point (position e o))) (rw along-position (omega arith)) (rw across-position (omega arith)))

  pub within→not-same : {z : Point} → Within e (coordinates z) → (¬ Same z (point (start e))) × (¬ Same z (point (end e)))
  within→not-same {z} w =
      (λ s. let a = same→along 0 s in omega arith, λ s. let a = same→along 256 s in omega arith)

  pub not-same→within : {z : Point} → Plain z → Closed e (coordinates z) → ¬ Same z (point (start e)) → ¬ Same z (point (end e))
      → Within e (coordinates z)
  not-same→within {z} f c ns ne = elim (ℕ_discrete (along_of e (coordinates z)) ((base e + 0) * z.d)) [
    | yes a ↦ absurd (ns (along→same 0 f c a))
    | no n₀ ↦
        elim (ℕ_discrete (along_of e (coordinates z)) ((base e + 256) * z.d)) [
          | yes a ↦ absurd (ne (along→same 256 f c a))
          | no n₁ ↦ omega arith
        ]
  ]
