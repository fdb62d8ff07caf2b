-- A mean, with both weights above 0, of a point strictly inside one side of a cell and a point strictly inside another lies strictly inside
-- the cell. If the two sides meet at a corner, it lies in the corner's half of the cell, cut along the other diagonal.
use mathlib.Core.Path.{◌≡◌, refl, ap}
use mathlib.Core.Logic.{◌≢◌}
use mathlib.Core.Bool.{Bool, true, false}
use Prim.Native.Nat.{ℕ, zero, suc, ◌+◌, ◌*◌, ◌≤◌, ◌<◌}
use native.Mathlib.Nat.{lt_of_mul-lt-mul_left, mul-le-mul_left}
use native.Mathlib.Omega.{arith}
use lib.Dec.{T}
use Rattle.step.specs.declared.cell.Side.{Side}
use Rattle.step.specs.declared.cell.Side.TheVariants.{South, East, North, West}
use Rattle.step.specs.Cells.{edge_on}
use Rattle.chord.proofs.Homogeneous.{Homogeneous}
use Rattle.chord.proofs.EdgePoints.{Within}
use Rattle.chord.proofs.Order.{Inner}

module _ {h₁ h₂ h : Homogeneous} (i : Inner h₁ h₂ h) where
  -- f of the mean is the mean of f, as for a coordinate or a sum of multiples of coordinates
  abbrev Linear : (Homogeneous → ℕ) → Type 0
  Linear f = i.k * f h ≡ i.l * f h₁ + i.m * f h₂

  times-d : (a : ℕ) → Linear (λ h. a * h.d)
  times-d a = omega (arith, ap (λ j. j * a) i.d_is)

  -- if f is at most g at two points, and not equal at both, it is below g at their mean
  below : (f g : Homogeneous → ℕ) → Linear f → Linear g
      → f h₁ ≤ g h₁ → f h₂ ≤ g h₂ → f h₁ + f h₂ < g h₁ + g h₂ → f h < g h
  below f g ef eg a b s =
      lt_of_mul-lt-mul_left i.k
      (omega (arith, ef, eg, less i.l i.m (f h₁) (f h₂) (g h₁) (g h₂) i.l_some i.m_some a b s))
    where
      less : (l m f₁ f₂ g₁ g₂ : ℕ) → 0 < l → 0 < m → f₁ ≤ g₁ → f₂ ≤ g₂ → f₁ + f₂ < g₁ + g₂
          → l * f₁ + m * f₂ < l * g₁ + m * g₂
      less zero m f₁ f₂ g₁ g₂ ln mn a b s = absurd (omega arith)
      less (suc l) zero f₁ f₂ g₁ g₂ ln mn a b s = absurd (omega arith)
      less (suc l) (suc m) f₁ f₂ g₁ g₂ ln mn a b s = omega (arith, mul-le-mul_left l a, mul-le-mul_left m b)

-- the point is strictly inside the cell with the lower left sample (c,r)
pub record InCell (c r : ℕ) (h : Homogeneous) : Type 0 where
  pub past_west : 256 * c * h.d < h.x
  pub before_east : h.x < (256 * c + 256) * h.d
  pub past_south : 256 * r * h.d < h.y
  pub before_north : h.y < (256 * r + 256) * h.d

-- x₁/d₁ and x₂/d₂ lie from a to b, not both at a and not both at b
record Spread (a b x₁ d₁ x₂ d₂ : ℕ) : Type 0 where
  low₁ : a * d₁ ≤ x₁
  low₂ : a * d₂ ≤ x₂
  low : a * d₁ + a * d₂ < x₁ + x₂
  high₁ : x₁ ≤ b * d₁
  high₂ : x₂ ≤ b * d₂
  high : x₁ + x₂ < b * d₁ + b * d₂

module _ (c r : ℕ) {h₁ h₂ : Homogeneous} where
  spread : (s t : Side) → s ≢ t → Within (edge_on c r s) h₁ → Within (edge_on c r t) h₂
      → Spread (256 * c) (256 * c + 256) h₁.x h₁.d h₂.x h₂.d × Spread (256 * r) (256 * r + 256) h₁.y h₁.d h₂.y h₂.d
  spread South South n v w = absurd (n refl)
  spread South East n v w = omega arith
  spread South North n v w = omega arith
  spread South West n v w = omega arith
  spread East South n v w = omega arith
  spread East East n v w = absurd (n refl)
  spread East North n v w = omega arith
  spread East West n v w = omega arith
  spread North South n v w = omega arith
  spread North East n v w = omega arith
  spread North North n v w = absurd (n refl)
  spread North West n v w = omega arith
  spread West South n v w = omega arith
  spread West East n v w = omega arith
  spread West North n v w = omega arith
  spread West West n v w = absurd (n refl)

  pub in_cell : (s t : Side) → s ≢ t → Within (edge_on c r s) h₁ → Within (edge_on c r t) h₂
      → {h : Homogeneous} → Inner h₁ h₂ h → InCell c r h
  in_cell s t n v w {h} i =
      let f = spread s t n v w in
      let x = between (256 * c) (256 * c + 256) (λ h. h.x) f.0 i.x_is in
      let y = between (256 * r) (256 * r + 256) (λ h. h.y) f.1 i.y_is in
      record { past_west = x.0; before_east = x.1; past_south = y.0; before_north = y.1 }
    where
      between : (a b : ℕ) (x : Homogeneous → ℕ) → Spread a b (x h₁) h₁.d (x h₂) h₂.d → Linear i x
          → (a * h.d < x h) × (x h < b * h.d)
      between a b x s e = (
        below i (λ h. a * h.d) x (times-d i a) e s.low₁ s.low₂ s.low,
        below i x (λ h. b * h.d) e (times-d i b) s.high₁ s.high₂ s.high,
      )

-- ---- a corner cut off

pub data Corner : Type 0 where
  SouthWest SouthEast NorthWest NorthEast : Corner

-- the side ends at the corner
abbrev pub touches : Corner → Side → Bool
touches SouthWest South = true
touches SouthWest East = false
touches SouthWest North = false
touches SouthWest West = true
touches SouthEast South = true
touches SouthEast East = true
touches SouthEast North = false
touches SouthEast West = false
touches NorthWest South = false
touches NorthWest East = false
touches NorthWest North = true
touches NorthWest West = true
touches NorthEast South = false
touches NorthEast East = true
touches NorthEast North = true
touches NorthEast West = false

-- the half of the cell (c,r) at a corner: relative to the cell, x + y is below or above 256, and x is above or below y
abbrev pub Half : Corner → ℕ → ℕ → Homogeneous → Type 0
Half SouthWest c r h = h.x + h.y < (256 * c + 256 * r + 256) * h.d
Half SouthEast c r h = h.y + 256 * c * h.d < h.x + 256 * r * h.d
Half NorthWest c r h = h.x + 256 * r * h.d < h.y + 256 * c * h.d
Half NorthEast c r h = (256 * c + 256 * r + 256) * h.d < h.x + h.y

side-half : (k : Corner) (s : Side) (c r : ℕ) {h : Homogeneous} → T (touches k s) → Within (edge_on c r s) h → Half k c r h
side-half SouthWest South c r t w = omega arith
side-half SouthWest East c r t w = absurd t
side-half SouthWest North c r t w = absurd t
side-half SouthWest West c r t w = omega arith
side-half SouthEast South c r t w = omega arith
side-half SouthEast East c r t w = omega arith
side-half SouthEast North c r t w = absurd t
side-half SouthEast West c r t w = absurd t
side-half NorthWest South c r t w = absurd t
side-half NorthWest East c r t w = absurd t
side-half NorthWest North c r t w = omega arith
side-half NorthWest West c r t w = omega arith
side-half NorthEast South c r t w = absurd t
side-half NorthEast East c r t w = omega arith
side-half NorthEast North c r t w = omega arith
side-half NorthEast West c r t w = absurd t

module _ (c r : ℕ) {h₁ h₂ h : Homogeneous} (i : Inner h₁ h₂ h) where
  strictly : (f g : Homogeneous → ℕ) → Linear i f → Linear i g → f h₁ < g h₁ → f h₂ < g h₂ → f h < g h
  strictly f g ef eg a b = below i f g ef eg (omega arith) (omega arith) (omega arith)

  sum : Linear i (λ h. h.x + h.y)
  sum = omega (arith, i.x_is, i.y_is)

  x-from : (a : ℕ) → Linear i (λ h. h.x + a * h.d)
  x-from a = omega (arith, i.x_is, times-d i a)

  y-from : (a : ℕ) → Linear i (λ h. h.y + a * h.d)
  y-from a = omega (arith, i.y_is, times-d i a)

  half-inner : (k : Corner) → Half k c r h₁ → Half k c r h₂ → Half k c r h
  half-inner SouthWest = strictly (λ h. h.x + h.y) (λ h. (256 * c + 256 * r + 256) * h.d) sum (times-d i (256 * c + 256 * r + 256))
  half-inner SouthEast = strictly (λ h. h.y + 256 * c * h.d) (λ h. h.x + 256 * r * h.d) (y-from (256 * c)) (x-from (256 * r))
  half-inner NorthWest = strictly (λ h. h.x + 256 * r * h.d) (λ h. h.y + 256 * c * h.d) (x-from (256 * r)) (y-from (256 * c))
  half-inner NorthEast = strictly (λ h. (256 * c + 256 * r + 256) * h.d) (λ h. h.x + h.y) (times-d i (256 * c + 256 * r + 256)) sum

  pub in-half : (k : Corner) (s t : Side) → T (touches k s) → T (touches k t)
      → Within (edge_on c r s) h₁ → Within (edge_on c r t) h₂ → Half k c r h
  in-half k s t a b v w = half-inner k (side-half k s c r a v) (side-half k t c r b w)
