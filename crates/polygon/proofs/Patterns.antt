-- One contour, and all together, keep the laws of a passage. All together pass a cell by the samples themselves. Of one contour: at the ends of a
-- stick of it the samples on its left are the inside ones, and at the ends of any other edge they agree, so the pattern cuts the contour's sticks
-- and no others. Of those the cell's rule links the same two by the pattern as by the samples, which is a test of all pairs of patterns.
use mathlib.Core.Path.{◌≡◌, refl, ap, sym, ◌∙◌}
use mathlib.Core.Bool.{Bool, true, false, cond, not, xor, ◌&&◌, ◌||◌, beq}
use Prim.Native.Nat.{ℕ, ◌+◌, ◌<◌}
use native.Mathlib.Omega.{arith}
use lib.IntN.{ℤ, pos, negsuc}
use Rattle.arith.specs.Booleans.{as_number}
use Rattle.arith.proofs.Booleans.{both-sides, implied, xor_self}
use Rattle.grid.specs.Layer.{Layer}
use Rattle.grid.specs.Edges.{in_grid, first_end, second_end}
use Rattle.grid.specs.Questions.{Sound}
use Rattle.grid.specs.declared.edge.Edge.{Edge}
use Rattle.grid.proofs.Borders as Borders
use Rattle.step.specs.Cells.{Corners, corners, cut, partner, edge_on}
use Rattle.step.specs.Turns.{inside_left}
use Rattle.step.specs.declared.cell.Side.{Side}
use Rattle.step.specs.declared.cell.Side.TheVariants.{South, East, North, West}
use Rattle.step.proofs.Links.{every, at, same_side, same-side}
use Rattle.step.proofs.Walks.{stick-differs, xor-not}
use Rattle.contour.specs.Walk.{first}
use Rattle.contour.specs.Contours.{walk_of}
use Rattle.contour.proofs.Members.{once}
use Rattle.contour.proofs.Sticks.{laws}
use Rattle.contour.proofs.Theorems.{permutation}
use Rattle.winding.specs.Turns.{is_on, is_bore, turns_at_first, turns_at_second}
use Rattle.winding.proofs.Contours.{on-is, off, first-stick, on_stick}
use Rattle.winding.proofs.Border.{border}
use Rattle.winding.proofs.Cells.{side_cut, on-linked}
use Rattle.winding.proofs.Columns.{jump-off}
use Rattle.winding.proofs.Along.{side-in}
use Rattle.winding.proofs.Counts.{any_turns}
use Rattle.winding.proofs.Values.{inside-value, outside-value}
use Rattle.polygon.proofs.Passages.{contour_passage, layer_passage, pattern, PassageLaws}

-- whether a sample is on the contour's left, by the turns around it
abbrev left_by : Bool → ℤ → Bool
left_by bore z = cond bore (not (any_turns z)) (any_turns z)

-- x and y are the turns around the ends of a stick of the contour, and inside says that the first end is inside
ends-left : (bore inside : Bool) (x y : ℤ) → cond inside x y ≡ cond bore (pos 0) (pos 1) → cond inside y x ≡ cond bore (negsuc 0) (pos 0)
    → (left_by bore x ≡ inside) × (left_by bore y ≡ not inside)
ends-left true true x y i o = (ap (left_by true) i, ap (left_by true) o)
ends-left true false x y i o = (ap (left_by true) o, ap (left_by true) i)
ends-left false true x y i o = (ap (left_by false) i, ap (left_by false) o)
ends-left false false x y i o = (ap (left_by false) o, ap (left_by false) i)

-- Two patterns k and k' at a side that k' cuts: k cuts it too, with the same corner on the left, and links it to one that k' cuts. If this holds
-- of every side that k' cuts, both patterns link these alike, by a test computed over all k and k'.
abbrev Agree : Corners → Corners → Side → Type 0
Agree k k' s = (cut k s ≡ true) × (inside_left k s ≡ inside_left k' s) × (cut k' (partner k s) ≡ true)

-- the same as a test, of one side and of all
abbrev agree : Corners → Corners → Side → Bool
unfolding xor
agree k k' s = not (cut k' s) || (cut k s && beq (inside_left k s) (inside_left k' s) && cut k' (partner k s))

abbrev known : Corners → Corners → Side → Bool
unfolding xor
known k k' s = agree k k' South && agree k k' East && agree k k' North && agree k k' West && cut k' s

agreeing : (a b c d e : Bool) → (a ≡ true → (b ≡ true) × (c ≡ d) × (e ≡ true)) → (not a || (b && beq c d && e)) ≡ true
agreeing true b true d e h = rw ((h refl).0, sym (h refl).1, (h refl).2)
agreeing true b false d e h = rw ((h refl).0, sym (h refl).1, (h refl).2)
agreeing false b c d e h = refl

same-partner : (k k' : Corners) (s : Side) → ((t : Side) → cut k' t ≡ true → Agree k k' t) → cut k' s ≡ true → partner k s ≡ partner k' s
unfolding xor
same-partner k k' s agrees h =
    let tests = at (λ k s. every λ k' t. not (known k k' s) || same_side (partner k s) (partner k' s)) tt k s in
    let test = at (λ k' t. not (known k k' s) || same_side (partner k s) (partner k' s)) tests k' s in
    let a : ((t : Side) → agree k k' t ≡ true) =
    λ t. agreeing (cut k' t) (cut k t) (inside_left k t) (inside_left k' t) (cut k' (partner k t)) (agrees t) in
    same-side (partner k s) (partner k' s)
    (implied (known k k' s) (same_side (partner k s) (partner k' s)) test (rw (a South, a East, a North, a West, h)))

module _ {L : Layer} (sound : Sound L) (f : Edge) (is-first : first (walk_of L) f ≡ true) where
  -- the ends of an edge are on the left
  abbrev left_first : Edge → Bool
  left_first e = left_by (is_bore L f) (turns_at_first L f e)

  abbrev left_second : Edge → Bool
  left_second e = left_by (is_bore L f) (turns_at_second L f e)

  differs : (e : Edge) → is_on L f e ≡ true → xor (first_end L e) (second_end L e) ≡ true
  differs e on = stick-differs L sound e (on_stick sound f is-first e on)

  on-ends : (e : Edge) → is_on L f e ≡ true → (left_first e ≡ first_end L e) × (left_second e ≡ second_end L e)
  on-ends e on =
      let ends =
      ends-left (is_bore L f) (first_end L e) (turns_at_first L f e) (turns_at_second L f e)
      (inside-value sound f is-first e on) (outside-value sound f is-first e on) in
      (ends.0, ends.1 ∙ sym (xor-not (first_end L e) (second_end L e) (differs e on)))

  on-differs : (e : Edge) → in_grid L.size e ≡ true → is_on L f e ≡ xor (left_first e) (left_second e)
  on-differs e h =
      both-sides (is_on L f e)
      (λ on. on ∙ sym (differs e on) ∙ sym (λ i. xor ((on-ends e on).0 i) ((on-ends e on).1 i)))
      (λ off. off ∙ sym (xor_self (left_first e)) ∙ ap (λ (z : ℤ). xor (left_first e) (left_by (is_bore L f) z)) (jump-off sound f is-first e h off))

  module _ (c r : ℕ) (hc : c + 1 < L.size.width) (hr : r + 1 < L.size.height) where
    abbrev k : Corners
    k = pattern (contour_passage L f) c r

    side_on : (s : Side) → is_on L f (edge_on c r s) ≡ cut k s
    unfolding xor
    side_on South = on-differs (edge_on c r South) (side-in sound f is-first c r hc hr South)
    side_on East = on-differs (edge_on c r East) (side-in sound f is-first c r hc hr East)
    side_on North = on-differs (edge_on c r North) (side-in sound f is-first c r hc hr North)
    side_on West = on-differs (edge_on c r West) (side-in sound f is-first c r hc hr West)

    on-left : (s : Side) → is_on L f (edge_on c r s) ≡ true → inside_left (corners L c r) s ≡ inside_left k s
    on-left South on = sym (on-ends (edge_on c r South) on).0
    on-left East on = sym (on-ends (edge_on c r East) on).0
    on-left North on = sym (on-ends (edge_on c r North) on).1
    on-left West on = sym (on-ends (edge_on c r West) on).1

    on_partner : (s : Side) → is_on L f (edge_on c r s) ≡ true → partner (corners L c r) s ≡ partner k s
    on_partner s on = same-partner (corners L c r) k s agreed (sym (side_on s) ∙ on)
      where
        agreed : (t : Side) → cut k t ≡ true → Agree (corners L c r) k t
        agreed t h =
            let on = side_on t ∙ h in
            let stick = sym (side_cut sound c r hc hr t) ∙ on_stick sound f is-first (edge_on c r t) on in
            (stick, on-left t on, sym (side_on (partner (corners L c r) t)) ∙ on-linked sound f is-first c r hc hr t stick ∙ on)

  pub contour-lawful : PassageLaws L (contour_passage L f)
  contour-lawful =
      record {
        often = λ e. both-sides (is_on L f e)
            (λ on. omega (arith, ap as_number on, on-is L f e on, once (walk_of L) (laws L sound) f e (first-stick sound f is-first)))
            (λ n. (off L f e).0 n ∙ ap as_number (sym n));
        on_stick = on_stick sound f is-first;
        by_side = λ c r hc hr s. record { side_on = side_on c r hc hr s; on-left = on-left c r hc hr s; on_partner = on_partner c r hc hr s };
        border = λ c r hc hr b. rw (border sound f is-first c r hc hr b);
      }

-- all contours together
pub layer-lawful : {L : Layer} → Sound L → PassageLaws L (layer_passage L)
layer-lawful {L} sound =
    record {
      often = permutation L sound;
      on_stick = λ e stick. stick;
      by_side = λ c r hc hr s. record { side_on = side_cut sound c r hc hr s; on-left = λ on. refl; on_partner = λ on. refl };
      border = λ c r hc hr b. sym (Borders.on-border L c r b) ∙ sound.border c r hc hr;
    }
