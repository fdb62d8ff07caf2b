-- The links of the sixteen patterns. Each law is a test that antt computes over all patterns and sides, and `at` turns a test into the law.
use mathlib.Core.Path.{◌≡◌, refl, ap, sym, ◌∙◌}
use mathlib.Core.Bool.{Bool, true, not, ◌&&◌, ◌||◌, xor, beq}
use Prim.Native.Nat.{◌<◌}
use native.Mathlib.Omega.{arith}
use lib.Dec.{T, eqb, eqb→eq}
use Rattle.arith.specs.Booleans.{all}
use Rattle.arith.proofs.Booleans.{at_all, and_T, beq→eq, implied}
use Rattle.step.specs.Cells.{Corners, cut, diagonal, at_inside_end, partner, side_index, side_at, linked_to}
use Rattle.step.specs.Turns.{inside_left, near, near_by}
use Rattle.step.specs.declared.cell.Side.{Side}
use Rattle.step.specs.declared.cell.Side.TheVariants.{South, East, North, West}

-- a test of the four sides of a pattern, and of all patterns
abbrev pub sides : (Corners → Side → Bool) → Bool → Bool → Bool → Bool → Bool
sides f sw se nw ne =
    let k : Corners = record { sw = sw; se = se; nw = nw; ne = ne } in
    f k South && (f k East && (f k North && f k West))

abbrev pub every : (Corners → Side → Bool) → Bool
every f = all λ sw. all λ se. all λ nw. all (sides f sw se nw)

at_side : (f : Side → Bool) → T (f South && (f East && (f North && f West))) → (s : Side) → T (f s)
at_side f t South = (and_T (f South) (f East && (f North && f West)) t).0
at_side f t East = (and_T (f East) (f North && f West) (and_T (f South) (f East && (f North && f West)) t).1).0
at_side f t North =
    (and_T (f North) (f West)
    (and_T (f East) (f North && f West) (and_T (f South) (f East && (f North && f West)) t).1).1).0
at_side f t West =
    (and_T (f North) (f West)
    (and_T (f East) (f North && f West) (and_T (f South) (f East && (f North && f West)) t).1).1).1

pub at : (f : Corners → Side → Bool) → T (every f) → (k : Corners) (s : Side) → T (f k s)
at f t k s =
    at_side (f k)
    (at_all (sides f k.sw k.se k.nw)
    (at_all (λ nw. all (sides f k.sw k.se nw))
    (at_all (λ se. all λ nw. all (sides f k.sw se nw))
    (at_all (λ sw. all λ se. all λ nw. all (sides f sw se nw)) t k.sw) k.se) k.nw) k.ne) s

side_at-index : (s : Side) → side_at (side_index s) ≡ s
side_at-index South = refl
side_at-index East = refl
side_at-index North = refl
side_at-index West = refl

abbrev pub same_side : Side → Side → Bool
same_side s t = eqb (side_index s) (side_index t)

pub same-side : (s t : Side) → T (same_side s t) → s ≡ t
same-side s t h = sym (side_at-index s) ∙ ap side_at (eqb→eq (side_index s) (side_index t) h) ∙ side_at-index t

-- the constant table is the rule
pub links-rule : (k : Corners) (s : Side) → linked_to k s ≡ partner k s
unfolding xor
links-rule k s = same-side (linked_to k s) (partner k s) (at (λ k s. same_side (linked_to k s) (partner k s)) tt k s)

-- the link is its own inverse
pub partner-partner : (k : Corners) (s : Side) → partner k (partner k s) ≡ s
unfolding xor
partner-partner k s = same-side _ _ (at (λ k s. same_side (partner k (partner k s)) s) tt k s)

-- it joins exactly the sides that are sticks: a stick to another side that is one, and any other side to itself
pub partner-cut : (k : Corners) (s : Side) → cut k (partner k s) ≡ cut k s
unfolding xor
partner-cut k s = beq→eq _ _ (at (λ k s. beq (cut k (partner k s)) (cut k s)) tt k s)

pub partner-other : (k : Corners) (s : Side) → same_side (partner k s) s ≡ not (cut k s)
unfolding xor
partner-other k s = beq→eq _ _ (at (λ k s. beq (same_side (partner k s) s) (not (cut k s))) tt k s)

-- on a diagonal each inside corner is cut off alone: a side is linked to the one that meets it at its inside end, at no other corner
pub partner-corner : (k : Corners) (s : Side) → diagonal k ≡ true → partner k s ≡ at_inside_end k s
unfolding xor
partner-corner k s h =
    same-side (partner k s) (at_inside_end k s)
    (implied (diagonal k) (same_side (partner k s) (at_inside_end k s))
    (at (λ k s. not (diagonal k) || same_side (partner k s) (at_inside_end k s)) tt k s) h)

-- who enters by a stick with inside on the left leaves by the one linked to it, and so has inside on the left there too
pub partner-turns : (k : Corners) (s : Side) → cut k s ≡ true → inside_left k (partner k s) ≡ not (inside_left k s)
unfolding xor
partner-turns k s h =
    beq→eq (inside_left k (partner k s)) (not (inside_left k s))
    (implied (cut k s) (beq (inside_left k (partner k s)) (not (inside_left k s)))
    (at (λ k s. not (cut k s) || beq (inside_left k (partner k s)) (not (inside_left k s))) tt k s) h)

-- of the corners at a stick one is inside, so that what they count tells which
pub near-stick : (k : Corners) (s : Side) → cut k s ≡ true → near k s ≡ near_by (inside_left k s) s
unfolding xor
near-stick k s h =
    eqb→eq (near k s) (near_by (inside_left k s) s)
    (implied (cut k s) (eqb (near k s) (near_by (inside_left k s) s))
    (at (λ k s. not (cut k s) || eqb (near k s) (near_by (inside_left k s) s)) tt k s) h)

-- a side's number is that of its two bits in an entry of the table
pub side_index-below : (s : Side) → side_index s < 4
side_index-below South = omega arith
side_index-below East = omega arith
side_index-below North = omega arith
side_index-below West = omega arith
