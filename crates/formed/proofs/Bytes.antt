-- The bytes of a command: it stands at a place where the sheet from there on begins with it, and then ends within the sheet.
use mathlib.Core.Path.{◌≡◌, refl, ◌∙◌, ap}
use mathlib.Core.Bool.{Bool, true, false, ◌&&◌, and-false}
use mathlib.Core.List.{List, [], ◌∷◌}
use Prim.Native.Nat.{ℕ, ◌+◌, ◌/◌, ◌%◌, ◌≤◌, ◌<◌}
use native.Mathlib.Nat.{mod-lt}
use native.Mathlib.Decide.{dec_lt}
use native.Mathlib.Omega.{arith}
use native.Mathlib.Numerals.{add-one}
use borrow.Author.Tests.{eqb-true, ne_eqb}
use lib.Dec.{eqb}
use lib.ListN.{length, get_or, get_or-eq_default, drop}
use lib.Seq.{drop-cons}
use Rattle.std.specs.List.{starts_with}
use Rattle.std.proofs.lemmas.List.{drop_all}
use Rattle.arith.specs.Booleans.{as_number}
use Rattle.arith.proofs.Booleans.{and_split}
use Rattle.grid.specs.declared.edge.Edge.{Edge}
use Rattle.sheet.specs.Commands.{kind_of, stick_bytes, contour_command}
use Rattle.formed.specs.Expected.{stands_at, vertex_letter, vertex_at}

-- each element is a byte
abbrev pub Bytes : List ℕ → Type 0
Bytes [] = Unit {0}
Bytes (b ∷ l) = (b < 256) × Bytes l

kind-byte : (v : Bool) → kind_of v < 256
kind-byte true = omega arith
kind-byte false = omega arith

eqb-turned : (a b : ℕ) → eqb a b ≡ eqb b a
eqb-turned a b = grind arith

low : (n : ℕ) → n % 256 < 256
low n = mod-lt n (omega arith)

pub contour-bytes : (f : Edge) → Bytes (contour_command f)
contour-bytes f =
    (omega arith, (kind-byte f.vertical, (low f.column, (low (f.column / 256), (low f.row, (low (f.row / 256), tt))))))

module _ (s : List ℕ) where
  -- what stands ends within the sheet
  byte-within : (i b : ℕ) → b < 256 → eqb (get_or s i 256) b ≡ true → i < length s
  byte-within i b h e = elim (dec_lt i (length s)) [
    | yes l ↦ l
    | no g ↦ absurd (omega (arith, eqb-true (get_or s i 256) b e, get_or-eq_default s 256 {n = i} (omega arith)))
  ]

  pub stands-room : (l : List ℕ) (i : ℕ) → Bytes l → i ≤ length s → stands_at s i l ≡ true → i + length l ≤ length s
  stands-room [] i h b e = omega arith
  stands-room (b ∷ l) i h w e =
      let both = and_split (eqb (get_or s i 256) b) (stands_at s (i + 1) l) e in
      omega (arith, stands-room l (i + 1) h.1 (omega (arith, byte-within i b h.0 both.0)) both.1)

  -- the bytes stand where the sheet from there on begins with them
  pub starts-stands : (l : List ℕ) (i : ℕ) → Bytes l → starts_with eqb (drop i s) l ≡ stands_at s i l
  starts-stands [] i h = refl
  starts-stands (b ∷ l) i h = elim (dec_lt i (length s)) [
    | yes inside ↦
        rw (drop-cons s i 256 inside, eqb-turned b (get_or s i 256), ← add-one i)
        (ap (λ (x : Bool). eqb (get_or s i 256) b && x) (starts-stands l (i + 1) h.1))
    | no past ↦
        let none : drop i s ≡ [] = drop_all i s (omega arith) in
        let gap : get_or s i 256 ≡ 256 = get_or-eq_default s 256 {n = i} (omega arith) in
        let other : eqb 256 b ≡ false = ne_eqb 256 b (λ e. omega (arith, h.0, e)) in
        rw (none, gap, other)
  ]

  -- the command that begins a contour
  pub contour-room : (i : ℕ) (f : Edge) → stands_at s i (contour_command f) ≡ true → i + 6 ≤ length s
  contour-room i f e =
      let letter = (and_split (eqb (get_or s i 256) 0x43) (stands_at s (i + 1) (stick_bytes f)) e).0 in
      stands-room (contour_command f) i (contour-bytes f) (omega (arith, byte-within i 0x43 (omega arith) letter)) e

  -- a vertex command
  pub vertex-short : (i : ℕ) → i ≤ length s → length s < i + 2 → false ≡ vertex_at s i
  vertex-short i w short =
      let none : get_or s (i + 1) 0 ≡ 0 = get_or-eq_default s 0 {n = i + 1} (omega arith) in
      rw (none, and-false (vertex_letter (get_or s i 0)))

  pub vertex-room : (i : ℕ) → i ≤ length s → vertex_at s i ≡ true → i + 2 ≤ length s
  vertex-room i w e = elim (dec_lt (length s) (i + 2)) [
    | yes l ↦ absurd (omega (arith, ap as_number (vertex-short i w l ∙ e)))
    | no g ↦ omega arith
  ]
