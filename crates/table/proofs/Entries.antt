-- Laws of one entry. Its number tells it, and it tells its number; what suits a stick is a vertex, kept or removed, with an offset of 1 to
-- 255, and a pinned one is kept. What is shown of a table cites these and takes no entry apart.
use mathlib.Core.Path.{◌≡◌, refl, sym, ap}
use mathlib.Core.Bool.{Bool, true, false, false≢true, cond, ◌&&◌, ◌||◌}
use Prim.Native.Nat.{ℕ, ◌+◌, ◌-◌, ◌%◌, ◌≤◌, ◌<◌}
use native.Mathlib.Omega.{arith}
use borrow.Author.Tests.{eqb-true, eqb-false, leb-true, ne_eqb, le-leb, lt-leb, lt-ltb, le-ltb}
use lib.Dec.{eqb, leb, ltb}
use Rattle.arith.proofs.Booleans.{and_split}
use Rattle.table.specs.Entries.{entry_of, encoded, suits}
use Rattle.table.specs.Vertices.{is_kept, is_removed, is_pinned, offset_in}
use Rattle.table.specs.declared.entry.Entry.{Entry}
use Rattle.table.specs.declared.entry.Entry.TheVariants.{Nothing, Kept, Removed, Pinned, Wrong}

-- an offset of a vertex: "A vertex lies at offset 1 to 255"
pub record Inside (n : ℕ) : Type 0 where
  pub low : 1 ≤ n
  pub high : n ≤ 255

-- ---- an entry and its number

pub entry-nothing : entry_of (encoded Nothing) ≡ Nothing
unfolding entry_of
entry-nothing = refl

pub entry-encoded : (x : Entry) → Inside (offset_in x) → entry_of (encoded x) ≡ x
unfolding entry_of
entry-encoded Nothing i = entry-nothing
entry-encoded (Kept n) i = rw (ne_eqb n 0 (λ e. omega (arith, i.low)), le-leb n 255 i.high)
entry-encoded (Removed n) i =
    let back : 256 + n - 256 ≡ n = omega arith in
    rw (
      ne_eqb (256 + n) 0 (λ e. omega arith),
      lt-leb (256 + n) 255 (omega arith),
      le-leb 257 (256 + n) (omega (arith, i.low)),
      le-leb (256 + n) 511 (omega (arith, i.high)),
    ) (ap Removed back)
entry-encoded (Pinned n) i =
    let back : 512 + n - 512 ≡ n = omega arith in
    rw (
      ne_eqb (512 + n) 0 (λ e. omega arith),
      lt-leb (512 + n) 255 (omega arith),
      le-leb 257 (512 + n) (omega arith),
      lt-leb (512 + n) 511 (omega arith),
      le-leb 513 (512 + n) (omega (arith, i.low)),
      le-leb (512 + n) 767 (omega (arith, i.high)),
    ) (ap Pinned back)
entry-encoded Wrong i = refl

-- a number past those of vertices
pub entry-past : (n : ℕ) → 767 < n → Wrong ≡ entry_of n
unfolding entry_of
entry-past n h =
    rw (
      ne_eqb n 0 (λ e. omega arith),
      lt-leb n 255 (omega arith),
      le-leb 257 n (omega arith),
      lt-leb n 511 (omega arith),
      le-leb 513 n (omega arith),
      lt-leb n 767 h,
    )

-- what a number says that is no wrong entry: itself again, and of a vertex an offset, which is the number's low byte, and whether it is pinned
record Told (n : ℕ) (x : Entry) : Type 0 where
  back : encoded x ≡ n
  vertex : suits true x ≡ true → Inside (offset_in x) × (n % 256 ≡ offset_in x)
  pin : is_pinned x ≡ ltb 512 n

told : (n : ℕ) (stick : Bool) → suits stick (entry_of n) ≡ true → Told n (entry_of n)
unfolding entry_of
told n stick = go (eqb n 0) (leb n 255) (leb 257 n && leb n 511) (leb 513 n && leb n 767) refl refl refl refl
  where
    go : (a b c d : Bool) → eqb n 0 ≡ a → leb n 255 ≡ b → (leb 257 n && leb n 511) ≡ c → (leb 513 n && leb n 767) ≡ d
        → let x : Entry = cond a Nothing (cond b (Kept n) (cond c (Removed (n - 256)) (cond d (Pinned (n - 512)) Wrong))) in
        suits stick x ≡ true → Told n x
    go true b c d ea eb ec ed h =
        let none : n ≡ 0 = eqb-true n 0 ea in
        record { back = sym none; vertex = λ s. absurd (false≢true s); pin = sym (le-ltb 512 n (omega arith)) }
    go false true c d ea eb ec ed h =
        let some : n ≡ 0 → ⊥ = eqb-false n 0 ea in
        let most : n ≤ 255 = leb-true n 255 eb in
        record {
          back = refl;
          vertex = λ s. (record { low = omega arith; high = most }, omega arith);
          pin = sym (le-ltb 512 n (omega arith));
        }
    go false false true d ea eb ec ed h =
        let both = and_split (leb 257 n) (leb n 511) ec in
        let least : 257 ≤ n = leb-true 257 n both.0 in
        let most : n ≤ 511 = leb-true n 511 both.1 in
        record {
          back = omega arith;
          vertex = λ s. (record { low = omega arith; high = omega arith }, omega arith);
          pin = sym (le-ltb 512 n (omega arith));
        }
    go false false false true ea eb ec ed h =
        let both = and_split (leb 513 n) (leb n 767) ed in
        let least : 513 ≤ n = leb-true 513 n both.0 in
        let most : n ≤ 767 = leb-true n 767 both.1 in
        record {
          back = omega arith;
          vertex = λ s. (record { low = omega arith; high = omega arith }, omega arith);
          pin = sym (lt-ltb 512 n (omega arith));
        }
    go false false false false ea eb ec ed h = absurd (false≢true h)

pub encoded-entry : (n : ℕ) (stick : Bool) → suits stick (entry_of n) ≡ true → encoded (entry_of n) ≡ n
encoded-entry n stick s = (told n stick s).back

-- ---- what suits a stick, and what suits no stick

pub offset-inside : (n : ℕ) → suits true (entry_of n) ≡ true → Inside (offset_in (entry_of n))
offset-inside n s = ((told n true s).vertex s).0

pub low_byte : (n : ℕ) → suits true (entry_of n) ≡ true → n % 256 ≡ offset_in (entry_of n)
low_byte n s = ((told n true s).vertex s).1

-- a pin is told by the number alone
pub pin-above : (n : ℕ) → suits true (entry_of n) ≡ true → is_pinned (entry_of n) ≡ ltb 512 n
pin-above n s = (told n true s).pin

-- an offset of a vertex is that of a vertex
pub inside-suits : (x : Entry) → Inside (offset_in x) → suits true x ≡ true
inside-suits Nothing i = absurd (omega (arith, i.low))
inside-suits (Kept o) i = refl
inside-suits (Removed o) i = refl
inside-suits (Pinned o) i = refl
inside-suits Wrong i = absurd (omega (arith, i.low))

pub suits-vertex : (x : Entry) → suits true x ≡ true → (is_kept x || is_removed x) ≡ true
suits-vertex Nothing s = s
suits-vertex (Kept o) s = refl
suits-vertex (Removed o) s = refl
suits-vertex (Pinned o) s = refl
suits-vertex Wrong s = s

pub kept-suits : (x : Entry) → is_kept x ≡ true → suits true x ≡ true
kept-suits Nothing k = k
kept-suits (Kept o) k = refl
kept-suits (Removed o) k = refl
kept-suits (Pinned o) k = refl
kept-suits Wrong k = k

pub unremoved-kept : (x : Entry) → suits true x ≡ true → is_removed x ≡ false → is_kept x ≡ true
unremoved-kept Nothing s r = s
unremoved-kept (Kept o) s r = refl
unremoved-kept (Removed o) s r = sym r
unremoved-kept (Pinned o) s r = refl
unremoved-kept Wrong s r = s

-- off sticks there is none
pub suits-other : (x : Entry) → suits false x ≡ true → x ≡ Nothing
suits-other Nothing s = refl
suits-other (Kept o) s = absurd (false≢true s)
suits-other (Removed o) s = absurd (false≢true s)
suits-other (Pinned o) s = absurd (false≢true s)
suits-other Wrong s = absurd (false≢true s)

-- no entry is both kept and removed
pub exclusive : (x : Entry) → is_kept x ≡ true → is_removed x ≡ false
exclusive Nothing e = refl
exclusive (Kept offset) e = refl
exclusive (Removed offset) e = absurd (false≢true e)
exclusive (Pinned offset) e = refl
exclusive Wrong e = refl

-- what a kept vertex's edge is, if its entry suits it
pub kept-on-stick : (stick : Bool) (x : Entry) → suits stick x ≡ true → is_kept x ≡ true → stick ≡ true
kept-on-stick stick Nothing s k = absurd (false≢true k)
kept-on-stick stick (Kept o) s k = s
kept-on-stick stick (Removed o) s k = absurd (false≢true k)
kept-on-stick stick (Pinned o) s k = s
kept-on-stick stick Wrong s k = absurd (false≢true k)

-- ---- pins

-- a pinned vertex is a kept one, and what it says is its offset
pub pinned-kept : (x : Entry) → is_pinned x ≡ true → is_kept x ≡ true
pinned-kept Nothing p = absurd (false≢true p)
pinned-kept (Kept o) p = refl
pinned-kept (Removed o) p = absurd (false≢true p)
pinned-kept (Pinned o) p = refl
pinned-kept Wrong p = absurd (false≢true p)

pub pinned-is : (x : Entry) → is_pinned x ≡ true → x ≡ Pinned (offset_in x)
pinned-is Nothing p = absurd (false≢true p)
pinned-is (Kept o) p = absurd (false≢true p)
pinned-is (Removed o) p = absurd (false≢true p)
pinned-is (Pinned o) p = refl
pinned-is Wrong p = absurd (false≢true p)
