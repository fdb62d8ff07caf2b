-- The one theorem that the project is for. Each call takes a layer that passes questions 1 to 7 to such a layer, whether it is done,
-- refused or stopped partway (a lemma in each call's crate, Trace's in TraceHeld); and such a layer is faithful (crate faithful, Faithful).
use mathlib.Core.Path.{◌≡◌}
use mathlib.Core.Bool.{false, not, true≢false}
use mathlib.Core.List.{List, [], ◌∷◌}
use Prim.Native.Nat.{ℕ}
use borrow.Author.Tests.{not-true}
use Rattle.arith.specs.Lists.{each}
use Rattle.arith.proofs.Booleans.{and_split}
use Rattle.grid.specs.Layer.{Layer}
use Rattle.table.specs.Pins.{PinsStay}
use Rattle.table.proofs.Pins.{pins-same, pins-then}
use Rattle.held.specs.Questions.{Accepted}
use Rattle.faithful.proofs.Faithful.{faithful}
use Rattle.smooth.proofs.Held.{smooth-keeps}
use Rattle.smooth.proofs.Pins.{smooth-pins}
use Rattle.simplify.proofs.Held.{simplify-keeps}
use Rattle.simplify.proofs.Pins.{simplify-pins}
use Rattle.reading.proofs.Theorems.{read-opens, read_keeps}
use Rattle.roll.proofs.Held.{roll-keeps, roll-pins}
use Rattle.guarantee.specs.Calls.{Call, trace, read, smooth, simplify, roll, after, after_all, Opening, by_trace, by_sheet, OpeningAccepted, opened, Guarantee, sets_pins, PinsHold}
use Rattle.guarantee.proofs.TraceHeld.{trace-opens, trace-keeps}

module _ (L : Layer) where
  pub opening-held : (t : List ℕ) (opening : Opening) → OpeningAccepted L t opening → Accepted L (opened L t opening)
  opening-held t by_trace done = trace-opens L t done
  opening-held t (by_sheet sheet) done = read-opens L t sheet.bytes sheet.below done

  pub call-held : (t : List ℕ) → Accepted L t → (call : Call) → Accepted L (after L t call)
  call-held t held trace = trace-keeps L t held
  call-held t held (read sheet) = read_keeps L t sheet.bytes sheet.below held
  call-held t held (smooth limit) = smooth-keeps L limit t held
  call-held t held (simplify tolerance) = simplify-keeps L tolerance t held
  call-held t held (roll commands tolerance) = roll-keeps L tolerance commands t held

  keeps-all : (calls : List Call) (t : List ℕ) → Accepted L t → Accepted L (after_all L t calls)
  keeps-all [] t held = held
  keeps-all (call ∷ calls) t held = keeps-all calls (after L t call) (call-held t held call)

pub guarantee : Guarantee
guarantee L t opening done calls =
    faithful L (after_all L (opened L t opening) calls) (keeps-all L calls (opened L t opening) (opening-held L t opening done))

-- Beside it: no call but Trace and the reading of a sheet changes a pinned entry (a lemma in each call's crate), on whatever layer and table, and
-- so no list of such calls does.
module _ (L : Layer) where
  pub call-pins : (t : List ℕ) (call : Call) → sets_pins call ≡ false → PinsStay t (after L t call)
  call-pins t trace sets = absurd (true≢false sets)
  call-pins t (read sheet) sets = absurd (true≢false sets)
  call-pins t (smooth limit) sets = smooth-pins L limit t
  call-pins t (simplify tolerance) sets = simplify-pins L tolerance t
  call-pins t (roll commands tolerance) sets = roll-pins L tolerance commands t

pub pins-hold : PinsHold
pins-hold L t [] none = pins-same
pins-hold L t (call ∷ calls) none =
    let both = and_split (not (sets_pins call)) (each (λ c. not (sets_pins c)) calls) none in
    pins-then (call-pins L t call (not-true (sets_pins call) both.0)) (pins-hold L (after L t call) calls both.1)
