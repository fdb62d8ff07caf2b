-- The guarantee over the exported functions: each leaves the table as found or as its call leaves it, and either way a layer that passes
-- questions 1 to 7 stays one, and pins hold.
use mathlib.Core.Path.{◌≡◌}
use mathlib.Core.Bool.{false, true≢false, not}
use mathlib.Core.List.{List, [], ◌∷◌, foldl}
use Prim.Native.Nat.{ℕ}
use native.Mathlib.Omega.{arith}
use borrow.Author.Tests.{not-true}
use lib.Dec.{ltb}
use lib.ListN.{length}
use Rattle.arith.specs.Lists.{each}
use Rattle.arith.proofs.Booleans.{both-sides, and_split}
use Rattle.grid.specs.Layer.{Layer}
use Rattle.table.specs.Pins.{PinsStay}
use Rattle.table.proofs.Pins.{pins-same, pins-then}
use Rattle.held.specs.Questions.{Accepted}
use Rattle.faithful.proofs.Faithful.{faithful}
use Rattle.guarantee.specs.Calls.{Call, trace, read, smooth, simplify, roll, Opening, by_trace, by_sheet, sets_pins}
use Rattle.guarantee.proofs.Guarantee.{opening-held, call-held, call-pins}
use Rattle.report.specs.Results.{Result}
use Rattle.puzhenim.specs.Face.{face}
use Rattle.puzhenim.specs.Exported.{face_of, Made, table_after, opens, ExportedGuarantee, ExportedPins}

module _ (L : Layer) (figures t : List ℕ) (r : Result (List ℕ)) where
  -- the table at exit is the one found, or that of the result
  left_so : (P : List ℕ → Type 0) → P t → P r.buffers → P (face figures t r).buffers
  unfolding face
  left_so P found left = both-sides (ltb (length figures) 4) (λ e. rw e found) (λ e. rw e left)

  left-held : Accepted L t → Accepted L r.buffers → Accepted L (face figures t r).buffers
  left-held = left_so (Accepted L)

  -- a face that returns 0 is that of a call that is done
  done_held : (face figures t r).number ≡ 0 → (r.report.number ≡ 0 → Accepted L r.buffers)
      → Accepted L (face figures t r).buffers
  unfolding face
  done_held done left =
      both-sides (ltb (length figures) 4) (λ e. absurd (omega (arith, rw e at done))) (λ e. rw e (left (rw e at done)))

module _ (L : Layer) where
  opening-leaves : (t : List ℕ) (opening : Opening) (figures : List ℕ) → (face_of L t (opens opening) figures).number ≡ 0
      → Accepted L (face_of L t (opens opening) figures).buffers
  opening-leaves t by_trace figures done = done_held L figures t _ done (opening-held L t by_trace)
  opening-leaves t (by_sheet sheet) figures done = done_held L figures t _ done (opening-held L t (by_sheet sheet))

  call-leaves : (t : List ℕ) → Accepted L t → (call : Call) (figures : List ℕ) → Accepted L (face_of L t call figures).buffers
  call-leaves t held trace figures = left-held L figures t _ held (call-held L t held trace)
  call-leaves t held (read sheet) figures = left-held L figures t _ held (call-held L t held (read sheet))
  call-leaves t held (smooth limit) figures = left-held L figures t _ held (call-held L t held (smooth limit))
  call-leaves t held (simplify tolerance) figures = left-held L figures t _ held (call-held L t held (simplify tolerance))
  call-leaves t held (roll commands tolerance) figures = left-held L figures t _ held (call-held L t held (roll commands tolerance))

  all_held : (calls : List Made) (t : List ℕ) → Accepted L t → Accepted L (foldl (table_after L) t calls)
  all_held [] t held = held
  all_held (made ∷ calls) t held = all_held calls (table_after L t made) (call-leaves t held made.call made.figures)

pub exported-guarantee : ExportedGuarantee
exported-guarantee L t opening figures done calls =
    let first = (face_of L t (opens opening) figures).buffers in
    faithful L (foldl (table_after L) first calls) (all_held L calls first (opening-leaves L t opening figures done))

-- Pins

module _ (L : Layer) where
  call-leaves-pins : (t : List ℕ) (call : Call) (figures : List ℕ) → sets_pins call ≡ false → PinsStay t (face_of L t call figures).buffers
  call-leaves-pins t trace figures sets = absurd (true≢false sets)
  call-leaves-pins t (read sheet) figures sets = absurd (true≢false sets)
  call-leaves-pins t (smooth limit) figures sets = left_so L figures t _ (PinsStay t) pins-same (call-pins L t (smooth limit) sets)
  call-leaves-pins t (simplify tolerance) figures sets = left_so L figures t _ (PinsStay t) pins-same (call-pins L t (simplify tolerance) sets)
  call-leaves-pins t (roll commands tolerance) figures sets =
      left_so L figures t _ (PinsStay t) pins-same (call-pins L t (roll commands tolerance) sets)

pub exported-pins : ExportedPins
exported-pins L t [] none = pins-same
exported-pins L t (made ∷ calls) none =
    let both = and_split (not (sets_pins made.call)) (each (λ m. not (sets_pins m.call)) calls) none in
    pins-then (call-leaves-pins L t made.call made.figures (not-true (sets_pins made.call) both.0))
    (exported-pins L (table_after L t made) calls both.1)
