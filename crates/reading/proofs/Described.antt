-- The table that a sheet describes: the entry of each stick is the one that its vertex command gives, since each stick is expected once, and
-- every other entry is 0.
use mathlib.Core.Path.{◌≡◌, refl, sym, ◌∙◌, ap}
use mathlib.Core.Logic.{◌≢◌}
use mathlib.Core.Bool.{false, true≢false}
use mathlib.Core.List.{List, [], ◌∷◌, ◌++◌, foldl, foldl-append}
use Prim.Native.Nat.{ℕ, ◌+◌, ◌<◌}
use native.Mathlib.Omega.{arith}
use lib.ListN.{length, get_or}
use lib.Seq.{get_or-set_same}
use Rattle.arith.proofs.Ranges.{length-tabulate_from, get_d_tabulate}
use Rattle.arith.specs.Booleans.{as_number}
use Rattle.grid.specs.Layer.{Layer}
use Rattle.grid.specs.Edges.{number, edge_at, edge_count, is_stick, stick_at}
use Rattle.grid.specs.Questions.{Sound}
use Rattle.grid.specs.declared.edge.Edge.{Edge}
use Rattle.contour.specs.Walk.{occurrences}
use Rattle.contour.specs.Contours.{walk_of}
use Rattle.contour.proofs.Sticks.{laws, same_self}
use Rattle.table.specs.Entries.{encoded}
use Rattle.table.proofs.Stores.{store-elsewhere, store_length}
use Rattle.formed.specs.Expected.{Expected, these, vertex_of, expected_sheet}
use Rattle.formed.specs.Asked.{widths}
use Rattle.formed.proofs.Commands.{sticks_in, expected-stick, here-stick, later-other}
use Rattle.reading.specs.Reading.{entry_from, Reading, take_command, no_entries, described}

module _ (L : Layer) (s : List ℕ) where
  -- Taking commands

  pub taken_at : (xs : List Expected) (r : Reading) → (foldl (take_command L s) r xs).at ≡ r.at + widths xs
  taken_at [] r = omega arith
  taken_at (these bytes ∷ xs) r = omega (arith, taken_at xs (take_command L s r (these bytes)))
  taken_at (vertex_of e ∷ xs) r = omega (arith, taken_at xs (take_command L s r (vertex_of e)))

  pub taken-length : (xs : List Expected) (r : Reading) → length (foldl (take_command L s) r xs).table ≡ length r.table
  taken-length [] r = refl
  taken-length (these bytes ∷ xs) r = taken-length xs (take_command L s r (these bytes))
  taken-length (vertex_of e ∷ xs) r =
      taken-length xs (take_command L s r (vertex_of e)) ∙ store_length L r.table e (entry_from s r.at)

  -- an entry that no expected vertex has
  untouched : (xs : List Expected) (r : Reading) (k : ℕ)
      → ((e : Edge) → 0 < occurrences (walk_of L) e (sticks_in xs) → k ≢ number L.size e)
      → get_or (foldl (take_command L s) r xs).table k 0 ≡ get_or r.table k 0
  unfolding occurrences
  untouched [] r k h = refl
  untouched (these bytes ∷ xs) r k h = untouched xs (take_command L s r (these bytes)) k h
  untouched (vertex_of e ∷ xs) r k h =
      untouched xs (take_command L s r (vertex_of e)) k (λ d o. h d (omega arith))
      ∙ store-elsewhere L r.table e (entry_from s r.at) k (h e (omega (arith, ap as_number (same_self e))))

  abbrev pub at_start : Reading
  at_start = record { at = 0; table = no_entries L }

  pub described-length : length (described L s) ≡ edge_count L.size
  unfolding described
  described-length = taken-length (expected_sheet L) at_start ∙ length-tabulate_from (λ k. 0) 0 (edge_count L.size)

  module _ (sound : Sound L) where
    module _ (y : Edge) (pre post : List Expected) (joined : pre ++ (vertex_of y ∷ post) ≡ expected_sheet L) where
      -- so the table has what its command gives
      pub described-here : get_or (described L s) (number L.size y) 0 ≡ encoded (entry_from s (widths pre))
      unfolding described
      described-here =
          let before = foldl (take_command L s) at_start pre in
          let room : number L.size y < length before.table = omega (
            arith,
            taken-length pre at_start,
            length-tabulate_from (λ k. 0) 0 (edge_count L.size),
            (laws L sound).number_less y (here-stick L sound y pre post joined),
          ) in
          let z : before.at ≡ widths pre = omega (arith, taken_at pre at_start) in
          ap (λ (xs : List Expected). get_or (foldl (take_command L s) at_start xs).table (number L.size y) 0) (sym joined)
          ∙ ap (λ (r : Reading). get_or r.table (number L.size y) 0) (foldl-append (take_command L s) at_start pre (vertex_of y ∷ post))
          ∙ untouched post (take_command L s before (vertex_of y)) (number L.size y) (later-other L sound y pre post joined)
          ∙ get_or-set_same before.table (number L.size y) (encoded (entry_from s before.at)) 0 room
          ∙ ap (λ (i : ℕ). encoded (entry_from s i)) z

    -- off sticks it has 0
    pub described-off : (k : ℕ) → k < edge_count L.size → stick_at L k ≡ false → get_or (described L s) k 0 ≡ 0
    unfolding described
    described-off k below off =
        untouched (expected_sheet L) at_start k (λ e o q. true≢false (sym (ap (is_stick L) (number-edge e o q) ∙ expected-stick L sound e o) ∙ off))
        ∙ get_d_tabulate (λ j. 0) (edge_count L.size) k 0 below
      where
        number-edge : (e : Edge) → 0 < occurrences (walk_of L) e (sticks_in (expected_sheet L)) → k ≡ number L.size e → edge_at L.size k ≡ e
        number-edge e o q = ap (edge_at L.size) q ∙ (laws L sound).at_number e (expected-stick L sound e o)
