-- A contour with a kept vertex whose drawn edges cross all removed sticks between their ends has four kept vertices or more; so every contour
-- has four sticks or more.
use mathlib.Core.Path.{◌≡◌, ap, sym, ◌∙◌}
use mathlib.Core.Logic.{◌≢◌}
use mathlib.Core.Bool.{Bool, true, false}
use mathlib.Core.List.{List, [], ◌∷◌}
use Prim.Native.Nat.{ℕ, zero, suc, ◌+◌, ◌≤◌}
use native.Mathlib.Omega.{arith}
use lib.ListN.{length, get_or, replicate, get_or-replicate}
use Rattle.arith.specs.Booleans.{as_number}
use Rattle.arith.proofs.Booleans.{one-le, both-sides}
use Rattle.arith.specs.Lists.{among}
use Rattle.grid.specs.Layer.{Layer}
use Rattle.grid.specs.Edges.{is_stick, number, edge_count}
use Rattle.grid.specs.Questions.{Sound}
use Rattle.grid.specs.declared.edge.Edge.{Edge}
use Rattle.grid.proofs.Numbers.{number-below}
use Rattle.step.specs.Walk.{next}
use Rattle.step.proofs.Walks.{next-stick}
use Rattle.contour.specs.Walk.{occurrences, OnContour}
use Rattle.contour.specs.Contours.{walk_of, contour_of, same_edge}
use Rattle.contour.proofs.Orbit.{same_false}
use Rattle.contour.proofs.Members.{on-self, on-next, on_one}
use Rattle.contour.proofs.Sticks.{laws, stick-in, same-edge}
use Rattle.table.specs.Entries.{entry_of}
use Rattle.table.specs.Vertices.{kept_at, removed_at, offset_at}
use Rattle.drawn.specs.Neighbours.{kept_from, next_kept}
use Rattle.drawn.proofs.Gaps.{kept-over, kept_here, gap_here}
use Rattle.drawn.specs.Drawn.{edge_crosses, Drawn}
use Rattle.drawn.proofs.Vertices.{Vertices}
use Rattle.drawn.proofs.Owners.{end-drawn}
use Rattle.drawn.proofs.SideLemma.{not-one, not-two, not_three}

-- four different elements that pass a test, counted in a list, are no more than all that pass it
module _ (L : Layer) (sound : Sound L) (g : Edge → Bool) where
  other : (u v x : Edge) → u ≢ v → same_edge u x ≡ true → as_number (same_edge v x) ≡ 0
  other u v x n s =
      ap as_number (same_false (walk_of L) (laws L sound) (λ (e : v ≡ x). n (same-edge u x s ∙ sym e)))

  passes : (u x : Edge) → g u ≡ true → same_edge u x ≡ true → as_number (g x) ≡ 1
  passes u x h s = ap as_number (ap g (sym (same-edge u x s)) ∙ h)

  module _ (a b c d : Edge) (ga : g a ≡ true) (gb : g b ≡ true) (gc : g c ≡ true) (gd : g d ≡ true)
      (ab : a ≢ b) (ac : a ≢ c) (ad : a ≢ d) (bc : b ≢ c) (bd : b ≢ d) (cd : c ≢ d) where
    at_head : (x : Edge) → as_number (same_edge a x) + as_number (same_edge b x) + as_number (same_edge c x) + as_number (same_edge d x) ≤ as_number (g x)
    at_head x = both-sides (same_edge a x)
        (λ s. omega (arith, passes a x ga s, ap as_number s, other a b x ab s, other a c x ac s, other a d x ad s))
        (λ na. both-sides (same_edge b x)
        (λ s. omega (arith, passes b x gb s, ap as_number na, ap as_number s, other b c x bc s, other b d x bd s))
        (λ nb. both-sides (same_edge c x)
        (λ s. omega (arith, passes c x gc s, ap as_number na, ap as_number nb, ap as_number s, other c d x cd s))
        (λ nc. both-sides (same_edge d x)
        (λ s. omega (arith, passes d x gd s, ap as_number na, ap as_number nb, ap as_number nc, ap as_number s))
        (λ nd. omega (arith, ap as_number na, ap as_number nb, ap as_number nc, ap as_number nd)))))

    four-among : (l : List Edge)
        → occurrences (walk_of L) a l + occurrences (walk_of L) b l + occurrences (walk_of L) c l + occurrences (walk_of L) d l ≤ among g l
    unfolding occurrences
    four-among [] = omega arith
    four-among (x ∷ l) = omega (arith, at_head x, four-among l)

pub among-length : (g : Edge → Bool) (l : List Edge) → among g l ≤ length l
among-length g [] = omega arith
among-length g (x ∷ l) = omega (arith, among-length g l, one-le (g x))

module _ (L : Layer) (t : List ℕ) (sound : Sound L) (vertices : Vertices L t) where
  -- the next kept vertex is on the same contour
  pub kept_from-on : (f : Edge) → is_stick L f ≡ true → (n : ℕ) (e : Edge) → OnContour (walk_of L) f e → OnContour (walk_of L) f (kept_from (next L) L t n e)
  unfolding kept_from
  kept_from-on f stick zero e o = on-next (walk_of L) (laws L sound) f e stick o
  kept_from-on f stick (suc n) e o = both-sides (removed_at L t (next L e))
      (λ r. rw (kept-over (next L) L t n e r) (kept_from-on f stick n (next L e) (on-next (walk_of L) (laws L sound) f e stick o)))
      (λ r. rw (kept_here (next L) L t (suc n) e r) (on-next (walk_of L) (laws L sound) f e stick o))

  pub four-kept : (f : Edge) → is_stick L f ≡ true → (x : Edge) → OnContour (walk_of L) f x → kept_at L t x ≡ true
      → ((p : Edge) → OnContour (walk_of L) f p → Drawn L t p → edge_crosses L t p ≡ true) → 4 ≤ among (kept_at L t) (contour_of L f)
  four-kept f stick a oa ka over =
      let onward : (e : Edge) → OnContour (walk_of L) f e → OnContour (walk_of L) f (next_kept L t e) = kept_from-on f stick (edge_count L.size) in
      let b = next_kept L t a in
      let c = next_kept L t b in
      let d = next_kept L t c in
      let ob = onward a oa in
      let oc = onward b ob in
      let od = onward c oc in
      let da : Drawn L t a = record { stick = on_one (walk_of L) (laws L sound) f a stick oa; kept = ka } in
      let db = end-drawn L t sound vertices a da in
      let dc = end-drawn L t sound vertices b db in
      let dd = end-drawn L t sound vertices c dc in
      let va = over a oa da in
      let vb = over b ob db in
      let vc = over c oc dc in
      let all = four-among L sound (kept_at L t) a b c d ka db.kept dc.kept dd.kept
      (λ e. not-one L t sound vertices a da va (sym e)) (λ e. not-two L t sound vertices a da va vb (sym e))
      (λ e. not_three L t sound vertices a da va vb vc (sym e)) (λ e. not-one L t sound vertices b db vb (sym e))
      (λ e. not-two L t sound vertices b db vb vc (sym e)) (λ e. not-one L t sound vertices c dc vc (sym e)) (contour_of L f) in
      omega (arith, all)

-- where nothing is removed a drawn edge has nothing to cross
pub nothing-crossed : (L : Layer) (t : List ℕ) → Sound L → ((e : Edge) → is_stick L e ≡ true → removed_at L t e ≡ false)
    → (p : Edge) → is_stick L p ≡ true → edge_crosses L t p ≡ true
unfolding edge_crosses
nothing-crossed L t sound kept p stick =
    rw (gap_here (next L) L t (edge_count L.size) p (kept (next L p) (next-stick L sound p stick)))

-- with every stick kept that gives four sticks or more

module _ (L : Layer) (sound : Sound L) where
  abbrev whole : List ℕ
  whole = replicate (edge_count L.size) 128

  entry-middle : (e : Edge) → is_stick L e ≡ true → get_or whole (number L.size e) 0 ≡ 128
  entry-middle e stick = get_or-replicate (edge_count L.size) (number L.size e) 128 0 (number-below L.size sound.whole.sized e (stick-in L e stick))

  all_kept : (e : Edge) → is_stick L e ≡ true → (kept_at L whole e ≡ true) × (removed_at L whole e ≡ false)
  unfolding kept_at removed_at entry_of
  all_kept e stick = (rw (entry-middle e stick), rw (entry-middle e stick))

  middle-vertices : Vertices L whole
  unfolding kept_at removed_at offset_at entry_of
  middle-vertices e stick =
      record {
        kept_or_removed = rw (entry-middle e stick);
        after_start = rw (entry-middle e stick) (omega arith);
        before_end = rw (entry-middle e stick) (omega arith);
      }

  pub four-sticks : (f : Edge) → is_stick L f ≡ true → 4 ≤ length (contour_of L f)
  four-sticks f stick =
      let k = four-kept L whole sound middle-vertices f stick f (on-self (walk_of L) (laws L sound) f stick) (all_kept f stick).0
      (λ p o d. nothing-crossed L whole sound (λ e h. (all_kept e h).1) p d.stick) in
      omega (arith, k, among-length (kept_at L whole) (contour_of L f))
