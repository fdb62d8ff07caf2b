-- What trying a run does: it passes, or it is split. That counting may start from 0, that a depth beyond the number of edges changes nothing, how many
-- runs are tried and vertices removed, and that the table keeps its length.
use mathlib.Core.Path.{◌≡◌, refl, sym, ◌∙◌, ap}
use mathlib.Core.Bool.{Bool, true, false, true≢false}
use mathlib.Core.List.{List, [], ◌∷◌, foldl}
use Prim.Native.Nat.{ℕ, zero, suc, ◌+◌, ◌-◌, ◌*◌, ◌≤◌, ◌<◌}
use native.Mathlib.Decide.{dec_le}
use native.Mathlib.Omega.{arith}
use lib.ListN.{length}
use Rattle.arith.proofs.Booleans.{both-sides}
use Rattle.grid.specs.Layer.{Layer}
use Rattle.grid.specs.declared.edge.Edge.{Edge}
use Rattle.contour.specs.Contours.{contour_of}
use Rattle.table.specs.Vertices.{offset_at}
use Rattle.table.specs.Stores.{without}
use Rattle.table.specs.declared.entry.Entry.TheVariants.{Removed}
use Rattle.table.proofs.Stores.{store_length}
use Rattle.run.specs.Runs.{stick_after, between, passes}
use Rattle.run.proofs.Passing.{passes-short}
use Rattle.simplify.specs.Runs.{Progress, remove_inner, half, one_tried, try_run, simplify_contour}
use Rattle.simplify.specs.Parts.{begun}

-- the counts of p on top of those of s
abbrev pub on_top : Progress → Progress → Progress
on_top s p = record { table = p.table; removed = s.removed + p.removed; tried = s.tried + p.tried }

pub length-inner : (L : Layer) (l : List Edge) (t : List ℕ) → length (foldl (without L) t l) ≡ length t
length-inner L [] t = refl
length-inner L (e ∷ l) t =
    length-inner L l (without L t e) ∙ store_length L t e (Removed (offset_at L t e))

pub inner-is : (L : Layer) (s : Progress) (e : Edge) (n : ℕ) → remove_inner L s e n
    ≡ record { table = foldl (without L) s.table (between L e n); removed = s.removed + (n - 1); tried = s.tried }
unfolding remove_inner
inner-is L s e n = refl

-- as a single edge passes, a run that does not has two edges or more, and two parts that are shorter
pub record Split (n : ℕ) : Type 0 where
  pub more : 2 ≤ n
  pub first_some : 1 ≤ half n
  pub second_some : 1 ≤ n - half n
  pub first_less : half n < n
  pub second_less : n - half n < n
  pub together : half n + (n - half n) ≡ n

pub split-of : (n : ℕ) → 2 ≤ n → Split n
split-of n h =
    record {
      more = h;
      first_some = omega arith;
      second_some = omega arith;
      first_less = omega arith;
      second_less = omega arith;
      together = omega arith;
    }

pub split : (L : Layer) (t : List ℕ) (tolerance : ℕ) (e : Edge) (n : ℕ) → passes L t tolerance e n ≡ false → Split n
split L t tolerance e n f = split-of n (elim (dec_le n 1) [
  | yes h ↦ absurd (true≢false (sym (passes-short L t tolerance e n h) ∙ f))
  | no g ↦ omega arith
])

module _ (L : Layer) (tolerance : ℕ) where
  by-passes : ℕ → Progress → Edge → ℕ → Bool → Progress
  by-passes depth s e n b = elim b [
    | true ↦ remove_inner L (one_tried s) e n
    | false ↦ try_run L tolerance depth (try_run L tolerance depth (one_tried s) e (half n)) (stick_after L (half n) e) (n - half n)
  ]

  pub try-passes : (depth : ℕ) (s : Progress) (e : Edge) (n : ℕ) → passes L s.table tolerance e n ≡ true
      → try_run L tolerance (suc depth) s e n ≡ remove_inner L (one_tried s) e n
  unfolding try_run by-passes
  try-passes depth s e n h = ap (by-passes depth s e n) h

  pub try-splits : (depth : ℕ) (s : Progress) (e : Edge) (n : ℕ) → passes L s.table tolerance e n ≡ false
      → try_run L tolerance (suc depth) s e n
      ≡ try_run L tolerance depth (try_run L tolerance depth (one_tried s) e (half n)) (stick_after L (half n) e) (n - half n)
  unfolding try_run by-passes
  try-splits depth s e n h = ap (by-passes depth s e n) h

  pub try-none : (s : Progress) (e : Edge) (n : ℕ) → try_run L tolerance 0 s e n ≡ s
  unfolding try_run
  try-none s e n = refl

  -- counting may start from 0: of one run, and of two in turn
  two-of : (depth : ℕ) → ((s : Progress) (e : Edge) (n : ℕ) → try_run L tolerance depth s e n ≡ on_top s (try_run L tolerance depth (begun s.table) e n))
      → (s : Progress) (e m : Edge) (h k : ℕ) → let a : Progress = try_run L tolerance depth (begun s.table) e h in
      try_run L tolerance depth (try_run L tolerance depth s e h) m k ≡ on_top (on_top s a) (try_run L tolerance depth (begun a.table) m k)
  two-of depth from s e m h k =
      let a : Progress = try_run L tolerance depth (begun s.table) e h in
      ap (λ (p : Progress). try_run L tolerance depth p m k) (from s e h) ∙ from (on_top s a) m k

  pub try-from : (depth : ℕ) (s : Progress) (e : Edge) (n : ℕ)
      → try_run L tolerance depth s e n ≡ on_top s (try_run L tolerance depth (begun s.table) e n)
  unfolding remove_inner
  try-from zero s e n =
      let none : s ≡ on_top s (begun s.table) =
      λ i. record { table = s.table; removed = nothing s.removed i; tried = nothing s.tried i } in
      try-none s e n ∙ none ∙ sym (ap (on_top s) (try-none (begun s.table) e n))
    where
      nothing : (m : ℕ) → m ≡ m + 0
      nothing m = omega arith
  try-from (suc depth) s e n = both-sides (passes L s.table tolerance e n)
      (λ h. try-passes depth s e n h ∙ counted ∙ sym (ap (on_top s) (try-passes depth (begun s.table) e n h)))
      (λ h.
      let a : Progress = try_run L tolerance depth (begun s.table) e (half n) in
      let b : Progress = try_run L tolerance depth (begun a.table) (stick_after L (half n) e) (n - half n) in
      try-splits depth s e n h ∙ two-of depth (try-from depth) (one_tried s) e (stick_after L (half n) e) (half n) (n - half n)
      ∙ regrouped a b
      ∙ sym (ap (on_top s) (two-of depth (try-from depth) (one_tried (begun s.table)) e (stick_after L (half n) e) (half n) (n - half n)))
      ∙ sym (ap (on_top s) (try-splits depth (begun s.table) e n h)))
    where
      one_more : (m k : ℕ) → m + k ≡ m + (0 + k)
      one_more m k = omega arith

      sums : (m u x y : ℕ) → m + u + x + y ≡ m + (0 + u + x + y)
      sums m u x y = omega arith

      plain : (m x y : ℕ) → m + x + y ≡ m + (0 + x + y)
      plain m x y = omega arith

      counted : remove_inner L (one_tried s) e n ≡ on_top s (remove_inner L (one_tried (begun s.table)) e n)
      counted = λ i. record {
        table = foldl (without L) s.table (between L e n);
        removed = one_more s.removed (n - 1) i;
        tried = one_more s.tried 1 i;
      }

      regrouped : (a b : Progress) → on_top (on_top (one_tried s) a) b ≡ on_top s (on_top (on_top (one_tried (begun s.table)) a) b)
      regrouped a b = λ i. record {
        table = b.table;
        removed = plain s.removed a.removed b.removed i;
        tried = sums s.tried 1 a.tried b.tried i;
      }

  pub try-two : (depth : ℕ) (s : Progress) (e m : Edge) (h k : ℕ) → let a : Progress = try_run L tolerance depth (begun s.table) e h in
      try_run L tolerance depth (try_run L tolerance depth s e h) m k ≡ on_top (on_top s a) (try_run L tolerance depth (begun a.table) m k)
  try-two depth = two-of depth (try-from depth)

  -- a depth of as many as there are edges is enough
  pub try-deep : (d d' : ℕ) (s : Progress) (e : Edge) (n : ℕ) → 1 ≤ d → n ≤ d → 1 ≤ d' → n ≤ d'
      → try_run L tolerance d s e n ≡ try_run L tolerance d' s e n
  try-deep zero d' s e n a b c h = absurd (omega arith)
  try-deep (suc d) zero s e n a b c h = absurd (omega arith)
  try-deep (suc d) (suc d') s e n a b c h = both-sides (passes L s.table tolerance e n)
      (λ y. try-passes d s e n y ∙ sym (try-passes d' s e n y))
      (λ f.
      let p = split L s.table tolerance e n f in
      let m = stick_after L (half n) e in
      try-splits d s e n f
      ∙ ap (λ (x : Progress). try_run L tolerance d x m (n - half n))
      (try-deep d d' (one_tried s) e (half n) (omega (arith, p)) (omega (arith, p)) (omega (arith, p)) (omega (arith, p)))
      ∙ try-deep d d' (try_run L tolerance d' (one_tried s) e (half n)) m (n - half n)
      (omega (arith, p)) (omega (arith, p)) (omega (arith, p)) (omega (arith, p))
      ∙ sym (try-splits d' s e n f))

  -- a run of n edges and its parts are 2·n - 1 tries, less two for each vertex that is removed
  pub try-counts : (depth : ℕ) (s : Progress) (e : Edge) (n : ℕ) → 1 ≤ n → n ≤ depth → let r : Progress = try_run L tolerance depth s e n in
      r.tried + 2 * r.removed + 1 ≡ s.tried + 2 * s.removed + 2 * n
  try-counts zero s e n some deep = absurd (omega arith)
  try-counts (suc depth) s e n some deep = both-sides (passes L s.table tolerance e n)
      (λ y. rw (try-passes depth s e n y, inner-is L (one_tried s) e n) (omega arith))
      (λ f.
      let p = split L s.table tolerance e n f in
      let m : Progress = try_run L tolerance depth (one_tried s) e (half n) in
      let one = try-counts depth (one_tried s) e (half n) p.first_some (omega (arith, p)) in
      let two = try-counts depth m (stick_after L (half n) e) (n - half n) p.second_some (omega (arith, p)) in
      rw (try-splits depth s e n f) (omega (arith, one, two, p)))

  pub try-length : (depth : ℕ) (s : Progress) (e : Edge) (n : ℕ) → length (try_run L tolerance depth s e n).table ≡ length s.table
  try-length zero s e n = rw (try-none s e n) refl
  try-length (suc depth) s e n = both-sides (passes L s.table tolerance e n)
      (λ y. rw (try-passes depth s e n y, inner-is L (one_tried s) e n) (length-inner L (between L e n) s.table))
      (λ f.
      rw (try-splits depth s e n f)
      (try-length depth (try_run L tolerance depth (one_tried s) e (half n)) (stick_after L (half n) e) (n - half n)
      ∙ try-length depth (one_tried s) e (half n)))

  -- a contour
  pub contour-runs : (s : Progress) (f : Edge) → let n : ℕ = length (contour_of L f) in simplify_contour L tolerance s f
      ≡ try_run L tolerance n (try_run L tolerance n s f (half n)) (stick_after L (half n) f) (n - half n)
  unfolding simplify_contour
  contour-runs s f = refl
