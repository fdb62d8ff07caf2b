-- Passes over one contour until it is settled or the limit is reached: how they go on, and the limit; and that on a sound layer whose vertices are
-- all kept they leave every vertex kept, at an offset of 1 to 255. So nothing is removed.
use mathlib.Core.Path.{◌≡◌, refl, sym, ◌∙◌, ap}
use mathlib.Core.Bool.{Bool, true, false, true≢false}
use mathlib.Core.List.{List, [], ◌∷◌, foldl}
use Prim.Native.Nat.{ℕ, zero, suc, ◌+◌, ◌*◌, ◌≤◌}
use native.Mathlib.Omega.{arith}
use lib.ListN.{length}
use Rattle.arith.proofs.Booleans.{both-sides}
use Rattle.grid.specs.Layer.{Layer}
use Rattle.grid.specs.Edges.{is_stick}
use Rattle.grid.specs.Questions.{Sound}
use Rattle.grid.specs.declared.edge.Edge.{Edge}
use Rattle.contour.specs.Contours.{contour_of, first_sticks}
use Rattle.contour.proofs.Theorems.{AllSticks, head-stick, tail-sticks, contour-sticks}
use Rattle.table.proofs.AllKept.{AllKept}
use Rattle.smooth.specs.Smooth.{Pass, passed, visit, pass_contour, contour_pass, is_settled, Smoothed, further, until, unsmoothed, settle, smooth_contour, no_contour, with_contour, smooth}
use Rattle.smooth.proofs.Steps.{visit-kept, visit-total}

-- where smoothing stands, by its figures
abbrev pub standing : List ℕ → ℕ → ℕ → Bool → Smoothed
standing t passes total settled = record { table = t; passes = passes; total = total; settled = settled }

pub contour-is : (L : Layer) (limit : ℕ) (t : List ℕ) (f : Edge)
    → smooth_contour L limit t f ≡ settle (contour_pass L f) (length (contour_of L f)) limit t
unfolding smooth_contour
contour-is L limit t f = refl

-- one contour more, and so all contours of a layer
abbrev pub smooth_next : Layer → ℕ → Smoothed → Edge → Smoothed
smooth_next L limit s f = with_contour s (smooth_contour L limit s.table f)

pub smooth-is : (L : Layer) (limit : ℕ) (t : List ℕ) → smooth L limit t ≡ foldl (smooth_next L limit) (no_contour t) (first_sticks L)
unfolding smooth
smooth-is L limit t = refl

-- how passes go on: what a loop over them cites
module _ (one_pass : List ℕ → Pass) (vertices : ℕ) where
  pub further-is : (s : Smoothed)
      → let p : Pass = one_pass s.table in
      further one_pass vertices s ≡ record { table = p.table; passes = s.passes + 1; total = p.total; settled = is_settled p.total vertices }
  unfolding further
  further-is s = refl

  pub until_none : (s : Smoothed) → until one_pass vertices 0 s ≡ s
  unfolding until
  until_none s = refl

  -- a step of it, by whether the contour is settled
  by-settled : ℕ → Smoothed → Bool → Smoothed
  by-settled n s b = elim b [ true ↦ s | false ↦ until one_pass vertices n (further one_pass vertices s) ]

  pub until-settled : (n : ℕ) (s : Smoothed) → s.settled ≡ true → until one_pass vertices n s ≡ s
  unfolding until by-settled
  until-settled zero s y = refl
  until-settled (suc n) s y = ap (by-settled n s) y

  pub until-more : (n : ℕ) (s : Smoothed) → s.settled ≡ false
      → until one_pass vertices (suc n) s ≡ until one_pass vertices n (further one_pass vertices s)
  unfolding until by-settled
  until-more n s y = ap (by-settled n s) y

  -- "until the limit": no pass beyond it, and all of them unless it is settled
  until-passes : (n : ℕ) (s : Smoothed)
      → let r : Smoothed = until one_pass vertices n s in (r.passes ≤ s.passes + n) × (r.settled ≡ false → r.passes ≡ s.passes + n)
  until-passes zero s = rw (until_none s) (omega arith, λ y. omega arith)
  until-passes (suc n) s = both-sides s.settled
      (λ y. rw (until-settled (suc n) s y) (omega arith, λ no_more. absurd (true≢false (sym y ∙ no_more))))
      (λ y.
      let later = until-passes n (further one_pass vertices s) in
      let one : (further one_pass vertices s).passes ≡ s.passes + 1 = ap (λ (r : Smoothed). r.passes) (further-is s) in
      rw (until-more n s y) (omega (arith, later.0), λ no_more. omega (arith, later.1 no_more)))

  -- what each pass keeps, all of them keep
  pub until-keeps : (P : Smoothed → Type 0) → ((s : Smoothed) → P s → P (further one_pass vertices s)) → (n : ℕ) (s : Smoothed) → P s
      → P (until one_pass vertices n s)
  until-keeps P keeps zero s h = rw (until_none s) h
  until-keeps P keeps (suc n) s h = both-sides s.settled
      (λ y. rw (until-settled (suc n) s y) h)
      (λ y. rw (until-more n s y) (until-keeps P keeps n (further one_pass vertices s) (keeps s h)))

-- passes that do the same on tables with a property, which they keep, are the same to the end
pub until-same : {F G : List ℕ → Pass} (vertices : ℕ) (P : List ℕ → Type 0) → ((t : List ℕ) → P t → F t ≡ G t)
    → ((t : List ℕ) → P t → P (G t).table) → (n : ℕ) (s : Smoothed) → P s.table → until F vertices n s ≡ until G vertices n s
unfolding until further
until-same vertices P same keeps zero s h = refl
until-same {F} {G} vertices P same keeps (suc n) s h =
    let later : until F vertices n (further F vertices s) ≡ until G vertices n (further G vertices s) =
    ap (λ (p : Pass). until F vertices n (standing p.table (s.passes + 1) p.total (is_settled p.total vertices))) (same s.table h)
    ∙ until-same vertices P same keeps n (further G vertices s) (keeps s.table h) in
    ap (λ (r : Smoothed). elim s.settled [ true ↦ s | false ↦ r ]) later

-- what smoothing a contour leaves: every vertex is kept, at an offset of 1 to 255, and the total is at most 254 for each of its vertices
pub record StillKept (L : Layer) (f : Edge) (s : Smoothed) : Type 0 where
  pub kept : AllKept L s.table
  pub total_most : s.total ≤ 254 * length (contour_of L f)

module _ {L : Layer} (sound : Sound L) where
  pub pass_contour-kept : (c : List Edge) → AllSticks L c → (s : Pass) → AllKept L s.table → AllKept L (pass_contour L s c).table
  unfolding pass_contour
  pass_contour-kept [] h s kept = kept
  pass_contour-kept (e ∷ c) h s kept = pass_contour-kept c (tail-sticks sound e c h) (visit L s e) (visit-kept sound s kept e (head-stick sound e c h))

  pass_contour-total : (c : List Edge) → AllSticks L c → (s : Pass) → AllKept L s.table → (pass_contour L s c).total ≤ s.total + 254 * length c
  unfolding pass_contour
  pass_contour-total [] h s kept = omega arith
  pass_contour-total (e ∷ c) h s kept =
      let stick = head-stick sound e c h in
      omega (arith, visit-total sound s kept e stick, pass_contour-total c (tail-sticks sound e c h) (visit L s e) (visit-kept sound s kept e stick))

  -- ---- the contour of a stick

  module _ (f : Edge) (stick : is_stick L f ≡ true) where
    pub contour_pass-kept : {t : List ℕ} → AllKept L t → AllKept L (contour_pass L f t).table
    contour_pass-kept {t} kept = pass_contour-kept (contour_of L f) (contour-sticks sound f stick) (passed t 0) kept

    pub contour_pass-total : {t : List ℕ} → AllKept L t → (contour_pass L f t).total ≤ 254 * length (contour_of L f)
    contour_pass-total {t} kept = omega (arith, pass_contour-total (contour_of L f) (contour-sticks sound f stick) (passed t 0) kept)

    pub contour-kept : (limit : ℕ) {t : List ℕ} → AllKept L t → StillKept L f (smooth_contour L limit t f)
    contour-kept limit {t} kept =
        rw (contour-is L limit t f)
        (until-keeps (contour_pass L f) n (StillKept L f)
        (λ s h. rw (further-is (contour_pass L f) n s)
        (record { kept = contour_pass-kept h.kept; total_most = contour_pass-total h.kept }))
        limit (unsmoothed (contour_pass L f) n t) (record { kept = kept; total_most = omega arith }))
      where
        n : ℕ
        n = length (contour_of L f)

-- ---- the limit

-- the number of passes, of several contours the largest, is not beyond the limit, and it is the limit unless all is settled
pub record WithinLimit (limit : ℕ) (s : Smoothed) : Type 0 where
  pub passes_most : s.passes ≤ limit
  pub passes_all : s.settled ≡ false → s.passes ≡ limit

pub contour-passes : (L : Layer) (limit : ℕ) (t : List ℕ) (f : Edge) → WithinLimit limit (smooth_contour L limit t f)
contour-passes L limit t f =
    let n : ℕ = length (contour_of L f) in
    let most = until-passes (contour_pass L f) n limit (unsmoothed (contour_pass L f) n t) in
    rw (contour-is L limit t f) (record { passes_most = omega (arith, most.0); passes_all = λ y. omega (arith, most.1 y) })
