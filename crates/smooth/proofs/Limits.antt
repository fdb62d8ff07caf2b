-- What a loop over the passes of one contour cites: the invariant `PartSettled`, the sizes of its numbers, the next turn's, and both ends.
use mathlib.Core.Path.{◌≡◌, refl, sym, ◌∙◌, ap, subst}
use mathlib.Core.Bool.{Bool, true, false}
use mathlib.Core.List.{List}
use Prim.Native.Nat.{ℕ, suc, ◌+◌, ◌-◌, ◌≤◌}
use native.Mathlib.Omega.{arith}
use borrow.Author.Tests.{ne_eqb}
use lib.Dec.{eqb}
use lib.ListN.{length}
use Rattle.grid.specs.Layer.{Layer}
use Rattle.grid.specs.Edges.{is_stick}
use Rattle.grid.specs.Questions.{Sound}
use Rattle.grid.specs.declared.edge.Edge.{Edge}
use Rattle.contour.specs.Walk.{rest}
use Rattle.contour.specs.Contours.{contour_of}
use Rattle.table.proofs.AllKept.{AllKept}
use Rattle.smooth.specs.Smooth.{Pass, contour_pass, is_settled, most_vertices, most_total, Smoothed, further, until, smooth_contour}
use Rattle.smooth.specs.Visit.{PassMade}
use Rattle.smooth.specs.declared.pass.PassCounts.{PassCounts}
use Rattle.smooth.proofs.Passes.{standing, contour-is, further-is, until_none, until-settled, until-more, contour_pass-kept}
use Rattle.smooth.proofs.Sizes.{contour-most, pass-most}

-- at most n passes more over the contour of f
abbrev more : Layer → Edge → ℕ → Smoothed → Smoothed
more L f n s = until (contour_pass L f) (length (contour_of L f)) n s

-- After these passes, of which none settled the contour, those that the limit still allows give the result of the whole.
pub record PartSettled (L : Layer) (limit : ℕ) (t₀ : List ℕ) (f : Edge) (t : List ℕ) (passes total : ℕ) : Type 0 where
  pub kept : AllKept L t
  pub within : passes ≤ limit
  pub still : more L f (limit - passes) (standing t passes total false) ≡ smooth_contour L limit t₀ f

-- a contour has a vertex, so it is not settled before any pass
contour-some : (L : Layer) (f : Edge) → eqb (length (contour_of L f)) 0 ≡ false
unfolding rest
contour-some L f = ne_eqb (length (contour_of L f)) 0 λ (none : length (contour_of L f) ≡ 0). omega (arith, none)

pub settling-start : {L : Layer} {limit : ℕ} {t : List ℕ} {f : Edge} → AllKept L t → PartSettled L limit t f t 0 0
settling-start {L} {limit} {t} {f} kept =
    let all : limit - 0 ≡ limit = omega arith in
    record {
      kept = kept;
      within = omega arith;
      still = rw all (ap (λ (b : Bool). more L f limit (standing t 0 0 b)) (sym (contour-some L f)) ∙ sym (contour-is L limit t f));
    }

module _ {L : Layer} {limit passes total : ℕ} {t₀ t : List ℕ} {f : Edge} (g : PartSettled L limit t₀ f t passes total) where
  abbrev here : Smoothed
  here = standing t passes total false

  abbrev n : ℕ
  n = length (contour_of L f)

  -- the limit is reached
  pub settling-limit : limit ≤ passes → standing t limit total false ≡ smooth_contour L limit t₀ f
  settling-limit l =
      let none : limit - passes ≡ 0 = omega arith in
      let all : limit ≡ passes = omega (arith, g.within) in
      ap (λ (k : ℕ). standing t k total false) all
      ∙ sym (until_none (contour_pass L f) n here)
      ∙ sym (ap (λ (m : ℕ). more L f m here) none)
      ∙ g.still

  -- one pass more
  module _ (sound : Sound L) (stick : is_stick L f ≡ true) {r : PassCounts} {t' : List ℕ} (made : PassMade L t f r t') where
    pub settling-most : (r.total ≤ most_total) × (r.vertices ≤ most_vertices)
    settling-most = (
      omega (arith, ap (λ (p : Pass). p.total) made.pass_is, pass-most sound f stick g.kept),
      omega (arith, made.vertices_is, contour-most sound f stick),
    )

    -- the number p of passes then, and whether the contour is settled
    module _ {p : ℕ} (one : p ≡ passes + 1) (within : p ≤ limit) {settled : Bool} (e : settled ≡ is_settled r.total r.vertices) where
      after : more L f (limit - p) (standing t' p r.total settled) ≡ smooth_contour L limit t₀ f
      after =
          let next : limit - passes ≡ suc (limit - (passes + 1)) = omega arith in
          let is : standing t' (passes + 1) r.total settled ≡ further (contour_pass L f) n here =
          ap (standing t' (passes + 1) r.total) (e ∙ ap (is_settled r.total) made.vertices_is)
          ∙ ap (λ (q : Pass). standing q.table (passes + 1) q.total (is_settled q.total n)) made.pass_is
          ∙ sym (further-is (contour_pass L f) n here) in
          ap (λ (k : ℕ). more L f (limit - k) (standing t' k r.total settled)) one
          ∙ ap (more L f (limit - (passes + 1))) is
          ∙ sym (until-more (contour_pass L f) n (limit - (passes + 1)) here refl)
          ∙ sym (ap (λ (m : ℕ). more L f m here) next)
          ∙ g.still

      pub settling-turn : settled ≡ false → PartSettled L limit t₀ f t' p r.total
      settling-turn y =
          record {
            kept = subst (λ (q : Pass). AllKept L q.table) (sym made.pass_is) (contour_pass-kept sound f stick g.kept);
            within = within;
            still = rw y at after;
          }

      pub settling-settled : settled ≡ true → standing t' p r.total true ≡ smooth_contour L limit t₀ f
      settling-settled y = sym (until-settled (contour_pass L f) n (limit - p) (standing t' p r.total true) refl) ∙ rw y at after
