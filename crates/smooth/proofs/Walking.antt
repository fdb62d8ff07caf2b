-- What a loop along a contour cites that visits its vertices and keeps the previous vertex's position: the invariant `PartVisited`, what it
-- gives at a turn, and the next turn's. `NextVertex` is what the code finds of the next vertex before it takes the step.
use mathlib.Core.Path.{◌≡◌, refl, sym, ◌∙◌, ap, subst}
use mathlib.Core.Logic.{◌≢◌}
use mathlib.Core.Bool.{Bool, true, false, cond}
use mathlib.Core.List.{List, [], ◌∷◌, foldl}
use Prim.Native.Nat.{ℕ, ◌+◌, ◌≤◌, ◌<◌}
use native.Mathlib.Omega.{arith}
use lib.ListN.{length, get_or, set}
use Rattle.arith.proofs.Booleans.{both-sides}
use Rattle.grid.specs.Layer.{Layer}
use Rattle.grid.specs.Edges.{number, edge_count, is_stick}
use Rattle.grid.specs.Questions.{Sound}
use Rattle.grid.specs.declared.edge.Edge.{Edge}
use Rattle.step.specs.Walk.{next, prev}
use Rattle.step.proofs.Walks.{next-stick, prev-stick, prev_next}
use Rattle.contour.specs.Walk.{path, rest}
use Rattle.contour.specs.Contours.{walk_of, contour_of, same_edge}
use Rattle.contour.proofs.Orbit.{number-inj}
use Rattle.contour.proofs.Loop.{Due, start, due-one, due-next, rest_more, rest-last, turn, shorter, last}
use Rattle.contour.proofs.Sticks.{laws, stick-in}
use Rattle.chord.specs.Points.{Position, position}
use Rattle.chord.specs.Crossing.{distance}
use Rattle.chord.specs.Runs.{Near, NearEdge}
use Rattle.table.specs.Entries.{entry_of, encoded, suits}
use Rattle.table.specs.Vertices.{entry_at, pinned_at, offset_at}
use Rattle.table.specs.Lent.{LentAt}
use Rattle.table.specs.declared.entry.Entry.TheVariants.{Kept}
use Rattle.table.proofs.Entries.{kept-suits}
use Rattle.table.proofs.Lent.{has-entry, place-within}
use Rattle.table.proofs.AllKept.{AllKept, all-kept-of}
use Rattle.drawn.specs.Drawn.{vertex}
use Rattle.drawn.proofs.Runs.{in-grid-near}
use Rattle.offset.specs.Offset.{new_offset}
use Rattle.smooth.specs.Smooth.{smoothed_at, Pass, passed, visit, pass_contour, contour_pass, Smoothable, SmoothableAt}
use Rattle.smooth.specs.Visit.{offset_of, pinned_of, Visitable, Visited, PassMade}
use Rattle.smooth.specs.declared.pass.Stepped.{Stepped}
use Rattle.smooth.proofs.Steps.{visit-skips, visit-slides, visit-more, visit-kept, slid-here, neighbours-around}

pub smoothable-kept : {L : Layer} {t : List ℕ} → Smoothable L t → AllKept L t
smoothable-kept {L} {t} given = all-kept-of L t given.sound given.exact given.entries given.all_kept

-- A stick, its entry and its neighbours

pub lent-first : {L : Layer} {t : List ℕ} {f : Edge} → SmoothableAt L t f → LentAt L t f
lent-first given = record { sound = given.table.sound; exact = given.table.exact; stick = given.stick }

module _ {L : Layer} {t : List ℕ} {e : Edge} (given : LentAt L t e) where
  pub stick-near : NearEdge e
  stick-near = in-grid-near L.size given.sound.whole.sized e (stick-in L e given.stick)

  pub lent-next : {e' : Edge} → e' ≡ next L e → LentAt L t e'
  lent-next step = record { sound = given.sound; exact = given.exact; stick = rw step (next-stick L given.sound e given.stick) }

  pub lent-previous : {x : Edge} → x ≡ prev L e → LentAt L t x
  lent-previous step = record { sound = given.sound; exact = given.exact; stick = rw step (prev-stick L given.sound e given.stick) }

  module _ {k : ℕ} (k-is : k ≡ number L.size e) where
    pub entry-within : k < length t
    entry-within = omega (arith, k-is, place-within (has-entry given))

    pub entry-suits : AllKept L t → suits true (entry_of (get_or t k 0)) ≡ true
    entry-suits kept = rw k-is (kept-suits (entry_at L t e) (kept.on_sticks e given.stick))

    offset-is : offset_of t k ≡ offset_at L t e
    unfolding offset_at
    offset-is = ap (offset_of t) k-is

    pin-is : pinned_of t k ≡ pinned_at L t e
    unfolding pinned_at
    pin-is = ap (pinned_of t) k-is

-- sticks are told apart by their numbers
module _ (L : Layer) (sound : Sound L) (x f : Edge) (one : is_stick L x ≡ true) (other : is_stick L f ≡ true) where
  same_number : number L.size x ≡ number L.size f → same_edge x f ≡ true
  same_number e =
      let law = laws L sound in
      subst (λ (y : Edge). same_edge x y ≡ true) (number-inj (walk_of L) law x f one other e) (law.same_self x)

  other-number : number L.size x ≢ number L.size f → same_edge x f ≡ false
  other-number n = both-sides (same_edge x f) (λ y. absurd (n (ap (number L.size) ((laws L sound).same_eq x f y)))) (λ y. y)

-- a total only grows
visits-grow : (L : Layer) (c : List Edge) (s : Pass) → s.total ≤ (foldl (visit L) s c).total
visits-grow L [] s = omega arith
visits-grow L (e ∷ c) s = omega (arith, visits-grow L c (visit L s e), visit-more L s e)

visit-grows : (L : Layer) (f e : Edge) (s : Pass) → (visit L s e).total ≤ (foldl (visit L) s (rest (walk_of L) e f)).total
unfolding rest
visit-grows L f e s = visits-grow L (path (walk_of L) (edge_count L.size) (next L e) f) (visit L s e)

-- the step as the code takes it: a pinned vertex is skipped, any other is slid
module _ {t : List ℕ} {k : ℕ} {p q : Position} {e : Edge} where
  pub visited-skips : {o : ℕ} → pinned_of t k ≡ true → o ≡ offset_of t k → Visited t k p q e (record { offset = o; change = 0 }) t
  visited-skips {o} pin old = record {
    offset = old ∙ sym (ap (λ (b : Bool). cond b (offset_of t k) (new_offset p q e (offset_of t k))) pin);
    change = omega (arith, old);
    table = sym (ap (λ (b : Bool). cond b t (set t k (encoded (Kept o)))) pin);
  }

  pub visited-slides : {o n : ℕ} {t' : List ℕ} → pinned_of t k ≡ false → o ≡ new_offset p q e (offset_of t k) → n ≡ distance (offset_of t k) o
      → t' ≡ set t k (encoded (Kept o)) → Visited t k p q e (record { offset = o; change = n }) t'
  visited-slides {o} unpinned new change stored = record {
    offset = new ∙ sym (ap (λ (b : Bool). cond b (offset_of t k) (new_offset p q e (offset_of t k))) unpinned);
    change = change;
    table = stored ∙ sym (ap (λ (b : Bool). cond b t (set t k (encoded (Kept o)))) unpinned);
  }

-- what the code finds before the step at e: the next stick, the place of its entry, and its vertex
pub record NextVertex (L : Layer) (t : List ℕ) (e e' : Edge) (k' : ℕ) (q : Position) : Type 0 where
  pub stick_is : e' ≡ next L e
  pub place_is : k' ≡ number L.size e'
  pub q_is : q ≡ position e' (offset_of t k')
  pub q_near : Near q

-- by what the calls give: o is the offset of its entry
pub next-vertex : {L : Layer} {e e' : Edge} {k' o : ℕ} {q : Position} (t : List ℕ) → e' ≡ next L e → k' ≡ number L.size e'
    → o ≡ offset_of t k' → q ≡ position e' o → Near q → NextVertex L t e e' k' q
next-vertex {e' = e'} t stick_is place_is offset-is q_is near =
    record { stick_is = stick_is; place_is = place_is; q_is = q_is ∙ ap (position e') offset-is; q_near = near }

-- A walk round the contour of f, begun with the table t₀, stands with t and the total n at e, whose entry is at k, the previous vertex being at p,
-- and v vertices are visited: visiting what is left, from here, gives the pass over the whole contour.
pub record PartVisited (L : Layer) (f : Edge) (t₀ t : List ℕ) (e : Edge) (k : ℕ) (p : Position) (n v : ℕ) : Type 0 where
  pub due : Due (walk_of L) f e
  pub kept : AllKept L t
  pub place_is : k ≡ number L.size e
  pub p_is : p ≡ vertex L t (prev L e)
  pub p_near : Near p
  pub still : foldl (visit L) (passed t n) (rest (walk_of L) e f) ≡ contour_pass L f t₀
  pub in_all : v + length (rest (walk_of L) e f) ≡ length (contour_of L f)

-- the walk starts, with the vertex of the stick x before it
pub visits-start : {L : Layer} {t : List ℕ} {f x : Edge} {k : ℕ} {p : Position} → LentAt L t f → AllKept L t → k ≡ number L.size f
    → x ≡ prev L f → p ≡ position x (offset_of t (number L.size x)) → Near p
    → PartVisited L f t t f k p 0 0
unfolding pass_contour offset_at
visits-start {L} {t} {f} given kept place_is x_is p_is near =
    record {
      due = start (walk_of L) (laws L given.sound) f given.stick;
      kept = kept;
      place_is = place_is;
      p_is = p_is ∙ ap (vertex L t) x_is;
      p_near = near;
      still = refl;
      in_all = omega arith;
    }

module _ {L : Layer} (sound : Sound L) {f e : Edge} {t₀ t : List ℕ} {k n v : ℕ} {p : Position} (g : PartVisited L f t₀ t e k p n v) where
  pub visits-here : LentAt L t e
  visits-here = record { sound = sound; exact = g.kept.whole; stick = due-one (walk_of L) (laws L sound) f e g.due }

  pub visits-there : {e' : Edge} → e' ≡ next L e → LentAt L t e'
  visits-there step = lent-next visits-here step

  old-is : offset_of t k ≡ offset_at L t e
  old-is = offset-is visits-here g.place_is

  module _ {e' : Edge} {k' : ℕ} {q : Position} (ahead : NextVertex L t e e' k' q) where
    next-is : q ≡ vertex L t (next L e)
    unfolding offset_at
    next-is = ahead.q_is ∙ ap (λ (i : ℕ). position e' (offset_of t i)) ahead.place_is ∙ ap (vertex L t) ahead.stick_is

    pub visitable : Visitable t k p q e
    visitable =
        record {
          within = entry-within visits-here g.place_is;
          kept = entry-suits visits-here g.place_is g.kept;
          movable =
              record {
                p_near = g.p_near;
                q_near = ahead.q_near;
                e_near = stick-near visits-here;
                around = rw (g.p_is, next-is, old-is) (neighbours-around sound g.kept e visits-here.stick);
              };
        }

    there : LentAt L t e'
    there = visits-there ahead.stick_is

    apart : k' ≢ number L.size f → same_edge e' f ≡ false
    apart differ = other-number L sound e' f there.stick g.due.start_one (λ i. differ (ahead.place_is ∙ i))

    -- one vertex more is visited
    pub visits-few : v + 1 ≤ length (contour_of L f)
    unfolding rest
    visits-few = omega (arith, g.in_all)

    pub visits-less : k' ≢ number L.size f → length (rest (walk_of L) e' f) < length (rest (walk_of L) e f)
    visits-less differ = shorter (walk_of L) (laws L sound) f e e' g.due ahead.stick_is (apart differ)

    -- the step is that of the rule
    module _ {r : Stepped} {t' : List ℕ} (step : Visited t k p q e r t') where
      -- of a pinned vertex, which it skips
      module _ (pin : pinned_at L t e ≡ true) where
        as_found : t' ≡ t
        as_found = rw (pin-is visits-here g.place_is ∙ pin) at step.table

        offset-stays : r.offset ≡ offset_of t k
        offset-stays = rw (pin-is visits-here g.place_is ∙ pin) at step.offset

        skips : passed t' (n + r.change) ≡ visit L (passed t n) e
        skips =
            let none : n + r.change ≡ n = omega (arith, step.change, offset-stays) in
            (λ i. passed (as_found i) (none i)) ∙ sym (visit-skips L (passed t n) e pin)

      -- and of any other, which it slides
      module _ (unpinned : pinned_at L t e ≡ false) where
        smoothed : r.offset ≡ smoothed_at L t e
        smoothed =
            let new : r.offset ≡ new_offset p q e (offset_of t k) = rw (pin-is visits-here g.place_is ∙ unpinned) at step.offset in
            new ∙ (λ i. new_offset (g.p_is i) (next-is i) e (old-is i))

        slides : passed t' (n + r.change) ≡ visit L (passed t n) e
        slides =
            let stored : t' ≡ set t k (encoded (Kept r.offset)) = rw (pin-is visits-here g.place_is ∙ unpinned) at step.table in
            let slid = stored ∙ (λ i. set t (g.place_is i) (encoded (Kept (smoothed i)))) in
            let change = step.change ∙ (λ i. distance (old-is i) (smoothed i)) in
            (λ i. passed (slid i) (n + change i)) ∙ sym (visit-slides L (passed t n) e unpinned)

      step_is : passed t' (n + r.change) ≡ visit L (passed t n) e
      step_is = both-sides (pinned_at L t e) skips slides

      pub visited-kept : AllKept L t'
      visited-kept =
          subst (λ (s : Pass). AllKept L s.table) (sym step_is) (visit-kept sound (passed t n) g.kept e visits-here.stick)

      -- the offset after the step is in the table
      new-there : r.offset ≡ offset_at L t' e
      new-there = both-sides (pinned_at L t e)
          (λ pin. offset-stays pin ∙ old-is ∙ sym (ap (λ (u : List ℕ). offset_at L u e) (as_found pin)))
          (λ unpinned.
          smoothed unpinned ∙ sym (slid-here sound (passed t n) g.kept e visits-here.stick)
          ∙ sym (ap (λ (s : Pass). offset_at L s.table e) (step_is ∙ visit-slides L (passed t n) e unpinned)))

      pub total-within : n + r.change ≤ (contour_pass L f t₀).total
      total-within =
          omega (
            arith,
            ap (λ (s : Pass). s.total) step_is,
            visit-grows L f e (passed t n),
            ap (λ (s : Pass). s.total) g.still,
          )

      pub visits-turn : {p' : Position} → p' ≡ position e r.offset → Near p' → k' ≢ number L.size f
          → PartVisited L f t₀ t' e' k' p' (n + r.change) (v + 1)
      visits-turn p'-is near differ =
          let back : prev L e' ≡ e = ap (prev L) ahead.stick_is ∙ prev_next L sound e visits-here.stick in
          record {
            due = due-next (walk_of L) (laws L sound) f e e' g.due ahead.stick_is;
            kept = visited-kept;
            place_is = ahead.place_is;
            p_is = p'-is ∙ ap (position e) new-there ∙ ap (vertex L t') (sym back);
            p_near = near;
            still =
                ap (λ (s : Pass). foldl (visit L) s (rest (walk_of L) e' f)) step_is
                ∙ turn (walk_of L) (laws L sound) f e e' g.due ahead.stick_is (apart differ) (visit L) (passed t n) _ g.still;
            in_all = omega (arith, g.in_all, ap length (rest_more (walk_of L) (laws L sound) f e e' g.due ahead.stick_is (apart differ)));
          }

      pub visits-last : k' ≡ number L.size f → PassMade L t₀ f (record { total = n + r.change; vertices = v + 1 }) t'
      visits-last home =
          let same = same_number L sound e' f there.stick g.due.start_one (sym ahead.place_is ∙ home) in
          record {
            pass_is = step_is ∙ last (walk_of L) (laws L sound) f e e' g.due ahead.stick_is same (visit L) (passed t n) _ g.still;
            vertices_is = omega (arith, g.in_all, ap length (rest-last (walk_of L) (laws L sound) f e e' g.due ahead.stick_is same));
          }
