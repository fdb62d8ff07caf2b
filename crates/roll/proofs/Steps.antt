-- One command after the other: the result of a step, that a roll that passes question 8 goes on from step to step up to its end, and that each
-- step leaves the table accepted.
use mathlib.Core.Path.{◌≡◌, refl, sym, ◌∙◌, ap, subst}
use mathlib.Core.List.{List}
use Rattle.std.specs.Prelude.{Option, Some, None, Ok, Err}
use Prim.Native.Nat.{ℕ, zero, suc, ◌+◌, ◌≤◌, ◌<◌}
use native.Mathlib.Decide.{dec_lt}
use native.Mathlib.Omega.{arith}
use lib.ListN.{length}
use Rattle.grid.specs.Layer.{Layer}
use Rattle.grid.specs.Questions.{if_all_yes, number_of, Answer, Yes}
use Rattle.grid.specs.declared.refusal.Refusal.{Refusal}
use Rattle.grid.specs.declared.refusal.Refusal.TheVariants.{Malformed}
use Rattle.grid.proofs.Answers.{no-not-yes}
use Rattle.table.specs.Stores.{slid, without, pinned}
use Rattle.held.specs.Questions.{Accepted}
use Rattle.roll.specs.Commands.{Command, slides, removes, pins, ends, wrong, command_at, formed_from}
use Rattle.edit.specs.Edits.{Named, edge_named, slide_answer, removal_answer, pin_answer}
use Rattle.edit.specs.Chords.{stored_if}
use Rattle.roll.specs.Steps.{Step, Stepped, stop, stepped, step_on, step_by, slide_step, removal_step, pin_step, step_of, Runnable}
use Rattle.roll.specs.Roll.{Outcome, run_from}
use Rattle.roll.proofs.Forms.{formed-slide, formed-removal, formed-pin, formed-wrong, at_none}
use Rattle.edit.proofs.Asked.{slide-keeps, removal-keeps, pin-keeps}

-- a command that is done, by what comes after it
pub done-next : (known : Option ℕ) {x : Step} {next : Option ℕ} → x ≡ Ok next → next ≡ known → x ≡ Ok known
done-next known e is = e ∙ ap Ok is

-- A step from an answer and a store

step_by_lem : (answer : Answer) (after : ℕ) (t t' : List ℕ) {u : List ℕ} → u ≡ stored_if answer t t'
    → stepped (step_on answer after) u ≡ step_by answer after t t'
step_by_lem Yes after t t' s = ap (stepped (Ok (Some after))) s
step_by_lem (Err e) after t t' s = ap (stepped (Err e)) s

-- of an edit that was answered x and left u
step-made : (after : ℕ) (t t' : List ℕ) {u : List ℕ} {x answer : Answer} → x ≡ answer → u ≡ stored_if x t t'
    → stepped (step_on x after) u ≡ step_by answer after t t'
step-made after t t' {x = x} asked stored =
    step_by_lem x after t t' stored ∙ ap (λ (z : Answer). step_by z after t t') asked

-- The command at a byte of a roll that passes question 8 from there on

module _ (r : List ℕ) (i : ℕ) (formed : formed_from r i ≡ Yes) where
  not-wrong : command_at r i ≡ wrong → ⊥
  not-wrong w = no-not-yes Malformed i (formed-wrong r i w ∙ formed)

  pub formed_below : i < length r
  formed_below = elim (dec_lt i (length r)) [ yes h ↦ h | no h ↦ absurd (not-wrong (at_none r i (omega arith))) ]

module _ (L : Layer) (tolerance : ℕ) (r : List ℕ) (i : ℕ) (t : List ℕ) where
  abbrev by-command : Command → Stepped
  by-command c = elim c [
    | slides s o ↦ slide_step L tolerance i t s o
    | removes s ↦ removal_step L tolerance i t s
    | pins s ↦ pin_step L i t s
    | ends ↦ stepped (Ok None) t
    | wrong ↦ stepped (stop Malformed i) t
  ]

  pub step_is : {c : Command} → command_at r i ≡ c → by-command c ≡ step_of L tolerance r i t
  unfolding step_of
  step_is e = sym (ap by-command e)

  -- an edit that is made at its command
  module _ {u : List ℕ} {x : Answer} {s : Named} where
    pub slide-here : {o : ℕ} → command_at r i ≡ slides s o → x ≡ slide_answer L tolerance t i s o
        → u ≡ stored_if x t (slid L t (edge_named s) o) → stepped (step_on x (i + 7)) u ≡ step_of L tolerance r i t
    unfolding slide_step
    slide-here {o = o} here asked stored = step-made (i + 7) t (slid L t (edge_named s) o) asked stored ∙ step_is here

    pub removal-here : command_at r i ≡ removes s → x ≡ removal_answer L tolerance t i s → u ≡ stored_if x t (without L t (edge_named s))
        → stepped (step_on x (i + 6)) u ≡ step_of L tolerance r i t
    unfolding removal_step
    removal-here here asked stored = step-made (i + 6) t (without L t (edge_named s)) asked stored ∙ step_is here

    pub pin-here : command_at r i ≡ pins s → x ≡ pin_answer L t i s → u ≡ stored_if x t (pinned L t (edge_named s))
        → stepped (step_on x (i + 6)) u ≡ step_of L tolerance r i t
    unfolding pin_step
    pin-here here asked stored = step-made (i + 6) t (pinned L t (edge_named s)) asked stored ∙ step_is here

-- Fuel: as many commands as there are bytes left are enough

abbrev pub refused : ℕ → List ℕ → Refusal → ℕ → Outcome
refused done t q place = record { refusal = number_of q; place = place; done = done; table = t }

abbrev pub stopped : ℕ → List ℕ → Outcome
stopped done t = record { refusal = 0; place = 0; done = done; table = t }

module _ (L : Layer) (tolerance : ℕ) (r : List ℕ) where
  -- the outcome at a command, with `later` the outcome from a place on
  abbrev pub run_by : ℕ → ℕ → List ℕ → (ℕ → List ℕ → Outcome) → Command → Outcome
  run_by i done t later c = elim c [
    | slides s o ↦ if_all_yes (slide_answer L tolerance t i s o) (refused done t) (later (i + 7) (slid L t (edge_named s) o))
    | removes s ↦ if_all_yes (removal_answer L tolerance t i s) (refused done t) (later (i + 6) (without L t (edge_named s)))
    | pins s ↦ if_all_yes (pin_answer L t i s) (refused done t) (later (i + 6) (pinned L t (edge_named s)))
    | ends ↦ stopped done t
    | wrong ↦ stopped done t
  ]

  run-same : (i done : ℕ) (t : List ℕ) (f g : ℕ → List ℕ → Outcome) → ((u : List ℕ) → f (i + 7) u ≡ g (i + 7) u)
      → ((u : List ℕ) → f (i + 6) u ≡ g (i + 6) u)
      → (c : Command) → run_by i done t f c ≡ run_by i done t g c
  run-same i done t f g h k (slides s o) =
      ap (if_all_yes (slide_answer L tolerance t i s o) (refused done t)) (h (slid L t (edge_named s) o))
  run-same i done t f g h k (removes s) =
      ap (if_all_yes (removal_answer L tolerance t i s) (refused done t)) (k (without L t (edge_named s)))
  run-same i done t f g h k (pins s) = ap (if_all_yes (pin_answer L t i s) (refused done t)) (k (pinned L t (edge_named s)))
  run-same i done t f g h k ends = refl
  run-same i done t f g h k wrong = refl

  run-fuel : (n m i done : ℕ) (t : List ℕ) → length r < i + n → length r < i + m
      → run_from L tolerance r n i done t ≡ run_from L tolerance r m i done t
  unfolding run_from
  run-fuel zero zero i done t h k = refl
  run-fuel zero (suc m) i done t h k =
      sym (ap (run_by i done t (λ j u. run_from L tolerance r m j (done + 1) u)) (at_none r i (omega arith)))
  run-fuel (suc n) zero i done t h k =
      ap (run_by i done t (λ j u. run_from L tolerance r n j (done + 1) u)) (at_none r i (omega arith))
  run-fuel (suc n) (suc m) i done t h k =
      run-same i done t (λ j u. run_from L tolerance r n j (done + 1) u) (λ j u. run_from L tolerance r m j (done + 1) u)
      (λ u. run-fuel n m (i + 7) (done + 1) u (omega arith) (omega arith))
      (λ u. run-fuel n m (i + 6) (done + 1) u (omega arith) (omega arith))
      (command_at r i)

  -- the outcome of the commands from a place on
  unfoldable pub ran_from : ℕ → ℕ → List ℕ → Outcome
  unfolding run_from
  ran_from i done t = run_from L tolerance r (length r + 1) i done t

  -- by the step that the command at i makes
  abbrev pub ran-after : ℕ → Stepped → Outcome
  ran-after done x = elim x.step [
    | Ok next ↦ elim next [ Some j ↦ ran_from j (done + 1) x.table | None ↦ stopped done x.table ]
    | Err stopped-by ↦ refused done x.table stopped-by.question stopped-by.place
  ]

  ran_first : (i done : ℕ) (t : List ℕ) → ran_from i done t ≡ run_by i done t (λ j u. ran_from j (done + 1) u) (command_at r i)
  unfolding ran_from
  ran_first i done t = run-fuel (length r + 1) (suc (length r + 1)) i done t (omega arith) (omega arith)

  pub ran-step : (i done : ℕ) (t : List ℕ) → formed_from r i ≡ Yes → ran_from i done t ≡ ran-after done (step_of L tolerance r i t)
  unfolding slide_step removal_step pin_step
  ran-step i done t formed = ran_first i done t ∙ go (command_at r i) refl
    where
      by : (answer : Answer) (j : ℕ) (t' : List ℕ)
          → if_all_yes answer (refused done t) (ran_from j (done + 1) t') ≡ ran-after done (step_by answer j t t')
      by Yes j t' = refl
      by (Err e) j t' = refl

      go : (c : Command) → command_at r i ≡ c
          → run_by i done t (λ j u. ran_from j (done + 1) u) (command_at r i) ≡ ran-after done (step_of L tolerance r i t)
      go (slides s o) e =
          ap (run_by i done t (λ j u. ran_from j (done + 1) u)) e ∙ by (slide_answer L tolerance t i s o) (i + 7) (slid L t (edge_named s) o)
          ∙ ap (ran-after done) (step_is L tolerance r i t e)
      go (removes s) e =
          ap (run_by i done t (λ j u. ran_from j (done + 1) u)) e ∙ by (removal_answer L tolerance t i s) (i + 6) (without L t (edge_named s))
          ∙ ap (ran-after done) (step_is L tolerance r i t e)
      go (pins s) e =
          ap (run_by i done t (λ j u. ran_from j (done + 1) u)) e ∙ by (pin_answer L t i s) (i + 6) (pinned L t (edge_named s))
          ∙ ap (ran-after done) (step_is L tolerance r i t e)
      go ends e = ap (run_by i done t (λ j u. ran_from j (done + 1) u)) e ∙ ap (ran-after done) (step_is L tolerance r i t e)
      go wrong e = absurd (not-wrong r i formed e)

-- A step that goes on leaves the table accepted and the rest of the roll well formed

-- what is known after such a step
record WentOn (L : Layer) (r : List ℕ) (i j : ℕ) (t : List ℕ) : Type 0 where
  here : Runnable L t r j
  further : i < j

stop-not-on : {q : Refusal} {place j : ℕ} → stop q place ≡ Ok (Some j) → ⊥
stop-not-on s = let z : ◌≡◌ {A = ℕ} 0 1 = cc in omega arith

end-not-on : {j : ℕ} → ◌≡◌ {A = Step} (Ok None) (Ok (Some j)) → ⊥
end-not-on s = let z : ◌≡◌ {A = ℕ} 0 1 = cc in omega arith

module _ {j : ℕ} {t' : List ℕ} where
  on-yes : (answer : Answer) (after : ℕ) (t u : List ℕ) → step_by answer after t u ≡ stepped (Ok (Some j)) t'
      → (answer ≡ Yes) × (after ≡ j) × (u ≡ t')
  on-yes Yes after t u h = (refl, (let s : Ok (Some after) ≡ Ok (Some j) = ap (λ (x : Stepped). x.step) h in cc), ap (λ (x : Stepped). x.table) h)
  on-yes (Err e) after t u h = absurd (stop-not-on (ap (λ (x : Stepped). x.step) h))

  step-on : (L : Layer) (tolerance : ℕ) (r : List ℕ) (i : ℕ) (t : List ℕ) → Runnable L t r i
      → step_of L tolerance r i t ≡ stepped (Ok (Some j)) t' → WentOn L r i j t'
  unfolding slide_step removal_step pin_step
  step-on L tolerance r i t k h = go (command_at r i) refl
    where
      made : (answer : Answer) (after : ℕ) (u : List ℕ) → step_by answer after t u ≡ stepped (Ok (Some j)) t' → i < after
          → (answer ≡ Yes → Accepted L u) → formed_from r after ≡ formed_from r i → WentOn L r i j t'
      made answer after u s less keeps same =
          let b = on-yes answer after t u s in
          record {
            here = record {
              accepted = subst (Accepted L) b.2 (keeps b.0);
              formed = ap (formed_from r) (sym b.1) ∙ same ∙ k.formed;
            };
            further = omega (arith, b.1, less);
          }

      go : (c : Command) → command_at r i ≡ c → WentOn L r i j t'
      go (slides s o) e =
          made (slide_answer L tolerance t i s o) (i + 7) (slid L t (edge_named s) o) (step_is L tolerance r i t e ∙ h) (omega arith)
          (slide-keeps L tolerance t i s o k.accepted) (formed-slide r i e)
      go (removes s) e =
          made (removal_answer L tolerance t i s) (i + 6) (without L t (edge_named s)) (step_is L tolerance r i t e ∙ h) (omega arith)
          (removal-keeps L tolerance t i s k.accepted) (formed-removal r i e)
      go (pins s) e =
          made (pin_answer L t i s) (i + 6) (pinned L t (edge_named s)) (step_is L tolerance r i t e ∙ h) (omega arith)
          (pin-keeps L t i s k.accepted) (formed-pin r i e)
      go ends e = absurd (end-not-on (ap (λ (x : Stepped). x.step) (step_is L tolerance r i t e ∙ h)))
      go wrong e = absurd (not-wrong r i k.formed e)

-- A roll that is run: some commands are done, and the outcome from here on is that of the whole roll

pub record Running (L : Layer) (tolerance : ℕ) (r t₀ t : List ℕ) (at done : ℕ) : Type 0 where
  pub here : Runnable L t r at
  pub few : done ≤ at
  pub same : ran_from L tolerance r at done t ≡ ran_from L tolerance r 0 0 t₀

pub running-start : {L : Layer} {t r : List ℕ} (tolerance : ℕ) → Runnable L t r 0 → Running L tolerance r t t 0 0
running-start tolerance k = record { here = k; few = omega arith; same = refl }

module _ {L : Layer} {tolerance : ℕ} {r t₀ t : List ℕ} {at done : ℕ} (running : Running L tolerance r t₀ t at done) where
  -- there are no more commands than bytes
  pub running-few : done < length r
  running-few = omega (arith, running.few, formed_below r at running.here.formed)

  -- the command here, with its step x and the table u after it
  module _ {x : Step} {u : List ℕ} (is : stepped x u ≡ step_of L tolerance r at t) where
    pub running-by : {y : Step} → x ≡ y → ran-after L tolerance r done (stepped y u) ≡ ran_from L tolerance r 0 0 t₀
    running-by e =
        ap (λ (y : Step). ran-after L tolerance r done (stepped y u)) (sym e) ∙ ap (ran-after L tolerance r done) is
        ∙ sym (ran-step L tolerance r at done t running.here.formed) ∙ running.same

    module _ {j : ℕ} (e : x ≡ Ok (Some j)) where
      went : WentOn L r at j u
      went = step-on L tolerance r at t running.here (sym is ∙ ap (λ (y : Step). stepped y u) e)

      pub running-further : (at < j) × (j < length r)
      running-further = (went.further, formed_below r j went.here.formed)

      pub running-on : Running L tolerance r t₀ u j (done + 1)
      running-on = record {
        here = went.here;
        few = omega (arith, went.further, running.few);
        same = running-by e;
      }
