-- Whether a block is fit to be walked.
use Rattle.std.proofs.Common.{◌≡◌, ℕ, ◌+◌, ◌-◌, ◌<◌, ◌≤◌, Bool, true, false, ◌⊎◌, List, length, get_or, Decides, sym, refl, ap, ◌∙◌, subst, ⊎_elim, arith}
use Rattle.std.proofs.lemmas.Bool.{both_ways, cases_lt}
use Rattle.parser.specs.Statements.{written}
use Rattle.awl.specs.declared.statements.Statement.{Statement}
use Rattle.walk.specs.Flows.{flow, flows_of}
use Rattle.walk.specs.Walk.{flow_at, AimedInto, Aimed, Fit}
use Rattle.walk.specs.declared.flows.Flow.{Flow}
use Rattle.walk.proofs.Flowing.{length-flows, flow_read}

module _ (xs : List Statement) where
  -- the flow of the statement at an index
  flow_here : (i : ℕ) (y : Statement) → i < length xs → y ≡ get_or xs i y → flow_at (flows_of xs) (i + 1) ≡ flow (written y)
  flow_here i y inside is =
      let back : i + 1 - 1 ≡ i = omega arith in
      flow_read xs (i + 1) y (omega arith) (omega arith) ∙ (ap (λ (j : ℕ). flow (written (get_or xs j y))) back ∙ ap (λ (z : Statement). flow (written z)) (sym is))

  -- a statement's jump is aimed where it goes to one of so many as the block has
  pub aimed_here : (i : ℕ) (y : Statement) (x : Flow) (b : Bool) → i < length xs → y ≡ get_or xs i y → x ≡ flow (written y) →
      Decides b (AimedInto x (length xs)) → Decides b (Aimed (flows_of xs) (i + 1))
  aimed_here i y x b inside is e d =
      subst (λ (n : ℕ). Decides b (AimedInto (flow_at (flows_of xs) (i + 1)) n)) (sym (length-flows xs))
      (subst (λ (z : Flow). Decides b (AimedInto z (length xs))) (e ∙ sym (flow_here i y inside is)) d)

  pub unfit_size : (length xs ≡ 0) ⊎ (255 < length xs) → Decides false (Fit (flows_of xs))
  unfit_size size = (
    λ e. absurd (both_ways _ refl e),
    λ fit.
        let some = fit.some in
        let few = fit.few in
        let long = length-flows xs in
        ⊎_elim (λ (e : length xs ≡ 0). absurd (omega arith)) (λ (l : 255 < length xs). absurd (omega arith)) size,
  )

  pub unfit_jump : (i : ℕ) → i < length xs → (Aimed (flows_of xs) (i + 1) → ⊥) → Decides false (Fit (flows_of xs))
  unfit_jump i inside astray = (λ e. absurd (both_ways _ refl e), λ fit. absurd (astray (fit.aimed (i + 1) (omega arith) (let long = length-flows xs in omega arith))))

  -- one statement more
  pub aimed_more : (i : ℕ) → Aimed (flows_of xs) (i + 1) → ((s : ℕ) → 1 ≤ s → s ≤ i → Aimed (flows_of xs) s) → (s : ℕ) → 1 ≤ s → s ≤ i + 1 → Aimed (flows_of xs) s
  aimed_more i here before s low high = ⊎_elim
      (λ (l : s < i + 1). before s low (omega arith))
      (λ (l : i + 1 ≤ s). let e : i + 1 ≡ s = omega arith in subst (λ (t : ℕ). Aimed (flows_of xs) t) e here)
      (cases_lt s (i + 1))

  pub fit_all : (i : ℕ) → 0 < length xs → length xs ≤ 255 → length xs ≤ i → ((s : ℕ) → 1 ≤ s → s ≤ i → Aimed (flows_of xs) s) → Decides true (Fit (flows_of xs))
  fit_all i some few end all =
      let long = length-flows xs in
      (λ e. record { some = omega arith; few = omega arith; aimed = λ s low high. all s low (omega arith) }, λ fit. refl)
