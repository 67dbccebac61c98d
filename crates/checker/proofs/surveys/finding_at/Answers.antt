use Rattle.std.proofs.Common.{List, sym, ap, ◌∙◌, subst}
use Rattle.walk.specs.Findings.{Found}
use Rattle.walk.specs.Flows.{flows}
use Rattle.walk.specs.Walk.{Fit}
use Rattle.walk.specs.declared.flows.Flow.{Flow}
use Rattle.checker.proofs.Clearing.{found_or}
use Rattle.checker.proofs.Fitting.{flows_at, fit_at}
use Rattle.checker.proofs.surveys.finding_at.Goals as goal

pub returns : goal.returns
returns c = record {
  value = λ b named.
      let is = flows_at c.args.store.now c.args.slot b named ∙ sym (ap flows c.statements_at.ensures.value) in
      let fit = subst (λ (block : List Flow). Fit block) is (fit_at c.args.store.now c.args.slot b named) in
      subst (λ (block : List Flow). Found block c.unwrap_or.result.sights c.unwrap_or.result.count) (sym is)
      (found_or _ _ c.finding_of.result c.none.result c.unwrap_or.result c.unwrap_or.ensures (λ refused. refused fit c.requires) c.finding_of.ensures.value);
  rest = c.finding_of.ensures.rest;
}
