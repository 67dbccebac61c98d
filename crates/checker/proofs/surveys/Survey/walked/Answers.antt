use Rattle.std.proofs.Common.{◌≡◌, sum_by, sym, ap, ◌∙◌, arith}
use Rattle.std.proofs.lemmas.List.{get_or_default}
use Rattle.walk.specs.declared.sights.Finding.{Finding}
use Rattle.checker.proofs.Counting.{added, adds_held, adds_free, sum_more, counts_all, some_finding, all_slots}
use Rattle.checker.proofs.Fitting.{some_is, none_is}
use Rattle.checker.proofs.surveys.Survey.walked.Goals as goal
use Rattle.checker.proofs.surveys.Survey.walked.Goals.{then-is_some, else-is_some}

pub loop-slot-preserved : goal.loop-slot-preserved
loop-slot-preserved c =
    let store = c.args.self.now.store.now in
    let findings = c.args.self.now.findings in
    let reach = c.reach-reach.result in
    let i = c.loop-slot.slot in
    let inside = c.loop-slot-test.true in
    let inv = c.loop-slot.invariant in
    let high = inv.1 in
    elim c.if-is_some.branch [
      | then-is_some w ↦
          let found = some_is c.name_at.result (sym c.is_some.ensures ∙ w.if-is_some.true) in
          let named = sym c.name_at.ensures.value ∙ found.1 in
          let few = w.seen_at-total.ensures.bound in
          let is = w.total-is in (
            λ d. is ∙ sum_more store findings reach d i c.loop-slot.total _ inside (w.seen_at-total.ensures.value ∙ adds_held store findings reach d i found.0 _ named (get_or_default findings i c.finding-item.result d (omega arith))) (inv.0 d),
            omega arith,
          )
      | else-is_some w ↦
          let is = w.total-is in
          let free = sym c.name_at.ensures.value ∙ none_is c.name_at.result (sym c.is_some.ensures ∙ w.if-is_some.false) in (
            λ d. let e = sum_more store findings reach d i c.loop-slot.total 0 inside (adds_free store findings reach d i free) (inv.0 d) in omega arith,
            omega arith,
          )
    ]

pub returns : goal.returns
returns c =
    let store = c.args.self.now.store.now in
    let findings = c.args.self.now.findings in
    let reach = c.reach-reach.result in
    let d : Finding = some_finding findings (omega arith) in
    let end : c.loop-slot.slot ≡ 32 = (let low = c.loop-slot-test.false in let high = c.loop-slot.auto.slot-end in omega arith) in
    let all = all_slots store c.loop-slot.slot end in
    record { value = counts_all store findings reach d c.loop-slot.total c.requires c.reach-reach.ensures.value (c.loop-slot.invariant.0 d ∙ ap (sum_by (added store findings reach d)) all) }
