use Rattle.std.proofs.Common.{ℕ, ◌+◌, List, length, sym, ap, ◌∙◌, subst, arith}
use Rattle.std.proofs.lemmas.List.{length-set}
use Rattle.checker.specs.Joins.{CallsTo}
use Rattle.checker.proofs.Entering.{calls_more, calls_skip}
use Rattle.checker.proofs.Fitting.{some_is, none_is}
use Rattle.checker.proofs.surveys.Survey.call_table.Goals as goal
use Rattle.checker.proofs.surveys.Survey.call_table.Goals.{then-is_some, else-is_some}

pub loop-slot-preserved : goal.loop-slot-preserved
loop-slot-preserved c =
    let store = c.args.self.now.store.now in
    let i = c.loop-slot.slot in
    let size = c.loop-slot.invariant.1 in
    let inside = c.loop-slot-test.true in
    elim c.if-is_some.branch [
      | then-is_some w ↦
          let found = some_is c.name_at.result (sym c.is_some.ensures ∙ w.if-is_some.true) in
          let named = sym c.name_at.ensures.value ∙ found.1 in
          let of = c.requires i found.0 c.finding-item.result inside named in (
            subst (λ (calls : List ℕ). CallsTo store calls (i + 1)) (sym w.calls-is) (calls_more store c.loop-slot.calls i _ _ found.0 (omega arith) named of.size (w.entered_from.ensures.value found.0 of) c.loop-slot.invariant.0),
            ap length w.calls-is ∙ length-set _ _ _ ∙ size,
          )
      | else-is_some w ↦
          let free = none_is c.name_at.result (sym c.is_some.ensures ∙ w.if-is_some.false) in (
            subst (λ (calls : List ℕ). CallsTo store calls (i + 1)) (sym w.calls-is) (calls_skip store c.loop-slot.calls i (sym c.name_at.ensures.value ∙ free) c.loop-slot.invariant.0),
            ap length w.calls-is ∙ size,
          )
    ]
