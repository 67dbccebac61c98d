use Rattle.std.proofs.Common.{sym, ◌∙◌}
use Rattle.std.proofs.lemmas.Result.{err_from_is_err_and}
use Rattle.checker.specs.Project.{outermost}
use Rattle.checker.proofs.Chaining.{reached}
use Rattle.checker.proofs.Fitting.{slot_held}
use Rattle.checker.proofs.Judging.{judges_by, judges_unstarted}
use Rattle.checker.proofs.surveys.Survey.verdict.Goals as goal

pub returns-in_err-start : goal.returns-in_err-start
returns-in_err-start c =
    let p = err_from_is_err_and c.from_residual.result c.from_residual.ensures.1 in
    rw (p.1, p.2) (record { value = judges_unstarted c.args.self.now.store.now c.find.result c.in_err-start.field-0.0 c.find.ensures.value c.in_err-start.ensures.value })

pub first-requires-clause-reached : goal.first-requires-clause-reached
first-requires-clause-reached c = reached c.args.self.now.store.now _ c.in_ok-start.start (sym c.find.ensures.value ∙ c.in_ok-start.ensures.ok_part) c.call_table-calls.ensures.value _ _ c.entered.ensures.value c.tenth.ensures.value

pub returns : goal.returns
returns c = record { value = judges_by c.args.self.now.store.now c.first.result c.map_or.result (slot_held c.args.self.now.store.now outermost c.in_ok-start.start (sym c.find.ensures.value ∙ c.in_ok-start.ensures.ok_part)) c.first.ensures.value c.map_or.ensures }
