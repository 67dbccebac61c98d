use Rattle.std.proofs.Common.{sym, ◌∙◌}
use Rattle.checker.proofs.Chaining.{reach_by}
use Rattle.checker.proofs.Counting.{reach_unstarted}
use Rattle.checker.proofs.surveys.Survey.reach.Goals as goal

pub returns-in_default : goal.returns-in_default
returns-in_default c = record { value = reach_unstarted c.args.self.now.store.now (sym c.find.ensures.value ∙ c.in_default.is) }

pub returns : goal.returns
returns c = record { value = reach_by c.args.self.now.store.now _ c.in-Some.start (sym c.find.ensures.value ∙ c.in-Some.is) c.call_table.ensures.value _ c.entered.ensures.value }
