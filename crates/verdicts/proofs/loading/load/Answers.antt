use Rattle.std.proofs.Common.{sym, ◌∙◌}
use Rattle.verdicts.specs.Loading.{held}
use Rattle.verdicts.proofs.Filling.{answer_more, after_more, answer_refused, after_refused, answer_end, after_end, handed_on}
use Rattle.verdicts.proofs.loading.load.Goals as goal

pub loop-section-preserved : goal.loop-section-preserved
loop-section-preserved c =
    let h = held c.loop-section.store in
    let k = held c.put.new.store in
    let xs = c.args.sections.now in
    (answer_more h k xs c.loop-section.section-index _ c.loop-section-test.true c.in_ok-put.ensures.value c.in_ok-put.ensures.after ∙ c.loop-section.invariant.0, after_more h k xs c.loop-section.section-index _ c.loop-section-test.true c.in_ok-put.ensures.value c.in_ok-put.ensures.after ∙ c.loop-section.invariant.1)

pub returns-in_err-put : goal.returns-in_err-put
returns-in_err-put c =
    let h = held c.loop-section.store in
    let k = held c.put.new.store in
    let xs = c.args.sections.now in
    let r = c.in_err-put.field-0.0 in
    record {
      value = handed_on c.from_residual.result r c.from_residual.ensures.1 ∙ answer_refused h xs c.loop-section.section-index _ r c.loop-section-test.true c.in_err-put.ensures.value ∙ c.loop-section.invariant.0;
      after = after_refused h k xs c.loop-section.section-index _ r c.loop-section-test.true c.in_err-put.ensures.value c.in_err-put.ensures.after ∙ c.loop-section.invariant.1;
    }

pub returns : goal.returns
returns c =
    let h = held c.loop-section.store in
    let xs = c.args.sections.now in
    record {
      value = sym (answer_end h xs c.loop-section.section-index c.loop-section-test.false) ∙ c.loop-section.invariant.0;
      after = sym (after_end h xs c.loop-section.section-index c.loop-section-test.false) ∙ c.loop-section.invariant.1;
    }
