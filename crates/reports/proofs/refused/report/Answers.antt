use Rattle.reports.specs.Refused.{sentence, report_at, report_of}
use Rattle.reports.proofs.Reporting.{alone, with_line}
use Rattle.reports.proofs.Showing.{made_equal}
use Rattle.reports.proofs.refused.report.Goals as goal

pub returns-in-Empty : goal.returns-in-Empty
returns-in-Empty c =
    let f = c.args.fault in
    let s = c.from-spot.result in
    let w = c.block_words-words.result.now in
    let same = alone f c.refusal-refusal.result s w c.args.text.now c.in-Empty.is c.refusal-refusal.ensures.value c.from-spot.ensures c.block_words-words.ensures.value in
    record { value = made_equal c.sentence.result (sentence c.refusal-refusal.result s w) (report_of f c.args.text.now) same c.sentence.ensures.value }

pub returns-in_default : goal.returns-in_default
returns-in_default c =
    let f = c.args.fault in
    let s = c.from-spot.result in
    let w = c.block_words-words.result.now in
    let same = with_line f c.refusal-refusal.result s w c.args.text.now c.in_default.not-Empty c.refusal-refusal.ensures.value c.from-spot.ensures c.block_words-words.ensures.value in
    record { value = made_equal c.report_at.result (report_at c.refusal-refusal.result s w c.args.text.now) (report_of f c.args.text.now) same c.report_at.ensures.value }
