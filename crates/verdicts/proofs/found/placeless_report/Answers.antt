use Rattle.std.proofs.Common.{◌≡◌, ◌++◌, codes, decimal}
use Rattle.reports.proofs.Showing.{made_equal}
use Rattle.verdicts.specs.Found.{placeless_report}
use Rattle.verdicts.proofs.found.placeless_report.Goals as goal

pub returns : goal.returns
returns c =
    let number = c.number-number.ensures.value in
    let words = c.fault_words-words.ensures.value in
    let told = placeless_report c.args.fault in
    let written =
    codes "K"
    ++ (decimal c.number-number.result
    ++ (codes ": " ++ (c.fault_words-words.result.now ++ codes "\n"))) in
    let same : written ≡ told = cc in
    record { value = made_equal c.format.result written told same c.format.ensures.ok }
