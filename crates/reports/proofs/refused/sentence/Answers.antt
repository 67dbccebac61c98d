use Rattle.std.proofs.Common.{◌≡◌, ◌++◌, codes, decimal}
use Rattle.reports.specs.Refused.{sentence}
use Rattle.reports.proofs.Showing.{made_equal}
use Rattle.reports.proofs.refused.sentence.Goals as goal

pub returns : goal.returns
returns c =
    let number = c.number-number.ensures.value in
    let told = sentence c.args.refusal c.args.spot c.args.words.now in
    let written =
    codes "refused "
    ++ (decimal c.number-number.result
    ++ (codes " at line " ++ (decimal c.args.spot.line
    ++ (codes ", column " ++ (decimal c.args.spot.column
    ++ (codes ": " ++ (c.args.words.now ++ codes "\n"))))))) in
    let same : written ≡ told = cc in
    record { value = made_equal c.format.result written told same c.format.ensures.ok }
