use Rattle.std.proofs.Common.{◌≡◌, ◌++◌, string_bytes, codes, decimal}
use Rattle.reports.proofs.Showing.{made_equal}
use Rattle.projects.specs.Told.{stray_report}
use Rattle.projects.proofs.told.stray_report.Goals as goal

pub returns : goal.returns
returns c =
    let there = c.in_ok-there.ensures.value in
    let told = stray_report c.args.line c.args.file.now in
    let written =
    codes "no block at line "
    ++ (decimal c.args.line
    ++ (codes ": no head of a block, such as * OB 1, stands above it\n"
    ++ string_bytes c.in_ok-there.there)) in
    let same : written ≡ told = cc in
    record { value = made_equal c.format.result written told same c.format.ensures.ok }
