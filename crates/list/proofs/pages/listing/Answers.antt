use Rattle.std.proofs.Common.{◌≡◌, ◌++◌, string_bytes, codes, decimal, arith}
use Rattle.reader.specs.Listed.{listed}
use Rattle.list.specs.Pages.{listing_of}
use Rattle.reports.proofs.Showing.{made_equal}
use Rattle.reader.proofs.Carrying.{listed-length}
use Rattle.list.proofs.pages.listing.Goals as goal

pub returns : goal.returns
returns c =
    let ls = c.args.block.now.lines in
    let n = c.args.block.now.count in
    let room = c.args.block.now.room in
    let few = c.args.block.now.few in
    let size = listed-length ls n (omega arith) in
    let rows = c.in_ok-rows.ensures.value in
    let marks = c.marks-marks.ensures.value in
    let lost = c.lost_jumps-lost.ensures.value in
    let lost_rows = c.in_ok-lost_rows.ensures.value in
    let written =
    string_bytes c.in_ok-rows.rows
    ++ (codes "\nstatements: " ++ (decimal n
    ++ (codes "\nmarks: " ++ (decimal c.marks-marks.result
    ++ (codes "\njumps without their mark: " ++ (decimal c.lost_jumps-lost.result
    ++ (codes "\n" ++ string_bytes c.in_ok-lost_rows.lost_rows))))))) in
    let same : written ≡ listing_of (listed ls n) c.args.text.now = cc in
    record { value = made_equal c.format.result written (listing_of (listed ls n) c.args.text.now) same c.format.ensures.ok }
