-- What the program writes of a text. It assumes nothing.
use Rattle.std.specs.Prelude.{ℕ, Bool, true, false, List, ◌++◌, length, Ok, Err, codes, decimal, count_by, Result}
use Rattle.lines.specs.Lines.{lines_of}
use Rattle.reader.specs.Reading.{Entry}
use Rattle.reader.specs.declared.faults.BlockFault.{BlockFault}
use Rattle.list.specs.Counted.{is_marked, is_lost}
use Rattle.reports.specs.Refused.{report_of}
use Rattle.list.specs.Rows.{statement_rows, lost_rows}

-- the rows of the statements, a blank line, and the counts; then the jumps without their mark
abbrev pub listing_of : List Entry → List ℕ → List ℕ
listing_of es text =
    statement_rows es 1 1 (lines_of text)
    ++ (codes "\nstatements: " ++ (decimal (length es)
    ++ (codes "\nmarks: " ++ (decimal (count_by is_marked es)
    ++ (codes "\njumps without their mark: " ++ (decimal (count_by is_lost es)
    ++ (codes "\n" ++ lost_rows 1 es)))))))

-- the listing of a text that is read, the report on one that is refused
abbrev pub page_of : Result (List Entry) BlockFault → List ℕ → List ℕ
page_of (Ok es) text = listing_of es text
page_of (Err f) text = report_of f text

abbrev pub is_refused : Result (List Entry) BlockFault → Bool
is_refused (Ok es) = false
is_refused (Err f) = true
