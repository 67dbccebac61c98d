-- The report on a refusal. It assumes nothing.
use Rattle.std.specs.Prelude.{ℕ, ◌-◌, List, [], ◌++◌, map, codes, decimal, slice_index_or}
use Rattle.awl.specs.Refusals.{refusal_number}
use Rattle.awl.specs.declared.refusals.Refusal.{Refusal}
use Rattle.reader.specs.Faults.{block_refusal, line_of_block, column_of_block}
use Rattle.lines.specs.Lines.{lines_of}
use Rattle.reader.specs.declared.faults.BlockFault.{BlockFault}
use Rattle.reader.specs.declared.faults.BlockFault.TheVariants.{Line, MarkTwice, Full, Empty}
use Rattle.reports.specs.Shown.{shown_byte, spaces}
use Rattle.reports.specs.Words.{block_words}
use Rattle.reports.specs.declared.refused.Spot.{Spot}

-- refusal number, line, column, and what is wrong
abbrev pub sentence : Refusal → Spot → List ℕ → List ℕ
sentence r at words =
    codes "refused "
    ++ (decimal (refusal_number r)
    ++ (codes " at line " ++ (decimal at.line
    ++ (codes ", column " ++ (decimal at.column
    ++ (codes ": " ++ (words ++ codes "\n")))))))

-- the line of a spot of a text, and below it a caret under the column
abbrev pub pointer : Spot → List ℕ → List ℕ
pointer at text =
    map shown_byte (slice_index_or (lines_of text) (at.line - 1) [])
    ++ (codes "\n" ++ (spaces (at.column - 1) ++ codes "^\n"))

-- a refusal at a spot of a text: what is wrong, and where it stands
abbrev pub report_at : Refusal → Spot → List ℕ → List ℕ → List ℕ
report_at r at words text = sentence r at words ++ pointer at text

-- where a block's fault stands
abbrev pub spot_of : BlockFault → Spot
spot_of f = record { line = line_of_block f; column = column_of_block f }

-- the report on a block's fault; where the text has no statement, there is no line to show
abbrev pub report_of : BlockFault → List ℕ → List ℕ
report_of (Line f) text = report_at (block_refusal (Line f)) (spot_of (Line f)) (block_words (Line f)) text
report_of (MarkTwice l c) text = report_at (block_refusal (MarkTwice l c)) (spot_of (MarkTwice l c)) (block_words (MarkTwice l c)) text
report_of (Full l) text = report_at (block_refusal (Full l)) (spot_of (Full l)) (block_words (Full l)) text
report_of Empty text = sentence (block_refusal Empty) (spot_of Empty) (block_words Empty)
