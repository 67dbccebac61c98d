-- What is told of the first fault that a check finds. It assumes nothing.
use Rattle.std.specs.Prelude.{ℕ, ◌-◌, List, [], ◌++◌, map, Some, None, codes, decimal, Option, slice_index_or}
use Rattle.lines.specs.Lines.{lines_of}
use Rattle.reports.specs.Shown.{shown_byte}
use Rattle.projects.specs.Told.{block_name}
use Rattle.walk.specs.Faults.{fault_number}
use Rattle.walk.specs.declared.faults.Fault.{Fault}
use Rattle.walk.specs.declared.faults.Fault.TheVariants.{MarkMissing, BlockNotHeld, SixthBracket, NoneOpen, BracketsOpen, RunsOut, DataNotHeld, EleventhCall, NoStart}
use Rattle.checker.specs.declared.verdicts.Found.{Found}

-- what a fault means
abbrev pub fault_words : Fault → List ℕ
fault_words MarkMissing = codes "no statement of the block carries the mark of this jump"
fault_words BlockNotHeld = codes "the block that is called here is not in the project"
fault_words SixthBracket = codes "a sixth bracket can be opened here, and five is the most"
fault_words NoneOpen = codes "a bracket can be closed here where none is open"
fault_words BracketsOpen = codes "a call or a block's end that can be come to with a bracket open"
fault_words RunsOut = codes "the block ends here, and a scan can run on past its last statement"
fault_words DataNotHeld = codes "the data block that is chosen here is not in the project"
fault_words EleventhCall = codes "an eleventh call can be open here, and ten is the most"
fault_words NoStart = codes "there is no OB 1, so no scan can start"

-- K number, line, block and statement
abbrev pub place_told : Found → ℕ → List ℕ
place_told f line =
    codes "K"
    ++ (decimal (fault_number f.fault)
    ++ (codes " at line " ++ (decimal line
    ++ (codes ", " ++ (block_name f.block
    ++ (codes ", statement " ++ decimal f.statement))))))

-- a fault at a line of the file: where it stands, what it means, and the line itself
abbrev pub placed_report : Found → ℕ → List ℕ → List ℕ
placed_report f line file =
    place_told f line
    ++ (codes ": " ++ (fault_words f.fault
    ++ (codes "\n" ++ (map shown_byte (slice_index_or (lines_of file) (line - 1) []) ++ codes "\n"))))

-- a fault that stands at no line
abbrev pub placeless_report : Fault → List ℕ
placeless_report f = codes "K" ++ (decimal (fault_number f) ++ (codes ": " ++ (fault_words f ++ codes "\n")))

abbrev pub found_report : Found → Option ℕ → List ℕ → List ℕ
found_report f (Some line) file = placed_report f line file
found_report f None file = placeless_report f.fault
