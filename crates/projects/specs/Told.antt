-- What is told of a project file that cannot be cut. It assumes nothing.
use Rattle.std.specs.Prelude.{ℕ, List, ◌++◌, codes, decimal}
use Rattle.awl.specs.Names.{block_name_text}
use Rattle.awl.specs.declared.names.BlockName.{BlockName}
use Rattle.reports.specs.Refused.{pointer}
use Rattle.projects.specs.declared.heads.Head.{Head}
use Rattle.projects.specs.declared.heads.Head.TheVariants.{Block, Data}
use Rattle.projects.specs.declared.heads.HeadFault.{HeadFault}
use Rattle.projects.specs.declared.heads.HeadFlaw.{HeadFlaw}
use Rattle.projects.specs.declared.heads.HeadFlaw.TheVariants.{Byte, Kind, Number, Length, Extra}
use Rattle.projects.specs.declared.sections.FileFault.{FileFault}
use Rattle.projects.specs.declared.sections.FileFault.TheVariants as fault

-- kind and number: PB 3
abbrev pub block_name : BlockName → List ℕ
block_name b = block_name_text b

-- a block or a data block as its head has it, without the length
abbrev pub head_name : Head → List ℕ
head_name (Block b) = block_name b
head_name (Data n l) = codes "DB " ++ decimal n

-- what is wrong with a head
abbrev pub flaw_words : HeadFlaw → List ℕ
flaw_words Byte = codes "a byte that is no printable character"
flaw_words Kind = codes "OB, PB, FB or DB has to stand here"
flaw_words Number = codes "a number from 0 to 255 has to stand here"
flaw_words Length = codes "a number of words has to stand here"
flaw_words Extra = codes "a word too many"

-- a line that starts with a star and is no head: line, column, what is wrong, and the line with a caret
abbrev pub head_report : ℕ → HeadFault → List ℕ → List ℕ
head_report l f file =
    codes "no head at line "
    ++ (decimal l
    ++ (codes ", column " ++ (decimal f.column
    ++ (codes ": " ++ (flaw_words f.flaw
    ++ (codes "\n" ++ pointer (record { line = l; column = f.column }) file))))))

-- a line that is not blank and below no block's head
abbrev pub stray_report : ℕ → List ℕ → List ℕ
stray_report l file =
    codes "no block at line "
    ++ (decimal l
    ++ (codes ": no head of a block, such as * OB 1, stands above it\n"
    ++ pointer (record { line = l; column = 1 }) file))

-- a block that is given a second time: both lines
abbrev pub twice_report : BlockName → ℕ → ℕ → List ℕ → List ℕ
twice_report b first l file =
    codes "twice at line "
    ++ (decimal l
    ++ (codes ": " ++ (block_name b
    ++ (codes " is given at line " ++ (decimal first
    ++ (codes " already\n" ++ pointer (record { line = l; column = 1 }) file))))))

abbrev pub file_report : FileFault → List ℕ → List ℕ
file_report (fault.Head l f) file = head_report l f file
file_report (fault.Stray l) file = stray_report l file
file_report (fault.Twice b first l) file = twice_report b first l file
