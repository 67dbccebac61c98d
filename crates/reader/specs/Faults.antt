-- What refusal, line and column each fault tells. It assumes nothing.
use Rattle.std.specs.Prelude.{ℕ}
use Rattle.awl.specs.declared.refusals.Refusal.{Refusal}
use Rattle.awl.specs.declared.refusals.Refusal.TheVariants as refusal
use Rattle.lexer.specs.Faults.{kind_refusal}
use Rattle.reader.specs.declared.faults.LineFault.{LineFault}
use Rattle.reader.specs.declared.faults.LineFault.TheVariants.{Byte, Colon, Word}
use Rattle.reader.specs.declared.faults.BlockFault.{BlockFault}
use Rattle.reader.specs.declared.faults.BlockFault.TheVariants.{Line, MarkTwice, Full, Empty}

-- a bad byte is 1, a missing colon 2
abbrev pub line_refusal : LineFault → Refusal
line_refusal (Byte l c) = refusal.Byte
line_refusal (Colon l c) = refusal.Operation
line_refusal (Word w) = kind_refusal w.kind

-- the line of a line's fault
abbrev pub line_of_line : LineFault → ℕ
line_of_line (Byte l c) = l
line_of_line (Colon l c) = l
line_of_line (Word w) = w.line

-- the column of a line's fault
abbrev pub column_of_line : LineFault → ℕ
column_of_line (Byte l c) = c
column_of_line (Colon l c) = c
column_of_line (Word w) = w.column

-- a mark defined twice is 5; a 256th statement is 6 at column 1, no statement 6 at line 0 and column 0
abbrev pub block_refusal : BlockFault → Refusal
block_refusal (Line f) = line_refusal f
block_refusal (MarkTwice l c) = refusal.Mark
block_refusal (Full l) = refusal.StatementCount
block_refusal Empty = refusal.StatementCount

-- the line of a block's fault, from 1; 0 where the text has no statement
abbrev pub line_of_block : BlockFault → ℕ
line_of_block (Line f) = line_of_line f
line_of_block (MarkTwice l c) = l
line_of_block (Full l) = l
line_of_block Empty = 0

-- the column of a block's fault, from 1; 0 where the text has no statement
abbrev pub column_of_block : BlockFault → ℕ
column_of_block (Line f) = column_of_line f
column_of_block (MarkTwice l c) = c
column_of_block (Full l) = 1
column_of_block Empty = 0
