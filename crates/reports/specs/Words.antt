-- What is wrong with a text, in plain words. It assumes nothing.
use Rattle.std.specs.Prelude.{ℕ, List, codes}
use Rattle.awl.specs.declared.refusals.Refusal.{Refusal}
use Rattle.awl.specs.declared.refusals.Refusal.TheVariants as refusal
use Rattle.lexer.specs.declared.faults.Flaw.{Flaw}
use Rattle.lexer.specs.declared.faults.Flaw.TheVariants.{Missing, Malformed, Extra}
use Rattle.lexer.specs.declared.faults.WordKind.{WordKind}
use Rattle.lexer.specs.declared.faults.WordKind.TheVariants as kind
use Rattle.reader.specs.declared.faults.LineFault.{LineFault}
use Rattle.reader.specs.declared.faults.LineFault.TheVariants.{Byte, Colon, Word}
use Rattle.reader.specs.declared.faults.BlockFault.{BlockFault}
use Rattle.reader.specs.declared.faults.BlockFault.TheVariants.{Line, MarkTwice, Full, Empty}

-- a word that is not there
abbrev pub missing_words : WordKind → List ℕ
missing_words kind.Mark = codes "the mark is missing"
missing_words kind.Operation = codes "the operation is missing"
missing_words kind.Operand = codes "the operand is missing"
missing_words kind.Number = codes "the number is missing"

-- a word that is none of its kind
abbrev pub malformed_words : WordKind → List ℕ
malformed_words kind.Mark = codes "not a mark (a capital, then up to five capitals or digits)"
malformed_words kind.Operation = codes "there is no such operation"
malformed_words kind.Operand = codes "no operand of this operation"
malformed_words kind.Number = codes "no number that fits here"

-- what is wrong with a word
abbrev pub word_words : WordKind → Flaw → List ℕ
word_words k Missing = missing_words k
word_words k Malformed = malformed_words k
word_words k Extra = codes "a word too many"

-- what is wrong with a line
abbrev pub line_words : LineFault → List ℕ
line_words (Byte l c) = codes "a byte that is no printable character"
line_words (Colon l c) = codes "the colon is missing"
line_words (Word w) = word_words w.kind w.flaw

-- what is wrong with a text
abbrev pub block_words : BlockFault → List ℕ
block_words (Line f) = line_words f
block_words (MarkTwice l c) = codes "the mark stands at an earlier statement too"
block_words (Full l) = codes "a 256th statement"
block_words Empty = codes "no statement in the text"

-- what a refusal means, whatever its place
abbrev pub refusal_words : Refusal → List ℕ
refusal_words refusal.Byte = codes "a byte that is no printable character"
refusal_words refusal.Operation = codes "the colon or the operation is missing, or there is no such operation"
refusal_words refusal.Operand = codes "the operand is missing or of another operation, or a word is too many"
refusal_words refusal.Number = codes "the number is missing or does not fit"
refusal_words refusal.Mark = codes "the mark is missing or malformed, or stands twice"
refusal_words refusal.StatementCount = codes "a block has 1 to 255 statements"
refusal_words refusal.DataLength = codes "a data block has 1 to 256 words"
refusal_words refusal.ShortTable = codes "a table is too short"
refusal_words refusal.Frame = codes "a frame line is malformed or missing"
refusal_words refusal.ScanOpen = codes "a scan is open"
refusal_words refusal.NoFreePlace = codes "no free place: 32 blocks and 16 data blocks are the most"
refusal_words refusal.NotHeld = codes "the block is not held"
refusal_words refusal.LaidAlready = codes "the data block is laid already"
refusal_words refusal.NotPassed = codes "no check has passed since the last change"
refusal_words refusal.Ticket = codes "the ticket is of another project, or no scan is open"
refusal_words refusal.ScanOver = codes "the scan has ended or stopped"
refusal_words refusal.ScanNotEnded = codes "the scan has not ended"
