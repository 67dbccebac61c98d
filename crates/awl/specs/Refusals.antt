-- The numbers of the refusals. It assumes nothing.
use Rattle.std.specs.Prelude.{ℕ}
use Rattle.awl.specs.declared.refusals.Refusal.{Refusal}
use Rattle.awl.specs.declared.refusals.Refusal.TheVariants.{Byte, Operation, Operand, Number, Mark, StatementCount, DataLength, ShortTable, Frame, ScanOpen, NoFreePlace, NotHeld, LaidAlready, NotPassed, Ticket, ScanOver, ScanNotEnded}

-- there is no number 10
abbrev pub refusal_number : Refusal → ℕ
refusal_number Byte = 1
refusal_number Operation = 2
refusal_number Operand = 3
refusal_number Number = 4
refusal_number Mark = 5
refusal_number StatementCount = 6
refusal_number DataLength = 7
refusal_number ShortTable = 8
refusal_number Frame = 9
refusal_number ScanOpen = 11
refusal_number NoFreePlace = 12
refusal_number NotHeld = 13
refusal_number LaidAlready = 14
refusal_number NotPassed = 15
refusal_number Ticket = 16
refusal_number ScanOver = 17
refusal_number ScanNotEnded = 18
