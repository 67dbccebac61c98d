-- The numbers of the faults. It assumes nothing.
use Rattle.std.specs.Prelude.{ℕ}
use Rattle.walk.specs.declared.faults.Fault.{Fault}
use Rattle.walk.specs.declared.faults.Fault.TheVariants.{MarkMissing, BlockNotHeld, SixthBracket, NoneOpen, BracketsOpen, RunsOut, DataNotHeld, EleventhCall, NoStart}

-- K1 to K9
abbrev pub fault_number : Fault → ℕ
fault_number MarkMissing = 1
fault_number BlockNotHeld = 2
fault_number SixthBracket = 3
fault_number NoneOpen = 4
fault_number BracketsOpen = 5
fault_number RunsOut = 6
fault_number DataNotHeld = 7
fault_number EleventhCall = 8
fault_number NoStart = 9
