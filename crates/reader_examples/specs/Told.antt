-- What is told of a text that is refused. It assumes nothing.
use Rattle.std.specs.Prelude.{ℕ, List, Some, None, Ok, Err, Option, Result}
use Rattle.awl.specs.Refusals.{refusal_number}
use Rattle.reader.specs.Faults.{block_refusal, line_of_block, column_of_block}
use Rattle.reader.specs.Reading.{Entry}
use Rattle.reader.specs.declared.faults.BlockFault.{BlockFault}

-- the refusal's number, the line and the column; nothing of a text that is read
abbrev pub told : Result (List Entry) BlockFault → Option (ℕ × ℕ × ℕ)
told (Ok es) = None
told (Err f) = Some (refusal_number (block_refusal f), line_of_block f, column_of_block f)
