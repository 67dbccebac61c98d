-- How the names of blocks are written. It assumes nothing.
use Rattle.std.specs.Prelude.{ℕ, List, ◌++◌, codes, decimal}
use Rattle.awl.specs.declared.names.BlockKind.{BlockKind}
use Rattle.awl.specs.declared.names.BlockKind.TheVariants.{Organisation, Program, Function}
use Rattle.awl.specs.declared.names.BlockName.{BlockName}

-- OB, PB and FB
abbrev pub kind_letters : BlockKind → List ℕ
kind_letters Organisation = codes "OB"
kind_letters Program = codes "PB"
kind_letters Function = codes "FB"

-- kind and number: PB 3
abbrev pub block_name_text : BlockName → List ℕ
block_name_text b = kind_letters b.kind ++ (codes " " ++ decimal b.number)
