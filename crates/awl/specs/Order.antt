-- The order of blocks. It assumes nothing.
use Rattle.std.specs.Prelude.{◌≡◌, ℕ, ◌<◌, ◌⊎◌}
use Rattle.awl.specs.declared.names.BlockKind.{BlockKind}
use Rattle.awl.specs.declared.names.BlockKind.TheVariants.{Organisation, Program, Function}
use Rattle.awl.specs.declared.names.BlockName.{BlockName}

-- OB before PB before FB
abbrev pub kind_rank : BlockKind → ℕ
kind_rank Organisation = 0
kind_rank Program = 1
kind_rank Function = 2

-- by kind, then by number
abbrev pub Before : BlockName → BlockName → Type 0
Before a b =
    (kind_rank a.kind < kind_rank b.kind) ⊎ ((kind_rank a.kind ≡ kind_rank b.kind) × (a.number < b.number))
