-- The names of the operations. It assumes nothing.
use Rattle.std.specs.Prelude.{ℕ, List, [], ◌∷◌, codes, Option}
use Rattle.awl.specs.Named.{first_named}
use Rattle.awl.specs.declared.statements.Arithmetic.TheVariants as arithmetic
use Rattle.awl.specs.declared.statements.BlockEnd.TheVariants as end
use Rattle.awl.specs.declared.statements.Bracket.TheVariants as bracket
use Rattle.awl.specs.declared.statements.Combination.TheVariants as combine
use Rattle.awl.specs.declared.statements.Comparison.TheVariants as comparison
use Rattle.awl.specs.declared.statements.Direction.TheVariants as direction
use Rattle.awl.specs.declared.statements.JumpCondition.TheVariants as jump
use Rattle.awl.specs.declared.statements.TimerKind.TheVariants as timer
use Rattle.awl.specs.declared.statements.Operation.{Operation}
use Rattle.awl.specs.declared.statements.Operation.TheVariants.{Combine, Open, Close, Set, Reset, Assign, Load, LoadCoded, Transfer, Start, Count, Calculate, Compare, Jump, End, ChooseData, Stop}

-- how each operation is spelled
abbrev pub name_of : Operation → List ℕ
name_of (Combine combine.And) = codes "U"
name_of (Combine combine.AndNot) = codes "UN"
name_of (Combine combine.Or) = codes "O"
name_of (Combine combine.OrNot) = codes "ON"
name_of (Open bracket.And) = codes "U("
name_of (Open bracket.Or) = codes "O("
name_of Close = codes ")"
name_of Set = codes "S"
name_of Reset = codes "R"
name_of Assign = codes "="
name_of Load = codes "L"
name_of LoadCoded = codes "LC"
name_of Transfer = codes "T"
name_of (Start timer.Pulse) = codes "SI"
name_of (Start timer.ExtendedPulse) = codes "SV"
name_of (Start timer.OnDelay) = codes "SE"
name_of (Start timer.StoredOnDelay) = codes "SS"
name_of (Count direction.Up) = codes "ZV"
name_of (Count direction.Down) = codes "ZR"
name_of (Calculate arithmetic.Add) = codes "+FD"
name_of (Calculate arithmetic.Subtract) = codes "-FD"
name_of (Calculate arithmetic.Multiply) = codes "*FD"
name_of (Calculate arithmetic.Divide) = codes "/FD"
name_of (Compare comparison.Equal) = codes "!=FD"
name_of (Compare comparison.Unequal) = codes "><FD"
name_of (Compare comparison.Greater) = codes ">FD"
name_of (Compare comparison.GreaterOrEqual) = codes ">=FD"
name_of (Compare comparison.Less) = codes "<FD"
name_of (Compare comparison.LessOrEqual) = codes "<=FD"
name_of (Jump jump.Always) = codes "SPA"
name_of (Jump jump.Rlo) = codes "SPB"
name_of (Jump jump.Zero) = codes "SPZ"
name_of (Jump jump.NonZero) = codes "SPN"
name_of (Jump jump.Plus) = codes "SPP"
name_of (Jump jump.Minus) = codes "SPM"
name_of (Jump jump.Overflow) = codes "SPO"
name_of (End end.End) = codes "BE"
name_of (End end.Always) = codes "BEA"
name_of (End end.Rlo) = codes "BEB"
name_of ChooseData = codes "A"
name_of Stop = codes "STS"

-- all operations
abbrev pub operations : List Operation
operations =
    Combine combine.And ∷
    Combine combine.AndNot ∷
    Combine combine.Or ∷
    Combine combine.OrNot ∷
    Open bracket.And ∷
    Open bracket.Or ∷
    Close ∷
    Set ∷
    Reset ∷
    Assign ∷
    Load ∷
    LoadCoded ∷
    Transfer ∷
    Start timer.Pulse ∷
    Start timer.ExtendedPulse ∷
    Start timer.OnDelay ∷
    Start timer.StoredOnDelay ∷
    Count direction.Up ∷
    Count direction.Down ∷
    Calculate arithmetic.Add ∷
    Calculate arithmetic.Subtract ∷
    Calculate arithmetic.Multiply ∷
    Calculate arithmetic.Divide ∷
    Compare comparison.Equal ∷
    Compare comparison.Unequal ∷
    Compare comparison.Greater ∷
    Compare comparison.GreaterOrEqual ∷
    Compare comparison.Less ∷
    Compare comparison.LessOrEqual ∷
    Jump jump.Always ∷
    Jump jump.Rlo ∷
    Jump jump.Zero ∷
    Jump jump.NonZero ∷
    Jump jump.Plus ∷
    Jump jump.Minus ∷
    Jump jump.Overflow ∷
    End end.End ∷
    End end.Always ∷
    End end.Rlo ∷
    ChooseData ∷
    Stop ∷ []

-- the operation of a name, or none where no operation has it
unfoldable pub operation_named : List ℕ → Option Operation
operation_named bs = first_named name_of operations bs
