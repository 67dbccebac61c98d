-- The names of the operations are told apart, and no other bytes are one. Assumes nothing.
use Rattle.std.proofs.Common.{◌≡◌, ℕ, List, Some, Option, refl, MatchOption}
use Rattle.awl.specs.declared.statements.Arithmetic.TheVariants as arithmetic
use Rattle.awl.specs.declared.statements.BlockEnd.TheVariants as end
use Rattle.awl.specs.declared.statements.Bracket.TheVariants as bracket
use Rattle.awl.specs.declared.statements.Combination.TheVariants as combine
use Rattle.awl.specs.declared.statements.Comparison.TheVariants as comparison
use Rattle.awl.specs.declared.statements.Direction.TheVariants as direction
use Rattle.awl.specs.declared.statements.JumpCondition.TheVariants as jump
use Rattle.awl.specs.declared.statements.TimerKind.TheVariants as timer
use Rattle.awl.specs.declared.statements.Operation.{Operation}
use Rattle.awl.specs.declared.statements.Operation.TheVariants.{Combine, Open, Close, Set, Reset, Assign, Load, LoadCoded, Transfer, Start, Count, Calculate, Compare, Jump, End, ChooseData, Stop}
use Rattle.awl.specs.Named.{first_named}
use Rattle.awl.proofs.Named.{known}
use Rattle.lexer.specs.Names.{name_of, operations, operation_named}

-- each operation is the first with its name: computed for each
found_name : (o : Operation) → first_named name_of operations (name_of o) ≡ Some o
found_name (Combine combine.And) = refl
found_name (Combine combine.AndNot) = refl
found_name (Combine combine.Or) = refl
found_name (Combine combine.OrNot) = refl
found_name (Open bracket.And) = refl
found_name (Open bracket.Or) = refl
found_name Close = refl
found_name Set = refl
found_name Reset = refl
found_name Assign = refl
found_name Load = refl
found_name LoadCoded = refl
found_name Transfer = refl
found_name (Start timer.Pulse) = refl
found_name (Start timer.ExtendedPulse) = refl
found_name (Start timer.OnDelay) = refl
found_name (Start timer.StoredOnDelay) = refl
found_name (Count direction.Up) = refl
found_name (Count direction.Down) = refl
found_name (Calculate arithmetic.Add) = refl
found_name (Calculate arithmetic.Subtract) = refl
found_name (Calculate arithmetic.Multiply) = refl
found_name (Calculate arithmetic.Divide) = refl
found_name (Compare comparison.Equal) = refl
found_name (Compare comparison.Unequal) = refl
found_name (Compare comparison.Greater) = refl
found_name (Compare comparison.GreaterOrEqual) = refl
found_name (Compare comparison.Less) = refl
found_name (Compare comparison.LessOrEqual) = refl
found_name (Jump jump.Always) = refl
found_name (Jump jump.Rlo) = refl
found_name (Jump jump.Zero) = refl
found_name (Jump jump.NonZero) = refl
found_name (Jump jump.Plus) = refl
found_name (Jump jump.Minus) = refl
found_name (Jump jump.Overflow) = refl
found_name (End end.End) = refl
found_name (End end.Always) = refl
found_name (End end.Rlo) = refl
found_name ChooseData = refl
found_name Stop = refl

-- an answer that has the name, or is none where no operation has it, is the definition's
pub known_name : (bs : List ℕ) (r : Option Operation) → MatchOption r ((o : Operation) → name_of o ≡ bs → ⊥) (λ o. name_of o ≡ bs) → r ≡ operation_named bs
unfolding operation_named
known_name = known name_of operations found_name
