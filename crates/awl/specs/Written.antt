-- A statement as it is written: its operation, and its operand in plain numbers. It assumes nothing.
use Rattle.std.specs.Prelude.{ℕ, List, take, ℤ, None, Option}
use Rattle.awl.specs.declared.names.BlockKind.{BlockKind}
use Rattle.awl.specs.declared.marks.Mark.{Mark}
use Rattle.awl.specs.declared.places.Area.{Area}
use Rattle.awl.specs.declared.places.Width.{Width}
use Rattle.awl.specs.declared.places.DataPart.{DataPart}
use Rattle.awl.specs.declared.places.Bit.{Bit}
use Rattle.awl.specs.declared.places.Span.{Span}
use Rattle.awl.specs.declared.places.DataPlace.{DataPlace}
use Rattle.awl.specs.declared.statements.JumpCondition.{JumpCondition}
use Rattle.awl.specs.declared.statements.JumpCondition.TheVariants as jump
use Rattle.awl.specs.declared.statements.CallCondition.{CallCondition}
use Rattle.awl.specs.declared.statements.CallCondition.TheVariants as call
use Rattle.awl.specs.declared.statements.Combination.TheVariants as combine
use Rattle.awl.specs.declared.statements.Query.{Query}
use Rattle.awl.specs.declared.statements.Query.TheVariants as query
use Rattle.awl.specs.declared.statements.Source.{Source}
use Rattle.awl.specs.declared.statements.Source.TheVariants as source
use Rattle.awl.specs.declared.statements.CodedSource.{CodedSource}
use Rattle.awl.specs.declared.statements.CodedSource.TheVariants as coded
use Rattle.awl.specs.declared.statements.Destination.{Destination}
use Rattle.awl.specs.declared.statements.Destination.TheVariants as destination
use Rattle.awl.specs.declared.statements.Operation.{Operation}
use Rattle.awl.specs.declared.statements.Operation.TheVariants as operation
use Rattle.awl.specs.declared.statements.Statement.{Statement}
use Rattle.awl.specs.declared.statements.Statement.TheVariants.{Combine, OrBefore, Open, Close, Set, Reset, Assign, Load, LoadCoded, Transfer, Start, Count, Calculate, Compare, Jump, Call, End, ChooseData, Stop}

-- what stands behind the operation
pub data Operand : Type 0 where
  -- nothing, as behind STS
  none : Operand
  -- E 0.0
  bit : Area → ℕ → ℕ → Operand
  -- MW 10
  span : Area → Width → ℕ → Operand
  -- T 1
  timer : ℕ → Operand
  -- Z 1
  counter : ℕ → Operand
  -- DW 3
  data_place : DataPart → ℕ → Operand
  -- KB 5
  byte_constant : ℕ → Operand
  -- KD -70000
  double_constant : ℤ → Operand
  -- = M1
  mark : List ℕ → Operand
  -- PB 3
  block : BlockKind → ℕ → Operand
  -- DB 5
  data_block : ℕ → Operand

-- the bytes that spell a mark
abbrev pub mark_text : Mark → List ℕ
mark_text m = take m.size m.bytes

-- each kind of operand that a statement holds, as it is written
abbrev pub bit_operand : Bit → Operand
bit_operand b = bit b.area b.byte b.bit

-- a byte, word or double word of the image
abbrev pub span_operand : Span → Operand
span_operand s = span s.area s.width s.first

-- a place in the chosen data block
abbrev pub data_operand : DataPlace → Operand
data_operand d = data_place d.part d.word

-- what a query asks, and what R resets
abbrev pub query_operand : Query → Operand
query_operand (query.Bit b) = bit_operand b
query_operand (query.Timer t) = timer t.number
query_operand (query.Counter z) = counter z.number

-- what L loads
abbrev pub source_operand : Source → Operand
source_operand (source.Span s) = span_operand s
source_operand (source.Data d) = data_operand d
source_operand (source.Byte n) = byte_constant n
source_operand (source.Double z) = double_constant z
source_operand (source.Timer t) = timer t.number
source_operand (source.Counter z) = counter z.number

-- what LC loads
abbrev pub coded_operand : CodedSource → Operand
coded_operand (coded.Timer t) = timer t.number
coded_operand (coded.Counter z) = counter z.number

-- where T stores
abbrev pub destination_operand : Destination → Operand
destination_operand (destination.Span s) = span_operand s
destination_operand (destination.Data d) = data_operand d

-- a call is written SPA or SPB, as a jump is
abbrev pub call_jump : CallCondition → JumpCondition
call_jump call.Always = jump.Always
call_jump call.Rlo = jump.Rlo

-- the operation of a statement
abbrev pub operation_of : Statement → Operation
operation_of (Combine c q) = operation.Combine c
operation_of OrBefore = operation.Combine combine.Or
operation_of (Open b) = operation.Open b
operation_of Close = operation.Close
operation_of (Set b) = operation.Set
operation_of (Reset x) = operation.Reset
operation_of (Assign b) = operation.Assign
operation_of (Load s) = operation.Load
operation_of (LoadCoded s) = operation.LoadCoded
operation_of (Transfer d) = operation.Transfer
operation_of (Start k t) = operation.Start k
operation_of (Count d z) = operation.Count d
operation_of (Calculate a) = operation.Calculate a
operation_of (Compare c) = operation.Compare c
operation_of (Jump c t) = operation.Jump c
operation_of (Call c b) = operation.Jump (call_jump c)
operation_of (End e) = operation.End e
operation_of (ChooseData n) = operation.ChooseData
operation_of Stop = operation.Stop

-- the operand of a statement
abbrev pub operand_of : Statement → Operand
operand_of (Combine c q) = query_operand q
operand_of OrBefore = none
operand_of (Open b) = none
operand_of Close = none
operand_of (Set b) = bit_operand b
operand_of (Reset x) = query_operand x
operand_of (Assign b) = bit_operand b
operand_of (Load s) = source_operand s
operand_of (LoadCoded s) = coded_operand s
operand_of (Transfer d) = destination_operand d
operand_of (Start k t) = timer t.number
operand_of (Count d z) = counter z.number
operand_of (Calculate a) = none
operand_of (Compare c) = none
operand_of (Jump c t) = mark (mark_text t.mark)
operand_of (Call c b) = block b.kind b.number
operand_of (End e) = none
operand_of (ChooseData n) = data_block n
operand_of Stop = none

-- the statement that a jump goes to, from 1; none where its mark is missing, and of any other statement
abbrev pub target_of : Statement → Option ℕ
target_of (Combine c q) = None
target_of OrBefore = None
target_of (Open b) = None
target_of Close = None
target_of (Set b) = None
target_of (Reset x) = None
target_of (Assign b) = None
target_of (Load s) = None
target_of (LoadCoded s) = None
target_of (Transfer d) = None
target_of (Start k t) = None
target_of (Count d z) = None
target_of (Calculate a) = None
target_of (Compare c) = None
target_of (Jump c t) = t.statement
target_of (Call c b) = None
target_of (End e) = None
target_of (ChooseData n) = None
target_of Stop = None
