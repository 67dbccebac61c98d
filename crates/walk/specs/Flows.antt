-- What a statement as it is written does to the walk. It assumes nothing.
use Rattle.std.specs.Prelude.{ℕ, List, map, Option}
use Rattle.awl.specs.Written.{Operand, none, bit, span, timer, counter, data_place, byte_constant, double_constant, mark, block, data_block}
use Rattle.parser.specs.Statements.{Written, written}
use Rattle.awl.specs.declared.statements.BlockEnd.{BlockEnd}
use Rattle.awl.specs.declared.statements.BlockEnd.TheVariants as end
use Rattle.awl.specs.declared.statements.JumpCondition.{JumpCondition}
use Rattle.awl.specs.declared.statements.JumpCondition.TheVariants as jump
use Rattle.awl.specs.declared.statements.Operation.{Operation}
use Rattle.awl.specs.declared.statements.Operation.TheVariants as operation
use Rattle.awl.specs.declared.statements.Statement.{Statement}
use Rattle.walk.specs.declared.flows.Flow.{Flow}
use Rattle.walk.specs.declared.flows.Flow.TheVariants.{Plain, Open, Close, Jump, Branch, Call, End, MayEnd, Stop, Choose}

-- SPA = goes to its mark; SPB =, SPZ =, SPN =, SPP =, SPM = and SPO = go there or on
abbrev pub jump_flow : JumpCondition → Option ℕ → Flow
jump_flow jump.Always t = Jump t
jump_flow jump.Rlo t = Branch t
jump_flow jump.Zero t = Branch t
jump_flow jump.NonZero t = Branch t
jump_flow jump.Plus t = Branch t
jump_flow jump.Minus t = Branch t
jump_flow jump.Overflow t = Branch t

-- SPA and SPB with a block call it, whatever the condition; with a mark they jump
abbrev pub goal_flow : JumpCondition → Option ℕ → Operand → Flow
goal_flow c t (block k n) = Call (record { kind = k; number = n })
goal_flow c t (mark m) = jump_flow c t
goal_flow c t none = jump_flow c t
goal_flow c t (bit a n y) = jump_flow c t
goal_flow c t (span a w n) = jump_flow c t
goal_flow c t (timer n) = jump_flow c t
goal_flow c t (counter n) = jump_flow c t
goal_flow c t (data_place p n) = jump_flow c t
goal_flow c t (byte_constant n) = jump_flow c t
goal_flow c t (double_constant z) = jump_flow c t
goal_flow c t (data_block n) = jump_flow c t

-- A with a data block chooses it
abbrev pub choice_flow : Operand → Flow
choice_flow (data_block n) = Choose n
choice_flow (block k n) = Plain
choice_flow (mark m) = Plain
choice_flow none = Plain
choice_flow (bit a n y) = Plain
choice_flow (span a w n) = Plain
choice_flow (timer n) = Plain
choice_flow (counter n) = Plain
choice_flow (data_place p n) = Plain
choice_flow (byte_constant n) = Plain
choice_flow (double_constant z) = Plain

-- BE and BEA end their block; BEB may
abbrev pub end_flow : BlockEnd → Flow
end_flow end.End = End
end_flow end.Always = End
end_flow end.Rlo = MayEnd

-- the flow of an operation with its target and operand; every other operation only goes on
abbrev pub operation_flow : Operation → Option ℕ → Operand → Flow
operation_flow (operation.Open b) t x = Open
operation_flow operation.Close t x = Close
operation_flow (operation.Jump c) t x = goal_flow c t x
operation_flow (operation.End e) t x = end_flow e
operation_flow operation.ChooseData t x = choice_flow x
operation_flow operation.Stop t x = Stop
operation_flow (operation.Combine c) t x = Plain
operation_flow operation.Set t x = Plain
operation_flow operation.Reset t x = Plain
operation_flow operation.Assign t x = Plain
operation_flow operation.Load t x = Plain
operation_flow operation.LoadCoded t x = Plain
operation_flow operation.Transfer t x = Plain
operation_flow (operation.Start k) t x = Plain
operation_flow (operation.Count d) t x = Plain
operation_flow (operation.Calculate a) t x = Plain
operation_flow (operation.Compare c) t x = Plain

-- the flow of a statement
abbrev pub flow : Written → Flow
flow w = operation_flow w.operation w.target w.operand

-- the flows of a block's statements
unfoldable pub flows : List Written → List Flow
flows ws = map flow ws

-- the same of the statements as the code holds them
abbrev pub flows_of : List Statement → List Flow
flows_of statements = flows (map written statements)
