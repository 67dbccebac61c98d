-- What a statement is: which operation takes which operand, and how the words behind the colon are read.
-- It assumes nothing.
use Rattle.std.specs.Prelude.{ℕ, Bool, true, false, cond, Some, None, Ok, Err, Option, Result}
use Rattle.awl.specs.Written.{Operand, none, operation_of, operand_of, target_of}
use Rattle.awl.specs.declared.statements.Combination.TheVariants as combine
use Rattle.awl.specs.declared.statements.JumpCondition.TheVariants as jump
use Rattle.awl.specs.declared.statements.Operation.{Operation}
use Rattle.awl.specs.declared.statements.Operation.TheVariants.{Combine, Open, Close, Set, Reset, Assign, Load, LoadCoded, Transfer, Start, Count, Calculate, Compare, Jump, End, ChooseData, Stop}
use Rattle.awl.specs.declared.statements.Statement.{Statement}
use Rattle.parser.specs.Answers.{and_then}
use Rattle.lexer.specs.Letters.{letters_of}
use Rattle.lexer.specs.Names.{operation_named}
use Rattle.lexer.specs.Values.{value_of}
use Rattle.lexer.specs.Words.{Piece, Pieces, fault_at, is_missing}
use Rattle.lexer.specs.declared.faults.WordKind.{WordKind}
use Rattle.lexer.specs.declared.faults.WordKind.TheVariants as kind
use Rattle.lexer.specs.declared.faults.Flaw.TheVariants.{Extra}
use Rattle.lexer.specs.declared.faults.WordFault.{WordFault}
use Rattle.lexer.specs.declared.letters.Letters.{Letters}
use Rattle.lexer.specs.declared.letters.Letters.TheVariants as letters
use Rattle.lexer.specs.declared.words.LineEnd.{LineEnd}

-- a statement as its operation, its operand, and where it jumps to
pub record Written : Type 0 where
  pub operation : Operation
  pub operand : Operand
  pub target : Option ℕ

-- a typed statement as it is written
abbrev pub written : Statement → Written
written s = record { operation = operation_of s; operand = operand_of s; target = target_of s }

-- a statement whose jump has not been looked up yet
abbrev pub plain : Operation → Operand → Written
plain o x = record { operation = o; operand = x; target = None }

-- a word that must be of its kind
abbrev pub expect : {X : Type 0} → Option X → LineEnd → WordKind → Piece → Result X WordFault
expect (Some x) e k p = Ok x
expect None e k p = Err (fault_at e k p)

-- a bit, a timer or a counter: for U, UN, O, ON and R
abbrev pub is_query : Letters → Bool
is_query (letters.Area a) = true
is_query letters.Timer = true
is_query letters.Counter = true
is_query (letters.Span a w) = false
is_query (letters.Data p) = false
is_query letters.Byte = false
is_query letters.Double = false
is_query letters.Jump = false
is_query (letters.Block k) = false
is_query letters.DataBlock = false

-- a bit: for S and =
abbrev pub is_bit : Letters → Bool
is_bit (letters.Area a) = true
is_bit letters.Timer = false
is_bit letters.Counter = false
is_bit (letters.Span a w) = false
is_bit (letters.Data p) = false
is_bit letters.Byte = false
is_bit letters.Double = false
is_bit letters.Jump = false
is_bit (letters.Block k) = false
is_bit letters.DataBlock = false

-- what L loads: a byte, word or double word, a data place, a constant, a timer or a counter
abbrev pub is_source : Letters → Bool
is_source (letters.Area a) = false
is_source letters.Timer = true
is_source letters.Counter = true
is_source (letters.Span a w) = true
is_source (letters.Data p) = true
is_source letters.Byte = true
is_source letters.Double = true
is_source letters.Jump = false
is_source (letters.Block k) = false
is_source letters.DataBlock = false

-- what LC loads: a timer or a counter
abbrev pub is_coded : Letters → Bool
is_coded (letters.Area a) = false
is_coded letters.Timer = true
is_coded letters.Counter = true
is_coded (letters.Span a w) = false
is_coded (letters.Data p) = false
is_coded letters.Byte = false
is_coded letters.Double = false
is_coded letters.Jump = false
is_coded (letters.Block k) = false
is_coded letters.DataBlock = false

-- where T stores: a byte, word or double word, or a data place
abbrev pub is_destination : Letters → Bool
is_destination (letters.Area a) = false
is_destination letters.Timer = false
is_destination letters.Counter = false
is_destination (letters.Span a w) = true
is_destination (letters.Data p) = true
is_destination letters.Byte = false
is_destination letters.Double = false
is_destination letters.Jump = false
is_destination (letters.Block k) = false
is_destination letters.DataBlock = false

-- a timer: for SI, SV, SE and SS
abbrev pub is_timer : Letters → Bool
is_timer (letters.Area a) = false
is_timer letters.Timer = true
is_timer letters.Counter = false
is_timer (letters.Span a w) = false
is_timer (letters.Data p) = false
is_timer letters.Byte = false
is_timer letters.Double = false
is_timer letters.Jump = false
is_timer (letters.Block k) = false
is_timer letters.DataBlock = false

-- a counter: for ZV and ZR
abbrev pub is_counter : Letters → Bool
is_counter (letters.Area a) = false
is_counter letters.Timer = false
is_counter letters.Counter = true
is_counter (letters.Span a w) = false
is_counter (letters.Data p) = false
is_counter letters.Byte = false
is_counter letters.Double = false
is_counter letters.Jump = false
is_counter (letters.Block k) = false
is_counter letters.DataBlock = false

-- a mark: for SPZ, SPN, SPP, SPM and SPO
abbrev pub is_marked : Letters → Bool
is_marked (letters.Area a) = false
is_marked letters.Timer = false
is_marked letters.Counter = false
is_marked (letters.Span a w) = false
is_marked (letters.Data p) = false
is_marked letters.Byte = false
is_marked letters.Double = false
is_marked letters.Jump = true
is_marked (letters.Block k) = false
is_marked letters.DataBlock = false

-- a mark or a block: for SPA and SPB
abbrev pub is_goal : Letters → Bool
is_goal (letters.Area a) = false
is_goal letters.Timer = false
is_goal letters.Counter = false
is_goal (letters.Span a w) = false
is_goal (letters.Data p) = false
is_goal letters.Byte = false
is_goal letters.Double = false
is_goal letters.Jump = true
is_goal (letters.Block k) = true
is_goal letters.DataBlock = false

-- a data block: for A
abbrev pub is_data_block : Letters → Bool
is_data_block (letters.Area a) = false
is_data_block letters.Timer = false
is_data_block letters.Counter = false
is_data_block (letters.Span a w) = false
is_data_block (letters.Data p) = false
is_data_block letters.Byte = false
is_data_block letters.Double = false
is_data_block letters.Jump = false
is_data_block (letters.Block k) = false
is_data_block letters.DataBlock = true

-- no letters at all: for an operation without operand
abbrev pub is_nothing : Letters → Bool
is_nothing (letters.Area a) = false
is_nothing letters.Timer = false
is_nothing letters.Counter = false
is_nothing (letters.Span a w) = false
is_nothing (letters.Data p) = false
is_nothing letters.Byte = false
is_nothing letters.Double = false
is_nothing letters.Jump = false
is_nothing (letters.Block k) = false
is_nothing letters.DataBlock = false

-- what stands behind letters: a mark behind =, else a number
abbrev pub kind_behind : Letters → WordKind
kind_behind (letters.Area a) = kind.Number
kind_behind letters.Timer = kind.Number
kind_behind letters.Counter = kind.Number
kind_behind (letters.Span a w) = kind.Number
kind_behind (letters.Data p) = kind.Number
kind_behind letters.Byte = kind.Number
kind_behind letters.Double = kind.Number
kind_behind letters.Jump = kind.Mark
kind_behind (letters.Block k) = kind.Number
kind_behind letters.DataBlock = kind.Number

-- the operand of letters with the word behind them
abbrev pub behind : LineEnd → Pieces → Letters → Result Operand WordFault
behind e ws l = expect (value_of l ws.value.bytes) e (kind_behind l) ws.value

-- letters that are among some
abbrev pub among : (Letters → Bool) → Option Letters → Option Letters
among allowed None = None
among allowed (Some l) = cond (allowed l) (Some l) None

-- the operand of an operation that takes some letters
abbrev pub operand_among : (Letters → Bool) → LineEnd → Pieces → Result Operand WordFault
operand_among allowed e ws =
    and_then (expect (among allowed (letters_of ws.operand.bytes)) e kind.Operand ws.operand) (behind e ws)

-- the letters that an operation takes
abbrev pub takes : Operation → Letters → Bool
takes (Combine c) = is_query
takes (Open b) = is_nothing
takes Close = is_nothing
takes Set = is_bit
takes Reset = is_query
takes Assign = is_bit
takes Load = is_source
takes LoadCoded = is_coded
takes Transfer = is_destination
takes (Start k) = is_timer
takes (Count d) = is_counter
takes (Calculate a) = is_nothing
takes (Compare c) = is_nothing
takes (Jump jump.Always) = is_goal
takes (Jump jump.Rlo) = is_goal
takes (Jump jump.Zero) = is_marked
takes (Jump jump.NonZero) = is_marked
takes (Jump jump.Plus) = is_marked
takes (Jump jump.Minus) = is_marked
takes (Jump jump.Overflow) = is_marked
takes (End e) = is_nothing
takes ChooseData = is_data_block
takes Stop = is_nothing

-- whether an operation stands alone: O does where no word follows it
abbrev pub stands_alone : Operation → Bool → Bool
stands_alone (Combine combine.And) last = false
stands_alone (Combine combine.AndNot) last = false
stands_alone (Combine combine.Or) last = last
stands_alone (Combine combine.OrNot) last = false
stands_alone (Open b) last = true
stands_alone Close last = true
stands_alone Set last = false
stands_alone Reset last = false
stands_alone Assign last = false
stands_alone Load last = false
stands_alone LoadCoded last = false
stands_alone Transfer last = false
stands_alone (Start k) last = false
stands_alone (Count d) last = false
stands_alone (Calculate a) last = true
stands_alone (Compare c) last = true
stands_alone (Jump c) last = false
stands_alone (End e) last = true
stands_alone ChooseData last = false
stands_alone Stop last = true

-- nothing may stand behind a complete statement
abbrev pub complete : {X : Type 0} → LineEnd → Piece → X → Result X WordFault
complete e p x =
    cond (is_missing p) (Ok x) (Err (record { kind = kind.Operand; flaw = Extra; line = e.line; column = p.column }))

-- the statement of an operation and the words behind it
abbrev pub statement_with : Operation → LineEnd → Pieces → Result Written WordFault
statement_with o e ws =
    cond (stands_alone o (is_missing ws.operand))
    (complete e ws.operand (plain o none))
    (and_then (operand_among (takes o) e ws) (λ x. complete e ws.extra (plain o x)))

-- the statement that the words behind the colon make
unfoldable pub statement_of : LineEnd → Pieces → Result Written WordFault
statement_of e ws =
    and_then (expect (operation_named ws.operation.bytes) e kind.Operation ws.operation) (λ o. statement_with o e ws)
