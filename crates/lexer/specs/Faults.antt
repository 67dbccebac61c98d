-- Which refusal a word's fault is. It assumes nothing.
use Rattle.awl.specs.declared.refusals.Refusal.{Refusal}
use Rattle.awl.specs.declared.refusals.Refusal.TheVariants as refusal
use Rattle.lexer.specs.declared.faults.WordKind.{WordKind}
use Rattle.lexer.specs.declared.faults.WordKind.TheVariants.{Mark, Operation, Operand, Number}

-- a fault of a mark is 5, of an operation 2, of an operand 3, of a number 4
abbrev pub kind_refusal : WordKind → Refusal
kind_refusal Mark = refusal.Mark
kind_refusal Operation = refusal.Operation
kind_refusal Operand = refusal.Operand
kind_refusal Number = refusal.Number
