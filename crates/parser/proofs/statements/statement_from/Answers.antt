use Rattle.std.proofs.Common.{rules}
use Rattle.lexer.proofs.Naming.{known_name}
use Rattle.parser.specs.Statements.{statement_of}
use Rattle.parser.proofs.statements.statement_from.Goals as goal

pub returns-in_default : goal.returns-in_default
unfolding statement_of
returns-in_default c =
    let known = known_name c.args.words.operation.bytes.now c.operation.result c.operation.ensures.value in
    search rules

pub returns : goal.returns
unfolding statement_of
returns c =
    let known = known_name c.args.words.operation.bytes.now c.operation.result c.operation.ensures.value in
    search rules
