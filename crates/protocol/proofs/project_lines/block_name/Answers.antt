use Rattle.std.proofs.Common.{Some, None, rules}
use Rattle.protocol.proofs.Naming.{known_block}
use Rattle.protocol.proofs.project_lines.block_name.Goals as goal

pub returns-in_err-block_kind_named : goal.returns-in_err-block_kind_named
returns-in_err-block_kind_named c =
    let none = known_block c.args.kind.now None c.in_err-block_kind_named.ensures.value in
    search rules

pub returns : goal.returns
returns c =
    let kind = known_block c.args.kind.now (Some c.in_ok-block_kind_named.field-0) c.in_ok-block_kind_named.ensures.value in
    search rules
