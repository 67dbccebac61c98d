use Rattle.std.proofs.Common.{Some, None, rules}
use Rattle.protocol.proofs.Naming.{known_host}
use Rattle.protocol.proofs.new_host_lines.new_host.Goals as goal

pub returns-in_default : goal.returns-in_default
returns-in_default c =
    let none = known_host c.word_at.result.now None c.in_default.ensures.value in
    search rules

pub returns-then-word_count-kind_size : goal.returns-then-word_count-kind_size
returns-then-word_count-kind_size c =
    let kind = known_host c.word_at.result.now (Some c.in-Some.kind) c.in-Some.ensures.value in
    search rules

pub returns-else-word_count-kind_size : goal.returns-else-word_count-kind_size
returns-else-word_count-kind_size c =
    let kind = known_host c.word_at.result.now (Some c.in-Some.kind) c.in-Some.ensures.value in
    search rules
