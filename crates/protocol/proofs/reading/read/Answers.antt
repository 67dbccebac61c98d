use Rattle.std.proofs.Common.{Some, None, rules}
use Rattle.protocol.specs.Calls.{call_of}
use Rattle.protocol.proofs.Naming.{known_verb}
use Rattle.protocol.proofs.reading.read.Goals as goal

pub returns-then-is_none : goal.returns-then-is_none
unfolding call_of
returns-then-is_none c = search rules

pub returns-in_ok-project_call-in-Some-Project : goal.returns-in_ok-project_call-in-Some-Project
unfolding call_of
returns-in_ok-project_call-in-Some-Project c =
    let verb = known_verb c.word_at-2.result.now (Some c.in-Some-Project.field-0) c.in-Some-Project.ensures.value in
    search rules

pub returns-in_ok-new_host-in-Some-NewHost : goal.returns-in_ok-new_host-in-Some-NewHost
unfolding call_of
returns-in_ok-new_host-in-Some-NewHost c =
    let verb = known_verb c.word_at-2.result.now (Some c.in-Some-NewHost.field-0) c.in-Some-NewHost.ensures.value in
    search rules

pub returns-in-Some-Host : goal.returns-in-Some-Host
unfolding call_of
returns-in-Some-Host c =
    let verb = known_verb c.word_at-2.result.now (Some c.in-Some-Host.field-0) c.in-Some-Host.ensures.value in
    search rules

pub returns-in-None : goal.returns-in-None
unfolding call_of
returns-in-None c =
    let none = known_verb c.word_at-2.result.now None c.in-None.ensures.value in
    search rules
