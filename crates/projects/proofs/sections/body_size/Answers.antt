use Rattle.std.proofs.Common.{sym, arith}
use Rattle.lines.specs.Lines.{lines_of}
use Rattle.projects.proofs.Cutting.{next_line, no_more, body_line, body_none}
use Rattle.projects.proofs.sections.body_size.Goals as goal

pub loop-line-preserved : goal.loop-line-preserved
loop-line-preserved c =
    let all = lines_of c.loop-line.line-iterator in
    let rest = lines_of c.next.new.self in
    let line = c.in-Some.line.now in
    let here = next_line c.args.text.now line c.loop-line.size all rest c.loop-line.invariant.1 c.in-Some.ensures.steps in
    let more = body_line line all rest _ c.in-Some.ensures.steps (sym c.if-is_head.ensures.value) in
    let within = here.within in
    (omega arith, here.rest, omega arith)

pub returns-then-is_head : goal.returns-then-is_head
returns-then-is_head c =
    let all = lines_of c.loop-line.line-iterator in
    let rest = lines_of c.next.new.self in
    let line = c.in-Some.line.now in
    let here = next_line c.args.text.now line c.loop-line.size all rest c.loop-line.invariant.1 c.in-Some.ensures.steps in
    let none = body_line line all rest _ c.in-Some.ensures.steps (sym c.if-is_head.ensures.value) in
    let starts = here.starts in
    record { value = omega arith }

pub returns : goal.returns
returns c =
    let all = lines_of c.loop-line.line-iterator in
    let none = body_none all c.in-None.ensures.steps.0 in
    let past = no_more c.args.text.now c.loop-line.size all c.loop-line.invariant.1 c.in-None.ensures.steps.0 in
    record { value = omega arith }
