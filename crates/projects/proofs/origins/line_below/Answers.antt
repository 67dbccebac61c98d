use Rattle.std.proofs.Common.{ℕ, ◌&&◌, leb, Some, sym, ap, ◌∙◌, arith}
use Rattle.reader.specs.Listed.{entry, listed}
use Rattle.reader.specs.Reading.{Entry}
use Rattle.reader.proofs.Carrying.{listed-length}
use Rattle.projects.specs.Sections.{seen_section}
use Rattle.projects.proofs.Standing.{in_range, among_here, among_none, stands, stands_not}
use Rattle.projects.proofs.origins.line_below.Goals as goal

pub returns : goal.returns
returns c =
    let block = c.in-Ok.block in
    let room = block.room in
    let few = block.few in
    let es = listed block.lines block.count in
    let size = listed-length block.lines block.count (omega arith) in
    let there = in_range c.args.statement block.count c.in_ok-line.ensures.test in
    let here = among_here c.args.statement es (entry c.in_ok-line.line) there.0 (omega (arith, there.1, size)) in
    let line = here ∙ ap (λ (e : Entry). Some e.line) c.in_ok-line.ensures.value in
    record { value = ap Some c.saturating_add.ensures ∙ stands c.args.statement c.in_ok-line.line.number (seen_section c.args.section) es c.in-Ok.ensures.value line }

pub returns-in_err-line : goal.returns-in_err-line
returns-in_err-line c =
    let block = c.in-Ok.block in
    let room = block.room in
    let few = block.few in
    let es = listed block.lines block.count in
    let size = listed-length block.lines block.count (omega arith) in
    let outside = c.in_err-line.ensures.test ∙ ap (λ (n : ℕ). leb 1 c.args.statement && leb c.args.statement n) (sym size) in
    record { value = c.from_residual.ensures ∙ stands_not c.args.statement (seen_section c.args.section) es c.in-Ok.ensures.value (among_none c.args.statement es outside) }
