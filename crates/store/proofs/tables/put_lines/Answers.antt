use Rattle.std.proofs.Common.{length, sym, ap, ◌∙◌, arith}
use Rattle.awl.specs.declared.statements.Statement.{Statement}
use Rattle.reader.specs.declared.listings.Line.{Line}
use Rattle.std.proofs.lemmas.List.Edits.{paste_none}
use Rattle.std.proofs.lemmas.List.{length-map, get_or-map}
use Rattle.store.specs.Runs.{statement_lines}
use Rattle.store.proofs.Pasting.{paste_more, paste_all}
use Rattle.store.proofs.tables.put_lines.Goals as goal

pub loop-i-init : goal.loop-i-init
loop-i-init c = paste_none c.args.table.now c.args.first (statement_lines c.args.lines.now)

pub loop-i-preserved : goal.loop-i-preserved
loop-i-preserved c =
    let lines = c.args.lines.now in
    let i = c.loop-i.i in
    let line = c.index-lines-i.result in
    let said : Line → Statement = λ l. l.statement in
    let size = length-map lines said in
    let inside = c.loop-i-test.true in
    let here = get_or-map said lines i line line.statement inside ∙ ap said (sym c.index-lines-i.is) in
    paste_more c.args.table.now c.args.first (statement_lines lines) i line.statement _ c.loop-i.table (omega arith) (omega arith) c.loop-i.invariant here

pub returns : goal.returns
returns c =
    let lines = c.args.lines.now in
    let low = c.loop-i-test.false in
    let high = c.loop-i.auto.i-end in
    record { after = paste_all c.args.table.now c.args.first (statement_lines lines) c.loop-i.i (length lines) c.loop-i.table (omega arith) (omega arith) c.loop-i.invariant }
