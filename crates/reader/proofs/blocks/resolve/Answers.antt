use Rattle.std.proofs.Common.{arith}
use Rattle.reader.specs.Listed.{listed}
use Rattle.reader.specs.Reading.{resolved}
use Rattle.reader.proofs.Carrying.{resolve_more}
use Rattle.reader.proofs.blocks.resolve.Goals as goal

pub loop-line-preserved : goal.loop-line-preserved
loop-line-preserved c =
    let all = listed c.args.listing.now.lines c.args.listing.now.count in
    resolve_more (resolved all) c.args.lines.now c.loop-line.lines c.loop-line.line-index c.line-item.result c.resolved_line.result (omega arith) c.resolved_line.ensures.value c.loop-line.invariant.0 c.loop-line.invariant.1
