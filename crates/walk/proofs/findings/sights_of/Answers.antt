use Rattle.std.proofs.Common.{◌≡◌, length, sym, ◌∙◌, arith}
use Rattle.std.proofs.lemmas.List.{length-take-le}
use Rattle.walk.proofs.Flowing.{length-flows}
use Rattle.walk.proofs.Sighting.{sighted_more, sighted_all}
use Rattle.walk.proofs.findings.sights_of.Goals as goal

pub slice_bounds-sights-end : goal.slice_bounds-sights-end
slice_bounds-sights-end c = let few = c.args.block.fit.few in let long = length-flows c.args.block.statements.now in omega arith

pub slice_bounds-told-end : goal.slice_bounds-told-end
slice_bounds-told-end c = let few = c.args.block.fit.few in let long = length-flows c.args.block.statements.now in sym (length-take-le _ _ (omega arith))

pub loop-i-preserved : goal.loop-i-preserved
loop-i-preserved c =
    let few = c.args.block.fit.few in
    let flows = length-flows c.args.block.statements.now in
    let long : length c.loop-i.told ≡ length c.args.block.statements.now = c.loop-i.auto.told ∙ length-take-le _ _ (omega arith) in
    sighted_more _ _ _ c.loop-i.i _ (omega arith) c.sight_at.ensures.value c.loop-i.invariant

pub returns-clause-value : goal.returns-clause-value
returns-clause-value c =
    let few = c.args.block.fit.few in
    let flows = length-flows c.args.block.statements.now in
    let long : length c.loop-i.told ≡ length c.args.block.statements.now = c.loop-i.auto.told ∙ length-take-le _ _ (omega arith) in
    sighted_all _ _ _ _ c.loop-i.i long (omega arith) c.loop-i.invariant
