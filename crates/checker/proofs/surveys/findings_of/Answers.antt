use Rattle.std.proofs.Common.{◌∙◌, arith}
use Rattle.checker.proofs.Clearing.{found_more}
use Rattle.checker.proofs.surveys.findings_of.Goals as goal

pub loop-slot-preserved : goal.loop-slot-preserved
loop-slot-preserved c = (
  found_more c.args.store.now c.loop-slot.finding-items c.loop-slot.slot _ (omega arith) c.finding_at.ensures.value c.loop-slot.invariant.0,
  c.finding_at.ensures.rest ∙ c.loop-slot.invariant.1,
)
