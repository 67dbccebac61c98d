use Rattle.checker.proofs.Sets.{level-none, level-more}
use Rattle.checker.proofs.chains.level.Goals as goal

pub loop-step-init : goal.loop-step-init
loop-step-init c = rw c.of-level.ensures.value (level-none c.args.calls.now c.args.from)

pub loop-step-preserved : goal.loop-step-preserved
loop-step-preserved c = level-more c.args.calls.now c.args.from c.loop-step._step _ _ c.requires c.called-level.ensures.value c.loop-step.invariant
