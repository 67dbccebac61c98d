use Rattle.std.proofs.Common.{sym, ◌∙◌}
use Rattle.walk.proofs.Flowing.{flow_read}
use Rattle.walk.proofs.fits.FitBlock.flow_at.Goals as goal

pub returns : goal.returns
returns c = record { value = c.flow_of.ensures.value ∙ sym (flow_read c.args.self.statements.now c.args.statement _ c.requires.0 c.requires.1) }
