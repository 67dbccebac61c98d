use Rattle.std.proofs.Common.{◌∙◌}
use Rattle.walk.proofs.Flowing.{fault_read}
use Rattle.walk.proofs.fits.FitBlock.fault_at.Goals as goal

pub returns : goal.returns
returns c = record { value = c.fault_of.ensures.value ∙ fault_read c.args.self.statements.now c.args.place _ c.flow_at.ensures.value }
