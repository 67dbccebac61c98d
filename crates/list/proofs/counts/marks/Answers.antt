use Rattle.std.proofs.Common.{arith}
use Rattle.std.proofs.lemmas.Grind.{common_steps}
use Rattle.list.proofs.Listing.{marked_entry}
use Rattle.list.proofs.counts.marks.Goals as goal

pub returns : goal.returns
returns c = grind (arith, common_steps, marked_entry)
