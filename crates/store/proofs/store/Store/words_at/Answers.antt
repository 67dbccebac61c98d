use Rattle.std.proofs.Common.{vec_items}
use Rattle.store.proofs.Holding.{words_part}
use Rattle.store.proofs.store.Store.words_at.Goals as goal

pub returns : goal.returns
returns c = record { value = words_part c.args.self.now.data_slots c.args.slot c.deref.result.now (vec_items c.args.self.now.words) c.part.result.now c.deref.ensures.value c.part.ensures.value }
