use Rattle.std.proofs.Common.{not, is_some, ◌∙◌, rules, tests}
use Rattle.std.proofs.lemmas.Iterator.{YieldsList-from_slice}
use Rattle.std.proofs.lemmas.Iterator.Search.{position_from_yields_List}
use Rattle.store.proofs.Finding.{cast_same}
use Rattle.store.proofs.Placing.{free_position}
use Rattle.store.proofs.store.Store.free_slot.Goals as goal

pub returns : goal.returns
returns c = record {
  value =
      cast_same _ c.position.result c.map.result c.map.ensures.cases (λ i j h. search rules)
      ∙ position_from_yields_List (λ x. not (is_some x.name)) _ _ c.position.result c.position.ensures.ran (YieldsList-from_slice c.args.self.now.slots cc) (λ x b q k. search (rules, tests))
      ∙ free_position c.args.self.now.slots;
}
