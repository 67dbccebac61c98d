use Rattle.std.proofs.Common.{◌∙◌, rules, tests}
use Rattle.std.proofs.lemmas.Iterator.{YieldsList-from_slice}
use Rattle.std.proofs.lemmas.Iterator.Search.{position_from_yields_List}
use Rattle.store.specs.Slots.{is_named}
use Rattle.store.proofs.Finding.{slot_position, cast_same}
use Rattle.store.proofs.slots.first_named.Goals as goal

pub returns-clause-value : goal.returns-clause-value
returns-clause-value c =
    cast_same _ c.position.result c.map.result c.map.ensures.cases (λ i j h. search rules)
    ∙ position_from_yields_List (λ s. is_named s.name c.args.name) _ _ c.position.result c.position.ensures.ran (YieldsList-from_slice c.args.slots.now cc) (λ x b q k. search (rules, tests))
    ∙ slot_position c.args.slots.now c.args.name
