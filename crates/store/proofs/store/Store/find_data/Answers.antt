use Rattle.std.proofs.Common.{◌≡◌, eqb, take, sym, ◌∙◌, rules, tests}
use Rattle.std.proofs.lemmas.Iterator.{YieldsList-from_slice}
use Rattle.std.proofs.lemmas.Iterator.Search.{position_from_yields_List}
use Rattle.store.specs.Slots.{data_slot_in}
use Rattle.store.proofs.Holding.{data_held}
use Rattle.store.proofs.Numbering.{data_position}
use Rattle.store.proofs.store.Store.find_data.Goals as goal

found : (c : goal.After-position) → c.position.result ≡ data_slot_in c.args.self.now.data_slots c.args.self.now.laid c.args.number
found c =
    let s = c.args.self.now in
    position_from_yields_List (λ x. eqb x.number c.args.number) _ _ c.position.result c.position.ensures.ran (YieldsList-from_slice (take s.laid s.data_slots) cc) (λ x b q k. search (rules, tests))
    ∙ data_position s.data_slots s.laid c.args.number

pub returns-clause-value : goal.returns-clause-value
returns-clause-value c = found c

pub returns-clause-held : goal.returns-clause-held
returns-clause-held c = data_held c.args.self.now c.args.number c.position.result (sym (found c))
