use Rattle.std.proofs.Common.{is_some, ◌∙◌, rules, tests}
use Rattle.std.proofs.lemmas.Iterator.{YieldsList-from_slice}
use Rattle.std.proofs.lemmas.Iterator.Consumers.{YieldsList-from_filter, count_from_yields_List}
use Rattle.store.proofs.Counting.{names_count}
use Rattle.store.proofs.slots.count_named.Goals as goal

pub returns : goal.returns
returns c =
    let slots = c.args.slots.now in
    record {
      value =
          count_from_yields_List c.filter.result c.count.result c.count.ensures.ran
          (YieldsList-from_filter _ (λ s. is_some s.name) (YieldsList-from_slice slots cc) c.filter.ensures.closure (λ x r q k. search (rules, tests)))
          ∙ names_count slots;
    }
