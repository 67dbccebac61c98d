use Rattle.std.proofs.Common.{◌==◌, rules, tests}
use Rattle.std.proofs.lemmas.Iterator.Consumers.{count_from_yields_List}
use Rattle.std.proofs.lemmas.Iterator.Splits.{YieldsList-from_slice_split}
use Rattle.protocol.specs.Words.{words_of}
use Rattle.protocol.proofs.words.word_count.Goals as goal

pub returns : goal.returns
unfolding words_of
returns c =
    record {
      value = count_from_yields_List c.split.result c.count.result c.count.ensures.ran (YieldsList-from_slice_split _ (λ b. b == 32) c.args.line.now c.split.ensures.rest c.split.ensures.done c.split.ensures.closure (λ x b q k. search (rules, tests)));
    }
