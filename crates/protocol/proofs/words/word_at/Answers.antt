use Rattle.std.proofs.Common.{◌≡◌, ◌==◌, [], Some, None, Option, refl, ap, ◌∙◌, rules, tests}
use Rattle.std.specs.Option.{option_map, unwrap_or}
use Rattle.std.proofs.lemmas.Option.{unwrap_or-slice_get}
use Rattle.std.proofs.lemmas.Iterator.Consumers.{nth_from_yields_List}
use Rattle.std.proofs.lemmas.Iterator.Splits.{YieldsList-from_slice_split}
use Rattle.protocol.specs.Words.{words_of}
use Rattle.protocol.proofs.words.word_at.Goals as goal

-- what is read of a value or its stand-in
read_or : {A B : Type 0} (v : A → B) (o : Option A) (d : A) → v (unwrap_or o d) ≡ unwrap_or (option_map v o) (v d)
read_or v None d = refl
read_or v (Some x) d = refl

pub returns : goal.returns
unfolding words_of
returns c =
    let found = nth_from_yields_List c.nth.result c.nth.new.self c.args.n c.nth.ensures.ran (YieldsList-from_slice_split _ (λ b. b == 32) c.args.line.now c.split.ensures.rest c.split.ensures.done c.split.ensures.closure (λ x b q k. search (rules, tests))) in
    record {
      value = ap (λ r. r.now) c.unwrap_or.ensures ∙ read_or (λ r. r.now) c.nth.result _ ∙ ap (λ o. unwrap_or o []) found ∙ unwrap_or-slice_get (words_of c.args.line.now) c.args.n [];
    }
