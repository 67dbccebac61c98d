use Rattle.lexer.proofs.Wording.{word_made, word_within}
use Rattle.lexer.proofs.words.word_in.Goals as goal

pub returns : goal.returns
returns c =
    record {
      value =
          word_made _ _ c.args.column c.front-spaces.result c.front-size.result c.front-spaces.ensures.value c.tail-word.ensures.value c.front-size.ensures.value;
      bound =
          word_within _ _ c.args.column c.front-spaces.result c.front-size.result c.front-spaces.ensures.bound c.tail-word.ensures.value c.front-size.ensures.bound;
    }
