use Rattle.std.proofs.Common.{◌≤◌, length, ◌∙◌, arith, rules}
use Rattle.std.specs.List.{prefix_len}
use Rattle.awl.specs.Alphabet.{in_class}
use Rattle.awl.specs.declared.bytes.ByteClass.TheVariants.{Printable}
use Rattle.lexer.specs.Words.{seen_words}
use Rattle.projects.specs.Heads.{head_of}
use Rattle.projects.proofs.Heading.{head_sound}
use Rattle.projects.proofs.heads.read_head.Goals as goal

pub returns-then-good-line : goal.returns-then-good-line
unfolding head_of
returns-then-good-line c = search rules

pub returns : goal.returns
returns c =
    let line = c.args.line.now in
    let all : length line ≤ prefix_len (in_class Printable) line = omega (arith, c.front-good.ensures.value, c.if-good-line.false) in
    record { value = c.named.ensures.value ∙ head_sound line (seen_words c.words_behind_star.result) all c.words_behind_star.ensures.value }
