use Rattle.std.proofs.Common.{◌≡◌, ◌+◌, ◌<◌, length, drop, sym, ap, ◌∙◌, arith}
use Rattle.std.proofs.lemmas.Bool.Decides.{nat_tests}
use Rattle.protocol.specs.Numbers.{at_most, number_within}
use Rattle.awl.proofs.Digits.{digit_more, digit_none, digit_end}
use Rattle.protocol.proofs.Counting.{too_much, refused_digits, accepted_digits, no_digit}
use Rattle.protocol.proofs.words.number.Goals as goal

pub returns-then-is_empty : goal.returns-then-is_empty
unfolding number_within
returns-then-is_empty c =
    let none : length c.args.word.now ≡ 0 = grind (arith, nat_tests, c.if-is_empty.ensures) in
    record { value = sym (ap (at_most c.args.most) (no_digit c.args.word.now none)); bound = tt }

pub returns-then-not-has : goal.returns-then-not-has
returns-then-not-has c =
    let word = c.args.word.now in
    let some : 0 < length word = omega arith in
    let none = digit_none word c.loop-byte.byte-index c.loop-byte.value c.loop-byte-test.true (sym c.if-not-has.ensures.value) in
    record {
      value = refused_digits c.args.most word some (ap (at_most c.args.most) (sym c.loop-byte.invariant.1 ∙ none));
      bound = tt;
    }

pub returns-then-value-most : goal.returns-then-value-most
returns-then-value-most c =
    let word = c.args.word.now in
    let some : 0 < length word = omega arith in
    let more = digit_more word c.loop-byte.byte-index c.loop-byte.value c.loop-byte-test.true (sym c.if-not-has.ensures.value) in
    let above = too_much c.args.most _ (drop (c.loop-byte.byte-index + 1) word) c.if-value-most.true in
    record {
      value = refused_digits c.args.most word some (ap (at_most c.args.most) (sym c.loop-byte.invariant.1 ∙ more) ∙ above);
      bound = tt;
    }

pub loop-byte-preserved : goal.loop-byte-preserved
loop-byte-preserved c =
    let more = digit_more c.args.word.now c.loop-byte.byte-index c.loop-byte.value c.loop-byte-test.true (sym c.if-not-has.ensures.value) in
    (c.if-value-most.false, sym more ∙ c.loop-byte.invariant.1)

pub returns : goal.returns
returns c =
    let word = c.args.word.now in
    let some : 0 < length word = grind (arith, nat_tests, c.if-is_empty.ensures) in
    let end = digit_end word c.loop-byte.byte-index c.loop-byte.value c.loop-byte-test.false in
    record {
      value = accepted_digits c.args.most _ word some (sym c.loop-byte.invariant.1 ∙ end) c.loop-byte.invariant.0;
      bound = c.loop-byte.invariant.0;
    }
