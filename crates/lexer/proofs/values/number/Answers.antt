use Rattle.std.proofs.Common.{sym, ◌∙◌}
use Rattle.awl.proofs.Digits.{digit_more, digit_none, digit_end}
use Rattle.lexer.proofs.Counting.{digit_bound, counted}
use Rattle.lexer.proofs.values.number.Goals as goal

pub returns-then-not-has : goal.returns-then-not-has
returns-then-not-has c =
    let xs = c.args.bytes.now in
    let none = digit_none xs c.loop-byte.byte-index c.loop-byte.value c.loop-byte-test.true (sym c.if-not-has.ensures.value) in
    record { value = counted xs _ c.if-is_empty.ensures c.if-bytes-gt10.false (sym none ∙ c.loop-byte.invariant.1) }

pub loop-byte-preserved : goal.loop-byte-preserved
loop-byte-preserved c =
    let xs = c.args.bytes.now in
    let digit = sym c.if-not-has.ensures.value in
    (digit_bound _ _ _ c.loop-byte.invariant.0 digit, sym (digit_more xs _ c.loop-byte.value c.loop-byte-test.true digit) ∙ c.loop-byte.invariant.1)

pub returns : goal.returns
returns c =
    let xs = c.args.bytes.now in
    let end = digit_end xs c.loop-byte.byte-index c.loop-byte.value c.loop-byte-test.false in
    record { value = counted xs _ c.if-is_empty.ensures c.if-bytes-gt10.false (sym end ∙ c.loop-byte.invariant.1) }
