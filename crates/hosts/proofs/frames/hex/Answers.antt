use Rattle.std.proofs.Common.{sym, zero-add, arith}
use Rattle.hosts.proofs.Hexes.{hex_none, hex_more, fits_more, power_more}
use Rattle.hosts.proofs.frames.hex.Goals as goal

pub loop-c-init : goal.loop-c-init
loop-c-init c = (sym (hex_none c.args.digits.now 0), omega arith)

pub overflow_mul-number : goal.overflow_mul-number
overflow_mul-number c =
    omega (arith, fits_more c.loop-c.number 0 c.loop-c.c-index c.loop-c.invariant.1 (omega arith) (omega arith))

pub overflow_add-number : goal.overflow_add-number
overflow_add-number c =
    omega (arith, fits_more c.loop-c.number c.from.result c.loop-c.c-index c.loop-c.invariant.1 (omega arith) (omega arith))

pub loop-c-preserved : goal.loop-c-preserved
loop-c-preserved c =
    let more = rw zero-add at (hex_more c.args.digits.now 0 c.loop-c.c-index) in
    (omega (arith, more, c.digit.ensures.value), power_more c.loop-c.number c.from.result c.loop-c.c-index c.loop-c.invariant.1 (omega arith))
