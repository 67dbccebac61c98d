use Rattle.std.proofs.Common.{◌+◌, sym, ap, ◌∙◌, subst, arith}
use lib.Bits.{bit_or}
use Rattle.std.proofs.lemmas.List.{get_or_default}
use Rattle.checker.specs.Chains.{Called}
use Rattle.checker.proofs.Sets.{called_skip, called_more}
use Rattle.std.proofs.lemmas.Bool.Decides.{not_from_Decides}
use Rattle.checker.proofs.chains.called.Goals as goal
use Rattle.checker.proofs.chains.called.Goals.{then-has, else-has}

pub loop-slot-preserved : goal.loop-slot-preserved
loop-slot-preserved c =
    let calls = c.args.calls.now in
    let i = c.loop-slot.slot in
    elim c.if-has.branch [
      | then-has w ↦
          let one = get_or_default calls i c.index-calls-slot.result 0 (omega arith) in
          subst (Called calls c.args.slots (i + 1)) (sym (w.out-is ∙ w.bitor-out.ensures.bits ∙ ap (bit_or c.loop-slot.out) one))
          (called_more calls c.args.slots i c.loop-slot.out (c.has.ensures.value.0 w.if-has.true) c.loop-slot.invariant)
      | else-has w ↦ rw w.out-is (called_skip calls c.args.slots i c.loop-slot.out (not_from_Decides _ c.has.ensures.value w.if-has.false) c.loop-slot.invariant)
    ]
