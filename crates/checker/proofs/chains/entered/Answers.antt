use Rattle.std.proofs.Common.{zero, arith, sym, ◌∙◌}
use Rattle.std.proofs.lemmas.Bool.{eqb-true, eqb-false}
use Rattle.checker.specs.Chains.{none}
use Rattle.checker.proofs.Sets.{one_in, one_in_self, or_more, in_left, entered-closed, entered-more}
use Rattle.checker.proofs.chains.entered.Goals as goal

pub loop-next-init : goal.loop-next-init
loop-next-init c =
    let e = c.of-reach.ensures.value in (
      rw e (one_in_self c.args.from),
      λ d l h. (zero, rw (one_in c.args.from d (rw e at h)) none),
    )

pub loop-next-preserved : goal.loop-next-preserved
loop-next-preserved c =
    let union = c.bitor-next.ensures in (
      rw union.bits (in_left c.loop-next.reach c.called.result c.args.from c.loop-next.invariant.0),
      rw union.bits (entered-more c.args.calls.now c.args.from c.loop-next.reach c.called.result c.loop-next.invariant.1 c.called.ensures.value),
    )

pub loop-next-smaller : goal.loop-next-smaller
loop-next-smaller c =
    let union = c.bitor-next.ensures in
    let more = or_more c.loop-next.reach c.called.result in
    let other = eqb-false _ _ (sym c.eq.ensures ∙ c.if-eq.false) in
    omega (arith, union.bits, union.few)

pub returns-then-eq : goal.returns-then-eq
returns-then-eq c =
    let same = eqb-true _ _ (sym c.eq.ensures ∙ c.if-eq.true) in
    record { value = entered-closed c.args.calls.now c.args.from c.loop-next.reach c.called.result c.requires c.loop-next.invariant.0 c.loop-next.invariant.1 c.called.ensures.value (sym c.bitor-next.ensures.bits ∙ same) }
