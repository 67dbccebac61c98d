use Rattle.std.proofs.Common.{◌≡◌, ◌<◌, ◌⊎◌, length, sym, ◌∙◌, inl, inr, arith}
use Rattle.std.proofs.lemmas.Bool.{eqb-true, eqb-false}
use Rattle.std.proofs.lemmas.Bool.Decides.{not_from_Decides}
use Rattle.walk.proofs.Aiming.{aimed_here, unfit_size, unfit_jump, aimed_more, fit_all}
use Rattle.walk.proofs.fits.is_fit.Goals as goal
use Rattle.walk.proofs.fits.is_fit.Goals.{then-is_empty-via-then-is_empty, then-is_empty-via-else-is_empty+then-block-gt255}

pub returns-then-is_empty : goal.returns-then-is_empty
returns-then-is_empty c =
    let size : (length c.args.block.now ≡ 0) ⊎ (255 < length c.args.block.now) =
    elim c.then-is_empty.branch [
      | then-is_empty-via-then-is_empty w ↦ inl (eqb-true _ _ (sym c.is_empty.ensures ∙ w.if-is_empty.true))
      | then-is_empty-via-else-is_empty+then-block-gt255 w ↦ inr w.if-block-gt255.true
    ] in
    record { value = unfit_size c.args.block.now size }

pub returns-then-not-is_aimed : goal.returns-then-not-is_aimed
returns-then-not-is_aimed c =
    let here = aimed_here c.args.block.now c.loop-statement.statement-index c.statement-item.result _ _ c.loop-statement-test.true c.statement-item.is c.flow_of.ensures.value c.is_aimed.ensures.value in
    record { value = unfit_jump c.args.block.now c.loop-statement.statement-index c.loop-statement-test.true (not_from_Decides _ here c.if-not-is_aimed.true) }

pub loop-statement-preserved : goal.loop-statement-preserved
loop-statement-preserved c =
    let here = aimed_here c.args.block.now c.loop-statement.statement-index c.statement-item.result _ _ c.loop-statement-test.true c.statement-item.is c.flow_of.ensures.value c.is_aimed.ensures.value in
    aimed_more c.args.block.now c.loop-statement.statement-index (here.0 c.if-not-is_aimed.false) c.loop-statement.invariant

pub returns : goal.returns
returns c =
    let some : length c.args.block.now ≡ 0 → _ = λ e. eqb-false _ _ (sym c.is_empty.ensures ∙ c.if-is_empty.false) e in
    record { value = fit_all c.args.block.now c.loop-statement.statement-index (omega arith) c.if-block-gt255.false c.loop-statement-test.false c.loop-statement.invariant }
