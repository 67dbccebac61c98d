use Rattle.std.proofs.Common.{◌+◌, sym, ap, ◌∙◌, subst, arith}
use lib.Bits.{bit_or}
use Rattle.walk.specs.declared.sights.Sight.{Sight}
use Rattle.walk.specs.Findings.{Sighted}
use Rattle.checker.specs.Joins.{EntersTo}
use Rattle.checker.specs.Project.{project_of, flows_in}
use Rattle.checker.proofs.Entering.{enters_more}
use Rattle.checker.proofs.Outwards.{told_count, told_here}
use Rattle.checker.proofs.joins.entered_from.Goals as goal

pub loop-sight-preserved : goal.loop-sight-preserved
loop-sight-preserved c b of =
    let store = c.args.store.now in
    let f = c.args.finding.now in
    let told = c.sights-sight-items.result.now in
    let are = c.sights-sight-items.ensures.value in
    let i = c.loop-sight.sight-index in
    let size = of.size in
    let count = told_count f told are in
    let sighted = of.all (i + 1) (omega arith) (omega arith) in
    let seen = subst (λ (x : Sight). Sighted (flows_in (project_of store) b) (i + 1) x) (sym (told_here f told i _ are c.loop-sight-test.true)) sighted in
    subst (EntersTo store b (i + 1)) (sym (c.bitor-out.ensures.bits ∙ ap (bit_or c.loop-sight.out) c.entered_by.ensures.value))
    (enters_more store b i c.loop-sight.out _ seen (c.loop-sight.invariant b of))
