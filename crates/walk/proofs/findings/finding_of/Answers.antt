use Rattle.std.proofs.Common.{ℕ, List, length, sym, subst, arith}
use Rattle.walk.specs.Findings.{SightedTo, Found}
use Rattle.awl.specs.declared.statements.Statement.{Statement}
use Rattle.walk.specs.Flows.{flows_of}
use Rattle.walk.proofs.Flowing.{length-flows}
use Rattle.walk.proofs.findings.finding_of.Goals as goal

pub invariant_of-result : goal.invariant_of-result
invariant_of-result c =
    let few = c.in_ok-block.block.fit.few in
    let long = length-flows c.in_ok-block.block.statements.now in
    record { room = c.sights_of.ensures.size; few = omega arith }

pub returns-clause-value : goal.returns-clause-value
returns-clause-value c =
    let xs = c.in_ok-block.block.statements.now in
    let long = length-flows xs in
    subst (λ (ys : List Statement). Found (flows_of ys) c.sights_of.result (length xs)) c.in_ok-block.ensures.value
    (record { size = sym long; all = subst (λ (n : ℕ). SightedTo (flows_of xs) c.sights_of.result n) (sym long) c.sights_of.ensures.value })
