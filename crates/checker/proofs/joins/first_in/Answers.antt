use Rattle.std.proofs.Common.{refl, arith}
use Rattle.checker.specs.Project.{project_of}
use Rattle.checker.proofs.Judging.{clean_none, clean_more, first_here, clean_all}
use Rattle.checker.proofs.Outwards.{told_count, told_lowest}
use Rattle.checker.proofs.joins.first_in.Goals as goal

pub loop-i-init : goal.loop-i-init
loop-i-init c = clean_none (project_of c.args.store.now) c.args.name c.args.deep c.requires.fit

pub returns-in-Some : goal.returns-in-Some
returns-in-Some c = record { value = (refl, first_here (project_of c.args.store.now) c.args.name c.args.deep c.loop-i.i _ c.in-Some.fault c.in-Some.is (told_lowest _ _ c.args.deep c.args.finding.now c.sights-sight-items.result.now c.loop-i.i _ _ c.requires.of c.sights-sight-items.ensures.value c.loop-i-test.true c.fault_seen.ensures.value) c.loop-i.invariant) }

pub loop-i-preserved : goal.loop-i-preserved
loop-i-preserved c = clean_more (project_of c.args.store.now) c.args.name c.args.deep c.loop-i.i _ c.in_default.is (told_lowest _ _ c.args.deep c.args.finding.now c.sights-sight-items.result.now c.loop-i.i _ _ c.requires.of c.sights-sight-items.ensures.value c.loop-i-test.true c.fault_seen.ensures.value) c.loop-i.invariant

pub returns : goal.returns
returns c =
    let size = c.requires.of.size in
    let count = told_count c.args.finding.now c.sights-sight-items.result.now c.sights-sight-items.ensures.value in
    record { value = clean_all (project_of c.args.store.now) c.args.name c.args.deep c.loop-i.i c.requires.fit (omega arith) c.loop-i.invariant }
