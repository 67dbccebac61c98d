use Rattle.std.proofs.Common.{◌≡◌, ℕ, ◌+◌, Bool, Decides, Option, sym, ◌∙◌, subst, arith}
use Rattle.std.proofs.lemmas.Bool.Decides.{not_from_Decides}
use Rattle.walk.specs.declared.faults.Fault.{Fault}
use Rattle.walk.specs.Findings.{ComesBelow, MeetsBelow}
use Rattle.walk.specs.Flows.{flows_of}
use Rattle.walk.specs.Places.{Lowest}
use Rattle.walk.proofs.Sighting.{fault_more, fault_skip, comes_more, comes_skip, fault_all, comes_all, marked_walk}
use Rattle.walk.proofs.findings.sight_at.Goals as goal
use Rattle.walk.proofs.findings.sight_at.Goals.{then-has, else-has}

pub loop-brackets-preserved : goal.loop-brackets-preserved
loop-brackets-preserved c =
    let block = flows_of c.args.block.statements.now in
    let s = c.args.statement in
    let k = c.loop-brackets.brackets in
    let few = c.loop-brackets-test.true in
    let here = marked_walk block s c.args.marks.now.marked k _ c.requires.exact c.requires.low few c.has.ensures.value in
    elim c.if-has.branch [
      | then-has w ↦ (
        fault_more block s k _ _ _ (here.0 w.if-has.true) w.fault_at.ensures.value (w.fault-is ∙ w.lower-fault.ensures.value) c.loop-brackets.invariant.0,
        comes_more block s k _ w.walked-is (here.0 w.if-has.true),
      )
      | else-has w ↦
          let off = not_from_Decides _ here w.if-has.false in (
            subst (λ (o : Option Fault). Lowest o (MeetsBelow block s (k + 1))) (sym w.fault-is) (fault_skip block s k _ off c.loop-brackets.invariant.0),
            subst (λ (b : Bool). Decides b (ComesBelow block s (k + 1))) (sym w.walked-is) (comes_skip block s k _ off c.loop-brackets.invariant.1),
          )
    ]

pub returns : goal.returns
returns c =
    let block = flows_of c.args.block.statements.now in
    let s = c.args.statement in
    let six : c.loop-brackets.brackets ≡ 6 = (let low = c.loop-brackets-test.false in let high = c.loop-brackets.auto.brackets-end in omega arith) in
    let inv = subst (λ (n : ℕ). Lowest c.loop-brackets.fault (MeetsBelow block s n) × Decides c.loop-brackets.walked (ComesBelow block s n)) six c.loop-brackets.invariant in
    record {
      value = record {
        flow = c.flow_at.ensures.value;
        fault = fault_all block s _ c.args.block.fit inv.0;
        walked = comes_all block s _ c.args.block.fit inv.1;
        bare = marked_walk block s c.args.marks.now.marked 0 _ c.requires.exact c.requires.low (omega arith) c.has-2.ensures.value;
      };
    }
