use Rattle.checker.specs.Project.{project_of}
use Rattle.checker.proofs.Judging.{CleanTo}
use Rattle.checker.proofs.joins.first_in.Given as goal

abbrev pub invariant-loop-i : goal.invariant-loop-i
invariant-loop-i l = CleanTo (project_of l.store) l.name l.deep l.i
