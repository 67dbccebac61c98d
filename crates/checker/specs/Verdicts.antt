-- The verdict on a project, and the order of faults. It assumes nothing.
use Rattle.std.specs.Prelude.{◌≡◌, ℕ, ◌<◌, ◌≤◌, Bool, true, false, ◌⊎◌, Ok, Err, Result}
use Rattle.awl.specs.Order.{Before}
use Rattle.awl.specs.declared.names.BlockName.{BlockName}
use Rattle.walk.specs.Faults.{fault_number}
use Rattle.checker.specs.Project.{Project, Met}
use Rattle.checker.specs.declared.verdicts.Found.{Found}

-- fault v at statement s of block b is told before any other: by block (OB, PB, FB; then number), statement, fault
abbrev pub NotAfter : BlockName → ℕ → ℕ → BlockName → ℕ → ℕ → Type 0
NotAfter b s v c t w = Before b c ⊎ ((b ≡ c) × ((s < t) ⊎ ((s ≡ t) × (v ≤ w))))

-- a project passes: its walk meets no fault
abbrev pub Passes : Project → Type 0
Passes p = (b : BlockName) (s v : ℕ) → Met p b s v → ⊥

-- fault v at statement s of block b is met, and is the first of all that are
pub record First (p : Project) (b : BlockName) (s v : ℕ) : Type 0 where
  pub met : Met p b s v
  pub least : (c : BlockName) (t w : ℕ) → Met p c t w → NotAfter b s v c t w

-- what a check answers: pass, or a fault
abbrev pub Verdict : Type 0
Verdict = Result (Unit {0}) Found

-- a verdict is right: pass where nothing is met, and else the first fault
abbrev pub Judges : Project → Verdict → Type 0
Judges p (Ok pass) = Passes p
Judges p (Err f) = First p f.block f.statement (fault_number f.fault)

-- whether a verdict is pass
abbrev pub is_pass : Verdict → Bool
is_pass (Ok pass) = true
is_pass (Err f) = false
