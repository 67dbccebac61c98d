-- What the join's tables say of a store, slot by slot. It assumes nothing.
use Rattle.std.specs.Prelude.{◌≡◌, ℕ, ◌<◌, ◌≤◌, ◌⊎◌, List, Some, None, Option, slice_index, slice_index_or}
use Rattle.awl.specs.Order.{Before}
use Rattle.awl.specs.declared.names.BlockName.{BlockName}
use Rattle.store.specs.Held.{slot_of, name_at}
use Rattle.store.specs.declared.store.Store.{Store}
use Rattle.walk.specs.Faults.{fault_number}
use Rattle.walk.specs.Findings.{Found}
use Rattle.walk.specs.Walk.{flow_at, OnWalk}
use Rattle.walk.specs.declared.flows.Flow.TheVariants.{Call}
use Rattle.walk.specs.declared.sights.Finding.{Finding}
use Rattle.checker.specs.Chains.{In}
use Rattle.checker.specs.Project.{project_of, flows_in, Chain, Met}
use Rattle.checker.specs.Verdicts.{NotAfter}
use Rattle.checker.specs.declared.verdicts.Found.{Found as FoundFault}

-- a finding is that of the block of a name
abbrev pub IsOf : Finding → Store → BlockName → Type 0
IsOf f s b = Found (flows_in (project_of s) b) f.sights f.count

-- the first n slots have the findings of their blocks
abbrev pub FoundTo : Store → List Finding → ℕ → Type 0
FoundTo s findings n = (i : ℕ) (b : BlockName) (d : Finding) → i < n → name_at s i ≡ Some b → IsOf (slice_index_or findings i d) s b

-- block b enters the block in slot j: a call at statement t, come to with no bracket open
pub record Enters (s : Store) (b : BlockName) (j t : ℕ) : Type 0 where
  pub called : BlockName
  pub walked : OnWalk (flows_in (project_of s) b) t 0
  pub calls : flow_at (flows_in (project_of s) b) t ≡ Call called
  pub slot : slot_of s called ≡ Some j

-- the slots that the first n statements of a block enter
pub record EntersTo (s : Store) (b : BlockName) (n out : ℕ) : Type 0 where
  pub only : (j : ℕ) → In out j → (t : ℕ) × Enters s b j t
  pub all : (j t : ℕ) → 1 ≤ t → t ≤ n → Enters s b j t → In out j

-- the same of all statements of the blocks in the first n slots
pub record CallsTo (s : Store) (calls : List ℕ) (n : ℕ) : Type 0 where
  pub only : (i j : ℕ) (b : BlockName) → i < n → name_at s i ≡ Some b → In (slice_index calls i) j → (t : ℕ) × Enters s b j t
  pub all : (i j t : ℕ) (b : BlockName) → i < n → name_at s i ≡ Some b → Enters s b j t → In (slice_index calls i) j

-- a set of slots has exactly the blocks that chains of calls enter
pub record Reach (s : Store) (reach : ℕ) : Type 0 where
  pub only : (i : ℕ) (b : BlockName) → name_at s i ≡ Some b → In reach i → (n : ℕ) × Chain (project_of s) n b
  pub all : (n i : ℕ) (b : BlockName) → name_at s i ≡ Some b → Chain (project_of s) n b → In reach i

-- the sets that the join goes by: the blocks that chains of calls enter, and those that ten calls lead into
pub record Reached (s : Store) (reach last : ℕ) : Type 0 where
  pub any : Reach s reach
  pub last_only : (i : ℕ) (b : BlockName) → name_at s i ≡ Some b → In last i → Chain (project_of s) 10 b
  pub last_all : (i : ℕ) (b : BlockName) → name_at s i ≡ Some b → Chain (project_of s) 10 b → In last i

-- the first fault of the blocks in the first n slots
pub record FirstTo (s : Store) (n : ℕ) (f : FoundFault) : Type 0 where
  pub slot : ℕ
  pub within : slot < n
  pub named : name_at s slot ≡ Some f.block
  pub met : Met (project_of s) f.block f.statement (fault_number f.fault)
  pub least : (i : ℕ) (b : BlockName) (t w : ℕ) → i < n → name_at s i ≡ Some b → Met (project_of s) b t w → NotAfter f.block f.statement (fault_number f.fault) b t w

-- an answer is that first fault, or none where they have none
abbrev pub JudgesTo : Store → ℕ → Option FoundFault → Type 0
JudgesTo s n None = (i : ℕ) (b : BlockName) (t w : ℕ) → i < n → name_at s i ≡ Some b → Met (project_of s) b t w → ⊥
JudgesTo s n (Some f) = FirstTo s n f

-- the first fault of the block in slot n
pub record FirstHere (s : Store) (n : ℕ) (f : FoundFault) : Type 0 where
  pub named : name_at s n ≡ Some f.block
  pub met : Met (project_of s) f.block f.statement (fault_number f.fault)
  pub least : (t w : ℕ) → Met (project_of s) f.block t w → (f.statement < t) ⊎ ((f.statement ≡ t) × (fault_number f.fault ≤ w))

-- an answer is that first fault, or none where the slot has no block, or one with nothing on the walk
abbrev pub JudgesHere : Store → ℕ → Option FoundFault → Type 0
JudgesHere s n None = (b : BlockName) (t w : ℕ) → name_at s n ≡ Some b → Met (project_of s) b t w → ⊥
JudgesHere s n (Some f) = FirstHere s n f

-- of two faults, the one whose block comes first; of two in one block the first
abbrev pub Earlier : Option FoundFault → Option FoundFault → Option FoundFault → Type 0
Earlier None other r = r ≡ other
Earlier (Some f) None r = r ≡ Some f
Earlier (Some f) (Some g) r = ((r ≡ Some g) × Before g.block f.block) ⊎ ((r ≡ Some f) × (Before g.block f.block → ⊥))
