-- A project's walk and the faults K1 to K9 on it. A place is a block, a statement of it, from 1, and a number of open
-- brackets. It assumes nothing.
use Rattle.std.specs.Prelude.{◌≡◌, ℕ, zero, suc, true, List, [], is_some, Some, None, Option}
use Rattle.parser.specs.Statements.{Written}
use Rattle.awl.specs.declared.names.BlockKind.TheVariants.{Organisation}
use Rattle.awl.specs.declared.names.BlockName.{BlockName}
use Rattle.store.specs.Held.{Blocks, DataBlocks, blocks, data_blocks}
use Rattle.store.specs.declared.store.Store.{Store}
use Rattle.walk.specs.Flows.{flows}
use Rattle.walk.specs.Walk.{flow_at, HasAt, Goes}
use Rattle.walk.specs.declared.flows.Flow.{Flow}
use Rattle.walk.specs.declared.flows.Flow.TheVariants.{Call, Choose}

-- what is checked: the blocks by name and the data blocks by number
pub record Project : Type 0 where
  pub blocks : Blocks
  pub data_blocks : DataBlocks

-- what a store holds, as a project
abbrev pub project_of : Store → Project
project_of s = record { blocks = blocks s; data_blocks = data_blocks s }

-- a block is held under a name
abbrev pub Holds : Project → BlockName → Type 0
Holds p n = is_some (p.blocks n) ≡ true

-- a data block is laid under a number
abbrev pub Lays : Project → ℕ → Type 0
Lays p n = is_some (p.data_blocks n) ≡ true

-- the flows of a block that may be held
abbrev pub flows_held : Option (List Written) → List Flow
flows_held None = []
flows_held (Some b) = flows b

-- the flows of the block of a name
abbrev pub flows_in : Project → BlockName → List Flow
flows_in p n = flows_held (p.blocks n)

-- OB 1, where a scan starts
abbrev pub outermost : BlockName
outermost = record { kind = Organisation; number = 1 }

-- the walk comes to the place at statement s of block b with k brackets open
pub data Walk (p : Project) : BlockName → ℕ → ℕ → Type 0 where
  -- it starts at statement 1 of OB 1 with none open
  starts : Holds p outermost → Walk p outermost 1 0
  -- it goes on inside a block: to the next statement and to a jump's target, both ways where there is a condition
  goes : {b : BlockName} {s k t j : ℕ} → Walk p b s k → Goes (flows_in p b) s k t j → Walk p b t j
  -- it enters every block that is called with no bracket open
  enters : {b d : BlockName} {s : ℕ} → Walk p b s 0 → flow_at (flows_in p b) s ≡ Call d → Holds p d → Walk p d 1 0

-- a chain of n calls on the walk leads into block b: the first in OB 1, each next in the block just entered
pub data Chain (p : Project) : ℕ → BlockName → Type 0 where
  alone : Holds p outermost → Chain p zero outermost
  more : {n : ℕ} {b d : BlockName} {s : ℕ} → Chain p n b → Walk p b s 0 → flow_at (flows_in p b) s ≡ Call d → Holds p d → Chain p (suc n) d

-- the place at statement s of block b with k brackets open has fault v
pub data HasIn (p : Project) (b : BlockName) (s k v : ℕ) : Type 0 where
  -- K1, K3, K4, K5 and K6 are the place's own
  own : HasAt (flows_in p b) s k v → HasIn p b s k v
  -- a call of a block that is not held
  k2 : (d : BlockName) → flow_at (flows_in p b) s ≡ Call d → (Holds p d → ⊥) → v ≡ 2 → HasIn p b s k v
  -- an A DB of a data block that is not laid
  k7 : (n : ℕ) → flow_at (flows_in p b) s ≡ Choose n → (Lays p n → ⊥) → v ≡ 7 → HasIn p b s k v
  -- a call behind a chain of ten: the eleventh
  k8 : (d : BlockName) → flow_at (flows_in p b) s ≡ Call d → k ≡ 0 → Chain p 10 b → v ≡ 8 → HasIn p b s k v

-- the walk meets fault v at statement s of block b
pub data Met (p : Project) : BlockName → ℕ → ℕ → Type 0 where
  at : {b : BlockName} {s k v : ℕ} → Walk p b s k → HasIn p b s k v → Met p b s v
  -- there is no OB 1: told at its statement 0
  k9 : (Holds p outermost → ⊥) → Met p outermost 0 9
