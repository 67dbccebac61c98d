-- How many statements the walk comes to. It assumes nothing.
use Rattle.std.specs.Prelude.{◌≡◌, ℕ, ◌-◌, ◌/◌, ◌%◌, ◌^◌, ◌≤◌, Bool, false, cond, List, length, take, Some, None, Decides, sum_by, count_by, Option, ◌==◌, slice_index_or}
use Rattle.awl.specs.declared.names.BlockName.{BlockName}
use Rattle.store.specs.Held.{slot_of}
use Rattle.store.specs.Slots.{names_in}
use Rattle.store.specs.declared.store.Store.{Store}
use Rattle.walk.specs.declared.sights.Finding.{Finding}
use Rattle.checker.specs.Project.{Project, project_of, Holds, flows_in, Walk}

-- the walk comes to statement t of block b
abbrev pub ComesTo : Project → BlockName → ℕ → Type 0
ComesTo p b t = (k : ℕ) × Walk p b t k

-- the walk comes to m statements of block b: one mark a statement tells to which
pub record CountsIn (p : Project) (b : BlockName) (m : ℕ) : Type 0 where
  pub marks : List Bool
  pub size : length marks ≡ length (flows_in p b)
  pub right : (t : ℕ) → 1 ≤ t → t ≤ length (flows_in p b) → Decides (slice_index_or marks (t - 1) false) (ComesTo p b t)
  pub count : m ≡ count_by (λ x. x) marks

-- and to n statements of all blocks held
pub record Counts (s : Store) (n : ℕ) : Type 0 where
  pub each : BlockName → ℕ
  pub right : (b : BlockName) → Holds (project_of s) b → CountsIn (project_of s) b (each b)
  pub total : n ≡ sum_by each (names_in s.slots)

-- the statements that were seen in a block
abbrev pub seen_in : Finding → ℕ
seen_in f = count_by (λ x. x.walked) (take f.count f.sights)

-- the same in a slot, where the set has it
abbrev pub seen_at : ℕ → ℕ → Finding → ℕ
seen_at reach i f = cond (reach / 2 ^ i % 2 == 1) (seen_in f) 0

-- what a function of names gives for a slot's name: 0 for none
abbrev pub of_name : (BlockName → ℕ) → Option BlockName → ℕ
of_name f None = 0
of_name f (Some b) = f b

-- the statements that were seen in the block of a name: by its slot
abbrev pub seen_by : (ℕ → ℕ) → Option ℕ → ℕ
seen_by at None = 0
seen_by at (Some i) = at i

-- for all names of a store
abbrev pub seen_of : Store → List Finding → ℕ → Finding → BlockName → ℕ
seen_of s findings reach d b = seen_by (λ i. seen_at reach i (slice_index_or findings i d)) (slot_of s b)
