-- What one block of a project has on its walk, given whether ten calls lead into it. It assumes nothing.
use Rattle.std.specs.Prelude.{◌≡◌, ℕ, ◌^◌, ◌<◌, ◌≤◌, Bool, true, cond, ◌&&◌, ◌⊎◌, is_some, Some, None, Option}
use Rattle.awl.specs.declared.names.BlockName.{BlockName}
use Rattle.walk.specs.Faults.{fault_number}
use Rattle.walk.specs.Places.{lower_of}
use Rattle.walk.specs.Walk.{flow_at, HasAt, OnWalk}
use Rattle.walk.specs.declared.faults.Fault.{Fault}
use Rattle.walk.specs.declared.faults.Fault.TheVariants.{BlockNotHeld, DataNotHeld, EleventhCall}
use Rattle.walk.specs.declared.flows.Flow.{Flow}
use Rattle.walk.specs.declared.flows.Flow.TheVariants.{Plain, Open, Close, Jump, Branch, Call, End, MayEnd, Stop, Choose}
use Rattle.walk.specs.declared.sights.Sight.{Sight}
use Rattle.checker.specs.Project.{Project, Holds, Lays, flows_in}
use Rattle.checker.specs.declared.verdicts.Found.{Found}

-- a statement with k brackets open has fault v by what stands outside its block; `deep` says whether ten calls lead there
pub data Outward (p : Project) (deep : Bool) (x : Flow) (k v : ℕ) : Type 0 where
  k2 : (d : BlockName) → x ≡ Call d → (Holds p d → ⊥) → v ≡ 2 → Outward p deep x k v
  k7 : (n : ℕ) → x ≡ Choose n → (Lays p n → ⊥) → v ≡ 7 → Outward p deep x k v
  k8 : (d : BlockName) → x ≡ Call d → k ≡ 0 → deep ≡ true → v ≡ 8 → Outward p deep x k v

-- the walk of block b comes to a place of statement s that has fault v
abbrev pub BadAt : Project → BlockName → Bool → ℕ → ℕ → Type 0
BadAt p b deep s v = (k : ℕ) × OnWalk (flows_in p b) s k × (HasAt (flows_in p b) s k v ⊎ Outward p deep (flow_at (flows_in p b) s) k v)

-- the first fault of a block
pub record FirstIn (p : Project) (b : BlockName) (deep : Bool) (s v : ℕ) : Type 0 where
  pub bad : BadAt p b deep s v
  pub least : (t w : ℕ) → BadAt p b deep t w → (s < t) ⊎ ((s ≡ t) × (v ≤ w))

-- an answer is the first fault of a block, or none where it has none
abbrev pub JudgesIn : Project → BlockName → Bool → Option Found → Type 0
JudgesIn p b deep None = (t w : ℕ) → BadAt p b deep t w → ⊥
JudgesIn p b deep (Some f) = (f.block ≡ b) × FirstIn p b deep f.statement (fault_number f.fault)

-- the fault that a flow has by what stands outside: by the names held, the data blocks laid, and whether the call can be
-- an eleventh
abbrev pub outward_of : (BlockName → Bool) → (ℕ → Bool) → Bool → Flow → Option Fault
outward_of held laid eleventh (Call d) = cond (held d) (cond eleventh (Some EleventhCall) None) (Some BlockNotHeld)
outward_of held laid eleventh (Choose n) = cond (laid n) None (Some DataNotHeld)
outward_of held laid eleventh Plain = None
outward_of held laid eleventh Open = None
outward_of held laid eleventh Close = None
outward_of held laid eleventh (Jump t) = None
outward_of held laid eleventh (Branch t) = None
outward_of held laid eleventh End = None
outward_of held laid eleventh MayEnd = None
outward_of held laid eleventh Stop = None

-- the lowest fault of a statement by its sight
unfoldable pub fault_seen : Project → Bool → Sight → Option Fault
fault_seen p deep x =
    lower_of x.fault
    (cond x.walked (outward_of (λ d. is_some (p.blocks d)) (λ n. is_some (p.data_blocks n)) (x.bare && deep) x.flow) None)

-- a slot as a set, or none
abbrev pub bit_of : Option ℕ → ℕ
bit_of None = 0
bit_of (Some i) = 2 ^ i

-- the slot that a flow calls
abbrev pub call_of : (BlockName → Option ℕ) → Flow → Option ℕ
call_of slots (Call d) = slots d
call_of slots (Choose n) = None
call_of slots Plain = None
call_of slots Open = None
call_of slots Close = None
call_of slots (Jump t) = None
call_of slots (Branch t) = None
call_of slots End = None
call_of slots MayEnd = None
call_of slots Stop = None

-- the slot that a statement's call enters, as a set: a call enters where it is seen with no bracket open
abbrev pub entered_by : (BlockName → Option ℕ) → Sight → ℕ
entered_by slots x = cond x.bare (bit_of (call_of slots x.flow)) 0
