-- The walk through one block, and what one of its places has by itself. A place is a statement, from 1, with a number of
-- open brackets. It assumes nothing.
use Rattle.std.specs.Prelude.{◌≡◌, ℕ, ◌+◌, ◌-◌, ◌<◌, ◌≤◌, Bool, true, false, List, length, Some, None, Option, slice_index_or}
use Rattle.walk.specs.declared.flows.Flow.{Flow}
use Rattle.walk.specs.declared.flows.Flow.TheVariants.{Plain, Open, Close, Jump, Branch, Call, End, MayEnd, Stop, Choose}

-- the flow of a statement of a block
abbrev pub flow_at : List Flow → ℕ → Flow
flow_at block s = slice_index_or block (s - 1) Stop

-- whether a statement can go on to the next one
abbrev pub goes_on : Flow → Bool
goes_on Plain = true
goes_on Open = true
goes_on Close = true
goes_on (Jump t) = false
goes_on (Branch t) = true
goes_on (Call b) = true
goes_on End = false
goes_on MayEnd = true
goes_on Stop = false
goes_on (Choose n) = true

-- the statement that a jump can go to
abbrev pub jumps_to : Flow → Option ℕ
jumps_to Plain = None
jumps_to Open = None
jumps_to Close = None
jumps_to (Jump t) = t
jumps_to (Branch t) = t
jumps_to (Call b) = None
jumps_to End = None
jumps_to MayEnd = None
jumps_to Stop = None
jumps_to (Choose n) = None

-- the brackets open behind a statement
abbrev pub leaves : Flow → ℕ → ℕ
leaves Plain k = k
leaves Open k = k + 1
leaves Close k = k - 1
leaves (Jump t) k = k
leaves (Branch t) k = k
leaves (Call b) k = k
leaves End k = k
leaves MayEnd k = k
leaves Stop k = k
leaves (Choose n) k = k

-- a jump, conditional or not, whose block lacks its mark
abbrev pub lacks_mark : Flow → Bool
lacks_mark Plain = false
lacks_mark Open = false
lacks_mark Close = false
lacks_mark (Jump None) = true
lacks_mark (Jump (Some t)) = false
lacks_mark (Branch None) = true
lacks_mark (Branch (Some t)) = false
lacks_mark (Call b) = false
lacks_mark End = false
lacks_mark MayEnd = false
lacks_mark Stop = false
lacks_mark (Choose n) = false

-- U( and O(
abbrev pub opens : Flow → Bool
opens Plain = false
opens Open = true
opens Close = false
opens (Jump t) = false
opens (Branch t) = false
opens (Call b) = false
opens End = false
opens MayEnd = false
opens Stop = false
opens (Choose n) = false

-- )
abbrev pub closes : Flow → Bool
closes Plain = false
closes Open = false
closes Close = true
closes (Jump t) = false
closes (Branch t) = false
closes (Call b) = false
closes End = false
closes MayEnd = false
closes Stop = false
closes (Choose n) = false

-- a call or a block's end, conditional or not
abbrev pub leaves_block : Flow → Bool
leaves_block Plain = false
leaves_block Open = false
leaves_block Close = false
leaves_block (Jump t) = false
leaves_block (Branch t) = false
leaves_block (Call b) = true
leaves_block End = true
leaves_block MayEnd = true
leaves_block Stop = false
leaves_block (Choose n) = false

-- a statement with k brackets open and n statements behind it has fault v: K1, K3, K4, K5 or K6
pub data Has (x : Flow) (k n v : ℕ) : Type 0 where
  -- a jump without its mark
  k1 : lacks_mark x ≡ true → v ≡ 1 → Has x k n v
  -- a sixth bracket opened
  k3 : opens x ≡ true → k ≡ 5 → v ≡ 3 → Has x k n v
  -- ) with none open
  k4 : closes x ≡ true → k ≡ 0 → v ≡ 4 → Has x k n v
  -- a call or a block's end with brackets open
  k5 : leaves_block x ≡ true → 0 < k → v ≡ 5 → Has x k n v
  -- running on from the last statement
  k6 : goes_on x ≡ true → n ≡ 0 → v ≡ 6 → Has x k n v

-- the place at statement s of a block with k brackets open has fault v by itself
abbrev pub HasAt : List Flow → ℕ → ℕ → ℕ → Type 0
HasAt block s k v = Has (flow_at block s) k (length block - s) v

-- the walk goes on from a place that has none of these faults: to the next statement, or where its jump goes
pub data Goes (block : List Flow) (s k t j : ℕ) : Type 0 where
  next : ((v : ℕ) → HasAt block s k v → ⊥) → goes_on (flow_at block s) ≡ true → t ≡ s + 1 → j ≡ leaves (flow_at block s) k → Goes block s k t j
  jump : ((v : ℕ) → HasAt block s k v → ⊥) → jumps_to (flow_at block s) ≡ Some t → j ≡ k → Goes block s k t j

-- the walk of a block that is entered comes to the place at statement s with k brackets open
pub data OnWalk (block : List Flow) : ℕ → ℕ → Type 0 where
  -- a block is entered at its first statement with no bracket open
  start : OnWalk block 1 0
  on : {s k t j : ℕ} → OnWalk block s k → Goes block s k t j → OnWalk block t j

-- a jump that finds its mark goes to one of n statements
abbrev pub AimedInto : Flow → ℕ → Type 0
AimedInto x n = (t : ℕ) → jumps_to x ≡ Some t → (1 ≤ t) × (t ≤ n)

-- a jump that finds its mark goes to a statement of its block
abbrev pub Aimed : List Flow → ℕ → Type 0
Aimed block s = AimedInto (flow_at block s) (length block)

-- a block as it can be read: 1 to 255 statements, and every jump is aimed
pub record Fit (block : List Flow) : Type 0 where
  pub some : 1 ≤ length block
  pub few : length block ≤ 255
  pub aimed : (s : ℕ) → 1 ≤ s → s ≤ length block → Aimed block s
