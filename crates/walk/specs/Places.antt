-- The lowest fault of a place, and where the walk goes on from it, as the search asks for them. It assumes nothing.
use Rattle.std.specs.Prelude.{ℕ, ◌+◌, ◌-◌, ◌≤◌, Bool, true, false, cond, ◌&&◌, List, length, Some, None, Option, ◌==◌, nat_le, nat_lt}
use Rattle.walk.specs.declared.faults.Fault.{Fault}
use Rattle.walk.specs.declared.faults.Fault.TheVariants.{MarkMissing, SixthBracket, NoneOpen, BracketsOpen, RunsOut}
use Rattle.walk.specs.declared.flows.Flow.{Flow}
use Rattle.walk.specs.declared.places.Place.{Place}
use Rattle.walk.specs.Faults.{fault_number}
use Rattle.walk.specs.Walk.{flow_at, goes_on, jumps_to, leaves, lacks_mark, opens, closes, leaves_block}

-- a fault is the one of lowest number of which P holds; none, where P holds of no number
abbrev pub Lowest : Option Fault → (ℕ → Type 0) → Type 0
Lowest None P = (v : ℕ) → P v → ⊥
Lowest (Some f) P = P (fault_number f) × ((v : ℕ) → P v → fault_number f ≤ v)

-- the lowest fault that a statement has by itself
abbrev pub fault_of : Flow → ℕ → ℕ → Option Fault
fault_of x k n =
    cond (lacks_mark x) (Some MarkMissing)
    (cond (opens x && k == 5) (Some SixthBracket)
    (cond (closes x && k == 0) (Some NoneOpen)
    (cond (leaves_block x && nat_lt 0 k) (Some BracketsOpen)
    (cond (goes_on x && n == 0) (Some RunsOut) None))))

-- the lower of two faults
abbrev pub lower_of : Option Fault → Option Fault → Option Fault
lower_of None b = b
lower_of (Some f) None = Some f
lower_of (Some f) (Some g) = cond (nat_le (fault_number f) (fault_number g)) (Some f) (Some g)

-- a place by its two numbers
abbrev pub place_at : ℕ → ℕ → Place
place_at s k = record { statement = s; brackets = k }

-- the lowest fault of a place
abbrev pub fault_at : List Flow → Place → Option Fault
fault_at block p = fault_of (flow_at block p.statement) p.brackets (length block - p.statement)

-- a next place, of a place without a fault
abbrev pub unless : Option Fault → Option Place → Option Place
unless None q = q
unless (Some f) q = None

-- the next statement's place, where the walk can go on to it
abbrev pub stepped : Bool → Place → Option Place
stepped true q = Some q
stepped false q = None

-- the place of a jump's target, where there is one
abbrev pub jumped : Option ℕ → ℕ → Option Place
jumped None k = None
jumped (Some t) k = Some (place_at t k)

-- where the walk goes on from a place to the next statement
abbrev pub on_from : List Flow → Place → Option Place
on_from block p =
    unless (fault_at block p) (stepped (goes_on (flow_at block p.statement)) (place_at (p.statement + 1) (leaves (flow_at block p.statement) p.brackets)))

-- where it jumps from a place
abbrev pub jump_from : List Flow → Place → Option Place
jump_from block p = unless (fault_at block p) (jumped (jumps_to (flow_at block p.statement)) p.brackets)
