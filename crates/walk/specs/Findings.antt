-- What the walk found at each statement of a block. It assumes nothing.
use Rattle.std.specs.Prelude.{◌≡◌, ℕ, ◌-◌, ◌<◌, ◌≤◌, false, List, length, None, Decides, slice_index_or}
use Rattle.walk.specs.declared.flows.Flow.{Flow}
use Rattle.walk.specs.declared.flows.Flow.TheVariants.{Stop}
use Rattle.walk.specs.declared.sights.Sight.{Sight}
use Rattle.walk.specs.Places.{Lowest}
use Rattle.walk.specs.Walk.{flow_at, HasAt, OnWalk}

-- the walk comes to a statement with fewer than n brackets open
abbrev pub ComesBelow : List Flow → ℕ → ℕ → Type 0
ComesBelow block s n = (k : ℕ) × (k < n) × OnWalk block s k

-- the walk comes to a statement: to any place of it
abbrev pub Comes : List Flow → ℕ → Type 0
Comes block s = (k : ℕ) × OnWalk block s k

-- a place of a statement with fewer than n brackets open is on the walk, and has fault v by itself
abbrev pub MeetsBelow : List Flow → ℕ → ℕ → ℕ → Type 0
MeetsBelow block s n v = (k : ℕ) × (k < n) × OnWalk block s k × HasAt block s k v

-- a place of a statement is on the walk, and has fault v by itself
abbrev pub Meets : List Flow → ℕ → ℕ → Type 0
Meets block s v = (k : ℕ) × OnWalk block s k × HasAt block s k v

-- a sight of a statement tells its flow, the lowest fault that it has by itself on the walk, whether the walk comes to it,
-- and whether it does so with no bracket open
pub record Sighted (block : List Flow) (s : ℕ) (x : Sight) : Type 0 where
  pub flow : x.flow ≡ flow_at block s
  pub fault : Lowest x.fault (Meets block s)
  pub walked : Decides x.walked (Comes block s)
  pub bare : Decides x.bare (OnWalk block s 0)

-- the sight of a statement that does not exist
abbrev pub unseen : Sight
unseen = record { flow = Stop; fault = None; walked = false; bare = false }

-- the first n statements of a block are sighted
abbrev pub SightedTo : List Flow → List Sight → ℕ → Type 0
SightedTo block sights n = (s : ℕ) → 1 ≤ s → s ≤ n → Sighted block s (slice_index_or sights (s - 1) unseen)

-- all of them are
pub record Found (block : List Flow) (sights : List Sight) (count : ℕ) : Type 0 where
  pub size : count ≡ length block
  pub all : SightedTo block sights (length block)
