-- How the walk is searched: places marked in a table of 1,530, and places still to visit. It assumes nothing.
use Rattle.std.specs.Prelude.{◌≡◌, ℕ, ◌+◌, ◌-◌, ◌*◌, ◌<◌, ◌≤◌, Bool, true, false, cond, not, ◌⊎◌, List, [], ◌∷◌, ◌++◌, reverse, length, take, drop, replicate, Some, None, count_by, Option, slice_index_or, slice_set}
use Rattle.walk.specs.declared.flows.Flow.{Flow}
use Rattle.walk.specs.declared.places.Place.{Place}
use Rattle.walk.specs.Places.{place_at}
use Rattle.walk.specs.Walk.{Goes, OnWalk}

-- what waits on a stack: the places on its first slots, the newest first
unfoldable pub waiting_on : List Place → ℕ → List Place
waiting_on slots depth = reverse (take depth slots)

-- where a place is marked: six entries a statement
abbrev pub spot : Place → ℕ
spot p = (p.statement - 1) * 6 + p.brackets

-- the place at statement s with k brackets open is marked
abbrev pub Marked : List Bool → ℕ → ℕ → Type 0
Marked seen s k = slice_index_or seen ((s - 1) * 6 + k) false ≡ true

-- how many places are not marked yet
unfoldable pub unmarked : List Bool → ℕ
unmarked seen = count_by not seen

-- the marks with one place more, if any
abbrev pub marking : List Bool → Option Place → List Bool
marking seen None = seen
marking seen (Some q) = slice_set seen (spot q) true

-- what waits with one place more, if any, unless it was marked before: each place waits at most once
abbrev pub joining : List Bool → List Place → Option Place → List Place
joining seen waiting None = waiting
joining seen waiting (Some q) = cond (slice_index_or seen (spot q) false) waiting (q ∷ waiting)

-- a place is among those that wait
abbrev pub Among : List Place → ℕ → ℕ → Type 0
Among [] s k = ⊥
Among (p ∷ ps) s k = ((p.statement ≡ s) × (p.brackets ≡ k)) ⊎ Among ps s k

-- what the search keeps: every mark is on the walk, and either waits or has all marked that follows it
pub record Hunt (block : List Flow) (seen : List Bool) (waiting : List Place) : Type 0 where
  pub size : length seen ≡ 1530
  pub sound : (s k : ℕ) → 1 ≤ s → k < 6 → Marked seen s k → OnWalk block s k
  pub onward : (s k : ℕ) → 1 ≤ s → k < 6 → Marked seen s k → Among waiting s k ⊎ ((t j : ℕ) → Goes block s k t j → Marked seen t j)
  pub waits : (s k : ℕ) → Among waiting s k → OnWalk block s k
  pub room : length waiting + unmarked seen ≤ 1530

-- the marks are exactly the walk
pub record Exact (block : List Flow) (seen : List Bool) : Type 0 where
  pub size : length seen ≡ 1530
  pub sound : (s k : ℕ) → 1 ≤ s → k < 6 → Marked seen s k → OnWalk block s k
  pub whole : (s k : ℕ) → OnWalk block s k → Marked seen s k

-- the first 1,530 places 0, the others as they were
abbrev pub cleared : List Place → List Place
cleared places = replicate 1530 (place_at 0 0) ++ drop 1530 places
