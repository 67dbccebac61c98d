-- What a bounded stack holds, and what a push and a pop make of it. Assumes nothing.
use Rattle.std.specs.Prelude.{◌≡◌, ℕ, ◌-◌, ◌<◌, min, Bool, cond, List, [], ◌∷◌, ◌++◌, length, take, Some, None, Option, nat_lt, slice_index_or, slice_set}

-- A stack holds the first `depth` of its slots, oldest first.
abbrev pub held : {X : Type 0} → List X → ℕ → List X
held slots depth = take depth slots

-- A depth past the slots counts as full.
abbrev pub clamped : {X : Type 0} → List X → ℕ → ℕ
clamped slots depth = min depth (length slots)

-- There is room as long as a slot lies past the depth.
abbrev pub room : {X : Type 0} → List X → ℕ → Bool
room slots depth = nat_lt depth (length slots)

-- A push that is granted appends to what is held; a refused one changes nothing.
abbrev pub pushed : {X : Type 0} → Bool → List X → X → List X
pushed granted old x = cond granted (old ++ x ∷ []) old

-- Of the slots, a granted push writes the one past the depth; every other slot stays as it was.
abbrev pub written : {X : Type 0} → Bool → List X → ℕ → X → List X
written granted slots depth x = cond granted (slice_set slots depth x) slots

-- A pop takes the last off what is held, and that is its answer; of nothing it answers none and leaves nothing.
abbrev pub Popped : {X : Type 0} → Option X → List X → List X → Type 0
Popped (Some x) old new = old ≡ new ++ x ∷ []
Popped None old new = (old ≡ []) × (new ≡ [])

-- The same answer by its slot: the one before the depth, and none exactly at depth 0.
abbrev pub Topmost : {X : Type 0} → Option X → List X → ℕ → Type 0
Topmost (Some x) slots depth = (0 < depth) × (x ≡ slice_index_or slots (depth - 1) x)
Topmost None slots depth = depth ≡ 0
