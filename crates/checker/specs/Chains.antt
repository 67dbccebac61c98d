-- Sets of slots as bits, and chains of calls from slot to slot. It assumes nothing.
use Rattle.std.specs.Prelude.{◌≡◌, ℕ, zero, suc, ◌/◌, ◌%◌, ◌^◌, ◌<◌, List, slice_index, bit_or}

-- slot i is in a set
abbrev pub In : ℕ → ℕ → Type 0
In set i = set / 2 ^ i % 2 ≡ 1

-- the slots of two sets, among 32
pub record Union (one other both : ℕ) : Type 0 where
  pub bits : both ≡ bit_or one other
  pub few : both < 2 ^ 32

-- the block in slot i calls that in slot j, one of 32
abbrev pub Calls : List ℕ → ℕ → ℕ → Type 0
Calls calls i j = (j < 32) × In (slice_index calls i) j

-- a chain of n calls, the first in the block of slot `from`, each next in the block just entered, enters that of slot i
pub data Linked (calls : List ℕ) (from : ℕ) : ℕ → ℕ → Type 0 where
  none : Linked calls from zero from
  call : {n i j : ℕ} → Linked calls from n i → Calls calls i j → Linked calls from (suc n) j

-- the slots called from the first n slots of a set
pub record Called (calls : List ℕ) (slots n out : ℕ) : Type 0 where
  pub only : (j : ℕ) → In out j → (i : ℕ) × (i < n) × In slots i × In (slice_index calls i) j
  pub all : (i j : ℕ) → i < n → In slots i → In (slice_index calls i) j → In out j

-- exactly the slots that chains of n calls enter
pub record Level (calls : List ℕ) (from n out : ℕ) : Type 0 where
  pub only : (j : ℕ) → j < 32 → In out j → Linked calls from n j
  pub all : (j : ℕ) → Linked calls from n j → In out j

-- exactly the slots that chains enter
pub record Entered (calls : List ℕ) (from out : ℕ) : Type 0 where
  pub only : (j : ℕ) → j < 32 → In out j → (n : ℕ) × Linked calls from n j
  pub all : (n j : ℕ) → Linked calls from n j → In out j
