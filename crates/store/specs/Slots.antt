-- What the tables of a project hold, by their fields. It names no store, and assumes nothing.
use Rattle.std.specs.Prelude.{◌≡◌, ℕ, ◌+◌, ◌*◌, ◌<◌, ◌≤◌, Bool, true, false, cond, ◌&&◌, List, [], ◌∷◌, ◌++◌, map, length, take, drop, is_some, Some, None, Option, ◌==◌, nat_le, slice_index_or}
use Rattle.std.specs.Option.{option_or, option_to_list}
use Rattle.awl.specs.Order.{kind_rank}
use Rattle.parser.specs.Statements.{Written, written}
use Rattle.awl.specs.declared.names.BlockName.{BlockName}
use Rattle.awl.specs.declared.statements.Statement.{Statement}
use Rattle.store.specs.declared.slots.Slot.{Slot}
use Rattle.store.specs.declared.slots.DataSlot.{DataSlot}

-- two names are one: the kind and the number are
abbrev pub same_name : BlockName → BlockName → Bool
same_name a b = kind_rank a.kind == kind_rank b.kind && a.number == b.number

-- whether a slot is that of a name
abbrev pub is_named : Option BlockName → BlockName → Bool
is_named None n = false
is_named (Some m) n = same_name m n

-- a slot that no block has
abbrev pub free : Slot
free = record { name = None; size = 0 }

-- the first slot of a name, the first of the list counted as i
abbrev pub slot_from : ℕ → List Slot → BlockName → Option ℕ
slot_from i [] n = None
slot_from i (s ∷ ss) n = cond (is_named s.name n) (Some i) (slot_from (i + 1) ss n)

-- the slot of a name
abbrev pub slot_in : List Slot → BlockName → Option ℕ
slot_in slots n = slot_from 0 slots n

-- the first slot that no block has, the first of the list counted as i
abbrev pub free_from : ℕ → List Slot → Option ℕ
free_from i [] = None
free_from i (s ∷ ss) = cond (is_some s.name) (free_from (i + 1) ss) (Some i)

-- where a block of a name goes: to its own slot, or to the first that no block has
abbrev pub place_in : List Slot → BlockName → Option ℕ
place_in slots n = option_or (slot_in slots n) (free_from 0 slots)

-- the name of the block in a slot
abbrev pub name_in : List Slot → ℕ → Option BlockName
name_in slots i = (slice_index_or slots i free).name

-- how many entries the block in a slot takes
abbrev pub size_in : List Slot → ℕ → ℕ
size_in slots i = (slice_index_or slots i free).size

-- the statements in a slot: each slot has 255 entries of the table, of which its block takes the first
unfoldable pub statements_in : List Slot → List Statement → ℕ → List Written
statements_in slots table i = map written (take (size_in slots i) (drop (i * 255) table))

-- the names of the blocks held
abbrev pub names_in : List Slot → List BlockName
names_in [] = []
names_in (s ∷ ss) = option_to_list s.name ++ names_in ss

-- whether two slots have one name
abbrev pub share_name : Option BlockName → Option BlockName → Bool
share_name None other = false
share_name (Some n) other = is_named other n

-- no two slots have one name
abbrev pub Single : List Slot → Type 0
Single slots = (i j : ℕ) → share_name (name_in slots i) (name_in slots j) ≡ true → i ≡ j

-- a slot that no block has takes no entry
abbrev pub Emptied : List Slot → Type 0
Emptied slots = (i : ℕ) → name_in slots i ≡ None → size_in slots i ≡ 0

-- a slot has 255 entries
abbrev pub Small : List Slot → Type 0
Small slots = (i : ℕ) → size_in slots i ≤ 255

-- a jump that finds its mark goes to one of so many statements, counted from 1
abbrev pub goes_within : ℕ → Option ℕ → Bool
goes_within count None = true
goes_within count (Some t) = nat_le 1 t && nat_le t count

-- every jump does
abbrev pub all_within : ℕ → List Written → Bool
all_within count [] = true
all_within count (w ∷ ws) = goes_within count w.target && all_within count ws

-- a block as it can be read: 1 to 255 statements, each jump that finds its mark going to one of them
unfoldable pub is_readable : List Written → Bool
is_readable block = (nat_le 1 (length block) && nat_le (length block) 255) && all_within (length block) block

-- every block held is one that can be read
abbrev pub AllReadable : List Slot → List Statement → Type 0
AllReadable slots table = (i : ℕ) (n : BlockName) → name_in slots i ≡ Some n → is_readable (statements_in slots table i) ≡ true

-- a data slot that no data block was laid in
abbrev pub bare : DataSlot
bare = record { number = 0; size = 0 }

-- the first data slot of a number, the first of the list counted as i
abbrev pub data_slot_from : ℕ → List DataSlot → ℕ → Option ℕ
data_slot_from i [] n = None
data_slot_from i (s ∷ ss) n = cond (s.number == n) (Some i) (data_slot_from (i + 1) ss n)

-- the data slot of a number: data blocks are laid one slot after another, and stay
abbrev pub data_slot_in : List DataSlot → ℕ → ℕ → Option ℕ
data_slot_in slots count n = data_slot_from 0 (take count slots) n

-- the words in a data slot: each slot has 256 entries of the table, of which its data block takes the first
unfoldable pub words_in : List DataSlot → List ℕ → ℕ → List ℕ
words_in slots table i = take (slice_index_or slots i bare).size (drop (i * 256) table)

-- every data block laid has 1 to 256 words
abbrev pub Sized : List DataSlot → ℕ → Type 0
Sized slots count = (i : ℕ) → i < count → (1 ≤ (slice_index_or slots i bare).size) × ((slice_index_or slots i bare).size ≤ 256)
