-- What a store holds: blocks by name, data blocks by number. It assumes nothing.
use Rattle.std.specs.Prelude.{◌≡◌, ℕ, ◌<◌, ◌≤◌, cond, List, length, drop, Some, None, vec_items, Option, Vec, ◌==◌, slice_index_or}
use Rattle.std.specs.List.{slice_get}
use Rattle.std.specs.Option.{option_map}
use Rattle.std.specs.declared.alloc.Global.{Global}
use Rattle.parser.specs.Statements.{Written}
use Rattle.awl.specs.declared.names.BlockName.{BlockName}
use Rattle.awl.specs.declared.statements.Statement.{Statement}
use Rattle.store.specs.Slots.{same_name, slot_in, name_in, statements_in, names_in, data_slot_in, words_in}
use Rattle.store.specs.declared.store.Store.{Store}

-- the statements of the block that is held under a name, or none
abbrev pub Blocks : Type 0
Blocks = BlockName → Option (List Written)

-- the words of the data block of a number, or none
abbrev pub DataBlocks : Type 0
DataBlocks = ℕ → Option (List ℕ)

-- the number that a store was opened with
abbrev pub number_of : Store → ℕ
number_of s = s.number

-- the slot of the block of a name
abbrev pub slot_of : Store → BlockName → Option ℕ
slot_of s n = slot_in s.slots n

-- the name of the block in a slot
abbrev pub name_at : Store → ℕ → Option BlockName
name_at s i = name_in s.slots i

-- the statements of the block in a slot
abbrev pub text_at : Store → ℕ → List Written
text_at s i = statements_in s.slots (vec_items s.statements) i

-- the blocks that a store holds
unfoldable pub blocks : Store → Blocks
blocks s n = option_map (text_at s) (slot_of s n)

-- how many blocks a store holds
unfoldable pub block_count : Store → ℕ
block_count s = length (names_in s.slots)

-- the data blocks that a store holds
unfoldable pub data_blocks : Store → DataBlocks
data_blocks s n = option_map (words_in s.data_slots (vec_items s.words)) (data_slot_in s.data_slots s.laid n)

-- how many data blocks a store holds
abbrev pub data_count : Store → ℕ
data_count s = s.laid

-- the entries of the statement table that no block can have
abbrev pub spare_statements : Store → List Statement
spare_statements s = drop 8160 (vec_items s.statements)

-- the entries of the word table that no data block can have
abbrev pub spare_words : Store → List ℕ
spare_words s = drop 4096 (vec_items s.words)

-- the blocks with another one, or none, under a name; every other name as before
abbrev pub with_block : Blocks → BlockName → Option (List Written) → Blocks
with_block b name block n = cond (same_name n name) block (b n)

-- the data blocks with another one under a number; every other number as before
abbrev pub with_data : DataBlocks → ℕ → Option (List ℕ) → DataBlocks
with_data d number words n = cond (n == number) words (d n)

-- a word of a data block, from 0, or none where it has no such word
abbrev pub word_of : Option (List ℕ) → ℕ → Option ℕ
word_of None n = None
word_of (Some words) n = slice_get words n

-- a block as it can be read: 1 to 255 statements, each jump that finds its mark going to one of them
pub record Readable (block : List Written) : Type 0 where
  pub some : 1 ≤ length block
  pub few : length block ≤ 255
  pub aimed : (s t : ℕ) (d : Written) → s < length block → (slice_index_or block s d).target ≡ Some t → (1 ≤ t) × (t ≤ length block)

-- a new store holds nothing, and leaves the tables as they came
pub record Opened (number : ℕ) (statements : Vec Statement Global) (words : Vec ℕ Global) (s : Store) : Type 0 where
  pub numbered : number_of s ≡ number
  pub empty : blocks s ≡ λ _. None
  pub none : block_count s ≡ 0
  pub bare : data_blocks s ≡ λ _. None
  pub unlaid : data_count s ≡ 0
  pub statements_spared : spare_statements s ≡ drop 8160 (vec_items statements)
  pub words_spared : spare_words s ≡ drop 4096 (vec_items words)
