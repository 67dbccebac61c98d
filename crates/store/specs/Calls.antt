-- What the calls that change a store answer, and what the store holds after them. It assumes nothing.
use Rattle.std.specs.Prelude.{◌≡◌, ℕ, ◌+◌, ◌-◌, Bool, cond, ◌&&◌, ◌||◌, List, map, replicate, is_some, is_ok, Some, None, Ok, Err, Result, nat_le, nat_lt}
use Rattle.parser.specs.Statements.{Written}
use Rattle.awl.specs.declared.names.BlockName.{BlockName}
use Rattle.awl.specs.declared.refusals.Refusal.{Refusal}
use Rattle.awl.specs.declared.refusals.Refusal.TheVariants as refusal
use Rattle.reader.specs.Reading.{Entry}
use Rattle.reader.specs.declared.faults.BlockFault.{BlockFault}
use Rattle.store.specs.Held.{Blocks, DataBlocks, number_of, blocks, block_count, data_blocks, data_count, spare_statements, spare_words, with_block, with_data}
use Rattle.store.specs.declared.refusals.WriteRefusal.{WriteRefusal}
use Rattle.store.specs.declared.refusals.WriteRefusal.TheVariants.{Text, NoFreePlace}
use Rattle.store.specs.declared.store.Store.{Store}

-- the statements of a text that was read, without their lines and marks
abbrev pub statements_of : List Entry → List Written
statements_of es = map (λ e. e.statement) es

-- there is a place for a block where one of its name is held, or fewer than 32 are
abbrev pub has_place : Blocks → ℕ → BlockName → Bool
has_place b count name = is_some (b name) || nat_lt count 32

-- a write is refused for its text first, and then where there is no place
abbrev pub write_answer : Blocks → ℕ → BlockName → Result (List Entry) BlockFault → Result (Unit {0}) WriteRefusal
write_answer b count name (Err fault) = Err (Text fault)
write_answer b count name (Ok es) = cond (has_place b count name) (Ok tt) (Err NoFreePlace)

-- the blocks after a write: a granted one puts its statements under the name
abbrev pub blocks_written : Blocks → ℕ → BlockName → Result (List Entry) BlockFault → Blocks
blocks_written b count name (Err fault) = b
blocks_written b count name (Ok es) = cond (has_place b count name) (with_block b name (Some (statements_of es))) b

-- how many blocks are held with one of the name: one more, unless there is one
abbrev pub count_with : Blocks → ℕ → BlockName → ℕ
count_with b count name = cond (is_some (b name)) count (count + 1)

-- how many blocks are held after a write
abbrev pub count_written : Blocks → ℕ → BlockName → Result (List Entry) BlockFault → ℕ
count_written b count name (Err fault) = count
count_written b count name (Ok es) = cond (has_place b count name) (count_with b count name) count

-- an erase is refused where no block of the name is held
abbrev pub erase_answer : Blocks → BlockName → Result (Unit {0}) Refusal
erase_answer b name = cond (is_some (b name)) (Ok tt) (Err refusal.NotHeld)

-- the blocks after an erase: where it is granted, none is held under the name
abbrev pub blocks_erased : Blocks → BlockName → Blocks
blocks_erased b name = cond (is_some (b name)) (with_block b name None) b

-- how many blocks are held after an erase
abbrev pub count_erased : Blocks → ℕ → BlockName → ℕ
count_erased b count name = cond (is_some (b name)) (count - 1) count

-- a lay is refused for its length, then where the number is laid already, then where 16 data blocks are laid
abbrev pub lay_answer : DataBlocks → ℕ → ℕ → ℕ → Result (Unit {0}) Refusal
lay_answer d count number size =
    cond (nat_le 1 size && nat_le size 256)
    (cond (is_some (d number)) (Err refusal.LaidAlready)
    (cond (nat_lt count 16) (Ok tt) (Err refusal.NoFreePlace)))
    (Err refusal.DataLength)

-- the data blocks after a lay: a granted one puts so many zeros under the number
abbrev pub data_laid : DataBlocks → ℕ → ℕ → ℕ → DataBlocks
data_laid d count number size = cond (is_ok (lay_answer d count number size)) (with_data d number (Some (replicate size 0))) d

-- how many data blocks are laid after a lay
abbrev pub count_laid : DataBlocks → ℕ → ℕ → ℕ → ℕ
count_laid d count number size = cond (is_ok (lay_answer d count number size)) (count + 1) count

-- what a change of blocks leaves as it was
pub record SameData (old new : Store) : Type 0 where
  pub number : number_of new ≡ number_of old
  pub words : data_blocks new ≡ data_blocks old
  pub laid : data_count new ≡ data_count old
  pub statements_spared : spare_statements new ≡ spare_statements old
  pub words_spared : spare_words new ≡ spare_words old

-- what a change of data blocks leaves as it was
pub record SameBlocks (old new : Store) : Type 0 where
  pub number : number_of new ≡ number_of old
  pub statements : blocks new ≡ blocks old
  pub count : block_count new ≡ block_count old
  pub statements_spared : spare_statements new ≡ spare_statements old
  pub words_spared : spare_words new ≡ spare_words old
