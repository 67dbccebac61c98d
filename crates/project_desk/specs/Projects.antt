-- What the project calls answer, and what they make of the project that is open. It assumes nothing.
use Rattle.std.specs.Prelude.{◌≡◌, ℕ, Bool, cond, ◌&&◌, List, Some, None, Option, nat_le}
use Rattle.std.specs.Option.{option_map}
use Rattle.awl.specs.declared.refusals.Refusal.TheVariants.{ShortTable}
use Rattle.reader.specs.Reading.{reading}
use Rattle.store.specs.Calls.{write_answer, blocks_written, count_written, erase_answer, blocks_erased, count_erased, lay_answer, data_laid, count_laid}
use Rattle.store.specs.Held.{Blocks, DataBlocks, number_of, blocks, block_count, data_blocks, data_count, word_of}
use Rattle.store.specs.declared.store.Store.{Store}
use Rattle.checker.specs.Project.{Project}
use Rattle.checker.specs.Verdicts.{Verdict, Judges}
use Rattle.answers.specs.Told.{told, word_told}
use Rattle.answers.specs.declared.Answer.{Answer}
use Rattle.answers.specs.declared.Answer.TheVariants.{Done, Refused, BadLine}
use Rattle.protocol.specs.declared.calls.ProjectCall.{ProjectCall}
use Rattle.protocol.specs.declared.calls.ProjectCall.TheVariants.{Open, Write, Erase, Lay, Check, Word, Data}
use Rattle.project_desk.specs.declared.slots.ProjectSlot.{ProjectSlot}
use Rattle.project_desk.specs.Told.{write_told, verdict_told, WordsTold}

-- what a project holds: its number, its blocks by name and its data blocks by number, with the count of both
pub record Held : Type 0 where
  pub number : ℕ
  pub blocks : Blocks
  pub block_count : ℕ
  pub data_blocks : DataBlocks
  pub data_count : ℕ

-- what a store holds
abbrev pub held : Store → Held
held s = record { number = number_of s; blocks = blocks s; block_count = block_count s; data_blocks = data_blocks s; data_count = data_count s }

-- a new project holds nothing
abbrev pub fresh : ℕ → Held
fresh n = record { number = n; blocks = λ _. None; block_count = 0; data_blocks = λ _. None; data_count = 0 }

-- a table of statements has 8,160 entries at least, one of words 4,096
abbrev pub is_long : ℕ → ℕ → Bool
is_long statements words = nat_le 8160 statements && nat_le 4096 words

-- what is checked of a project: its blocks and its data blocks
abbrev pub checked : Held → Project
checked p = record { blocks = p.blocks; data_blocks = p.data_blocks }

-- a check answers with a verdict that is right
abbrev pub CheckTold : Project → Answer → Type 0
CheckTold p a = (v : Verdict) × Judges p v × (a ≡ verdict_told v)

-- what a call answers where a project is open
abbrev pub Tells : Held → ProjectCall (List ℕ) → Answer → Type 0
Tells p (Open n s w) a = a ≡ BadLine
Tells p (Write b t) a = a ≡ write_told (write_answer p.blocks p.block_count b (reading t))
Tells p (Erase b) a = a ≡ told (erase_answer p.blocks b)
Tells p (Lay n l) a = a ≡ told (lay_answer p.data_blocks p.data_count n l)
Tells p Check a = CheckTold (checked p) a
Tells p (Word d n) a = a ≡ word_told (word_of (p.data_blocks d) n)
Tells p (Data d) a = WordsTold (p.data_blocks d) a

-- the same project, with other blocks
abbrev pub with_blocks : Held → Blocks → ℕ → Held
with_blocks p bs n = record { number = p.number; blocks = bs; block_count = n; data_blocks = p.data_blocks; data_count = p.data_count }

-- the same project, with other data blocks
abbrev pub with_data : Held → DataBlocks → ℕ → Held
with_data p ds n = record { number = p.number; blocks = p.blocks; block_count = p.block_count; data_blocks = ds; data_count = n }

-- what a call leaves of the project that is open
abbrev pub after_call : Held → ProjectCall (List ℕ) → Held
after_call p (Open n s w) = p
after_call p (Write b t) = with_blocks p (blocks_written p.blocks p.block_count b (reading t)) (count_written p.blocks p.block_count b (reading t))
after_call p (Erase b) = with_blocks p (blocks_erased p.blocks b) (count_erased p.blocks p.block_count b)
after_call p (Lay n l) = with_data p (data_laid p.data_blocks p.data_count n l) (count_laid p.data_blocks p.data_count n l)
after_call p Check = p
after_call p (Word d n) = p
after_call p (Data d) = p

-- with no project open an open is granted if its tables are long enough, and every other call is a bad line
abbrev pub EmptyTells : ProjectCall (List ℕ) → Answer → Type 0
EmptyTells (Open n s w) a = a ≡ cond (is_long s w) Done (Refused ShortTable)
EmptyTells (Write b t) a = a ≡ BadLine
EmptyTells (Erase b) a = a ≡ BadLine
EmptyTells (Lay n l) a = a ≡ BadLine
EmptyTells Check a = a ≡ BadLine
EmptyTells (Word d n) a = a ≡ BadLine
EmptyTells (Data d) a = a ≡ BadLine

-- what a call leaves where no project was open
abbrev pub empty_after : ProjectCall (List ℕ) → Option Held
empty_after (Open n s w) = cond (is_long s w) (Some (fresh n)) None
empty_after (Write b t) = None
empty_after (Erase b) = None
empty_after (Lay n l) = None
empty_after Check = None
empty_after (Word d n) = None
empty_after (Data d) = None

-- what a call answers, by what lies in the slot
abbrev pub SlotTells : Option Held → ProjectCall (List ℕ) → Answer → Type 0
SlotTells None call a = EmptyTells call a
SlotTells (Some p) call a = Tells p call a

-- what a call leaves in the slot
abbrev pub slot_after : Option Held → ProjectCall (List ℕ) → Option Held
slot_after None call = empty_after call
slot_after (Some p) call = Some (after_call p call)

-- the project in a slot, as its users see it
abbrev pub project_in : ProjectSlot → Option Held
project_in slot = option_map held slot.store
