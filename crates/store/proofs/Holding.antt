-- A store's slots and names: each name finds its slot, each slot its name and its statements. Assumes nothing.
use Rattle.std.proofs.Common.{◌≡◌, ℕ, ◌*◌, ◌<◌, ◌≤◌, List, [], map, get_or, take, drop, is_some, Some, None, vec_items, Option, sym, refl, ap, ◌∙◌, subst, ap₂, arith}
use Rattle.std.specs.Option.{option_map}
use Rattle.std.proofs.lemmas.List.{get_or_past}
use Rattle.parser.specs.Statements.{written}
use Rattle.awl.specs.declared.statements.Statement.{Statement}
use Rattle.awl.specs.declared.names.BlockName.{BlockName}
use Rattle.store.specs.Slots.{free, size_in, statements_in, bare, data_slot_in, words_in}
use Rattle.store.specs.declared.slots.DataSlot.{DataSlot}
use Rattle.store.specs.declared.slots.Slot.{Slot}
use Rattle.store.specs.Held.{slot_of, name_at, text_at, blocks, data_blocks, Readable}
use Rattle.store.specs.declared.store.Store.{Store}
use Rattle.store.proofs.Finding.{slot_named, named_slot}
use Rattle.store.proofs.Reading.{readable_from}

-- the slot that a name finds is one of the 32, and has the name
pub slot_has_name : (s : Store) (n : BlockName) (i : ℕ) → slot_of s n ≡ Some i → (i < 32) × (name_at s i ≡ Some n)
slot_has_name s n i h =
    let p = slot_named s.slots n i h in
    let count = s.slot_count in
    (omega (arith, p.0), p.1)

-- the slot that has a name is found by it
pub name_has_slot : (s : Store) (n : BlockName) (i : ℕ) → name_at s i ≡ Some n → slot_of s n ≡ Some i
name_has_slot s n i h = named_slot s.slots n i s.single h

-- the block that is held under a name stands in the slot that the name finds
pub block_in_slot : (s : Store) (n : BlockName) → blocks s n ≡ option_map (text_at s) (slot_of s n)
unfolding blocks
block_in_slot s n = refl

-- a block that is held can be read
pub text_readable : (s : Store) (i : ℕ) (n : BlockName) → name_at s i ≡ Some n → Readable (text_at s i)
text_readable s i n h = readable_from (text_at s i) (s.readable i n h)

-- the same by what the name finds
pub block_found : (s : Store) (n : BlockName) (o : Option ℕ) → slot_of s n ≡ o → blocks s n ≡ option_map (text_at s) o
block_found s n o h = block_in_slot s n ∙ ap (option_map (text_at s)) h

some_mapped : {X Y : Type 0} (f : X → Y) (o : Option X) → is_some (option_map f o) ≡ is_some o
some_mapped f None = refl
some_mapped f (Some x) = refl

-- a block is held where its name finds a slot
pub held_found : (s : Store) (n : BlockName) → is_some (blocks s n) ≡ is_some (slot_of s n)
held_found s n = ap is_some (block_in_slot s n) ∙ some_mapped (text_at s) (slot_of s n)

-- the statements in a slot are a part of the table, which can be read where a block has the slot; past the 32 slots there are none
pub text_part : (s : Store) (i size : ℕ) (table part : List Statement) → size ≡ size_in s.slots i → table ≡ vec_items s.statements → part ≡ take size (drop (i * 255) table) → map written part ≡ text_at s i
unfolding statements_in
text_part s i size table part long e is = ap (map written) is ∙ ap₂ (λ (n : ℕ) (t : List Statement). map written (take n (drop (i * 255) t))) long e

pub part_readable : (s : Store) (i size : ℕ) (table part : List Statement) → size ≡ size_in s.slots i → table ≡ vec_items s.statements → part ≡ take size (drop (i * 255) table) → (n : BlockName) → name_at s i ≡ Some n → Readable (map written part)
part_readable s i size table part long e is n h = subst Readable (sym (text_part s i size table part long e is)) (text_readable s i n h)

pub text_past : (s : Store) (i : ℕ) → 32 ≤ i → text_at s i ≡ []
unfolding statements_in
text_past s i h =
    let count = s.slot_count in
    ap (λ (x : Slot). map written (take x.size (drop (i * 255) (vec_items s.statements)))) (get_or_past s.slots i free (omega arith))

-- a data block is laid where its number finds a data slot, and its words are those in the slot
pub data_in_slot : (s : Store) (n : ℕ) → data_blocks s n ≡ option_map (words_in s.data_slots (vec_items s.words)) (data_slot_in s.data_slots s.laid n)
unfolding data_blocks
data_in_slot s n = refl

pub data_held : (s : Store) (n : ℕ) (o : Option ℕ) → data_slot_in s.data_slots s.laid n ≡ o → data_blocks s n ≡ option_map (words_in s.data_slots (vec_items s.words)) o
data_held s n o h = data_in_slot s n ∙ ap (option_map (words_in s.data_slots (vec_items s.words))) h

pub laid_found : (s : Store) (n : ℕ) → is_some (data_blocks s n) ≡ is_some (data_slot_in s.data_slots s.laid n)
laid_found s n = ap is_some (data_in_slot s n) ∙ some_mapped (words_in s.data_slots (vec_items s.words)) (data_slot_in s.data_slots s.laid n)

-- the words in a data slot are a part of the table
pub words_part : (ds : List DataSlot) (i : ℕ) (table words part : List ℕ) → table ≡ words → part ≡ take (get_or ds i bare).size (drop (i * 256) table) → part ≡ words_in ds words i
unfolding words_in
words_part ds i table words part e is = is ∙ ap (λ (t : List ℕ). take (get_or ds i bare).size (drop (i * 256) t)) e
