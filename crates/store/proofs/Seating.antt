-- A block put into a slot, or taken out of it: what the store then holds. Assumes nothing.
use Rattle.std.proofs.Common.{◌≡◌, ℕ, ◌+◌, ◌-◌, ◌<◌, Bool, true, false, cond, List, length, set, is_some, Some, None, Option, sym, refl, ap, ◌∙◌, inl, inr, arith}
use mathlib.Core.Path.{fun_ext}
use Rattle.std.specs.Option.{option_map, option_to_list}
use Rattle.std.proofs.lemmas.Bool.{cases_eq, cond-true, cond-false, false≢true}
use Rattle.parser.specs.Statements.{Written}
use Rattle.awl.specs.declared.names.BlockName.{BlockName}
use Rattle.store.specs.Slots.{free, same_name, names_in}
use Rattle.store.specs.Held.{slot_of, name_at, text_at, blocks, block_count, data_blocks, spare_statements, with_block}
use Rattle.store.specs.Calls.{count_with, SameData}
use Rattle.store.specs.declared.slots.Slot.{Slot}
use Rattle.store.specs.declared.store.Store.{Store}
use Rattle.store.proofs.Naming.{name_from_same, same_from_name}
use Rattle.store.proofs.Finding.{finds_none}
use Rattle.store.proofs.Counting.{names-set}
use Rattle.store.proofs.Placing.{Place, place_alone, free_is}
use Rattle.store.proofs.Holding.{block_found, held_found, slot_has_name, name_has_slot}

-- a name that no slot has finds none
unfound : (s : Store) (n : BlockName) → ((j : ℕ) → name_at s j ≡ Some n → ⊥) → slot_of s n ≡ None
unfound s n never =
    let step : (o : Option ℕ) → slot_of s n ≡ o → o ≡ None = λ o.
    elim o as (λ v. slot_of s n ≡ v → v ≡ None) [
      | None ↦ λ e. refl
      | Some j ↦ λ e. absurd (never j (slot_has_name s n j e).1)
    ] in
    step (slot_of s n) refl

-- the slots but one are as they were
abbrev pub Others : Store → Store → ℕ → Type 0
Others old new i = (j : ℕ) → (j ≡ i → ⊥) → (name_at new j ≡ name_at old j) × (text_at new j ≡ text_at old j)

-- a name that neither has nor had that slot holds what it held
others_stay : (old new : Store) (i : ℕ) (n : BlockName) → Others old new i → (name_at old i ≡ Some n → ⊥) → (name_at new i ≡ Some n → ⊥) → blocks new n ≡ blocks old n
others_stay old new i n others was is =
    let moved : (j : ℕ) → name_at new j ≡ Some n → name_at old j ≡ Some n = λ j e.
    elim (cases_eq j i) [
      | inl same ↦ absurd (is (sym (ap (name_at new) same) ∙ e))
      | inr ne ↦ sym (others j ne).0 ∙ e
    ] in
    let step : (o : Option ℕ) → slot_of old n ≡ o → blocks new n ≡ option_map (text_at old) o = λ o.
    elim o as (λ v. slot_of old n ≡ v → blocks new n ≡ option_map (text_at old) v) [
      | None ↦ λ e. block_found new n None (unfound new n (λ j h. finds_none 0 old.slots n j e (moved j h)))
      | Some j ↦ λ e.
          let had = (slot_has_name old n j e).1 in
          let ne : j ≡ i → ⊥ = λ same. was (sym (ap (name_at old) same) ∙ had) in
          block_found new n (Some j) (name_has_slot new n j ((others j ne).0 ∙ had)) ∙ ap Some (others j ne).1
    ] in
    step (slot_of old n) refl ∙ sym (block_found old n (slot_of old n) refl)

-- the blocks with another one under a name, from what each name holds
with_block_lem : (old new : Store) (m : BlockName) (x : Option (List Written)) → blocks new m ≡ x → ((n : BlockName) → (n ≡ m → ⊥) → blocks new n ≡ blocks old n) → blocks new ≡ with_block (blocks old) m x
with_block_lem old new m x here else =
    fun_ext (λ n.
    let step : (b : Bool) → same_name n m ≡ b → blocks new n ≡ cond b x (blocks old n) = λ b.
    elim b as (λ v. same_name n m ≡ v → blocks new n ≡ cond v x (blocks old n)) [
      | true ↦ λ e. ap (blocks new) (name_from_same n m e) ∙ here
      | false ↦ λ e. else n (λ same. false≢true (sym e ∙ same_from_name n m same))
    ] in
    step (same_name n m) refl)

-- a block is put into its place
pub seated-blocks : (old new : Store) (i : ℕ) (m : BlockName) (text : List Written) → Place old.slots m i → name_at new i ≡ Some m → text_at new i ≡ text → Others old new i → blocks new ≡ with_block (blocks old) m (Some text)
seated-blocks old new i m text place name said others =
    with_block_lem old new m (Some text) (block_found new m (Some i) (name_has_slot new m i name) ∙ ap Some said)
    (λ n ne. others_stay old new i n others (λ e. ne (place_alone old.slots m n i place e)) (λ e. ne (cc)))

-- a block is taken out of its slot
pub erased_blocks : (old new : Store) (i : ℕ) (m : BlockName) → slot_of old m ≡ Some i → name_at new i ≡ None → Others old new i → blocks new ≡ with_block (blocks old) m None
erased_blocks old new i m found gone others =
    let absent : (n : BlockName) → name_at new i ≡ Some n → ⊥ = λ n e. let z : ◌≡◌ {A = ℕ} 0 1 = cc in omega arith in
    let had = (slot_has_name old m i found).1 in
    let none : (j : ℕ) → name_at new j ≡ Some m → ⊥ = λ j e.
    elim (cases_eq j i) [
      | inl same ↦ absent m (sym (ap (name_at new) same) ∙ e)
      | inr ne ↦ ne (let f = name_has_slot old m j (sym (others j ne).0 ∙ e) in cc)
    ] in
    with_block_lem old new m None (block_found new m None (unfound new m none))
    (λ n ne. others_stay old new i n others (λ e. ne (cc)) (absent n))

-- how many blocks are held with the one that was put in
pub seated_count : (old new : Store) (i : ℕ) (m : BlockName) (s : Slot) → Place old.slots m i → i < 32 → s.name ≡ Some m → new.slots ≡ set old.slots i s → block_count new ≡ count_with (blocks old) (block_count old) m
unfolding block_count
seated_count old new i m s place h named e =
    let count = old.slot_count in
    let same = ap (λ (ss : List Slot). length (names_in ss)) e in
    let put = names-set old.slots i s (omega arith) in
    let one = ap (λ (o : Option BlockName). length (option_to_list o)) named in
    let total = length (names_in old.slots) in
    elim place [
      | inl found ↦
          let held = held_found old m ∙ ap is_some found in
          let had = ap (λ (o : Option BlockName). length (option_to_list o)) (slot_has_name old m i found).1 in
          let as_many : length (names_in new.slots) ≡ total = omega arith in
          as_many ∙ sym (cond-true (is_some (blocks old m)) total (total + 1) held)
      | inr free ↦
          let unheld = held_found old m ∙ ap is_some free.0 in
          let none = ap (λ (o : Option BlockName). length (option_to_list o)) (free_is old.slots i free.1).1 in
          let more : length (names_in new.slots) ≡ total + 1 = omega arith in
          more ∙ sym (cond-false (is_some (blocks old m)) total (total + 1) unheld)
    ]

-- and without the one that was taken out
pub erased_count : (old new : Store) (i : ℕ) (m : BlockName) → slot_of old m ≡ Some i → new.slots ≡ set old.slots i free → block_count new ≡ block_count old - 1
unfolding block_count
erased_count old new i m found e =
    let had = slot_has_name old m i found in
    let count = old.slot_count in
    let same = ap (λ (ss : List Slot). length (names_in ss)) e in
    let put = names-set old.slots i free (omega (arith, had.0)) in
    let one = ap (λ (o : Option BlockName). length (option_to_list o)) had.1 in
    omega arith

-- data blocks stay where their slots and their table do
pub same_data : (old new : Store) → new.number ≡ old.number → new.words ≡ old.words → new.data_slots ≡ old.data_slots → new.laid ≡ old.laid → spare_statements new ≡ spare_statements old → SameData old new
unfolding data_blocks
same_data old new number words slots laid spare = record { number = number; words = fun_ext (λ n. cc); laid = laid; statements_spared = spare; words_spared = cc }
