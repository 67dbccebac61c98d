-- When there is a place for a block, and what a write then answers and leaves. Assumes nothing.
use Rattle.std.proofs.Common.{◌≡◌, ℕ, Bool, true, false, cond, ltb, List, length, is_some, Some, None, Ok, Err, Result, sym, ap, ◌∙◌, inl, inr, arith}
use Rattle.std.proofs.lemmas.Bool.{or_left, or_right, or_from, lt-ltb, le-ltb}
use Rattle.awl.specs.declared.names.BlockName.{BlockName}
use Rattle.reader.specs.Reading.{Entry}
use Rattle.reader.specs.declared.faults.BlockFault.{BlockFault}
use Rattle.store.specs.Calls.{statements_of, has_place, write_answer, blocks_written, count_with, count_written}
use Rattle.store.specs.Held.{Blocks, blocks, block_count, with_block}
use Rattle.store.specs.Slots.{place_in, names_in}
use Rattle.store.specs.declared.refusals.WriteRefusal.TheVariants.{NoFreePlace}
use Rattle.store.specs.declared.store.Store.{Store}
use Rattle.store.proofs.Holding.{held_found}
use Rattle.store.proofs.Placing.{place_is, no_place, full_count, free_count}

pub place_granted : (s : Store) (m : BlockName) (i : ℕ) → Some i ≡ place_in s.slots m → has_place (blocks s) (block_count s) m ≡ true
unfolding block_count
place_granted s m i h =
    elim (place_is s.slots m i (sym h)) [
      | inl found ↦ or_left (is_some (blocks s m)) (ltb (length (names_in s.slots)) 32) (held_found s m ∙ ap is_some found)
      | inr free ↦
          let few = free_count s.slots i free.1 in
          or_right (is_some (blocks s m)) (ltb (length (names_in s.slots)) 32) (lt-ltb (length (names_in s.slots)) 32 (omega (arith, s.slot_count)))
    ]

pub place_refused : (s : Store) (m : BlockName) → None ≡ place_in s.slots m → has_place (blocks s) (block_count s) m ≡ false
unfolding block_count
place_refused s m h =
    let none = no_place s.slots m (sym h) in
    let full = full_count s.slots none.1 in
    or_from (is_some (blocks s m)) (ltb (length (names_in s.slots)) 32) (held_found s m ∙ ap is_some none.0) (le-ltb (length (names_in s.slots)) 32 (omega (arith, s.slot_count)))

-- what a write answers, by whether there is a place
pub answer_by_place : (b : Blocks) (count : ℕ) (m : BlockName) (es : List Entry) (r : Result (List Entry) BlockFault) (p : Bool) → Ok es ≡ r → has_place b count m ≡ p → cond p (Ok tt) (Err NoFreePlace) ≡ write_answer b count m r
answer_by_place b count m es r p e h = sym (ap (λ (q : Bool). cond q (Ok tt) (Err NoFreePlace)) h) ∙ ap (write_answer b count m) e

-- what it leaves, where x is what a granted one leaves, and else what was there
pub blocks_by_place : (b : Blocks) (count : ℕ) (m : BlockName) (es : List Entry) (r : Result (List Entry) BlockFault) (p : Bool) (x : Blocks) → Ok es ≡ r → has_place b count m ≡ p → x ≡ cond p (with_block b m (Some (statements_of es))) b → x ≡ blocks_written b count m r
blocks_by_place b count m es r p x e h left =
    left ∙ (sym (ap (λ (q : Bool). cond q (with_block b m (Some (statements_of es))) b) h) ∙ ap (blocks_written b count m) e)

pub count_by_place : (b : Blocks) (count : ℕ) (m : BlockName) (es : List Entry) (r : Result (List Entry) BlockFault) (p : Bool) (x : ℕ) → Ok es ≡ r → has_place b count m ≡ p → x ≡ cond p (count_with b count m) count → x ≡ count_written b count m r
count_by_place b count m es r p x e h left =
    left ∙ (sym (ap (λ (q : Bool). cond q (count_with b count m) count) h) ∙ ap (count_written b count m) e)
