-- Where a block goes: the first slot that no block has, and what a place says of the slot. Assumes nothing.
use Rattle.std.proofs.Common.{◌≡◌, ℕ, suc, ◌+◌, ◌<◌, Bool, true, false, cond, not, ◌⊎◌, List, [], ◌∷◌, length, is_some, Some, None, Option, refl, ap, ◌∙◌, inl, inr, arith}
use Rattle.std.specs.Option.{option_or, option_to_list}
use Rattle.std.specs.List.{position, position_from}
use Rattle.std.proofs.lemmas.Iterator.Adapters.{position_from-zero}
use Rattle.awl.specs.declared.names.BlockName.{BlockName}
use Rattle.store.specs.Slots.{slot_in, free_from, place_in, name_in, names_in, Single}
use Rattle.store.specs.declared.slots.Slot.{Slot}
use Rattle.store.proofs.Finding.{slot_named, named_slot}
use Rattle.store.proofs.Counting.{names_more, names_fewer}

-- the free slot is the first that no block has
pub free_position : (ss : List Slot) → position (λ s. not (is_some s.name)) ss ≡ free_from 0 ss
free_position ss = position_from-zero (λ (s : Slot). not (is_some s.name)) ss ∙ from 0 ss
  where
    turned : (b : Bool) (x y : Option ℕ) → cond (not b) x y ≡ cond b y x
    turned true x y = refl
    turned false x y = refl

    from : (i : ℕ) (xs : List Slot) → position_from (λ (s : Slot). not (is_some s.name)) i xs ≡ free_from i xs
    from i [] = refl
    from i (x ∷ xs) = turned (is_some x.name) (Some i) _ ∙ ap (λ (o : Option ℕ). cond (is_some x.name) o (Some i)) (from (i + 1) xs)

none_from_test : (o : Option BlockName) → is_some o ≡ false → o ≡ None
none_from_test None h = refl
none_from_test (Some n) h = let z : ◌≡◌ {A = ℕ} 0 1 = cc in absurd (omega arith)

-- what a search from k on found: the place j of the list, which has no name
abbrev Frees : ℕ → List Slot → ℕ → Type 0
Frees k ss i = (j : ℕ) × (i ≡ k + j) × (j < length ss) × (name_in ss j ≡ None)

frees_next : (k : ℕ) (s : Slot) (ss : List Slot) (i : ℕ) → Frees (k + 1) ss i → Frees k (s ∷ ss) i
frees_next k s ss i f = (suc f.0, omega (arith, f.1), omega (arith, f.2), f.3)

frees_here : (k : ℕ) (s : Slot) (ss : List Slot) (i : ℕ) → i ≡ k → s.name ≡ None → Frees k (s ∷ ss) i
frees_here k s ss i e h = (0, omega arith, omega arith, h)

frees : (k : ℕ) (ss : List Slot) (i : ℕ) → free_from k ss ≡ Some i → Frees k ss i
frees k [] i h = let z : ◌≡◌ {A = ℕ} 0 1 = cc in absurd (omega arith)
frees k (s ∷ ss) i h =
    let step : (b : Bool) → is_some s.name ≡ b → cond b (free_from (k + 1) ss) (Some k) ≡ Some i → Frees k (s ∷ ss) i = λ b.
    elim b as (λ v. is_some s.name ≡ v → cond v (free_from (k + 1) ss) (Some k) ≡ Some i → Frees k (s ∷ ss) i) [
      | true ↦ λ e g. frees_next k s ss i (frees (k + 1) ss i g)
      | false ↦ λ e g. frees_here k s ss i (cc) (none_from_test s.name e)
    ] in
    step (is_some s.name) refl h

-- a free slot that is found is one of the slots, and no block has it
pub free_is : (ss : List Slot) (i : ℕ) → free_from 0 ss ≡ Some i → (i < length ss) × (name_in ss i ≡ None)
free_is ss i h =
    let f = frees 0 ss i h in
    let same : i ≡ f.0 = omega (arith, f.1) in
    (omega (arith, f.2), ap (name_in ss) same ∙ f.3)

-- a place is the slot of the name, or one that no block has where no slot has the name
abbrev pub Place : List Slot → BlockName → ℕ → Type 0
Place ss m i = (slot_in ss m ≡ Some i) ⊎ ((slot_in ss m ≡ None) × (free_from 0 ss ≡ Some i))

pub place_is : (ss : List Slot) (m : BlockName) (i : ℕ) → place_in ss m ≡ Some i → Place ss m i
place_is ss m i h =
    let step : (o : Option ℕ) → slot_in ss m ≡ o → option_or o (free_from 0 ss) ≡ Some i → Place ss m i = λ o.
    elim o as (λ v. slot_in ss m ≡ v → option_or v (free_from 0 ss) ≡ Some i → Place ss m i) [
      | None ↦ λ e g. inr (e, g)
      | Some j ↦ λ e g. inl (e ∙ g)
    ] in
    step (slot_in ss m) refl h

-- where there is no place, no slot has the name and every slot has one
pub no_place : (ss : List Slot) (m : BlockName) → place_in ss m ≡ None → (slot_in ss m ≡ None) × (free_from 0 ss ≡ None)
no_place ss m h =
    let step : (o : Option ℕ) → slot_in ss m ≡ o → option_or o (free_from 0 ss) ≡ None → (slot_in ss m ≡ None) × (free_from 0 ss ≡ None) = λ o.
    elim o as (λ v. slot_in ss m ≡ v → option_or v (free_from 0 ss) ≡ None → (slot_in ss m ≡ None) × (free_from 0 ss ≡ None)) [
      | None ↦ λ e g. (e, g)
      | Some j ↦ λ e g. let z : ◌≡◌ {A = ℕ} 0 1 = cc in absurd (omega arith)
    ] in
    step (slot_in ss m) refl h

pub place_within : (ss : List Slot) (m : BlockName) (i : ℕ) → Place ss m i → i < length ss
place_within ss m i (inl e) = (slot_named ss m i e).0
place_within ss m i (inr e) = (free_is ss i e.1).0

-- no other slot has the name, and no other name has the slot
pub place_only : (ss : List Slot) (m : BlockName) (i j : ℕ) → Single ss → Place ss m i → name_in ss j ≡ Some m → j ≡ i
place_only ss m i j single (inl e) h = let f = named_slot ss m j single h in cc
place_only ss m i j single (inr e) h =
    let f = named_slot ss m j single h in
    let none = e.0 in
    let z : ◌≡◌ {A = ℕ} 0 1 = cc in
    absurd (omega arith)

pub place_alone : (ss : List Slot) (m n : BlockName) (i : ℕ) → Place ss m i → name_in ss i ≡ Some n → n ≡ m
place_alone ss m n i (inl e) h = let f = (slot_named ss m i e).1 in cc
place_alone ss m n i (inr e) h =
    let none = (free_is ss i e.1).1 in
    let z : ◌≡◌ {A = ℕ} 0 1 = cc in
    absurd (omega arith)

-- every slot has a name where none is free
all_named : (k : ℕ) (ss : List Slot) → free_from k ss ≡ None → length (names_in ss) ≡ length ss
all_named k [] h = refl
all_named k (s ∷ ss) h =
    let step : (o : Option BlockName) → s.name ≡ o → cond (is_some o) (free_from (k + 1) ss) (Some k) ≡ None → length (names_in (s ∷ ss)) ≡ suc (length ss) = λ o.
    elim o as (λ v. s.name ≡ v → cond (is_some v) (free_from (k + 1) ss) (Some k) ≡ None → length (names_in (s ∷ ss)) ≡ suc (length ss)) [
      | None ↦ λ e g. let z : ◌≡◌ {A = ℕ} 0 1 = cc in absurd (omega arith)
      | Some n ↦ λ e g.
          let rest = all_named (k + 1) ss g in
          let here = names_more (s ∷ ss) 0 (omega arith) in
          let one = ap (λ (x : Option BlockName). length (option_to_list x)) e in
          omega arith
    ] in
    step s.name refl h

pub full_count : (ss : List Slot) → free_from 0 ss ≡ None → length (names_in ss) ≡ length ss
full_count ss h = all_named 0 ss h

pub free_count : (ss : List Slot) (i : ℕ) → free_from 0 ss ≡ Some i → length (names_in ss) < length ss
free_count ss i h = let f = free_is ss i h in names_fewer ss i f.0 f.1
