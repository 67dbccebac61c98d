-- The slot that a name finds is the one that has it. Assumes nothing.
use Rattle.std.proofs.Common.{◌≡◌, ℕ, zero, suc, ◌+◌, ◌<◌, Bool, true, false, cond, List, [], ◌∷◌, length, Some, None, Option, MatchOption, refl, ap, ◌∙◌, arith}
use Rattle.std.specs.List.{position, position_from}
use Rattle.std.specs.Option.{IsSomeAnd}
use Rattle.std.proofs.lemmas.Iterator.Adapters.{position_from-zero}
use Rattle.awl.specs.declared.names.BlockName.{BlockName}
use Rattle.store.specs.Slots.{is_named, slot_from, slot_in, name_in, Single}
use Rattle.store.specs.declared.slots.Slot.{Slot}
use Rattle.store.proofs.Naming.{name_from_named, named_from_name, share_from_names}

-- what a search from k on found: the place j of the list, which has the name
abbrev Finds : ℕ → List Slot → BlockName → ℕ → Type 0
Finds k ss n i = (j : ℕ) × (i ≡ k + j) × (j < length ss) × (name_in ss j ≡ Some n)

finds_next : (k : ℕ) (s : Slot) (ss : List Slot) (n : BlockName) (i : ℕ) → Finds (k + 1) ss n i → Finds k (s ∷ ss) n i
finds_next k s ss n i f = (suc f.0, omega (arith, f.1), omega (arith, f.2), f.3)

finds_here : (k : ℕ) (s : Slot) (ss : List Slot) (n : BlockName) (i : ℕ) → i ≡ k → s.name ≡ Some n → Finds k (s ∷ ss) n i
finds_here k s ss n i e h = (0, omega arith, omega arith, h)

pub finds : (k : ℕ) (ss : List Slot) (n : BlockName) (i : ℕ) → slot_from k ss n ≡ Some i → Finds k ss n i
finds k [] n i h = let z : ◌≡◌ {A = ℕ} 0 1 = cc in absurd (omega arith)
finds k (s ∷ ss) n i h =
    let step : (b : Bool) → is_named s.name n ≡ b → cond b (Some k) (slot_from (k + 1) ss n) ≡ Some i → Finds k (s ∷ ss) n i = λ b.
    elim b as (λ v. is_named s.name n ≡ v → cond v (Some k) (slot_from (k + 1) ss n) ≡ Some i → Finds k (s ∷ ss) n i) [
      | true ↦ λ e g. finds_here k s ss n i (cc) (name_from_named s.name n e)
      | false ↦ λ e g. finds_next k s ss n i (finds (k + 1) ss n i g)
    ] in
    step (is_named s.name n) refl h

-- a name that finds no slot is that of none
pub finds_none : (k : ℕ) (ss : List Slot) (n : BlockName) (j : ℕ) → slot_from k ss n ≡ None → name_in ss j ≡ Some n → ⊥
finds_none k [] n j h e = let z : ◌≡◌ {A = ℕ} 0 1 = cc in omega arith
finds_none k (s ∷ ss) n j h e =
    let step : (b : Bool) → is_named s.name n ≡ b → cond b (Some k) (slot_from (k + 1) ss n) ≡ None → (j : ℕ) → name_in (s ∷ ss) j ≡ Some n → ⊥ = λ b.
    elim b as (λ v. is_named s.name n ≡ v → cond v (Some k) (slot_from (k + 1) ss n) ≡ None → (j : ℕ) → name_in (s ∷ ss) j ≡ Some n → ⊥) [
      | true ↦ λ f g j e. let z : ◌≡◌ {A = ℕ} 0 1 = cc in omega arith
      | false ↦ λ f g j.
          elim j as (λ v. name_in (s ∷ ss) v ≡ Some n → ⊥) [
            | zero ↦ λ e. let t = named_from_name s.name n e in let z : ◌≡◌ {A = ℕ} 0 1 = cc in omega arith
            | suc j ↦ λ e. finds_none (k + 1) ss n j g e
          ]
    ] in
    step (is_named s.name n) refl h j e

-- the slot that a name finds has it
pub slot_named : (ss : List Slot) (n : BlockName) (i : ℕ) → slot_in ss n ≡ Some i → (i < length ss) × (name_in ss i ≡ Some n)
slot_named ss n i h =
    let f = finds 0 ss n i h in
    let same : i ≡ f.0 = omega (arith, f.1) in
    (omega (arith, f.2), ap (name_in ss) same ∙ f.3)

-- where no two slots have one name, the slot that has a name is found by it
pub named_slot : (ss : List Slot) (n : BlockName) (i : ℕ) → Single ss → name_in ss i ≡ Some n → slot_in ss n ≡ Some i
named_slot ss n i single e =
    let step : (o : Option ℕ) → slot_in ss n ≡ o → o ≡ Some i = λ o.
    elim o as (λ v. slot_in ss n ≡ v → v ≡ Some i) [
      | None ↦ λ f. absurd (finds_none 0 ss n i f e)
      | Some j ↦ λ f. ap Some (single j i (share_from_names (name_in ss j) (name_in ss i) n (slot_named ss n j f).1 e))
    ] in
    step (slot_in ss n) refl

-- the slot of a name is the first that has it
pub slot_position : (ss : List Slot) (n : BlockName) → position (λ s. is_named s.name n) ss ≡ slot_in ss n
slot_position ss n = position_from-zero (λ (s : Slot). is_named s.name n) ss ∙ from 0 ss
  where
    from : (i : ℕ) (xs : List Slot) → position_from (λ (s : Slot). is_named s.name n) i xs ≡ slot_from i xs n
    from i [] = refl
    from i (x ∷ xs) = ap (cond (is_named x.name n) (Some i)) (from (i + 1) xs)

-- a number cast as it is found
pub cast_same : (P : ℕ → ℕ → Type 0) (found cast : Option ℕ) → MatchOption found (cast ≡ None) (λ i. IsSomeAnd cast (P i)) → ((i j : ℕ) → P i j → j ≡ i) → cast ≡ found
cast_same P None cast e same = e
cast_same P (Some i) (Some j) e same = ap Some (same i j e)
cast_same P (Some i) None e same = absurd e
