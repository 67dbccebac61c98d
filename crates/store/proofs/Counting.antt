-- How many blocks the slots hold. Assumes nothing.
use Rattle.std.proofs.Common.{◌≡◌, ℕ, zero, suc, ◌+◌, ◌<◌, ◌≤◌, List, [], ◌∷◌, length, drop, set, is_some, Some, None, Option, filter, cond, sym, refl, ap, ◌∙◌, arith}
use Rattle.std.specs.Option.{option_to_list}
use Rattle.std.proofs.lemmas.List.{at_drop_more, length-append}
use Rattle.awl.specs.declared.names.BlockName.{BlockName}
use Rattle.store.specs.Slots.{free, name_in, names_in}
use Rattle.store.specs.declared.slots.Slot.{Slot}

-- the slots from i on, one less
pub names_more : (ss : List Slot) (i : ℕ) → i < length ss → length (names_in (drop i ss)) ≡ length (option_to_list (name_in ss i)) + length (names_in (drop (i + 1) ss))
names_more ss i h =
    at_drop_more (λ (xs : List Slot). length (names_in xs)) ss i free h
    ∙ length-append (option_to_list (name_in ss i)) (names_in (drop (i + 1) ss))

-- as many names as slots that have one
pub names_count : (ss : List Slot) → length (filter (λ s. is_some s.name) ss) ≡ length (names_in ss)
names_count [] = refl
names_count (s ∷ ss) = one s.name ∙ ap (λ (n : ℕ). length (option_to_list s.name) + n) (names_count ss) ∙ sym (length-append (option_to_list s.name) (names_in ss))
  where
    one : (o : Option BlockName) → length (cond (is_some o) (s ∷ filter (λ x. is_some x.name) ss) (filter (λ x. is_some x.name) ss)) ≡ length (option_to_list o) + length (filter (λ x. is_some x.name) ss)
    one None = omega arith
    one (Some n) = omega arith

-- one slot changed
pub names-set : (ss : List Slot) (i : ℕ) (s : Slot) → i < length ss → length (names_in (set ss i s)) + length (option_to_list (name_in ss i)) ≡ length (names_in ss) + length (option_to_list s.name)
names-set [] i s h = absurd (omega arith)
names-set (x ∷ xs) zero s h =
    let old = length-append (option_to_list x.name) (names_in xs) in
    let new = length-append (option_to_list s.name) (names_in xs) in
    omega arith
names-set (x ∷ xs) (suc i) s h =
    let rest = names-set xs i s (omega arith) in
    let old = length-append (option_to_list x.name) (names_in xs) in
    let new = length-append (option_to_list x.name) (names_in (set xs i s)) in
    omega arith

at_most_one : (o : Option BlockName) → length (option_to_list o) ≤ 1
at_most_one None = omega arith
at_most_one (Some n) = omega arith

-- no more blocks than slots, and fewer where a slot is free
pub names_few : (ss : List Slot) → length (names_in ss) ≤ length ss
names_few [] = omega arith
names_few (s ∷ ss) =
    let rest = names_few ss in
    let here = length-append (option_to_list s.name) (names_in ss) in
    let one : length (option_to_list s.name) ≤ 1 = at_most_one s.name in
    omega arith

pub names_fewer : (ss : List Slot) (i : ℕ) → i < length ss → name_in ss i ≡ None → length (names_in ss) < length ss
names_fewer [] i h e = absurd (omega arith)
names_fewer (s ∷ ss) zero h e =
    let rest = names_few ss in
    let here = length-append (option_to_list s.name) (names_in ss) in
    let none = ap (λ (o : Option BlockName). length (option_to_list o)) e in
    omega arith
names_fewer (s ∷ ss) (suc i) h e =
    let rest = names_fewer ss i (omega arith) e in
    let here = length-append (option_to_list s.name) (names_in ss) in
    let one : length (option_to_list s.name) ≤ 1 = at_most_one s.name in
    omega arith
