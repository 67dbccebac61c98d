-- The data slots, and what a data block more adds to them. Assumes nothing.
use Rattle.std.proofs.Common.{◌≡◌, ℕ, suc, ◌+◌, ◌*◌, ◌<◌, ◌≤◌, Bool, true, false, cond, eqb, List, [], ◌∷◌, ◌++◌, length, get_or, take, drop, set, replicate, is_some, Some, None, Option, sym, refl, ap, ◌∙◌, subst, inl, arith}
use mathlib.Core.Path.{fun_ext}
use lib.Seq.{paste}
use Rattle.std.specs.Option.{option_map, option_or}
use Rattle.std.specs.List.{position, position_from}
use Rattle.std.proofs.lemmas.Iterator.Adapters.{position_from-zero}
use Rattle.std.proofs.lemmas.List.{get_or-set_same, get_or-set_other, length-take-le, length-replicate, take_more_set, take-replicate}
use Rattle.std.proofs.lemmas.Bool.{eqb-true, eqb-false, eq-eqb, ne_eqb}
use Rattle.store.specs.Slots.{bare, data_slot_from, data_slot_in, words_in, Sized}
use Rattle.store.specs.declared.slots.DataSlot.{DataSlot}
use Rattle.store.specs.Calls.{SameBlocks}
use Rattle.store.specs.Held.{blocks, block_count, data_blocks, spare_words}
use Rattle.store.specs.declared.store.Store.{Store}
use Rattle.store.proofs.Holding.{laid_found}
use Rattle.store.proofs.Pasting.{paste_inside, paste_outside}

-- the data slot of a number is the first that has it
pub data_position : (ds : List DataSlot) (count number : ℕ) → position (λ s. eqb s.number number) (take count ds) ≡ data_slot_in ds count number
data_position ds count number = position_from-zero (λ (s : DataSlot). eqb s.number number) (take count ds) ∙ from 0 (take count ds)
  where
    from : (i : ℕ) (xs : List DataSlot) → position_from (λ (s : DataSlot). eqb s.number number) i xs ≡ data_slot_from i xs number
    from i [] = refl
    from i (x ∷ xs) = ap (cond (eqb x.number number) (Some i)) (from (i + 1) xs)

-- what is found is one of the list
abbrev Below : ℕ → List DataSlot → Option ℕ → Type 0
Below k ds None = Unit {0}
Below k ds (Some i) = i < k + length ds

below : (k : ℕ) (ds : List DataSlot) (number : ℕ) → Below k ds (data_slot_from k ds number)
below k [] number = tt
below k (d ∷ ds) number =
    let rest : (o : Option ℕ) → Below (k + 1) ds o → Below k (d ∷ ds) o = λ o.
    elim o as (λ v. Below (k + 1) ds v → Below k (d ∷ ds) v) [
      | None ↦ λ h. tt
      | Some i ↦ λ h. omega arith
    ] in
    elim (eqb d.number number) as (λ b. Below k (d ∷ ds) (cond b (Some k) (data_slot_from (k + 1) ds number))) [
      | true ↦ omega arith
      | false ↦ rest (data_slot_from (k + 1) ds number) (below (k + 1) ds number)
    ]

pub data_below : (ds : List DataSlot) (count number i : ℕ) → count ≤ length ds → data_slot_in ds count number ≡ Some i → i < count
data_below ds count number i h e =
    let P : Option ℕ → Type 0 = λ o. Below 0 (take count ds) o in
    let low : P (Some i) = subst P e (below 0 (take count ds) number) in
    omega (arith, length-take-le count ds h, low)

-- one data slot more
search_more : (k : ℕ) (ds : List DataSlot) (d : DataSlot) (number : ℕ) → data_slot_from k (ds ++ d ∷ []) number ≡ option_or (data_slot_from k ds number) (cond (eqb d.number number) (Some (k + length ds)) None)
search_more k [] d number = ap (λ (n : ℕ). cond (eqb d.number number) (Some n) None) (omega arith)
search_more k (x ∷ ds) d number =
    let rest = search_more (k + 1) ds d number ∙ ap (λ (n : ℕ). option_or (data_slot_from (k + 1) ds number) (cond (eqb d.number number) (Some n) None)) (omega arith) in
    elim (eqb x.number number) as (λ b. cond b (Some k) (data_slot_from (k + 1) (ds ++ d ∷ []) number) ≡ option_or (cond b (Some k) (data_slot_from (k + 1) ds number)) (cond (eqb d.number number) (Some (k + suc (length ds))) None)) [
      | true ↦ refl
      | false ↦ rest
    ]

data_more : (ds : List DataSlot) (count : ℕ) (d : DataSlot) (number : ℕ) → count < length ds → data_slot_in (set ds count d) (count + 1) number ≡ option_or (data_slot_in ds count number) (cond (eqb d.number number) (Some count) None)
data_more ds count d number h =
    ap (λ (xs : List DataSlot). data_slot_from 0 xs number) (take_more_set ds count d h)
    ∙ (search_more 0 (take count ds) d number
    ∙ ap (λ (n : ℕ). option_or (data_slot_in ds count number) (cond (eqb d.number number) (Some n) None)) (omega (arith, length-take-le count ds (omega arith))))

pub data_found : (ds : List DataSlot) (count : ℕ) (d : DataSlot) (number : ℕ) → count < length ds → d.number ≡ number → data_slot_in ds count number ≡ None → data_slot_in (set ds count d) (count + 1) number ≡ Some count
data_found ds count d number h e none =
    let same = eq-eqb d.number number e in
    let more = data_more ds count d number h in
    cc

or_none : (o : Option ℕ) → option_or o None ≡ o
or_none None = refl
or_none (Some i) = refl

pub data_other : (ds : List DataSlot) (count : ℕ) (d : DataSlot) (number : ℕ) → count < length ds → (d.number ≡ number → ⊥) → data_slot_in (set ds count d) (count + 1) number ≡ data_slot_in ds count number
data_other ds count d number h ne =
    data_more ds count d number h
    ∙ (ap (λ (b : Bool). option_or (data_slot_in ds count number) (cond b (Some count) None)) (ne_eqb d.number number ne) ∙ or_none (data_slot_in ds count number))

-- the words of the other data blocks stay, and those of the new one are the run
pub words_kept : (ds : List DataSlot) (count : ℕ) (d : DataSlot) (table run : List ℕ) (n i : ℕ) → Sized ds count → count * 256 ≤ length table → n ≤ length run → i < count → words_in (set ds count d) (paste table (count * 256) run n) i ≡ words_in ds table i
unfolding words_in
words_kept ds count d table run n i sized h l low =
    let size = sized i low in
    let ne : i ≡ count → ⊥ = λ e. omega arith in
    ap (λ (x : DataSlot). take x.size (drop (i * 256) (paste table (count * 256) run n))) (get_or-set_other ds count i d bare ne)
    ∙ paste_outside table (count * 256) run n (i * 256) (get_or ds i bare).size h l (inl (omega (arith, size.1)))

pub words_put : (ds : List DataSlot) (count : ℕ) (d : DataSlot) (table : List ℕ) → count < length ds → count * 256 ≤ length table → words_in (set ds count d) (paste table (count * 256) (replicate d.size 0) d.size) count ≡ replicate d.size 0
unfolding words_in
words_put ds count d table h g =
    let size = length-replicate {A = ℕ} d.size 0 in
    ap (λ (x : DataSlot). take x.size (drop (count * 256) (paste table (count * 256) (replicate d.size 0) d.size))) (get_or-set_same ds count d bare h)
    ∙ (paste_inside table (count * 256) (replicate d.size 0) d.size g (omega arith) ∙ take-replicate d.size d.size 0 (omega arith))

-- what each number holds with one data block of zeros more
pub laid_more : (ds : List DataSlot) (count : ℕ) (d : DataSlot) (table : List ℕ) → count < length ds → Sized ds count → count * 256 ≤ length table → data_slot_in ds count d.number ≡ None → (n : ℕ) → option_map (words_in (set ds count d) (paste table (count * 256) (replicate d.size 0) d.size)) (data_slot_in (set ds count d) (count + 1) n) ≡ cond (eqb n d.number) (Some (replicate d.size 0)) (option_map (words_in ds table) (data_slot_in ds count n))
laid_more ds count d table h sized room none n =
    let size = length-replicate {A = ℕ} d.size 0 in
    let new : ℕ → List ℕ = words_in (set ds count d) (paste table (count * 256) (replicate d.size 0) d.size) in
    let old : ℕ → List ℕ = words_in ds table in
    let kept : (o : Option ℕ) → data_slot_in ds count n ≡ o → option_map new o ≡ option_map old o = λ o.
    elim o as (λ v. data_slot_in ds count n ≡ v → option_map new v ≡ option_map old v) [
      | None ↦ λ e. refl
      | Some i ↦ λ e. ap Some (words_kept ds count d table (replicate d.size 0) d.size i sized room (omega arith) (data_below ds count n i (omega arith) e))
    ] in
    let step : (b : Bool) → eqb n d.number ≡ b → option_map new (data_slot_in (set ds count d) (count + 1) n) ≡ cond b (Some (replicate d.size 0)) (option_map old (data_slot_in ds count n)) = λ b.
    elim b as (λ v. eqb n d.number ≡ v → option_map new (data_slot_in (set ds count d) (count + 1) n) ≡ cond v (Some (replicate d.size 0)) (option_map old (data_slot_in ds count n))) [
      | true ↦ λ e.
          let same = eqb-true n d.number e in
          ap (option_map new) (data_found ds count d n h (sym same) (ap (data_slot_in ds count) same ∙ none)) ∙ ap Some (words_put ds count d table h room)
      | false ↦ λ e.
          ap (option_map new) (data_other ds count d n h (λ same. eqb-false n d.number e (sym same))) ∙ kept (data_slot_in ds count n) refl
    ] in
    step (eqb n d.number) refl

none_from_some : (o : Option ℕ) → is_some o ≡ false → o ≡ None
none_from_some None h = refl
none_from_some (Some n) h = let z : ◌≡◌ {A = ℕ} 0 1 = cc in absurd (omega arith)

-- a number that is not laid finds no data slot
pub unlaid : (s : Store) (n : ℕ) → is_some (data_blocks s n) ≡ false → data_slot_in s.data_slots s.laid n ≡ None
unlaid s n h = none_from_some (data_slot_in s.data_slots s.laid n) (sym (laid_found s n) ∙ h)

-- blocks stay where their slots and their table do
pub same_blocks : (old new : Store) → new.number ≡ old.number → new.statements ≡ old.statements → new.slots ≡ old.slots → spare_words new ≡ spare_words old → SameBlocks old new
unfolding blocks block_count
same_blocks old new number statements slots spare = record { number = number; statements = fun_ext (λ n. cc); count = cc; statements_spared = cc; words_spared = spare }
