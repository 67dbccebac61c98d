-- How many statements the walk comes to, block by block and slot by slot.
use Rattle.std.proofs.Common.{◌≡◌, ℕ, zero, suc, ◌+◌, ◌-◌, ◌/◌, ◌%◌, ◌^◌, ◌<◌, Bool, true, false, cond, eqb, List, [], ◌∷◌, map, length, get_or, take, replicate, Some, None, sum_by, count_by, Option, sym, refl, ap, ◌∙◌, subst, zero-add, arith}
use Rattle.std.proofs.lemmas.List.{take_all, length-map, get_or-map, length-take-le, get_or-take, length-replicate, get_or-replicate}
use Rattle.std.proofs.lemmas.List.Sums.{sum_by-cons, sum_by-append, sum_by_more}
use Rattle.std.proofs.lemmas.Bool.{eqb-true, eq-eqb, both_ways}
use Rattle.std.specs.Option.{option_to_list}
use Rattle.awl.specs.declared.names.BlockName.{BlockName}
use Rattle.store.proofs.Holding.{name_has_slot}
use Rattle.store.specs.Held.{slot_of, name_at}
use Rattle.store.specs.Slots.{names_in, free}
use Rattle.store.specs.declared.slots.Slot.{Slot}
use Rattle.store.specs.declared.store.Store.{Store}
use Rattle.walk.proofs.Lowests.{none_some}
use Rattle.walk.specs.Findings.{Found, unseen}
use Rattle.walk.specs.declared.sights.Finding.{Finding}
use Rattle.walk.specs.declared.sights.Sight.{Sight}
use Rattle.checker.specs.Counts.{CountsIn, Counts, seen_in, seen_at, of_name, seen_by, seen_of}
use Rattle.checker.specs.Joins.{FoundTo, Reach}
use Rattle.checker.specs.Project.{Project, project_of, Holds, flows_in, outermost, Chain}
use Rattle.checker.proofs.Chaining.{along, walk_chain, chain_start}
use Rattle.checker.proofs.Fitting.{slot_low, held_slot}
use Rattle.checker.proofs.Sets.{none_in}

-- without OB 1 no block is entered
pub reach_unstarted : (s : Store) → slot_of s outermost ≡ None → Reach s 0
reach_unstarted s none = record { only = λ i b named h. absurd (none_in i h); all = λ n i b named r. absurd (lacks (chain_start (project_of s) r)) }
  where
    lacks : Holds (project_of s) outermost → ⊥
    lacks h = let slot = held_slot s outermost h in none_some slot.0 (sym none ∙ slot.1)

map_count : (xs : List Sight) → count_by (λ x. x) (map (λ (y : Sight). y.walked) xs) ≡ count_by (λ (y : Sight). y.walked) xs
map_count [] = refl
map_count (x ∷ xs) = sum_by-cons _ x.walked (map (λ (y : Sight). y.walked) xs) ∙ ap (λ (n : ℕ). cond x.walked 1 0 + n) (map_count xs) ∙ sym (sum_by-cons _ x xs)

none_count : (n : ℕ) → count_by (λ x. x) (replicate n false) ≡ 0
none_count zero = refl
none_count (suc n) = sum_by-cons _ false (replicate n false) ∙ (let e = none_count n in omega arith)

module _ (p : Project) (b : BlockName) where
  -- of a block that is entered, those that its own walk comes to
  counts_entered : {n : ℕ} (f : Finding) → Chain p n b → Found (flows_in p b) f.sights f.count → CountsIn p b (seen_in f)
  counts_entered f chain of =
      let walked = λ (y : Sight). y.walked in
      let room = f.room in
      let few = f.few in
      let size = of.size in
      let long = length-take-le f.count f.sights (omega arith) in
      record {
        marks = map walked (take f.count f.sights);
        size = length-map (take f.count f.sights) walked ∙ long ∙ size;
        right = λ t low high.
            let inside : t - 1 < f.count = omega arith in
            let is : get_or (map walked (take f.count f.sights)) (t - 1) false ≡ (get_or f.sights (t - 1) unseen).walked =
            get_or-map walked (take f.count f.sights) (t - 1) unseen false (omega arith) ∙ ap walked (get_or-take f.count f.sights (t - 1) unseen inside) in
            let seen = (of.all t low high).walked in (
              λ e. let w = seen.0 (sym is ∙ e) in (w.0, along p chain w.1),
              λ h. is ∙ seen.1 (h.0, (walk_chain p h.1).2),
            );
        count = sym (map_count (take f.count f.sights));
      }

  -- of a block that is not, none
  counts_off : ((n : ℕ) → Chain p n b → ⊥) → CountsIn p b 0
  counts_off off = record {
    marks = replicate (length (flows_in p b)) false;
    size = length-replicate (length (flows_in p b)) false;
    right = λ t low high. (
      λ e. absurd (both_ways _ (get_or-replicate (length (flows_in p b)) (t - 1) false false (omega arith)) e),
      λ h. let r = walk_chain p h.1 in absurd (off r.0 r.1),
    );
    count = sym (none_count (length (flows_in p b)));
  }

module _ (s : Store) (findings : List Finding) (reach : ℕ) (d : Finding) where
  -- each name has the statements of its block
  each_right : FoundTo s findings 32 → Reach s reach → (b : BlockName) → Holds (project_of s) b → CountsIn (project_of s) b (seen_of s findings reach d b)
  each_right found r b h =
      let slot = held_slot s b h in
      let i = slot.0 in
      let named = slot.2 in
      subst (λ (o : Option ℕ). CountsIn (project_of s) b (seen_by (λ j. seen_at reach j (get_or findings j d)) o)) (sym slot.1) (go i named (eqb (reach / 2 ^ i % 2) 1) refl)
    where
      go : (i : ℕ) → name_at s i ≡ Some b → (t : Bool) → eqb (reach / 2 ^ i % 2) 1 ≡ t → CountsIn (project_of s) b (cond t (seen_in (get_or findings i d)) 0)
      go i named true e = let ch = r.only i b named (eqb-true _ _ e) in counts_entered (project_of s) b (get_or findings i d) ch.1 (found i b d (slot_low s i b named) named)
      go i named false e = counts_off (project_of s) b (λ n chain. both_ways _ e (eq-eqb _ _ (r.all n i b named chain)))

  -- what a slot adds
  abbrev pub added : Slot → ℕ
  added x = of_name (seen_of s findings reach d) x.name

  of_slot : (i : ℕ) (b : BlockName) → name_at s i ≡ Some b → of_name (seen_of s findings reach d) (name_at s i) ≡ seen_at reach i (get_or findings i d)
  of_slot i b named = ap (of_name (seen_of s findings reach d)) named ∙ ap (seen_by (λ j. seen_at reach j (get_or findings j d))) (name_has_slot s b i named)

  pub adds_held : (i : ℕ) (b : BlockName) (f : Finding) → name_at s i ≡ Some b → f ≡ get_or findings i d → seen_at reach i f ≡ of_name (seen_of s findings reach d) (name_at s i)
  adds_held i b f named is = ap (seen_at reach i) is ∙ sym (of_slot i b named)

  pub adds_free : (i : ℕ) → name_at s i ≡ None → 0 ≡ of_name (seen_of s findings reach d) (name_at s i)
  adds_free i free = sym (ap (of_name (seen_of s findings reach d)) free)

  names_sum : (each : BlockName → ℕ) (slots : List Slot) → sum_by (λ (x : Slot). of_name each x.name) slots ≡ sum_by each (names_in slots)
  names_sum each [] = refl
  names_sum each (x ∷ xs) =
      sum_by-cons _ x xs
      ∙ ap (λ (n : ℕ). of_name each x.name + n) (names_sum each xs)
      ∙ ap (λ (n : ℕ). n + sum_by each (names_in xs)) (one x.name)
      ∙ sym (sum_by-append each (option_to_list x.name) (names_in xs))
    where
      one : (o : Option BlockName) → of_name each o ≡ sum_by each (option_to_list o)
      one None = refl
      one (Some b) = sym (zero-add (each b))

  -- one slot more
  pub sum_more : (i total more : ℕ) → i < 32 → more ≡ of_name (seen_of s findings reach d) (name_at s i) → total ≡ sum_by added (take i s.slots) → total + more ≡ sum_by added (take (i + 1) s.slots)
  sum_more i total more l e f =
      let room = s.slot_count in
      let m = sum_by_more added s.slots i free (omega arith) in
      omega arith

  pub counts_all : (total : ℕ) → FoundTo s findings 32 → Reach s reach → total ≡ sum_by added s.slots → Counts s total
  counts_all total found r e = record {
    each = seen_of s findings reach d;
    right = each_right found r;
    total = e ∙ names_sum (seen_of s findings reach d) s.slots;
  }

-- any of the findings
pub some_finding : (findings : List Finding) → 0 < length findings → Finding
some_finding [] l = absurd (omega arith)
some_finding (x ∷ xs) l = x

pub all_slots : (s : Store) (n : ℕ) → n ≡ 32 → take n s.slots ≡ s.slots
all_slots s n e = let room = s.slot_count in take_all n s.slots (omega arith)
