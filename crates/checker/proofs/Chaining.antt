-- A project's walk taken apart by blocks, and chains of calls from name to name and from slot to slot.
use Rattle.std.proofs.Common.{◌≡◌, ℕ, zero, suc, Bool, true, ◌⊎◌, List, Some, sym, ◌∙◌, subst, inl, inr}
use Rattle.awl.specs.declared.names.BlockName.{BlockName}
use Rattle.store.proofs.Holding.{slot_has_name, name_has_slot}
use Rattle.store.specs.Held.{slot_of, name_at}
use Rattle.store.specs.declared.store.Store.{Store}
use Rattle.walk.specs.Walk.{flow_at, HasAt, OnWalk, start, on}
use Rattle.checker.specs.Chains.{Linked, none, call, Level, Entered}
use Rattle.checker.specs.Inside.{Outward, k2 as out2, k7 as out7, k8 as out8, BadAt}
use Rattle.checker.specs.Joins.{Enters, CallsTo, Reach, Reached}
use Rattle.checker.specs.Project.{Project, project_of, Holds, flows_in, outermost, Walk, starts, goes, enters, Chain, alone, more, HasIn, own, k2, k7, k8, Met, at, k9}
use Rattle.checker.proofs.Fitting.{slot_low, named_holds, held_slot}

module _ (p : Project) where
  -- the block of a chain's end is entered
  chain_walk : {n : ℕ} {b : BlockName} → Chain p n b → Walk p b 1 0
  chain_walk (alone h) = starts h
  chain_walk (more r w e h) = enters w e h

  -- the walk of a block that is entered is on the project's
  pub along : {n : ℕ} {b : BlockName} {s k : ℕ} → Chain p n b → OnWalk (flows_in p b) s k → Walk p b s k
  along r start = chain_walk r
  along r (on w g) = goes (along r w) g

  -- a place of the walk is on its own block's walk, and a chain of calls leads into that block
  pub walk_chain : {b : BlockName} {s k : ℕ} → Walk p b s k → (n : ℕ) × Chain p n b × OnWalk (flows_in p b) s k
  walk_chain (starts h) = (zero, alone h, start)
  walk_chain (goes w g) = let r = walk_chain w in (r.0, r.1, on r.2 g)
  walk_chain (enters w e h) = let r = walk_chain w in (suc r.0, more r.1 w e h, start)

  pub chain_held : {n : ℕ} {b : BlockName} → Chain p n b → Holds p b
  chain_held (alone h) = h
  chain_held (more r w e h) = h

  pub chain_start : {n : ℕ} {b : BlockName} → Chain p n b → Holds p outermost
  chain_start (alone h) = h
  chain_start (more r w e h) = chain_start r

  -- what a block that is entered has on its walk, the project's walk meets
  pub bad_met : {n : ℕ} {b : BlockName} (deep : Bool) (s v : ℕ) → Chain p n b → (deep ≡ true → Chain p 10 b) → BadAt p b deep s v → Met p b s v
  bad_met deep s v r tenth (k, w, inl h) = at (along r w) (own h)
  bad_met deep s v r tenth (k, w, inr (out2 d e h q)) = at (along r w) (k2 d e h q)
  bad_met deep s v r tenth (k, w, inr (out7 n e h q)) = at (along r w) (k7 n e h q)
  bad_met deep s v r tenth (k, w, inr (out8 d e z t q)) = at (along r w) (k8 d e z (tenth t) q)

  met_in : {b : BlockName} (deep : Bool) (s k v : ℕ) → (Chain p 10 b → deep ≡ true) → HasIn p b s k v → HasAt (flows_in p b) s k v ⊎ Outward p deep (flow_at (flows_in p b) s) k v
  met_in deep s k v tenth (own h) = inl h
  met_in deep s k v tenth (k2 d e h q) = inr (out2 d e h q)
  met_in deep s k v tenth (k7 n e h q) = inr (out7 n e h q)
  met_in deep s k v tenth (k8 d e z t q) = inr (out8 d e z (tenth t) q)

  -- and the other way round, where there is an OB 1
  pub met_bad : {b : BlockName} {s v : ℕ} (deep : Bool) → Holds p outermost → (Chain p 10 b → deep ≡ true) → Met p b s v → BadAt p b deep s v
  met_bad deep held tenth (at {b} {s} {k} {v} w h) = (k, (walk_chain w).2, met_in deep s k v tenth h)
  met_bad deep held tenth (k9 lacks) = absurd (lacks held)

  pub met_chain : {b : BlockName} {s v : ℕ} → Holds p outermost → Met p b s v → (n : ℕ) × Chain p n b
  met_chain held (at w h) = let r = walk_chain w in (r.0, r.1)
  met_chain held (k9 lacks) = absurd (lacks held)

pub some_same : {X : Type 0} {x y : X} → Some x ≡ Some y → x ≡ y
some_same e = cc

module _ (s : Store) (calls : List ℕ) (from : ℕ) (begins : slot_of s outermost ≡ Some from) (table : CallsTo s calls 32) where
  start_named : name_at s from ≡ Some outermost
  start_named = (slot_has_name s outermost from begins).1

  to_chain : {n i : ℕ} → Linked calls from n i → (b : BlockName) × (name_at s i ≡ Some b) × Chain (project_of s) n b
  to_chain none = (outermost, start_named, alone (named_holds s from outermost start_named))
  to_chain (call {n} {i} {j} r c) =
      let o = to_chain r in
      let e = table.only i j o.0 (slot_low s i o.0 o.1) o.1 c.1 in
      let x = e.1 in
      let named = (slot_has_name s x.called j x.slot).1 in
      (x.called, named, more o.2 (along (project_of s) o.2 x.walked) x.calls (named_holds s j x.called named))

  to_linked : {n : ℕ} {b : BlockName} → Chain (project_of s) n b → (i : ℕ) × (name_at s i ≡ Some b) × Linked calls from n i
  to_linked (alone h) = (from, start_named, none)
  to_linked (more {n} {b} {d} {s = t} r w e h) =
      let o = to_linked r in
      let j = held_slot s d h in
      let into : Enters s b j.0 t = record { called = d; walked = (walk_chain (project_of s) w).2; calls = e; slot = j.1 } in
      (j.0, j.2, call o.2 (slot_low s j.0 d j.2, table.all o.0 j.0 t b (slot_low s o.0 b o.1) o.1 into))

  chain_at : {n i : ℕ} (b : BlockName) → name_at s i ≡ Some b → Linked calls from n i → Chain (project_of s) n b
  chain_at {n} {i} b named r =
      let o = to_chain r in
      subst (λ (c : BlockName). Chain (project_of s) n c) (some_same (sym o.1 ∙ named)) o.2

  linked_at : {n i : ℕ} (b : BlockName) → name_at s i ≡ Some b → Chain (project_of s) n b → Linked calls from n i
  linked_at {n} {i} b named r =
      let o = to_linked r in
      subst (λ (j : ℕ). Linked calls from n j) (some_same (sym (name_has_slot s b o.0 o.1) ∙ name_has_slot s b i named)) o.2

  -- the sets of slots are the chains of names
  pub reach_by : (reach : ℕ) → Entered calls from reach → Reach s reach
  reach_by reach en = record {
    only = λ i b named h. let o = en.only i (slot_low s i b named) h in (o.0, chain_at b named o.1);
    all = λ n i b named r. en.all n i (linked_at b named r);
  }

  pub reached : (reach last : ℕ) → Entered calls from reach → Level calls from 10 last → Reached s reach last
  reached reach last en le = record {
    any = reach_by reach en;
    last_only = λ i b named h. chain_at b named (le.only i (slot_low s i b named) h);
    last_all = λ i b named r. le.all i (linked_at b named r);
  }
