-- The lowest fault of a statement, by its sight.
use Rattle.std.proofs.Common.{◌≡◌, ℕ, ◌+◌, ◌-◌, ◌<◌, ◌≤◌, Bool, true, false, cond, ◌&&◌, ◌⊎◌, List, length, get_or, take, is_some, Some, None, Decides, Option, sym, refl, ap, ◌∙◌, subst, inl, inr, ⊎_elim, arith}
use Rattle.std.proofs.lemmas.List.{length-take-le, get_or-take, get_or_default}
use Rattle.std.proofs.lemmas.Bool.{and_parts, and_from, both_ways}
use Rattle.awl.specs.declared.names.BlockName.{BlockName}
use Rattle.walk.proofs.Lowests.{lower_lowest, lowest_like}
use Rattle.walk.specs.Findings.{Comes, Meets, Sighted, Found, unseen}
use Rattle.walk.specs.Places.{Lowest}
use Rattle.walk.specs.Walk.{flow_at, HasAt, OnWalk}
use Rattle.walk.specs.declared.faults.Fault.{Fault}
use Rattle.walk.specs.declared.faults.Fault.TheVariants.{BlockNotHeld, DataNotHeld, EleventhCall}
use Rattle.walk.specs.declared.flows.Flow.{Flow}
use Rattle.walk.specs.declared.flows.Flow.TheVariants.{Plain, Open, Close, Jump, Branch, Call, End, MayEnd, Stop, Choose}
use Rattle.walk.specs.declared.sights.Finding.{Finding}
use Rattle.walk.specs.declared.sights.Sight.{Sight}
use Rattle.checker.specs.Inside.{Outward, k2, k7, k8, BadAt, outward_of, fault_seen}
use Rattle.checker.specs.Project.{Project, flows_in}

-- only a call and a choice have faults by what stands outside
looks_out : Flow → Bool
looks_out (Call d) = true
looks_out (Choose n) = true
looks_out Plain = false
looks_out Open = false
looks_out Close = false
looks_out (Jump t) = false
looks_out (Branch t) = false
looks_out End = false
looks_out MayEnd = false
looks_out Stop = false

-- a flow is not two
call_not_choice : {X : Type 0} (d : BlockName) (n : ℕ) → Call d ≡ Choose n → X
call_not_choice d n e = absurd (let z : ◌≡◌ {A = ℕ} 0 1 = cc in omega arith)

module _ (p : Project) (deep : Bool) (block : List Flow) (s : ℕ) where
  -- the walk comes to a place of the statement that has fault v by what stands outside
  abbrev pub OutAt : ℕ → Type 0
  OutAt v = (k : ℕ) × OnWalk block s k × Outward p deep (flow_at block s) k v

  held : BlockName → Bool
  held d = is_some (p.blocks d)

  laid : ℕ → Bool
  laid n = is_some (p.data_blocks n)

  none_out : (x : Flow) → x ≡ flow_at block s → looks_out x ≡ false → Lowest None OutAt
  unfolding looks_out
  none_out x is lacks v (k, w, k2 d e h q) = both_ways _ lacks (ap looks_out (is ∙ e))
  none_out x is lacks v (k, w, k7 n e h q) = both_ways _ lacks (ap looks_out (is ∙ e))
  none_out x is lacks v (k, w, k8 d e z t q) = both_ways _ lacks (ap looks_out (is ∙ e))

  module _ (comes : Comes block s) (bare : Bool) (at : Decides bare (OnWalk block s 0)) where
    -- a call
    module _ (d : BlockName) (is : Call d ≡ flow_at block s) where
      same : (e : BlockName) → flow_at block s ≡ Call e → e ≡ d
      same e q = cc

      unheld : held d ≡ false → Lowest (Some BlockNotHeld) OutAt
      unfolding held
      unheld lacks = ((comes.0, comes.1, k2 d (sym is) (λ h. both_ways _ lacks h) refl), λ v o. least v o)
        where
          least : (v : ℕ) → OutAt v → 2 ≤ v
          least v (k, w, k2 e q h f) = omega arith
          least v (k, w, k7 n q h f) = omega arith
          least v (k, w, k8 e q z t f) = omega arith

      eleventh : held d ≡ true → (bare && deep) ≡ true → Lowest (Some EleventhCall) OutAt
      unfolding held
      eleventh there both =
          let parts = and_parts bare deep both in
          ((0, at.0 parts.0, k8 d (sym is) refl parts.1 refl), λ v o. least v o)
        where
          least : (v : ℕ) → OutAt v → 8 ≤ v
          least v (k, w, k2 e q h f) = absurd (h (ap (λ (c : BlockName). is_some (p.blocks c)) (same e q) ∙ there))
          least v (k, w, k7 n q h f) = call_not_choice d n (is ∙ q)
          least v (k, w, k8 e q z t f) = omega arith

      fine : held d ≡ true → (bare && deep) ≡ false → Lowest None OutAt
      unfolding held
      fine there lacks v (k, w, k2 e q h f) = h (ap (λ (c : BlockName). is_some (p.blocks c)) (same e q) ∙ there)
      fine there lacks v (k, w, k7 n q h f) = call_not_choice d n (is ∙ q)
      fine there lacks v (k, w, k8 e q z t f) = both_ways _ lacks (and_from bare deep (at.1 (subst (λ (j : ℕ). OnWalk block s j) z w)) t)

    -- a choice
    module _ (n : ℕ) (is : Choose n ≡ flow_at block s) where
      same_data : (m : ℕ) → flow_at block s ≡ Choose m → m ≡ n
      same_data m q = cc

      unlaid : laid n ≡ false → Lowest (Some DataNotHeld) OutAt
      unfolding laid
      unlaid lacks = ((comes.0, comes.1, k7 n (sym is) (λ h. both_ways _ lacks h) refl), λ v o. least v o)
        where
          least : (v : ℕ) → OutAt v → 7 ≤ v
          least v (k, w, k2 e q h f) = call_not_choice e n (sym q ∙ sym is)
          least v (k, w, k7 m q h f) = omega arith
          least v (k, w, k8 e q z t f) = omega arith

      chosen : laid n ≡ true → Lowest None OutAt
      unfolding laid
      chosen there v (k, w, k2 e q h f) = call_not_choice e n (sym q ∙ sym is)
      chosen there v (k, w, k7 m q h f) = h (ap (λ (j : ℕ). is_some (p.data_blocks j)) (same_data m q) ∙ there)
      chosen there v (k, w, k8 e q z t f) = call_not_choice e n (sym q ∙ sym is)

    call-lowest : (d : BlockName) → Call d ≡ flow_at block s → (h b : Bool) → held d ≡ h → (bare && deep) ≡ b → Lowest (cond h (cond b (Some EleventhCall) None) (Some BlockNotHeld)) OutAt
    call-lowest d is true true there both = eleventh d is there both
    call-lowest d is true false there lacks = fine d is there lacks
    call-lowest d is false b lacks both = unheld d is lacks

    choice-lowest : (n : ℕ) → Choose n ≡ flow_at block s → (h : Bool) → laid n ≡ h → Lowest (cond h None (Some DataNotHeld)) OutAt
    choice-lowest n is true there = chosen n is there
    choice-lowest n is false lacks = unlaid n is lacks

    flow-lowest : (x : Flow) → x ≡ flow_at block s → Lowest (outward_of (λ d. is_some (p.blocks d)) (λ n. is_some (p.data_blocks n)) (bare && deep) x) OutAt
    unfolding held laid looks_out
    flow-lowest (Call d) is = call-lowest d is (is_some (p.blocks d)) (bare && deep) refl refl
    flow-lowest (Choose n) is = choice-lowest n is (is_some (p.data_blocks n)) refl
    flow-lowest Plain is = none_out Plain is refl
    flow-lowest Open is = none_out Open is refl
    flow-lowest Close is = none_out Close is refl
    flow-lowest (Jump t) is = none_out (Jump t) is refl
    flow-lowest (Branch t) is = none_out (Branch t) is refl
    flow-lowest End is = none_out End is refl
    flow-lowest MayEnd is = none_out MayEnd is refl
    flow-lowest Stop is = none_out Stop is refl

  walked_lowest : (walked bare : Bool) (x : Flow) → x ≡ flow_at block s → Decides walked (Comes block s) → Decides bare (OnWalk block s 0) →
      Lowest (cond walked (outward_of (λ d. is_some (p.blocks d)) (λ n. is_some (p.data_blocks n)) (bare && deep) x) None) OutAt
  walked_lowest true bare x is comes at = flow-lowest (comes.0 refl) bare at x is
  walked_lowest false bare x is comes at = λ v o. both_ways _ refl (comes.1 (o.0, o.1))

-- a finding tells one sight a statement
pub told_count : (f : Finding) (told : List Sight) → told ≡ take f.count f.sights → length told ≡ f.count
told_count f told are =
    let room = f.room in
    let few = f.few in
    ap length are ∙ length-take-le f.count f.sights (omega arith)

-- at the statement's index
pub told_here : (f : Finding) (told : List Sight) (i : ℕ) (d : Sight) → told ≡ take f.count f.sights → i < length told → get_or told i d ≡ get_or f.sights (i + 1 - 1) unseen
told_here f told i d are l =
    let size = told_count f told are in
    let room = f.room in
    let few = f.few in
    let at : i ≡ i + 1 - 1 = omega arith in
    ap (λ (xs : List Sight). get_or xs i d) are
    ∙ get_or-take f.count f.sights i d (omega arith)
    ∙ get_or_default f.sights i d unseen (omega arith)
    ∙ ap (λ (j : ℕ). get_or f.sights j unseen) at

-- the lowest of all faults of a statement
seen_lowest : (p : Project) (b : BlockName) (deep : Bool) (s : ℕ) (x : Sight) → Sighted (flows_in p b) s x → Lowest (fault_seen p deep x) (BadAt p b deep s)
unfolding fault_seen
seen_lowest p b deep s x seen =
    lowest_like (λ v. Meets (flows_in p b) s v ⊎ OutAt p deep (flows_in p b) s v) (BadAt p b deep s) (fault_seen p deep x)
    (λ v h. ⊎_elim (λ (m : Meets (flows_in p b) s v). (m.0, m.1, inl m.2)) (λ (o : OutAt p deep (flows_in p b) s v). (o.0, o.1, inr o.2)) h)
    (λ v h. ⊎_elim (λ (m : HasAt (flows_in p b) s h.0 v). inl (h.0, h.1, m)) (λ (o : Outward p deep (flow_at (flows_in p b) s) h.0 v). inr (h.0, h.1, o)) h.2)
    (lower_lowest (Meets (flows_in p b) s) (OutAt p deep (flows_in p b) s) x.fault _ seen.fault (walked_lowest p deep (flows_in p b) s x.walked x.bare x.flow seen.flow seen.walked seen.bare))

-- the same by what was found in a block
pub found_lowest : (p : Project) (b : BlockName) (deep : Bool) (sights : List Sight) (count i : ℕ) (x : Sight) (o : Option Fault) →
    Found (flows_in p b) sights count → i < count → x ≡ get_or sights (i + 1 - 1) unseen → o ≡ fault_seen p deep x → Lowest o (BadAt p b deep (i + 1))
found_lowest p b deep sights count i x o of inside is seen =
    let size = of.size in
    let here = subst (λ (y : Sight). Sighted (flows_in p b) (i + 1) y) (sym is) (of.all (i + 1) (omega arith) (omega arith)) in
    subst (λ (y : Option Fault). Lowest y (BadAt p b deep (i + 1))) (sym seen) (seen_lowest p b deep (i + 1) x here)

-- and by the sights that its finding tells
pub told_lowest : (p : Project) (b : BlockName) (deep : Bool) (f : Finding) (told : List Sight) (i : ℕ) (d : Sight) (o : Option Fault) →
    Found (flows_in p b) f.sights f.count → told ≡ take f.count f.sights → i < length told → o ≡ fault_seen p deep (get_or told i d) → Lowest o (BadAt p b deep (i + 1))
told_lowest p b deep f told i d o of are l seen =
    let count = told_count f told are in
    found_lowest p b deep f.sights f.count i (get_or told i d) o of (omega arith) (told_here f told i d are l) seen
