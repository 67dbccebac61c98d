-- The first fault of a block, of the blocks of some slots, and of a project.
use Rattle.std.proofs.Common.{◌≡◌, ℕ, ◌+◌, ◌<◌, ◌≤◌, Bool, true, ◌⊎◌, length, MatchOption, Some, None, Ok, Err, Decides, Option, Result, sym, refl, ap, ◌∙◌, subst, ap₂, inl, inr, ⊎_elim, arith}
use Rattle.std.proofs.lemmas.Bool.{cases_lt, cases_order, both_ways}
use Rattle.std.specs.Option.{ok_or}
use Rattle.awl.specs.Order.{kind_rank, Before}
use Rattle.awl.specs.declared.names.BlockKind.{BlockKind}
use Rattle.awl.specs.declared.names.BlockKind.TheVariants.{Organisation, Program, Function}
use Rattle.awl.specs.declared.names.BlockName.{BlockName}
use Rattle.store.proofs.Holding.{name_has_slot}
use Rattle.store.specs.Held.{slot_of, name_at}
use Rattle.store.specs.declared.store.Store.{Store}
use Rattle.walk.proofs.Lowests.{none_some}
use Rattle.walk.proofs.Ways.{walk_in}
use Rattle.walk.specs.Faults.{fault_number}
use Rattle.walk.specs.Places.{Lowest}
use Rattle.walk.specs.Walk.{Fit}
use Rattle.walk.specs.declared.faults.Fault.{Fault as FaultKind}
use Rattle.walk.specs.declared.faults.Fault.TheVariants.{NoStart}
use Rattle.checker.specs.Chains.{In}
use Rattle.checker.specs.Inside.{BadAt, FirstIn, JudgesIn}
use Rattle.checker.specs.Joins.{Earlier, Reached, FirstTo, JudgesTo, FirstHere, JudgesHere}
use Rattle.checker.specs.Project.{Project, project_of, Holds, flows_in, outermost, Met, at, k9}
use Rattle.checker.specs.Verdicts.{NotAfter, Passes, First, Verdict, Judges, is_pass}
use Rattle.checker.specs.declared.verdicts.Found.{Found}
use Rattle.checker.proofs.Chaining.{walk_chain, chain_held, chain_start, bad_met, met_bad, met_chain, some_same}
use Rattle.checker.proofs.Fitting.{slot_low, held_slot}

-- one block, statement by statement
module _ (p : Project) (b : BlockName) (deep : Bool) where
  -- the first n statements have no fault
  abbrev pub CleanTo : ℕ → Type 0
  CleanTo n = (t w : ℕ) → t ≤ n → BadAt p b deep t w → ⊥

  pub clean_none : Fit (flows_in p b) → CleanTo 0
  clean_none fit t w l h = let low = (walk_in (flows_in p b) fit h.1).low in omega arith

  at_next : (n t w : ℕ) → t ≡ n + 1 → BadAt p b deep t w → BadAt p b deep (n + 1) w
  at_next n t w e h = subst (λ (u : ℕ). BadAt p b deep u w) e h

  pub clean_more : (n : ℕ) (o : Option FaultKind) → o ≡ None → Lowest o (BadAt p b deep (n + 1)) → CleanTo n → CleanTo (n + 1)
  clean_more n o e low before t w l h = ⊎_elim
      (λ (m : t < n + 1). before t w (omega arith) h)
      (λ (m : n + 1 ≤ t). subst (λ (x : Option FaultKind). Lowest x (BadAt p b deep (n + 1))) e low w (at_next n t w (omega arith) h))
      (cases_lt t (n + 1))

  pub first_here : (n : ℕ) (o : Option FaultKind) (f : FaultKind) → o ≡ Some f → Lowest o (BadAt p b deep (n + 1)) → CleanTo n → FirstIn p b deep (n + 1) (fault_number f)
  first_here n o f e low before =
      let l = subst (λ (x : Option FaultKind). Lowest x (BadAt p b deep (n + 1))) e low in
      record {
        bad = l.0;
        least = λ t w h. ⊎_elim
            (λ (m : t ≡ n + 1). inr (sym m, l.1 w (at_next n t w m h)))
            (⊎_elim (λ (m : t < n + 1). absurd (before t w (omega arith) h)) (λ (m : n + 1 < t). inl m))
            (cases_order t (n + 1));
      }

  pub clean_all : (n : ℕ) → Fit (flows_in p b) → n ≡ length (flows_in p b) → CleanTo n → JudgesIn p b deep None
  clean_all n fit e before t w h = let high = (walk_in (flows_in p b) fit h.1).high in before t w (omega arith) h

-- the order of names
rank_kind : (a b : BlockKind) → kind_rank a ≡ kind_rank b → a ≡ b
rank_kind Organisation Organisation e = refl
rank_kind Organisation Program e = absurd (omega arith)
rank_kind Organisation Function e = absurd (omega arith)
rank_kind Program Organisation e = absurd (omega arith)
rank_kind Program Program e = refl
rank_kind Program Function e = absurd (omega arith)
rank_kind Function Organisation e = absurd (omega arith)
rank_kind Function Program e = absurd (omega arith)
rank_kind Function Function e = refl

abbrev name_of : BlockKind → ℕ → BlockName
name_of k n = record { kind = k; number = n }

same_name : (a b : BlockName) → kind_rank a.kind ≡ kind_rank b.kind → a.number ≡ b.number → a ≡ b
same_name a b e n = ap₂ name_of (rank_kind a.kind b.kind e) n

before_trans : (a b c : BlockName) → Before a b → Before b c → Before a c
before_trans a b c (inl l) (inl m) = inl (omega arith)
before_trans a b c (inl l) (inr m) = inl (let e = m.0 in omega arith)
before_trans a b c (inr l) (inl m) = inl (let e = l.0 in omega arith)
before_trans a b c (inr l) (inr m) = inr (l.0 ∙ m.0, (let x = l.1 in let y = m.1 in omega arith))

before_total : (a b : BlockName) → (a ≡ b → ⊥) → (Before a b → ⊥) → Before b a
before_total a b other later = ⊎_elim
    (λ (e : kind_rank a.kind ≡ kind_rank b.kind). ⊎_elim
    (λ (n : a.number ≡ b.number). absurd (other (same_name a b e n)))
    (⊎_elim (λ (l : a.number < b.number). absurd (later (inr (e, l)))) (λ (l : b.number < a.number). inr (sym e, l)))
    (cases_order a.number b.number))
    (⊎_elim (λ (l : kind_rank a.kind < kind_rank b.kind). absurd (later (inl l))) (λ (l : kind_rank b.kind < kind_rank a.kind). inl l))
    (cases_order (kind_rank a.kind) (kind_rank b.kind))

-- what comes before a name comes before all that it is not after
before_all : (a b c : BlockName) (s v x y t w : ℕ) → Before a b → NotAfter b x y c t w → NotAfter a s v c t w
before_all a b c s v x y t w l (inl m) = inl (before_trans a b c l m)
before_all a b c s v x y t w l (inr m) = inl (subst (λ (n : BlockName). Before a n) m.0 l)

-- slot by slot
module _ (s : Store) where
  slot_split : (n i : ℕ) (b : BlockName) → i < n + 1 → name_at s i ≡ Some b → (i < n) ⊎ (name_at s n ≡ Some b)
  slot_split n i b l named = ⊎_elim (λ (m : i < n). inl m) (λ (m : n ≤ i). let e : i ≡ n = omega arith in inr (sym (ap (name_at s) e) ∙ named)) (cases_lt i n)

  -- the best so far stays, where what stands in the next slot is not before it
  keeps : (n : ℕ) (f : Found) → FirstTo s n f →
      ((b : BlockName) (t w : ℕ) → name_at s n ≡ Some b → Met (project_of s) b t w → NotAfter f.block f.statement (fault_number f.fault) b t w) → FirstTo s (n + 1) f
  keeps n f best here = record {
    slot = best.slot;
    within = let l = best.within in omega arith;
    named = best.named;
    met = best.met;
    least = λ i b t w l named h. ⊎_elim (λ (m : i < n). best.least i b t w m named h) (λ (m : name_at s n ≡ Some b). here b t w m h) (slot_split n i b l named);
  }

  -- the next slot's fault is the first, where it is not after any of the best's
  takes : (n : ℕ) (g : Found) → FirstHere s n g →
      ((i : ℕ) (b : BlockName) (t w : ℕ) → i < n → name_at s i ≡ Some b → Met (project_of s) b t w → NotAfter g.block g.statement (fault_number g.fault) b t w) → FirstTo s (n + 1) g
  takes n g here before = record {
    slot = n;
    within = omega arith;
    named = here.named;
    met = here.met;
    least = λ i b t w l named h. ⊎_elim
        (λ (m : i < n). before i b t w m named h)
        (λ (m : name_at s n ≡ Some b).
        let same = some_same (sym here.named ∙ m) in
        inr (same, here.least t w (subst (λ (c : BlockName). Met (project_of s) c t w) (sym same) h)))
        (slot_split n i b l named);
  }

  -- one slot more
  pub judges_more : (n : ℕ) (best here r : Option Found) → JudgesTo s n best → JudgesHere s n here → Earlier best here r → JudgesTo s (n + 1) r
  judges_more n None None r best here e =
      subst (λ (o : Option Found). JudgesTo s (n + 1) o) (sym e)
      (λ i b t w l at h. ⊎_elim (λ (m : i < n). best i b t w m at h) (λ (m : name_at s n ≡ Some b). here b t w m h) (slot_split n i b l at))
  judges_more n None (Some g) r best here e =
      subst (λ (o : Option Found). JudgesTo s (n + 1) o) (sym e) (takes n g here (λ i b t w l at h. absurd (best i b t w l at h)))
  judges_more n (Some f) None r best here e =
      subst (λ (o : Option Found). JudgesTo s (n + 1) o) (sym e) (keeps n f best (λ b t w at h. absurd (here b t w at h)))
  judges_more n (Some f) (Some g) r best here (inl e) =
      subst (λ (o : Option Found). JudgesTo s (n + 1) o) (sym e.0)
      (takes n g here (λ i b t w l at h. before_all g.block f.block b _ _ _ _ t w e.1 (best.least i b t w l at h)))
  judges_more n (Some f) (Some g) r best here (inr e) =
      subst (λ (o : Option Found). JudgesTo s (n + 1) o) (sym e.0)
      (keeps n f best (λ b t w at h.
      let same = some_same (sym here.named ∙ at) in
      inl (subst (λ (c : BlockName). Before f.block c) same (before_total g.block f.block other e.1))))
    where
      other : g.block ≡ f.block → ⊥
      other q =
          let one = name_has_slot s f.block n (here.named ∙ ap Some q) in
          let two = name_has_slot s f.block best.slot best.named in
          let same = some_same (sym one ∙ two) in
          let l = best.within in
          omega arith

  module _ (reach last : ℕ) (r : Reached s reach last) (held : Holds (project_of s) outermost) (n : ℕ) where
    -- a slot whose block is not entered has nothing
    pub here-off : (b : BlockName) → name_at s n ≡ Some b → (In reach n → ⊥) → JudgesHere s n None
    here-off b named off c t w named' h =
        let ch = met_chain (project_of s) held h in
        off (r.any.all ch.0 n c named' ch.1)

    -- one whose block is entered has what its own walk has
    pub here_on : (b : BlockName) (deep : Bool) (o : Option Found) → name_at s n ≡ Some b → In reach n → (deep ≡ true → In last n) → (In last n → deep ≡ true) →
        JudgesIn (project_of s) b deep o → JudgesHere s n o
    here_on b deep None named on only all j = λ c t w named' h.
        let same = some_same (sym named ∙ named') in
        j t w (met_bad (project_of s) deep held (λ x. all (r.last_all n b named x)) (subst (λ (d : BlockName). Met (project_of s) d t w) (sym same) h))
    here_on b deep (Some f) named on only all j =
        let ch = r.any.only n b named on in
        let is = j.0 in
        let first = j.1 in
        record {
          named = named ∙ ap Some (sym is);
          met = subst (λ (d : BlockName). Met (project_of s) d f.statement (fault_number f.fault)) (sym is) (bad_met (project_of s) deep _ _ ch.1 (λ e. r.last_only n b named (only e)) first.bad);
          least = λ t w h. first.least t w (met_bad (project_of s) deep held (λ x. all (r.last_all n b named x)) (subst (λ (d : BlockName). Met (project_of s) d t w) is h));
        }

  -- all slots are all blocks
  met_slot : {b : BlockName} {t w : ℕ} → Holds (project_of s) outermost → Met (project_of s) b t w → (i : ℕ) × (i < 32) × (name_at s i ≡ Some b)
  met_slot {b} held h =
      let ch = met_chain (project_of s) held h in
      let i = held_slot s b (chain_held (project_of s) ch.1) in
      (i.0, slot_low s i.0 b i.2, i.2)

  judges_pass : Holds (project_of s) outermost → JudgesTo s 32 None → Passes (project_of s)
  judges_pass held j b t w h = let i = met_slot held h in j i.0 b t w i.1 i.2 h

  judges_first : (f : Found) → Holds (project_of s) outermost → JudgesTo s 32 (Some f) → First (project_of s) f.block f.statement (fault_number f.fault)
  judges_first f held j = record { met = j.met; least = λ b t w h. let i = met_slot held h in j.least i.0 b t w i.1 i.2 h }

  -- the verdict by the first fault, if any
  pub judges_by : (o : Option Found) (v : Verdict) → Holds (project_of s) outermost → JudgesTo s 32 o → MatchOption o (v ≡ Ok tt) (λ f. v ≡ Err f) → Judges (project_of s) v
  judges_by None v held j e = subst (λ (x : Verdict). Judges (project_of s) x) (sym e) (judges_pass held j)
  judges_by (Some f) v held j e = subst (λ (x : Verdict). Judges (project_of s) x) (sym e) (judges_first f held j)

-- without OB 1 nothing else is met
judges_nothing : (p : Project) → (Holds p outermost → ⊥) → First p outermost 0 9
judges_nothing p lacks = record { met = k9 lacks; least = λ b t w h. least h }
  where
    least : {b : BlockName} {t w : ℕ} → Met p b t w → NotAfter outermost 0 9 b t w
    least (at w h) = absurd (lacks (chain_start p (walk_chain p w).1))
    least (k9 l) = inr (refl, inr (refl, omega arith))

-- what is told where no slot has OB 1
pub judges_unstarted : (s : Store) (start : Option ℕ) (f : Found) → start ≡ slot_of s outermost → Err f ≡ ok_or start (record { block = outermost; statement = 0; fault = NoStart }) →
    First (project_of s) f.block f.statement (fault_number f.fault)
judges_unstarted s None f e told = subst (λ (g : Found). First (project_of s) g.block g.statement (fault_number g.fault)) (same f _ told) (judges_nothing (project_of s) lacks)
  where
    lacks : Holds (project_of s) outermost → ⊥
    lacks h = let slot = held_slot s outermost h in none_some slot.0 (e ∙ slot.1)

    same : (g h : Found) → ◌≡◌ {A = Result ℕ Found} (Err g) (Err h) → h ≡ g
    same g h q = cc
judges_unstarted s (Some i) f e told = cc

-- a right verdict is pass exactly where the project passes
pub judges_exact : (p : Project) (v : Verdict) → Judges p v → Decides (is_pass v) (Passes p)
judges_exact p (Ok pass) j = (λ e. j, λ h. refl)
judges_exact p (Err f) j = (λ e. absurd (both_ways _ refl e), λ h. absurd (h f.block f.statement (fault_number f.fault) j.met))
