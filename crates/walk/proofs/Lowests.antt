-- The lowest fault of a statement, and the lower of two.
use Rattle.std.proofs.Common.{◌≡◌, ℕ, Bool, true, false, cond, ◌&&◌, eqb, ltb, leb, ◌⊎◌, Some, None, Option, sym, refl, inl, inr, ⊎_elim, arith}
use Rattle.std.proofs.lemmas.Bool.{and_parts, and_from, eqb-true, eq-eqb, ltb-true, lt-ltb, leb-true, leb-false}
use Rattle.walk.specs.declared.faults.Fault.{Fault}
use Rattle.walk.specs.declared.faults.Fault.TheVariants.{MarkMissing, SixthBracket, NoneOpen, BracketsOpen, RunsOut}
use Rattle.walk.specs.declared.flows.Flow.{Flow}
use Rattle.walk.specs.Faults.{fault_number}
use Rattle.walk.specs.Places.{Lowest, fault_of, lower_of}
use Rattle.walk.specs.Walk.{Has, k1, k3, k4, k5, k6, lacks_mark, opens, closes, leaves_block, goes_on}

pub none_some : {A : Type 0} (q : A) → ◌≡◌ {A = Option A} None (Some q) → ⊥
none_some q e = let z : ◌≡◌ {A = ℕ} 0 1 = cc in omega arith

module _ (x : Flow) (k n : ℕ) where
  -- a fault makes its test true
  tests : (v : ℕ) → Has x k n v →
      ((v ≡ 1) × (lacks_mark x ≡ true))
      ⊎ (((v ≡ 3) × ((opens x && eqb k 5) ≡ true))
      ⊎ (((v ≡ 4) × ((closes x && eqb k 0) ≡ true))
      ⊎ (((v ≡ 5) × ((leaves_block x && ltb 0 k) ≡ true))
      ⊎ ((v ≡ 6) × ((goes_on x && eqb n 0) ≡ true)))))
  tests v (k1 h e) = inl (e, h)
  tests v (k3 h q e) = inr (inl (e, and_from _ _ h (eq-eqb k 5 q)))
  tests v (k4 h q e) = inr (inr (inl (e, and_from _ _ h (eq-eqb k 0 q))))
  tests v (k5 h q e) = inr (inr (inr (inl (e, and_from _ _ h (lt-ltb 0 k q)))))
  tests v (k6 h q e) = inr (inr (inr (inr (e, and_from _ _ h (eq-eqb n 0 q)))))

  pub lowest_of : Lowest (fault_of x k n) (Has x k n)
  lowest_of = go (lacks_mark x) (opens x && eqb k 5) (closes x && eqb k 0) (leaves_block x && ltb 0 k) (goes_on x && eqb n 0) refl refl refl refl refl
    where
      go : (a b c d e : Bool) → lacks_mark x ≡ a → (opens x && eqb k 5) ≡ b → (closes x && eqb k 0) ≡ c → (leaves_block x && ltb 0 k) ≡ d → (goes_on x && eqb n 0) ≡ e →
          Lowest (cond a (Some MarkMissing) (cond b (Some SixthBracket) (cond c (Some NoneOpen) (cond d (Some BracketsOpen) (cond e (Some RunsOut) None))))) (Has x k n)
      go true b c d e p q r s t = (k1 p refl, λ v h. grind (arith, tests v h))
      go false true c d e p q r s t = (k3 (and_parts _ _ q).0 (eqb-true k 5 (and_parts _ _ q).1) refl, λ v h. grind (arith, tests v h))
      go false false true d e p q r s t = (k4 (and_parts _ _ r).0 (eqb-true k 0 (and_parts _ _ r).1) refl, λ v h. grind (arith, tests v h))
      go false false false true e p q r s t = (k5 (and_parts _ _ s).0 (ltb-true 0 k (and_parts _ _ s).1) refl, λ v h. grind (arith, tests v h))
      go false false false false true p q r s t = (k6 (and_parts _ _ t).0 (eqb-true n 0 (and_parts _ _ t).1) refl, λ v h. grind (arith, tests v h))
      go false false false false false p q r s t = λ v h. grind (arith, tests v h)

-- where nothing holds there is no lowest, and the other way round
pub none_broken : (P : ℕ → Type 0) (o : Option Fault) → Lowest o P → ((v : ℕ) → P v → ⊥) → o ≡ None
none_broken P None l h = refl
none_broken P (Some f) l h = absurd (h (fault_number f) l.0)

pub none_lowest : (P : ℕ → Type 0) (o : Option Fault) → Lowest o P → o ≡ None → (v : ℕ) → P v → ⊥
none_lowest P None l e = l
none_lowest P (Some f) l e = absurd (none_some f (sym e))

-- the lowest of either
pub lower_lowest : (P Q : ℕ → Type 0) (a b : Option Fault) → Lowest a P → Lowest b Q → Lowest (lower_of a b) (λ v. P v ⊎ Q v)
lower_lowest P Q None None la lb = λ v h. ⊎_elim (la v) (lb v) h
lower_lowest P Q None (Some g) la lb = (inr lb.0, λ v h. ⊎_elim (λ x. absurd (la v x)) (lb.1 v) h)
lower_lowest P Q (Some f) None la lb = (inl la.0, λ v h. ⊎_elim (la.1 v) (λ x. absurd (lb v x)) h)
lower_lowest P Q (Some f) (Some g) la lb = go (leb (fault_number f) (fault_number g)) refl
  where
    go : (t : Bool) → leb (fault_number f) (fault_number g) ≡ t → Lowest (cond t (Some f) (Some g)) (λ v. P v ⊎ Q v)
    go true e = (inl la.0, λ v h. ⊎_elim (la.1 v) (λ y. let l = leb-true _ _ e in let m = lb.1 v y in omega arith) h)
    go false e = (inr lb.0, λ v h. ⊎_elim (λ x. let l = leb-false _ _ e in let m = la.1 v x in omega arith) (lb.1 v) h)

-- the lowest of one property is that of an equal one
pub lowest_like : (P Q : ℕ → Type 0) (o : Option Fault) → ((v : ℕ) → P v → Q v) → ((v : ℕ) → Q v → P v) → Lowest o P → Lowest o Q
lowest_like P Q None f g l = λ v h. l v (g v h)
lowest_like P Q (Some x) f g l = (f (fault_number x) l.0, λ v h. l.1 v (g v h))
