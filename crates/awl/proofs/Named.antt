-- What a word names is told by the names alone. Assumes nothing.
use Rattle.std.proofs.Common.{◌≡◌, ℕ, Bool, true, false, cond, List, [], ◌∷◌, Some, None, Option, sym, refl, subst, arith, MatchOption}
use Rattle.std.specs.Str.{bytes_eq}
use Rattle.std.proofs.lemmas.Slice.Eq.{bytes_eq-Decides}
use Rattle.awl.specs.Named.{first_named}

-- what is found among some things has the name
named_so : {X : Type 0} (name : X → List ℕ) (xs : List X) (bs : List ℕ) (x : X) → first_named name xs bs ≡ Some x → name x ≡ bs
named_so name [] bs x e = let z : ◌≡◌ {A = ℕ} 0 1 = cc in absurd (omega arith)
named_so {X} name (y ∷ xs) bs x e = here (bytes_eq (name y) bs) refl (named_so name xs bs x) e
  where
    here : (b : Bool) → bytes_eq (name y) bs ≡ b → (first_named name xs bs ≡ Some x → name x ≡ bs) → cond b (Some y) (first_named name xs bs) ≡ Some x → name x ≡ bs
    here true t rest f = let same : y ≡ x = cc in subst (λ (z : X). name z ≡ bs) same ((bytes_eq-Decides (name y) bs).0 t)
    here false t rest f = rest f

none_found : {X : Type 0} (o : Option X) → ((x : X) → o ≡ Some x → ⊥) → None ≡ o
none_found None h = refl
none_found (Some x) h = absurd (h x refl)

-- each of the things is the first with its name: then an answer that has the name, or is none where nothing has it, is the
-- definition's
pub known : {X : Type 0} (name : X → List ℕ) (xs : List X) → ((x : X) → first_named name xs (name x) ≡ Some x) → (bs : List ℕ) (r : Option X) → MatchOption r ((x : X) → name x ≡ bs → ⊥) (λ x. name x ≡ bs) → r ≡ first_named name xs bs
known name xs first bs None h = none_found (first_named name xs bs) (λ x e. h x (named_so name xs bs x e))
known {X} name xs first bs (Some x) h = sym (subst (λ (b : List ℕ). first_named name xs b ≡ Some x) h (first x))
