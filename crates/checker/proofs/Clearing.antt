-- What was found, block by block and slot by slot.
use Rattle.std.proofs.Common.{◌≡◌, ℕ, ◌+◌, ◌<◌, List, length, get_or, set, Some, None, Option, MatchOption, sym, ap, ◌∙◌, subst, ⊎_elim, arith}
use Rattle.std.specs.Option.{unwrap_or}
use Rattle.std.proofs.lemmas.List.{get_or-set_same, get_or-set_other}
use Rattle.std.proofs.lemmas.Bool.{cases_eq}
use Rattle.awl.specs.declared.names.BlockName.{BlockName}
use Rattle.store.specs.Held.{name_at}
use Rattle.store.specs.declared.store.Store.{Store}
use Rattle.walk.specs.Findings.{Found}
use Rattle.walk.specs.declared.flows.Flow.{Flow}
use Rattle.walk.specs.declared.sights.Finding.{Finding}
use Rattle.checker.specs.Joins.{IsOf, FoundTo}

-- what is found in a block that can be walked, whatever stands for nothing found
pub found_or : (block : List Flow) (Refused : Type 0) (o : Option Finding) (d f : Finding) → f ≡ unwrap_or o d → (Refused → ⊥) →
    MatchOption o Refused (λ g. Found block g.sights g.count) → Found block f.sights f.count
found_or block Refused None d f e fit refused = absurd (fit refused)
found_or block Refused (Some g) d f e fit found = subst (λ (x : Finding). Found block x.sights x.count) (sym e) found

-- one slot more has its finding
pub found_more : (s : Store) (findings : List Finding) (i : ℕ) (f : Finding) → i < length findings → ((b : BlockName) → name_at s i ≡ Some b → IsOf f s b) →
    FoundTo s findings i → FoundTo s (set findings i f) (i + 1)
found_more s findings i f room here before j b d l named = ⊎_elim
    (λ (e : j ≡ i).
    let is : get_or (set findings i f) j d ≡ f = ap (λ (k : ℕ). get_or (set findings i f) k d) e ∙ get_or-set_same findings i f d room in
    subst (λ (x : Finding). IsOf x s b) (sym is) (here b (sym (ap (name_at s) e) ∙ named)))
    (λ (ne : j ≡ i → ⊥). subst (λ (x : Finding). IsOf x s b) (sym (get_or-set_other findings i j f d ne)) (before j b d (omega arith) named))
    (cases_eq j i)
