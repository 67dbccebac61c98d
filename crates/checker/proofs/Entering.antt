-- The slots that a block enters, statement by statement and slot by slot.
use Rattle.std.proofs.Common.{◌≡◌, ℕ, ◌+◌, ◌<◌, ◌≤◌, Bool, true, false, cond, List, length, get_or, set, Some, None, Option, sym, refl, ap, ◌∙◌, subst, ⊎_elim, arith}
use lib.Bits.{bit_or}
use Rattle.std.proofs.lemmas.List.{get_or-set_same, get_or-set_other}
use Rattle.std.proofs.lemmas.Bool.{cases_lt, cases_eq}
use Rattle.awl.specs.declared.names.BlockName.{BlockName}
use Rattle.store.specs.Held.{slot_of, name_at}
use Rattle.store.specs.declared.store.Store.{Store}
use Rattle.walk.proofs.Lowests.{none_some}
use Rattle.walk.proofs.Ways.{walk_in}
use Rattle.walk.specs.Findings.{Sighted}
use Rattle.walk.specs.declared.flows.Flow.{Flow}
use Rattle.walk.specs.declared.flows.Flow.TheVariants.{Plain, Open, Close, Jump, Branch, Call, End, MayEnd, Stop, Choose}
use Rattle.walk.specs.declared.sights.Sight.{Sight}
use Rattle.checker.specs.Chains.{In}
use Rattle.checker.specs.Inside.{bit_of, call_of, entered_by}
use Rattle.checker.specs.Joins.{Enters, EntersTo, CallsTo}
use Rattle.checker.specs.Project.{project_of, flows_in}
use Rattle.checker.proofs.Fitting.{fit_at}
use Rattle.checker.proofs.Sets.{none_in, one_in, one_in_self, in_either, in_left, in_right}

from_bit : (o : Option ℕ) (j : ℕ) → In (bit_of o) j → o ≡ Some j
from_bit None j h = absurd (none_in j h)
from_bit (Some i) j h = ap Some (sym (one_in i j h))

from_call : (slots : BlockName → Option ℕ) (x : Flow) (j : ℕ) → call_of slots x ≡ Some j → (d : BlockName) × (x ≡ Call d) × (slots d ≡ Some j)
from_call slots (Call d) j e = (d, refl, e)
from_call slots (Choose n) j e = absurd (none_some j e)
from_call slots Plain j e = absurd (none_some j e)
from_call slots Open j e = absurd (none_some j e)
from_call slots Close j e = absurd (none_some j e)
from_call slots (Jump t) j e = absurd (none_some j e)
from_call slots (Branch t) j e = absurd (none_some j e)
from_call slots End j e = absurd (none_some j e)
from_call slots MayEnd j e = absurd (none_some j e)
from_call slots Stop j e = absurd (none_some j e)

-- what is in the set of a sight is called where it is seen with no bracket open
from_entered : (slots : BlockName → Option ℕ) (bare : Bool) (x : Flow) (j : ℕ) → In (cond bare (bit_of (call_of slots x)) 0) j → (bare ≡ true) × (call_of slots x ≡ Some j)
from_entered slots true x j h = (refl, from_bit (call_of slots x) j h)
from_entered slots false x j h = absurd (none_in j h)

module _ (s : Store) (b : BlockName) where
  sight_only : (t j : ℕ) (x : Sight) → Sighted (flows_in (project_of s) b) t x → In (entered_by (slot_of s) x) j → Enters s b j t
  sight_only t j x seen h =
      let e = from_entered (slot_of s) x.bare x.flow j h in
      let c = from_call (slot_of s) x.flow j e.1 in
      record { called = c.0; walked = seen.bare.0 e.0; calls = sym seen.flow ∙ c.1; slot = c.2 }

  sight_all : (t j : ℕ) (x : Sight) → Sighted (flows_in (project_of s) b) t x → Enters s b j t → In (entered_by (slot_of s) x) j
  sight_all t j x seen e =
      let bare = seen.bare.1 e.walked in
      let is : call_of (slot_of s) x.flow ≡ Some j = ap (call_of (slot_of s)) (seen.flow ∙ e.calls) ∙ e.slot in
      subst (λ (set : ℕ). In set j) (sym (ap (λ (y : Bool). cond y (bit_of (call_of (slot_of s) x.flow)) 0) bare ∙ ap bit_of is)) (one_in_self j)

  -- one statement more
  pub enters_more : (i out : ℕ) (x : Sight) → Sighted (flows_in (project_of s) b) (i + 1) x → EntersTo s b i out → EntersTo s b (i + 1) (bit_or out (entered_by (slot_of s) x))
  enters_more i out x seen c = record {
    only = λ j h. ⊎_elim
        (λ (y : In out j). c.only j y)
        (λ (y : In (entered_by (slot_of s) x) j). (i + 1, sight_only (i + 1) j x seen y))
        (in_either out (entered_by (slot_of s) x) j h);
    all = λ j t low high e. ⊎_elim
        (λ (m : t < i + 1). in_left out (entered_by (slot_of s) x) j (c.all j t low (omega arith) e))
        (λ (m : i + 1 ≤ t).
        let same : t ≡ i + 1 = omega arith in
        in_right out (entered_by (slot_of s) x) j (sight_all (i + 1) j x seen (subst (λ (u : ℕ). Enters s b j u) same e)))
        (cases_lt t (i + 1));
  }

module _ (s : Store) where
  -- one slot more, with its block
  pub calls_more : (calls : List ℕ) (i out n : ℕ) (b : BlockName) → i < length calls → name_at s i ≡ Some b → n ≡ length (flows_in (project_of s) b) →
      EntersTo s b n out → CallsTo s calls i → CallsTo s (set calls i out) (i + 1)
  calls_more calls i out n b room named size here before = record {
    only = λ a j c l m h. ⊎_elim
        (λ (e : a ≡ i).
        let same : c ≡ b = some_same (sym m ∙ ap (name_at s) e ∙ named) in
        let o = here.only j (subst (λ (y : ℕ). In y j) (ap (λ (k : ℕ). get_or (set calls i out) k 0) e ∙ get_or-set_same calls i out 0 room) h) in
        (o.0, subst (λ (d : BlockName). Enters s d j o.0) (sym same) o.1))
        (λ (ne : a ≡ i → ⊥). before.only a j c (omega arith) m (subst (λ (y : ℕ). In y j) (get_or-set_other calls i a out 0 ne) h))
        (cases_eq a i);
    all = λ a j t c l m e. ⊎_elim
        (λ (q : a ≡ i).
        let same : c ≡ b = some_same (sym m ∙ ap (name_at s) q ∙ named) in
        let f = subst (λ (d : BlockName). Enters s d j t) same e in
        let w = walk_in (flows_in (project_of s) b) (fit_at s i b named) f.walked in
        let high = w.high in
        subst (λ (y : ℕ). In y j) (sym (ap (λ (k : ℕ). get_or (set calls i out) k 0) q ∙ get_or-set_same calls i out 0 room)) (here.all j t w.low (omega arith) f))
        (λ (ne : a ≡ i → ⊥). subst (λ (y : ℕ). In y j) (sym (get_or-set_other calls i a out 0 ne)) (before.all a j t c (omega arith) m e))
        (cases_eq a i);
  }
    where
      some_same : {x y : BlockName} → Some x ≡ Some y → x ≡ y
      some_same e = cc

  -- one slot more, without a block
  pub calls_skip : (calls : List ℕ) (i : ℕ) → name_at s i ≡ None → CallsTo s calls i → CallsTo s calls (i + 1)
  calls_skip calls i free before = record {
    only = λ a j c l m h. before.only a j c (lower a c l m) m h;
    all = λ a j t c l m e. before.all a j t c (lower a c l m) m e;
  }
    where
      lower : (a : ℕ) (c : BlockName) → a < i + 1 → name_at s a ≡ Some c → a < i
      lower a c l m = ⊎_elim (λ (x : a < i). x) (λ (x : i ≤ a). let e : a ≡ i = omega arith in absurd (none_some c (sym (ap (name_at s) e ∙ free) ∙ m))) (cases_lt a i)
