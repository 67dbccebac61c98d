-- Where the walk goes on, and that it stays in its block.
use Rattle.std.proofs.Common.{◌≡◌, ℕ, ◌-◌, ◌<◌, ◌≤◌, Bool, true, false, ◌⊎◌, List, length, Some, None, Option, sym, refl, ap, inl, inr, ⊎_elim, arith}
use Rattle.std.proofs.lemmas.Bool.{cases_eq}
use Rattle.walk.specs.declared.faults.Fault.{Fault}
use Rattle.walk.specs.declared.flows.Flow.{Flow}
use Rattle.walk.specs.declared.flows.Flow.TheVariants.{Plain, Open, Close, Jump, Branch, Call, End, MayEnd, Stop, Choose}
use Rattle.walk.specs.declared.places.Place.{Place}
use Rattle.walk.specs.Places.{Lowest, place_at, unless, stepped, jumped, fault_at, on_from, jump_from}
use Rattle.walk.specs.Walk.{Has, k3, k6, goes_on, leaves, flow_at, HasAt, Goes, next, jump, OnWalk, start, on, Fit}
use Rattle.walk.proofs.Lowests.{none_some, none_broken, none_lowest, lowest_of}

pub low_at : (block : List Flow) (p : Place) → Lowest (fault_at block p) (HasAt block p.statement p.brackets)
low_at block p = lowest_of (flow_at block p.statement) p.brackets (length block - p.statement)

-- a sixth bracket is a fault, so at most five are open behind a statement without one
leaves_few : (x : Flow) (k n : ℕ) → ((v : ℕ) → Has x k n v → ⊥) → k < 6 → leaves x k < 6
leaves_few Plain k n h l = l
leaves_few Open k n h l = ⊎_elim (λ (e : k ≡ 5). absurd (h 3 (k3 refl e refl))) (λ (e : k ≡ 5 → ⊥). omega arith) (cases_eq k 5)
leaves_few Close k n h l = omega arith
leaves_few (Jump t) k n h l = l
leaves_few (Branch t) k n h l = l
leaves_few (Call b) k n h l = l
leaves_few End k n h l = l
leaves_few MayEnd k n h l = l
leaves_few Stop k n h l = l
leaves_few (Choose d) k n h l = l

-- a place of a block
pub record Inside (block : List Flow) (s k : ℕ) : Type 0 where
  pub low : 1 ≤ s
  pub high : s ≤ length block
  pub few : k < 6

-- a statement that goes on without running out has one behind it
pub goes_inside : (block : List Flow) (s k : ℕ) → ((v : ℕ) → HasAt block s k v → ⊥) → goes_on (flow_at block s) ≡ true → s < length block
goes_inside block s k ok g = ⊎_elim (λ (e : length block - s ≡ 0). absurd (ok 6 (k6 g e refl))) (λ (e : length block - s ≡ 0 → ⊥). omega arith) (cases_eq (length block - s) 0)

-- the walk stays in its block, with at most five brackets open
pub walk_in : (block : List Flow) {s k : ℕ} → Fit block → OnWalk block s k → Inside block s k
walk_in block fit start = let l = fit.some in record { low = omega arith; high = l; few = omega arith }
walk_in block fit (on {s} {k} {t} {j} w (next ok g e f)) =
    let h = walk_in block fit w in
    let more = goes_inside block s k ok g in
    record { low = omega arith; high = omega arith; few = rw f (leaves_few (flow_at block s) k (length block - s) ok h.few) }
walk_in block fit (on {s} {k} {t} {j} w (jump ok g f)) =
    let h = walk_in block fit w in
    let a = fit.aimed s h.low h.high t g in
    record { low = a.0; high = a.1; few = rw f h.few }

-- the places found are the places that the walk goes on to
pub goes_found : (block : List Flow) (p : Place) (t j : ℕ) → Goes block p.statement p.brackets t j → (on_from block p ≡ Some (place_at t j)) ⊎ (jump_from block p ≡ Some (place_at t j))
goes_found block p t j (next ok g e f) =
    let none = none_broken (HasAt block p.statement p.brackets) (fault_at block p) (low_at block p) ok in
    inl (rw (none, g, e, f))
goes_found block p t j (jump ok g f) =
    let none = none_broken (HasAt block p.statement p.brackets) (fault_at block p) (low_at block p) ok in
    inr (rw (none, g, f))

from_unless : (o : Option Fault) (a : Option Place) (q : Place) → unless o a ≡ Some q → (o ≡ None) × (a ≡ Some q)
from_unless None a q e = (refl, e)
from_unless (Some f) a q e = absurd (none_some q e)

from_stepped : (b : Bool) (p q : Place) → stepped b p ≡ Some q → (b ≡ true) × (p ≡ q)
from_stepped true p q e = (refl, cc)
from_stepped false p q e = absurd (none_some q e)

from_jumped : (o : Option ℕ) (k : ℕ) (q : Place) → jumped o k ≡ Some q → (o ≡ Some q.statement) × (q.brackets ≡ k)
from_jumped None k q e = absurd (none_some q e)
from_jumped (Some t) k q e =
    let same : place_at t k ≡ q = cc in
    (ap (λ (p : Place). Some p.statement) same, ap (λ (p : Place). p.brackets) (sym same))

pub on_goes : (block : List Flow) (p q : Place) → on_from block p ≡ Some q → Goes block p.statement p.brackets q.statement q.brackets
on_goes block p q e =
    let u = from_unless (fault_at block p) _ q e in
    let w = from_stepped _ _ q u.1 in
    next (none_lowest (HasAt block p.statement p.brackets) (fault_at block p) (low_at block p) u.0) w.0 (ap (λ (r : Place). r.statement) (sym w.1)) (ap (λ (r : Place). r.brackets) (sym w.1))

pub jump_goes : (block : List Flow) (p q : Place) → jump_from block p ≡ Some q → Goes block p.statement p.brackets q.statement q.brackets
jump_goes block p q e =
    let u = from_unless (fault_at block p) _ q e in
    let w = from_jumped _ _ q u.1 in
    jump (none_lowest (HasAt block p.statement p.brackets) (fault_at block p) (low_at block p) u.0) w.0 w.1
