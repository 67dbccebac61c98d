-- A statement's sight, from the marks of its places.
use Rattle.std.proofs.Common.{◌≡◌, ℕ, ◌+◌, ◌-◌, ◌<◌, ◌≤◌, Bool, true, ◌⊎◌, List, ◌++◌, length, get_or, set, Decides, Option, sym, ap, ◌∙◌, subst, inl, inr, ⊎_elim, arith}
use Rattle.std.proofs.lemmas.List.{get_or-set_same, get_or-set_other, get_or_append_left}
use Rattle.std.proofs.lemmas.Bool.{cases_lt, cases_eq}
use Rattle.walk.specs.declared.faults.Fault.{Fault}
use Rattle.walk.specs.declared.flows.Flow.{Flow}
use Rattle.walk.specs.declared.sights.Sight.{Sight}
use Rattle.walk.specs.Findings.{ComesBelow, Comes, MeetsBelow, Meets, Sighted, SightedTo, unseen}
use Rattle.walk.specs.Places.{Lowest, lower_of, fault_at, place_at}
use Rattle.walk.specs.Search.{Marked, Exact}
use Rattle.walk.specs.Walk.{HasAt, OnWalk, Fit}
use Rattle.walk.proofs.Lowests.{lower_lowest, lowest_like}
use Rattle.walk.proofs.Ways.{low_at, walk_in}

module _ (block : List Flow) (s : ℕ) where
  -- one number of brackets more
  comes_split : (k j : ℕ) → j < k + 1 → OnWalk block s j → (j < k) ⊎ OnWalk block s k
  comes_split k j l w = ⊎_elim (λ (m : j < k). inl m) (λ (m : k ≤ j). let e : j ≡ k = omega arith in inr (subst (λ (i : ℕ). OnWalk block s i) e w)) (cases_lt j k)

  meets_split : (k v : ℕ) → MeetsBelow block s (k + 1) v → MeetsBelow block s k v ⊎ (OnWalk block s k × HasAt block s k v)
  meets_split k v h = ⊎_elim
      (λ (m : h.0 < k). inl (h.0, m, h.2, h.3))
      (λ (m : k ≤ h.0).
      let l = h.1 in
      let e : h.0 ≡ k = omega arith in
      inr (subst (λ (i : ℕ). OnWalk block s i × HasAt block s i v) e (h.2, h.3)))
      (cases_lt h.0 k)

  meets_keep : (k v : ℕ) → MeetsBelow block s k v → MeetsBelow block s (k + 1) v
  meets_keep k v h = (h.0, (let l = h.1 in omega arith), h.2, h.3)

  -- a place that is on the walk adds its fault
  pub fault_more : (k : ℕ) (best here r : Option Fault) → OnWalk block s k → here ≡ fault_at block (place_at s k) → r ≡ lower_of best here →
      Lowest best (MeetsBelow block s k) → Lowest r (MeetsBelow block s (k + 1))
  fault_more k best here r w e f l =
      rw (f, e) (lowest_like (λ v. MeetsBelow block s k v ⊎ HasAt block s k v) (MeetsBelow block s (k + 1)) (lower_of best (fault_at block (place_at s k)))
      (λ v h. ⊎_elim (λ (b : MeetsBelow block s k v). meets_keep k v b) (λ (b : HasAt block s k v). (k, omega arith, w, b)) h)
      (λ v h. ⊎_elim (λ (b : MeetsBelow block s k v). inl b) (λ (b : OnWalk block s k × HasAt block s k v). inr b.1) (meets_split k v h))
      (lower_lowest (MeetsBelow block s k) (HasAt block s k) best (fault_at block (place_at s k)) l (low_at block (place_at s k))))

  -- one that is not adds nothing
  pub fault_skip : (k : ℕ) (best : Option Fault) → (OnWalk block s k → ⊥) → Lowest best (MeetsBelow block s k) → Lowest best (MeetsBelow block s (k + 1))
  fault_skip k best off l =
      lowest_like (MeetsBelow block s k) (MeetsBelow block s (k + 1)) best (meets_keep k)
      (λ v h. ⊎_elim (λ (b : MeetsBelow block s k v). b) (λ (b : OnWalk block s k × HasAt block s k v). absurd (off b.0)) (meets_split k v h))
      l

  pub comes_more : (k : ℕ) (b : Bool) → b ≡ true → OnWalk block s k → Decides b (ComesBelow block s (k + 1))
  comes_more k b e w = (λ _. (k, omega arith, w), λ _. e)

  pub comes_skip : (k : ℕ) (b : Bool) → (OnWalk block s k → ⊥) → Decides b (ComesBelow block s k) → Decides b (ComesBelow block s (k + 1))
  comes_skip k b off d = (
    λ e. let h = d.0 e in (h.0, (let l = h.1 in omega arith), h.2),
    λ h. ⊎_elim (λ (m : h.0 < k). d.1 (h.0, m, h.2)) (λ (w : OnWalk block s k). absurd (off w)) (comes_split k h.0 h.1 h.2),
  )

  -- with at most five brackets open, six numbers are all
  pub fault_all : (best : Option Fault) → Fit block → Lowest best (MeetsBelow block s 6) → Lowest best (Meets block s)
  fault_all best fit l =
      lowest_like (MeetsBelow block s 6) (Meets block s) best (λ v h. (h.0, h.2, h.3)) (λ v h. (h.0, (walk_in block fit h.1).few, h.1, h.2)) l

  pub comes_all : (b : Bool) → Fit block → Decides b (ComesBelow block s 6) → Decides b (Comes block s)
  comes_all b fit d = (λ e. let h = d.0 e in (h.0, h.2), λ h. d.1 (h.0, (walk_in block fit h.1).few, h.1))

  -- a mark tells whether the walk comes to its place
  pub marked_walk : (seen : List Bool) (k : ℕ) (b : Bool) → Exact block seen → 1 ≤ s → k < 6 → Decides b (Marked seen s k) → Decides b (OnWalk block s k)
  marked_walk seen k b exact low few d = (λ e. exact.sound s k low few (d.0 e), λ w. d.1 (exact.whole s k w))

-- of the first n statements, those up to i are sighted
abbrev pub SightedBelow : List Flow → ℕ → List Sight → ℕ → Type 0
SightedBelow block n sights i = (s : ℕ) → 1 ≤ s → s ≤ i → s ≤ n → Sighted block s (get_or sights (s - 1) unseen)

-- one statement more is sighted
pub sighted_more : (block : List Flow) (n : ℕ) (sights : List Sight) (i : ℕ) (x : Sight) → i < length sights → Sighted block (i + 1) x → SightedBelow block n sights i → SightedBelow block n (set sights i x) (i + 1)
sighted_more block n sights i x room here before s low high inside = ⊎_elim
    (λ (e : s ≡ i + 1).
    let at : s - 1 ≡ i = omega arith in
    let is : get_or (set sights i x) (s - 1) unseen ≡ x = ap (λ (j : ℕ). get_or (set sights i x) j unseen) at ∙ get_or-set_same sights i x unseen room in
    subst (λ (y : Sight). Sighted block s y) (sym is) (subst (λ (t : ℕ). Sighted block t x) (sym e) here))
    (λ (ne : s ≡ i + 1 → ⊥).
    let other : s - 1 ≡ i → ⊥ = λ e. ne (omega arith) in
    subst (λ (y : Sight). Sighted block s y) (sym (get_or-set_other sights i (s - 1) x unseen other)) (before s low (omega arith) inside))
    (cases_eq s (i + 1))

-- the first n statements are sighted by a table that begins with their sights
pub sighted_all : (block : List Flow) (n : ℕ) (sights rest : List Sight) (i : ℕ) → length sights ≡ n → n ≤ i → SightedBelow block n sights i → SightedTo block (sights ++ rest) n
sighted_all block n sights rest i long end all s low high =
    let inside : s - 1 < length sights = omega arith in
    rw (get_or_append_left sights rest unseen (s - 1) inside) (all s low (omega arith) high)
