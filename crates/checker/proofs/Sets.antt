-- Sets of slots as bits, and what they hold of chains.
use Rattle.std.proofs.Common.{◌≡◌, ℕ, suc, ◌+◌, ◌-◌, ◌*◌, ◌/◌, ◌%◌, ◌^◌, ◌<◌, ◌≤◌, max, ◌⊎◌, List, get_or, refl, ap, ◌∙◌, subst, inl, inr, ⊎_elim, one-mul, zero-add, add-one, arith}
use lib.Bits.{bit_or, or_step, or_shr, or_add_and, and_le_r}
use Rattle.std.proofs.lemmas.Nat.{shr_le, shr_below, pow_below, shl-shr, pow-add}
use Rattle.std.proofs.lemmas.Bool.{cases_lt, cases_eq, cases_order}
use Rattle.checker.specs.Chains.{In, Linked, none, call, Called, Level, Entered}

or_bit : (x y b : ℕ) → bit_or x y / 2 ^ b % 2 ≡ max (x / 2 ^ b % 2) (y / 2 ^ b % 2)
or_bit x y b =
    let a = x / 2 ^ b in
    let c = y / 2 ^ b in
    let e : bit_or x y / 2 ^ b ≡ bit_or a c = or_shr x y b in
    let s = or_step a c in
    let m : max (a % 2) (c % 2) < 2 = omega arith in
    ap (λ n. n % 2) e ∙ omega arith

pub in_either : (x y b : ℕ) → In (bit_or x y) b → In x b ⊎ In y b
in_either x y b h = let e = or_bit x y b in ⊎_elim (λ (p : x / 2 ^ b % 2 ≡ 1). inl p) (λ (p : x / 2 ^ b % 2 ≡ 1 → ⊥). inr (omega arith)) (cases_eq (x / 2 ^ b % 2) 1)

pub in_left : (x y b : ℕ) → In x b → In (bit_or x y) b
in_left x y b h = let e = or_bit x y b in omega arith

pub in_right : (x y b : ℕ) → In y b → In (bit_or x y) b
in_right x y b h = let e = or_bit x y b in omega arith

pub or_more : (x y : ℕ) → x ≤ bit_or x y
or_more x y = omega (arith, or_add_and x y, and_le_r x y)

pub none_in : (b : ℕ) → In 0 b → ⊥
none_in b h = omega (arith, shr_le 0 b)

below_none : (x e : ℕ) → x < 2 ^ e → In x e → ⊥
below_none x e l h = let r : x < 2 ^ (0 + e) = rw zero-add l in omega (arith, shr_below x 0 e r)

pub one_in_self : (d : ℕ) → In (2 ^ d) d
one_in_self d =
    let e : 1 * 2 ^ d / 2 ^ d ≡ 1 = shl-shr 1 d in
    let f : 2 ^ d / 2 ^ d ≡ 1 = rw one-mul at e in
    omega arith

pub one_in : (d e : ℕ) → In (2 ^ d) e → e ≡ d
one_in d e h = ⊎_elim
    (λ (m : e ≡ d). m)
    (⊎_elim
    (λ (m : e < d).
    let n = d - e - 1 in
    let i : d ≡ n + 1 + e = omega arith in
    let p : 2 ^ d ≡ 2 ^ (n + 1) * 2 ^ e = ap (λ (j : ℕ). 2 ^ j) i ∙ pow-add 2 (n + 1) e in
    let q : 2 ^ d / 2 ^ e ≡ 2 ^ (n + 1) = ap (λ (x : ℕ). x / 2 ^ e) p ∙ shl-shr (2 ^ (n + 1)) e in
    let r : 2 ^ (n + 1) ≡ 2 ^ n * 2 = pow-add 2 n 1 in
    absurd (omega arith))
    (λ (m : d < e). absurd (below_none (2 ^ d) e (pow_below d e m) h)))
    (cases_order e d)

-- a chain stays among the 32 slots
pub chain_in : (calls : List ℕ) (from : ℕ) {n d : ℕ} → from < 32 → Linked calls from n d → d < 32
chain_in calls from l none = l
chain_in calls from l (call r c) = c.0

module _ (calls : List ℕ) where
  pub called_skip : (slots b out : ℕ) → (In slots b → ⊥) → Called calls slots b out → Called calls slots (b + 1) out
  called_skip slots b out lacks c = record {
    only = λ d h. let o = c.only d h in (o.0, (let l = o.1 in omega arith), o.2, o.3);
    all = λ a d l h k. ⊎_elim (λ (m : a < b). c.all a d m h k) (λ (m : b ≤ a). let e : a ≡ b = omega arith in absurd (lacks (rw e at h))) (cases_lt a b);
  }

  pub called_more : (slots b out : ℕ) → In slots b → Called calls slots b out → Called calls slots (b + 1) (bit_or out (get_or calls b 0))
  called_more slots b out here c = record {
    only = λ d h. ⊎_elim
        (λ (x : In out d). let o = c.only d x in (o.0, (let l = o.1 in omega arith), o.2, o.3))
        (λ (x : In (get_or calls b 0) d). (b, omega arith, here, x))
        (in_either out (get_or calls b 0) d h);
    all = λ a d l h k. ⊎_elim
        (λ (m : a < b). in_left out (get_or calls b 0) d (c.all a d m h k))
        (λ (m : b ≤ a). let e : a ≡ b = omega arith in in_right out (get_or calls b 0) d (rw e at k))
        (cases_lt a b);
  }

  module _ (from : ℕ) where
    pub level-none : Level calls from 0 (2 ^ from)
    level-none = record { only = λ d l h. rw (one_in from d h) none; all = λ d r. start r refl }
      where
        start : {n d : ℕ} → Linked calls from n d → n ≡ 0 → In (2 ^ from) d
        start none e = one_in_self from
        start (call r c) e = absurd (omega arith)

    pub level-more : (n level out : ℕ) → from < 32 → Called calls level 32 out → Level calls from n level → Level calls from (n + 1) out
    level-more n level out few c l = record {
      only = λ d m h. let o = c.only d h in rw add-one (call (l.only o.0 o.1 o.2) (m, o.3));
      all = λ d r. last r (add-one n);
    }
      where
        last : {m d : ℕ} → Linked calls from m d → m ≡ suc n → In out d
        last none e = absurd (omega arith)
        last (call {n = k} {i = b} {j = d} r s) e =
            let same : k ≡ n = omega arith in
            c.all b d (chain_in calls from few r) (l.all b (subst (λ (i : ℕ). Linked calls from i b) same r)) s.1

    pub entered-closed : (reach out : ℕ) → from < 32 → In reach from → ((d : ℕ) → d < 32 → In reach d → (n : ℕ) × Linked calls from n d) →
        Called calls reach 32 out → bit_or reach out ≡ reach → Entered calls from reach
    entered-closed reach out few first sound c e = record { only = sound; all = λ n d r. whole r }
      where
        whole : {n d : ℕ} → Linked calls from n d → In reach d
        whole none = first
        whole (call {n} {i = b} {j = d} r s) = rw (← e) (in_right reach out d (c.all b d (chain_in calls from few r) (whole r) s.1))

    pub entered-more : (reach out : ℕ) → ((d : ℕ) → d < 32 → In reach d → (n : ℕ) × Linked calls from n d) →
        Called calls reach 32 out → (d : ℕ) → d < 32 → In (bit_or reach out) d → (n : ℕ) × Linked calls from n d
    entered-more reach out sound c d l h = ⊎_elim
        (λ (x : In reach d). sound d l x)
        (λ (x : In out d). let o = c.only d x in let r = sound o.0 o.1 o.2 in (suc r.0, call r.1 (l, o.3)))
        (in_either reach out d h)
